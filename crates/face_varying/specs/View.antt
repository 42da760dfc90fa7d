-- The types of this crate in the terms of the definitions.
use Rattle.subdiv_model.specs.Cut as model
use Rattle.face_varying.specs.declared.mode.SeamMode.{SeamMode}
use Rattle.face_varying.specs.declared.mode.SeamMode.TheVariants.{Smooth, Corners, Boundaries}

abbrev pub mode_of : SeamMode → model.SeamMode
mode_of Smooth = model.SmoothSeams
mode_of Corners = model.CornerSeams
mode_of Boundaries = model.BoundarySeams
