-- The words of a share in the line of a row.
use Rattle.std.specs.Prelude.{ℕ, List, ◌∷◌, ◌++◌}
use Rattle.subdiv_model.specs.NumberText.{number_text}
use Rattle.stencil_apply.specs.Table.{Share}

-- a control point with its numerator, each after a space
abbrev pub share_text : Share → List ℕ
share_text share = (32 ∷ number_text share.0) ++ (32 ∷ number_text share.1)
