-- The lines of the patch of a face.
use Rattle.std.specs.Prelude.{ℕ, ◌≡◌, List, [], ◌∷◌, ◌++◌, length, zip, codes}
use Rattle.std.specs.List.{All, flat_map}
use Rattle.subdiv_model.specs.NumberText.{number_text}
use Rattle.subdiv_model.specs.Text.{line_text}
use Rattle.subdiv_model.specs.Patch.{patch_places, place_line}
use Rattle.far_text.specs.Points.{CanBeWritten, points_of}
use Rattle.far_text.specs.declared.patch.PatchPoints.{PatchPoints}

-- the line of the face and its grid
abbrev pub face_line : ℕ → ℕ → List ℕ
face_line face grid = line_text (codes "patch") (codes "face" ∷ number_text face ∷ codes "grid" ∷ number_text grid ∷ [])

-- the line of the face, and one for each place with its point
abbrev pub patch_lines : PatchPoints → List ℕ
patch_lines patch = face_line patch.face patch.grid ++ flat_map place_line (zip (patch_places patch.grid) (points_of patch.common patch.values.items))

-- each place has a point, and all its numbers can be written
pub record CanPatchBePut (patch : PatchPoints) : Type 0 where
  pub each : length patch.values.items ≡ length (patch_places patch.grid)
  pub written : All (CanBeWritten patch.common) patch.values.items
