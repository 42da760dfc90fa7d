-- The number of steps of `frames` with a mesh and its frame lines.
-- Source: this profile.
use Rattle.std.specs.Prelude.{ℕ, ◌+◌, List, [], ◌∷◌, length, if◌then◌else◌}
use Rattle.std.specs.List.{sum_by}
use Rattle.far_model.specs.Command.{ByTable}
use Rattle.far_model.specs.Frames.{is_move_line, moved_index, changed_points}
use Rattle.subdiv_model.specs.ObjMesh.{ObjMesh}
use Rattle.mesh_answers.specs.StepCounts.{level_faces_to, position_steps}

-- the number of steps of a line: a move takes one for each point that depends on its control point
abbrev pub line_steps : ℕ → ObjMesh → List (List ℕ) → ℕ
line_steps depth mesh words = if is_move_line words then length (changed_points depth mesh (moved_index words ∷ [])) else 0

-- the least number of steps of the start: one for each entry of the table
abbrev pub start_least : ℕ → ObjMesh → ℕ
start_least depth mesh = position_steps ByTable depth mesh

-- the greatest number of steps of the start: one for each entry of the table, and one for each face of the levels
abbrev pub start_limit : ℕ → ObjMesh → ℕ
start_limit depth mesh = level_faces_to depth mesh + start_least depth mesh

-- the greatest number of steps of `frames`: those of the start and of all lines
abbrev pub frames_limit : ℕ → ObjMesh → List (List (List ℕ)) → ℕ
frames_limit depth mesh lines = start_limit depth mesh + sum_by (line_steps depth mesh) lines
