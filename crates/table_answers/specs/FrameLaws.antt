-- The points that frame lines name and move.
-- Source: this profile.
use Rattle.std.specs.Prelude.{ℕ, List, [], ◌∷◌, ◌++◌, map, get_or, if◌then◌else◌}
use Rattle.std.specs.List.{filter}
use Rattle.subdiv_model.specs.Base.{base_level}
use Rattle.subdiv_model.specs.Mask.{CatmullClark}
use Rattle.subdiv_model.specs.ObjMesh.{ObjMesh}
use Rattle.subdiv_model.specs.Support.{refined_supports}
use Rattle.far_model.specs.Frames.{Frame, frame_after, frame_at, changed_points, is_move_line, is_go_line, moved_index}

-- lines as their words
abbrev pub Lines : Type 0
Lines = List (List (List ℕ))

-- the control points on which a point at a depth depends; none for a point that does not exist
abbrev pub support_at : ℕ → ObjMesh → ℕ → List ℕ
support_at depth mesh point = get_or (refined_supports (base_level mesh) CatmullClark depth) point []

-- the control points that lines move
abbrev pub moved_by : Lines → List ℕ
moved_by lines = map moved_index (filter is_move_line lines)

-- the points that `go` names among lines, one answer after another, in a frame that earlier lines began
abbrev pub named_from : ℕ → ObjMesh → Frame → Lines → List ℕ
named_from depth mesh frame [] = []
named_from depth mesh frame (words ∷ lines) =
    (if is_go_line words then changed_points depth mesh frame.moved else []) ++ named_from depth mesh (frame_after mesh.common frame words) lines

-- the points that `go` names among the lines of a mesh
abbrev pub named_points : ℕ → ObjMesh → Lines → List ℕ
named_points depth mesh lines = named_from depth mesh (frame_at mesh []) lines

-- the points that one more `go` after the lines would name
abbrev pub waiting_points : ℕ → ObjMesh → Lines → List ℕ
waiting_points depth mesh lines = changed_points depth mesh (frame_at mesh lines).moved

-- the points that `go` names among the lines, or would name after them
abbrev pub points_in_answers : ℕ → ObjMesh → Lines → List ℕ
points_in_answers depth mesh lines = named_points depth mesh lines ++ waiting_points depth mesh lines
