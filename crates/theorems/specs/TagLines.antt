-- What a tag line of an OBJ text names or sets. A line is given as its words.
use Rattle.std.specs.Prelude.{ℕ, Bool, ◌&&◌, nat_eq, List, codes}
use Rattle.std.specs.List.{list_any}
use Rattle.subdiv_model.specs.Polygons.{same_edge, is_among}
use Rattle.subdiv_model.specs.ObjTag.{is_tag, tag_creases, tag_corners, tag_indices}

-- the line is a crease line that names the edge, in either direction
abbrev pub is_crease_line_of : ℕ × ℕ → List (List ℕ) → Bool
is_crease_line_of edge words = is_tag (codes "crease") words && list_any (λ crease. same_edge edge crease.0) (tag_creases words)

-- the line is a corner line that names the vertex
abbrev pub is_corner_line_of : ℕ → List (List ℕ) → Bool
is_corner_line_of v words = is_tag (codes "corner") words && list_any (λ tag. nat_eq v tag.0) (tag_corners words)

-- the line is a hole line that names the face
abbrev pub is_hole_line_of : ℕ → List (List ℕ) → Bool
is_hole_line_of face words = is_tag (codes "hole") words && is_among (tag_indices words) face

-- the line sets the boundary mode
abbrev pub is_boundary_line : List (List ℕ) → Bool
is_boundary_line words = is_tag (codes "interpolateboundary") words

-- the line sets the method
abbrev pub is_method_line : List (List ℕ) → Bool
is_method_line words = is_tag (codes "creasemethod") words
