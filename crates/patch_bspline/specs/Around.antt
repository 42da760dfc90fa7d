-- The points and quads around a corner of a regular face, in the order of the level's lists.
use Rattle.std.specs.Prelude.{ℕ, ◌≡◌, ◌+◌, ◌%◌, Bool, ◌||◌, nat_eq, List, [], ◌∷◌, ◌++◌, get_or}
use Rattle.std.specs.List.{position_or_len}
use Rattle.subdiv_model.specs.Polygons.{Polygon, polygon_at}
use Rattle.subdiv_model.specs.Edges.{is_boundary}
use Rattle.subdiv_model.specs.Level.{Level}
use Rattle.subdiv_model.specs.Feature.{is_sharp_inside}
use Rattle.subdiv_model.specs.Patch.{beside_start, beside_end, across_start}
use Rattle.subdiv_model.specs.Mask.{Mask, Term}
use Rattle.level_topology.specs.Topology.{Topology, corner_of}
use Rattle.mask_rules.specs.Around.{faces_in}
use Rattle.patch_bspline.specs.declared.points.CornerPoints.{CornerPoints}

-- the edge is sharp or has one face
abbrev pub is_marked : Level → ℕ × ℕ → Bool
is_marked level edge = is_boundary level.polygons edge || is_sharp_inside level edge

-- the corner that follows v in its quad by this many places
abbrev pub corner_after : List Polygon → ℕ → ℕ → ℕ → ℕ
corner_after polygons v turns face = get_or (polygon_at polygons face) ((corner_of polygons v face + turns) % 4) 0

-- goes this many quads on from the face around v, and gives the corner that lies as many places after v in that quad
abbrev pub turned_corner : Topology → ℕ → ℕ → ℕ → ℕ
turned_corner t v face turns =
    corner_after t.level.polygons v turns (get_or (faces_in t v) ((position_or_len (nat_eq face) (faces_in t v) + turns) % 4) 0)

-- The three points around the corner v of a face, where `before` and `after` are the corners beside v.
pub record AreAround (polygons : List Polygon) (before v after : ℕ) (points : CornerPoints) : Type 0 where
  pub corner : points.corner ≡ v
  pub ahead : points.ahead ≡ beside_start polygons (v, after)
  pub across : points.across ≡ across_start polygons (v, after)
  pub behind : points.behind ≡ beside_end polygons (before, v)

-- The three points around corner `c` of a quad.
abbrev pub AreAroundCorner : List Polygon → ℕ → ℕ → CornerPoints → Type 0
AreAroundCorner polygons face c points =
    AreAround polygons (get_or (polygon_at polygons face) ((c + 3) % 4) 0) (get_or (polygon_at polygons face) c 0) (get_or (polygon_at polygons face) ((c + 1) % 4) 0) points

-- the rows of a patch from its four corners and the points around them
abbrev pub rows_around : CornerPoints → CornerPoints → CornerPoints → CornerPoints → List (List ℕ)
rows_around a b c d =
    (a.across ∷ a.ahead ∷ b.behind ∷ b.across ∷ [])
    ∷ (a.behind ∷ a.corner ∷ b.corner ∷ b.ahead ∷ [])
    ∷ (d.ahead ∷ d.corner ∷ c.corner ∷ c.behind ∷ [])
    ∷ (d.across ∷ d.behind ∷ c.ahead ∷ c.across ∷ [])
    ∷ []

-- the mask with these terms added
abbrev pub with_terms : Mask → List Term → Mask
with_terms weights terms = record { terms = weights.terms ++ terms; denominator = weights.denominator }
