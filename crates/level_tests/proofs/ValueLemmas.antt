-- The conditions of one step of values on a level without a boundary, on its child and on the points.
use Rattle.std.proofs.Common.{◌≡◌, ℕ, ◌<◌, ◌≤◌, inl, ℤ, unsigned_abs, Bool, true, false, ◌||◌, nat_eq, List, [], ◌∷◌, length, get_or, arith, refl, ap, sym, ◌∙◌, subst}
use Rattle.std.specs.List.{All, AllByRecursion, list_any}
use Rattle.std.proofs.lemmas.Bool.Decides.{nat_tests}
use Rattle.std.proofs.lemmas.List.{length-map}
use Rattle.std.proofs.lemmas.List.Elements.{recursion_from_All, All-map, All-weaker}
use Rattle.ratio128.specs.Numbers.{greatest_amount}
use Rattle.ratio128.specs.declared.point.Point3.{Point3}
use Rattle.subdiv_model.specs.Edges.{edges_of, faces_of_edge}
use Rattle.subdiv_model.specs.Mask.{CatmullClark}
use Rattle.subdiv_model.specs.Channel.{number_bound}
use Rattle.level_topology.specs.Topology.{Topology, edge_at}
use Rattle.level_topology.specs.Child.{PointOrigin, FromVertex, FromFace, FromEdge, same_origin, IsOriginWithin, ChildTopology, HasParent}
use Rattle.uniform_refiner.specs.Refined.{IsRefined}
use Rattle.ratio128.specs.declared.valued.Valued.{Valued}
use Rattle.primvar_refine.specs.View.{row_of, rows_of}
use Rattle.primvar_refine.specs.Rows.{Row, row_at, AreGood}
use Rattle.child_masks.specs.Masks.{has_origin, CanRefine}
use Rattle.level_tests.specs.Values.{IsNearPoint}

-- an origin that is among some is within their bounds
same-is : (a b : PointOrigin) → same_origin a b ≡ true → a ≡ b
same-is (FromVertex v) (FromVertex w) h = ap FromVertex (grind (arith, nat_tests))
same-is (FromFace f) (FromFace g) h = ap FromFace (grind (arith, nat_tests))
same-is (FromEdge d) (FromEdge e) h = ap FromEdge (grind (arith, nat_tests))
same-is (FromVertex v) (FromFace g) h = absurd (cc)
same-is (FromVertex v) (FromEdge e) h = absurd (cc)
same-is (FromFace f) (FromVertex w) h = absurd (cc)
same-is (FromFace f) (FromEdge e) h = absurd (cc)
same-is (FromEdge d) (FromVertex w) h = absurd (cc)
same-is (FromEdge d) (FromFace g) h = absurd (cc)

within-any : (points faces edges : ℕ) (o : PointOrigin) (origins : List PointOrigin) → AllByRecursion (IsOriginWithin points faces edges) origins
    → list_any (same_origin o) origins ≡ true → IsOriginWithin points faces edges o
within-any points faces edges o [] all h = absurd (cc)
within-any points faces edges o (x ∷ origins) all h = go (same_origin o x) refl h (λ any. within-any points faces edges o origins all.1 any)
  where
    go : (b : Bool) → same_origin o x ≡ b → (b || list_any (same_origin o) origins) ≡ true
        → (list_any (same_origin o) origins ≡ true → IsOriginWithin points faces edges o) → IsOriginWithin points faces edges o
    go true same any rest = subst (IsOriginWithin points faces edges) (sym (same-is o x same)) all.0
    go false same any rest = rest any

-- if each edge has two faces, each mask of the next level exists
module _ (parent : Topology) (child : ChildTopology) (refined : IsRefined parent child) (has : HasParent child) where
  points-are : has.parent.level.point_count ≡ parent.level.point_count
  points-are = sym (ap (λ (c : ChildTopology). c.parent_points) has.of) ∙ ap (λ (c : ChildTopology). c.parent_points) refined.uniform.of

  edges-are : length (edges_of has.parent.level.polygons) ≡ length (edges_of parent.level.polygons)
  edges-are = sym (ap (λ (c : ChildTopology). c.parent_edges) has.of) ∙ ap (λ (c : ChildTopology). c.parent_edges) refined.uniform.of

  within : (o : PointOrigin) → has_origin child.origins o ≡ true
      → IsOriginWithin has.parent.level.point_count (length has.parent.level.polygons) (length (edges_of has.parent.level.polygons)) o
  within o h =
      within-any has.parent.level.point_count (length has.parent.level.polygons) (length (edges_of has.parent.level.polygons)) o child.origins
      (recursion_from_All _ child.origins has.is.origins_within) h

  vertex-of : (v : ℕ) → has_origin child.origins (FromVertex v) ≡ true → v < parent.level.point_count
  vertex-of v h = subst (λ n. v < n) points-are (within (FromVertex v) h)

  edge-of : (e : ℕ) → has_origin child.origins (FromEdge e) ≡ true → e < length (edges_of parent.level.polygons)
  edge-of e h = subst (λ n. e < n) edges-are (within (FromEdge e) h)

  pub can-refine : ((v : ℕ) → v < parent.level.point_count → get_or parent.complete v false ≡ true)
      → ((e : ℕ) → e < length (edges_of parent.level.polygons) → length (faces_of_edge parent.level.polygons (edge_at parent.level.polygons e)) ≡ 2)
      → CanRefine parent child CatmullClark
  can-refine whole closed = record {
    vertices = ap (λ (c : ChildTopology). c.parent_points) refined.uniform.of;
    faces = ap (λ (c : ChildTopology). length c.parent_sizes) refined.uniform.of ∙ length-map parent.level.polygons length;
    edges = ap (λ (c : ChildTopology). c.parent_edges) refined.uniform.of;
    complete = λ v h. whole v (vertex-of v h);
    inside = λ same e h. inl (closed e (edge-of e h));
    boundary = λ same v h e within ends one-face. let none : false ≡ true = ap (λ n. nat_eq n 1) (sym (closed e within)) ∙ one-face in absurd (cc);
    fine = λ same v h. refined.fine v (vertex-of v h);
  }

-- points over 1, of numbers up to 8, are good rows
pub all-near : (P : Row → Type 0) → ((p : Valued Point3) → IsNearPoint p → P (row_of (λ (q : Point3). q.x ∷ q.y ∷ q.z ∷ []) p))
    → (points : List (Valued Point3)) → All IsNearPoint points → All P (rows_of (λ (q : Point3). q.x ∷ q.y ∷ q.z ∷ []) points)
all-near P each points near =
    All-map P (row_of (λ (q : Point3). q.x ∷ q.y ∷ q.z ∷ [])) points
    (All-weaker IsNearPoint (λ p. P (row_of (λ (q : Point3). q.x ∷ q.y ∷ q.z ∷ []) p)) each points near)

all-alike : (points : List (Valued Point3)) → All IsNearPoint points
    → All (λ (row : Row). length row.numbers ≡ length (row_at (rows_of (λ (q : Point3). q.x ∷ q.y ∷ q.z ∷ []) points) 0).numbers) (rows_of (λ (q : Point3). q.x ∷ q.y ∷ q.z ∷ []) points)
all-alike [] near = λ k d lt. absurd (omega (arith, lt))
all-alike (p ∷ points) near = all-near (λ (row : Row). length row.numbers ≡ 3) (λ q h. refl) (p ∷ points) near

pub amount-below : (x y z : ℤ) → unsigned_abs x ≤ 8 → unsigned_abs y ≤ 8 → unsigned_abs z ≤ 8 → greatest_amount (x ∷ y ∷ z ∷ []) ≤ 8
amount-below x y z a b c = omega (arith, a, b, c)

pub good-rows : (points : List (Valued Point3)) → All IsNearPoint points → AreGood (rows_of (λ (q : Point3). q.x ∷ q.y ∷ q.z ∷ []) points)
good-rows points near = record {
  positive = all-near (λ (row : Row). 0 < row.den) (λ p h. omega (arith, h.one)) points near;
  short = all-near (λ (row : Row). row.den ≤ number_bound) (λ p h. omega (arith, h.one)) points near;
  kept = all-near (λ (row : Row). greatest_amount row.numbers ≤ number_bound)
      (λ p h. let below = amount-below p.value.x p.value.y p.value.z h.x h.y h.z in omega (arith, below)) points near;
  alike = all-alike points near;
}
