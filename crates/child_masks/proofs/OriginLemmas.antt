-- The part of the level that a child point comes from.
use Rattle.std.proofs.Common.{◌≡◌, ℕ, zero, suc, ◌<◌, ◌≤◌, Bool, true, ◌&&◌, nat_le, List, [], ◌∷◌, length, get_or, arith, ap, sym, ◌∙◌, subst}
use Rattle.std.specs.List.{list_any}
use Rattle.std.proofs.lemmas.Bool.{and_parts, leb-true}
use Rattle.std.proofs.lemmas.Bool.Decides.{nat_tests}
use Rattle.std.proofs.lemmas.List.{length-map}
use Rattle.subdiv_model.specs.Polygons.{polygon_at, is_distinct, is_over}
use Rattle.subdiv_model.specs.Edges.{edges_of}
use Rattle.subdiv_model.specs.Manifold.{is_simple}
use Rattle.subdiv_model.specs.Mask.{Scheme}
use Rattle.level_topology.specs.Topology.{Topology, IsTopology}
use Rattle.level_topology.specs.Child.{PointOrigin, FromVertex, FromFace, FromEdge, ChildTopology, HasParent, IsOriginWithin, same_origin}
use Rattle.level_topology.proofs.ChildLemmas.{same_origin-refl}
use Rattle.child_masks.specs.Masks.{origin_at, has_origin, CanRefine}
use Rattle.child_masks.specs.Known.{IsPartKnown}
use Rattle.child_masks.proofs.SourceLemmas.{test-at}

-- a list has an item that passes if the item at some place passes
pub any-at : {X : Type 0} (p : X → Bool) (xs : List X) (i : ℕ) (d : X) → i < length xs → p (get_or xs i d) ≡ true → list_any p xs ≡ true
any-at p [] i d h e = absurd (omega arith)
any-at p (x ∷ xs) zero d h e = grind (arith, nat_tests, e)
any-at p (x ∷ xs) (suc i) d h e = let rest = any-at p xs i d (omega arith) e in grind (arith, nat_tests, rest)

-- a face has corners
pub some-corners : (parent : Topology) → IsTopology parent → (f : ℕ) → f < length parent.level.polygons → 0 < length (polygon_at parent.level.polygons f)
some-corners parent is f inside =
    let polygon = polygon_at parent.level.polygons f in
    let simple : is_simple polygon ≡ true = test-at is_simple parent.level.polygons f [] is.simple inside in
    let long : 3 ≤ length polygon = leb-true 3 (length polygon) (and_parts (nat_le 3 (length polygon)) (is_distinct polygon) simple).0 in
    omega (arith, long)

-- the corners of polygons are points
pub is-over : (parent : Topology) → IsTopology parent → is_over parent.level.point_count parent.level.polygons ≡ true
is-over parent is = first (is_over parent.level.point_count parent.level.polygons) _ _ _ _ _ is.formed
  where
    first : (a b c d e f : Bool) → (a && b && c && d && e && f) ≡ true → a ≡ true
    first a b c d e f h = grind (arith, nat_tests)

-- the parts that points come from are parts of the parent
pub origin-within : (parent : Topology) (child : ChildTopology) (scheme : Scheme) → HasParent child → CanRefine parent child scheme → (p : ℕ) → p < length child.origins
    → IsOriginWithin parent.level.point_count (length parent.level.polygons) (length (edges_of parent.level.polygons)) (origin_at child.origins p)
origin-within parent child scheme has can p inside =
    let own = has.parent in
    let points : own.level.point_count ≡ parent.level.point_count = sym (ap (λ (t : ChildTopology). t.parent_points) has.of) ∙ can.vertices in
    let faces : length own.level.polygons ≡ length parent.level.polygons =
    sym (ap (λ (t : ChildTopology). length t.parent_sizes) has.of ∙ length-map own.level.polygons length) ∙ can.faces in
    let edges : length (edges_of own.level.polygons) ≡ length (edges_of parent.level.polygons) = sym (ap (λ (t : ChildTopology). t.parent_edges) has.of) ∙ can.edges in
    let O : PointOrigin = origin_at child.origins p in
    subst (λ n. IsOriginWithin n (length parent.level.polygons) (length (edges_of parent.level.polygons)) O) points
    (subst (λ n. IsOriginWithin own.level.point_count n (length (edges_of parent.level.polygons)) O) faces
    (subst (λ n. IsOriginWithin own.level.point_count (length own.level.polygons) n O) edges (has.is.origins_within p (FromVertex 0) inside)))

-- the face that a child point comes from is one of the parent's
pub face-within : (child : ChildTopology) (count p f : ℕ) → HasParent child → length child.parent_sizes ≡ count → p < length child.origins → origin_at child.origins p ≡ FromFace f → f < count
face-within child count p f has same inside from =
    let own = has.parent in
    let faces : length own.level.polygons ≡ count = sym (ap (λ (t : ChildTopology). length t.parent_sizes) has.of ∙ length-map own.level.polygons length) ∙ same in
    let below : f < length own.level.polygons =
    subst (IsOriginWithin own.level.point_count (length own.level.polygons) (length (edges_of own.level.polygons))) from (has.is.origins_within p (FromVertex 0) inside) in
    subst (λ n. f < n) faces below

-- the part that a child point comes from
module _ (parent : Topology) (child : ChildTopology) (scheme : Scheme) (p : ℕ) (has : HasParent child) (can : CanRefine parent child scheme) (inside : p < length child.origins) where
  -- the origin is one from which a point comes
  origin-has : (origin : PointOrigin) → origin ≡ get_or child.origins p (FromVertex 0) → has_origin child.origins origin ≡ true
  origin-has origin is = any-at (same_origin origin) child.origins p (FromVertex 0) inside (ap (same_origin origin) (sym is) ∙ same_origin-refl origin)

  -- the origin is a part of the level
  origin-among : (origin : PointOrigin) → origin ≡ get_or child.origins p (FromVertex 0)
      → IsOriginWithin parent.level.point_count (length parent.level.polygons) (length (edges_of parent.level.polygons)) origin
  origin-among origin is =
      subst (IsOriginWithin parent.level.point_count (length parent.level.polygons) (length (edges_of parent.level.polygons))) (sym is) (origin-within parent child scheme has can p inside)

  -- the origin meets the conditions of its mask
  pub origin-known : (origin : PointOrigin) → origin ≡ get_or child.origins p (FromVertex 0) → IsPartKnown parent scheme origin
  origin-known (FromVertex v) is =
      let from = origin-has (FromVertex v) is in
      record {
        known = origin-among (FromVertex v) is;
        complete = can.complete v from;
        boundary = λ rule. can.boundary rule v from;
        fine = λ rule. can.fine rule v from;
      }
  origin-known (FromFace f) is = origin-among (FromFace f) is
  origin-known (FromEdge e) is = record { known = origin-among (FromEdge e) is; inside = λ rule. can.inside rule e (origin-has (FromEdge e) is) }
