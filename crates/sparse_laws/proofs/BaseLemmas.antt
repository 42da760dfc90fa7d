-- A whole level is sparse level 0 of itself.
use Rattle.std.proofs.Common.{◌≡◌, ℕ, ◌<◌, Bool, true, false, List, length, map, replicate, arith, refl, ap, sym, ◌∙◌}
use Rattle.std.specs.List.{list_all, range_with_len}
use Rattle.std.proofs.lemmas.Bool.{ltb-true}
use Rattle.std.proofs.lemmas.List.{get_or-replicate}
use Rattle.std.proofs.lemmas.List.FromFn.{length-range_with_len, get_or-range_with_len}
use Rattle.subdiv_model.specs.Polygons.{Polygon, has_corner, is_among, is_over, polygon_at}
use Rattle.subdiv_model.specs.Edges.{faces_of_point}
use Rattle.subdiv_model.specs.Level.{Level}
use Rattle.subdiv_model.specs.Sparse.{FacePredicate, is_whole}
use Rattle.mesh_laws.proofs.ChildCornerLemmas.{corner-place, corner-point}
use Rattle.mesh_laws.proofs.FanLemmas.{faces-among}
use Rattle.level_laws.proofs.PlainLemmas.{map-constant}
use Rattle.part_laws.specs.Parts.{is_corner}
use Rattle.part_laws.proofs.JoinLemmas.{corner-of}
use Rattle.part_laws.proofs.PlaceLemmas.{among-range}
use Rattle.part_laws.proofs.SelfLemmas.{self-level}
use Rattle.sparse_laws.specs.SparseLevels.{IsSparse, name_in, whole_base}
use Rattle.sparse_laws.proofs.NameLemmas.{part-renamed}
use Rattle.sparse_laws.proofs.FactLemmas.{all-own}
use Rattle.sparse_laws.proofs.CornerLemmas.{all-among}

-- each number of a range is among its numbers
range-own : (count n : ℕ) → n < count → is_among (range_with_len 0 count) n ≡ true
range-own count n below = among-range 0 count n (omega arith) (omega (arith, below))

-- the faces at a point are faces
faces-own : (polygons : List Polygon) (v : ℕ) → list_all (is_among (range_with_len 0 (length polygons))) (faces_of_point polygons v) ≡ true
faces-own polygons v =
    all-among (is_among (range_with_len 0 (length polygons))) (faces_of_point polygons v)
    (λ f h. range-own (length polygons) f (corner-place polygons f v (sym (faces-among polygons v f) ∙ h)))

-- a list of marks that are all set
all-set : (test : ℕ → Bool) (count : ℕ) → ((n : ℕ) → is_among (range_with_len 0 count) n ≡ true → test n ≡ true) → replicate count true ≡ map test (range_with_len 0 count)
all-set test count each =
    ap (λ n. replicate n true) (sym (length-range_with_len 0 count))
    ∙ sym (map-constant (is_among (range_with_len 0 count)) test true each (range_with_len 0 count) (all-own (range_with_len 0 count)))

module _ (base : Level) (predicate : FacePredicate) (over : is_over base.point_count base.polygons ≡ true) where
  corner-below : (f p : ℕ) → has_corner p (polygon_at base.polygons f) ≡ true → p < base.point_count
  corner-below f p there = ltb-true p base.point_count (corner-point base.point_count base.polygons f p over there)

  name-self : (p : ℕ) → is_corner base.polygons p ≡ true → p ≡ name_in (range_with_len 0 base.point_count) p
  name-self p h =
      let found = corner-of base.polygons p h in
      omega (arith, get_or-range_with_len 0 base.point_count p 0 (corner-below found.0 p found.2))

  pub base-sparse : IsSparse base predicate (whole_base base)
  base-sparse = record {
    numbers = refl;
    points = sym (length-range_with_len 0 base.point_count);
    over = over;
    part = part-renamed (λ p. p) (name_in (range_with_len 0 base.point_count)) (range_with_len 0 (length base.polygons)) base base name-self (self-level base);
    inner = all-set (is_among (range_with_len 0 (length base.polygons))) (length base.polygons) (λ n h. h);
    complete = all-set (is_whole base predicate 0) base.point_count (λ v h. faces-own base.polygons v);
    inside = λ f p mark there. get_or-replicate base.point_count p true false (corner-below f p there);
  }
