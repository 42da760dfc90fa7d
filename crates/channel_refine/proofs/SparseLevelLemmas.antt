-- A sparse level with its table: the rows of the written points.
use Rattle.std.proofs.Common.{◌≡◌, ℕ, zero, suc, ◌*◌, ◌≤◌, true, nat_eq, nat_lt, max, List, [], ◌∷◌, length, map, get_or, arith, refl, ap, sym, ◌∙◌, subst, zero-add, IsTrue}
use Rattle.std.specs.List.{list_all, range_with_len, sum_by}
use Rattle.std.proofs.lemmas.Bool.{ltb-true}
use Rattle.std.proofs.lemmas.List.FromFn.{get_or-range_with_len, length-range_with_len}
use Rattle.number_laws.proofs.CountLemmas.{all-weaker}
use Rattle.subdiv_model.specs.Lists.{each_once_by}
use Rattle.subdiv_model.specs.Polygons.{is_among, is_distinct, is_over, polygon_at}
use Rattle.subdiv_model.specs.Level.{Level}
use Rattle.subdiv_model.specs.Support.{refined_supports}
use Rattle.subdiv_model.specs.Channel.{Channel, number_bound}
use Rattle.subdiv_model.specs.Sparse.{FacePredicate, corners_of, present_points, present_polygons}
use Rattle.subdiv_model.specs.SparseText.{WrittenLevel, written_level, written_points}
use Rattle.mesh_laws.proofs.ChildCornerLemmas.{corner-point}
use Rattle.part_laws.specs.Parts.{is_corner}
use Rattle.part_laws.proofs.ListLemmas.{map-agree}
use Rattle.part_laws.proofs.JoinLemmas.{corner-of}
use Rattle.part_laws.proofs.PartLemmas.{as-range}
use Rattle.part_laws.proofs.PlaceLemmas.{among-range}
use Rattle.sparse_laws.specs.SparseLevels.{IsSparse, name_in}
use Rattle.sparse_laws.specs.Written.{used_points}
use Rattle.sparse_laws.specs.Laws.{SparseRefinement}
use Rattle.sparse_laws.proofs.WrittenLemmas.{own-corners-of, points-written}
use Rattle.sparse_level.specs.View.{SparseTopology, level_of}
use Rattle.sparse_walk.specs.declared.kept.KeptLevel.{KeptLevel}
use Rattle.stencil_apply.specs.Table.{Table, IsTable, greatest_of}
use Rattle.channel_refine.specs.SparseComposed.{IsComposedLevel, kept_order, order_at}
use Rattle.channel_refine.proofs.SparseListLemmas.{once-distinct, own-places, sum-once}
use Rattle.channel_refine.proofs.SparseTableLemmas.{IsUniformTable}
use Rattle.channel_refine.proofs.SparseOrderLemmas.{used-below, rows-each, order-below, dens-written, values-written, entries-written}

-- The written points are present, so a sum over them is no greater. After level 0 they are the present points.
written-sum : (base : Level) (predicate : FacePredicate) (k : ℕ) (f : ℕ → ℕ) → IsTrue (is_over base.point_count base.polygons) → sum_by f (written_points base predicate k) ≤ sum_by f (present_points base predicate k)
written-sum base predicate zero f over =
    sum-once f (corners_of (map (polygon_at base.polygons) (range_with_len 0 (length base.polygons)))) (range_with_len 0 base.point_count)
    (subst (λ polygons. list_all (is_among (range_with_len 0 base.point_count)) (corners_of polygons) ≡ true) (as-range base.polygons)
    (all-weaker (is_corner base.polygons) (is_among (range_with_len 0 base.point_count)) (λ v h.
    let found = corner-of base.polygons v h in
    let below = ltb-true v base.point_count (corner-point base.point_count base.polygons found.0 v over found.2) in
    among-range 0 base.point_count v (omega arith) (omega (arith, below))) (corners_of base.polygons) (own-corners-of base.polygons)))
written-sum base predicate (suc k) f over = omega arith

-- The written points of a sparse level by their numbers: the corners of level 0, and all points of a later level.
base-order : (kept : SparseRefinement) → kept.sparse.depth ≡ 0 → used_points kept.sparse.level ≡ used_points kept.base
base-order kept first =
    let points = used_points kept.sparse.level in
    let many : length (present_points kept.base kept.predicate kept.sparse.depth) ≡ kept.base.point_count =
    ap (λ d. length (present_points kept.base kept.predicate d)) first ∙ length-range_with_len 0 kept.base.point_count in
    sym (map-agree (λ p. nat_lt p kept.base.point_count) (name_in (present_points kept.base kept.predicate kept.sparse.depth)) (λ p. p) (λ p h.
    ap (λ d. name_in (present_points kept.base kept.predicate d) p) first ∙ get_or-range_with_len 0 kept.base.point_count p 0 (ltb-true p kept.base.point_count h) ∙ zero-add p) points
    (subst (λ n. list_all (λ p. nat_lt p n) points ≡ true) (kept.is.points ∙ many) (used-below kept))
    ∙ map-own points)
    ∙ sym (points-written kept)
    ∙ ap (written_points kept.base kept.predicate) first
    ∙ ap (λ polygons. each_once_by nat_eq (corners_of polygons)) (sym (as-range kept.base.polygons))
  where
    map-own : (ks : List ℕ) → map (λ k. k) ks ≡ ks
    map-own [] = refl
    map-own (k ∷ ks) = ap (λ (rest : List ℕ). k ∷ rest) (map-own ks)

later-order : (kept : SparseRefinement) (k : ℕ) → kept.sparse.depth ≡ suc k → used_points kept.sparse.level ≡ range_with_len 0 (length (present_points kept.base kept.predicate kept.sparse.depth))
later-order kept k later =
    let names = present_points kept.base kept.predicate kept.sparse.depth in
    let same : names ≡ written_points kept.base kept.predicate kept.sparse.depth =
    ap (present_points kept.base kept.predicate) later ∙ ap (written_points kept.base kept.predicate) (sym later) in
    own-places names (used_points kept.sparse.level)
    (ap is_distinct same ∙ once-distinct (corners_of (present_polygons kept.base kept.predicate kept.sparse.depth)))
    (subst (λ n. list_all (λ p. nat_lt p n) (used_points kept.sparse.level) ≡ true) kept.is.points (used-below kept))
    (same ∙ points-written kept)

module _ (channel : Channel) (predicate : FacePredicate) (t : SparseTopology) (over : IsTrue (is_over channel.base.point_count channel.base.polygons)) (is : IsSparse channel.base predicate (level_of t))
    (table : Table) (uniform : IsUniformTable channel.base channel.scheme predicate t.depth table) (made : IsTable table) (fits : greatest_of table * max channel.greatest channel.common ≤ number_bound) where
  abbrev kept : SparseRefinement
  kept = record { base = channel.base; predicate = predicate; sparse = level_of t; over = over; is = is }

  order-of : (k : ℕ) → t.depth ≡ k → used_points t.topology.level ≡ order_at (used_points channel.base) k table
  order-of zero first = base-order kept first
  order-of (suc k) later = later-order kept k later ∙ ap (range_with_len 0) (sym (rows-each kept channel.scheme table uniform ∙ is.points))

  composed-here : (faces : WrittenLevel) → faces ≡ written_level channel.base predicate t.depth → IsComposedLevel channel predicate t.depth (order_at (used_points channel.base) t.depth table) faces table
  composed-here faces written = subst (λ order. IsComposedLevel channel predicate t.depth order faces table) (order-of t.depth refl) (record {
    written = written;
    made = made;
    has_rows = order-below kept channel.scheme table uniform;
    controls = uniform.controls;
    dens = dens-written kept channel.scheme table uniform;
    values = λ numbers many. values-written kept channel.scheme table uniform numbers many;
    entries =
        omega (arith, entries-written kept channel.scheme table uniform, written-sum channel.base predicate t.depth (λ p. length (get_or (refined_supports channel.base channel.scheme t.depth) p [])) over);
    fits = fits;
  })

-- a kept level with the table that was carried there
pub composed-level : (channel : Channel) (predicate : FacePredicate) (t : SparseTopology) (k : ℕ) (level : KeptLevel Table) → t.depth ≡ k → IsTrue (is_over channel.base.point_count channel.base.polygons)
    → IsSparse channel.base predicate (level_of t) → level.faces ≡ written_level channel.base predicate k
    → IsUniformTable channel.base channel.scheme predicate k level.carried → IsTable level.carried → greatest_of level.carried * max channel.greatest channel.common ≤ number_bound
    → IsComposedLevel channel predicate k (kept_order (used_points channel.base) k level) level.faces level.carried
composed-level channel predicate t k level deep over is written uniform made fits =
    subst (λ n. IsComposedLevel channel predicate n (order_at (used_points channel.base) n level.carried) level.faces level.carried) deep
    (composed-here channel predicate t over is level.carried (subst (λ n. IsUniformTable channel.base channel.scheme predicate n level.carried) (sym deep) uniform) made fits level.faces
    (written ∙ ap (written_level channel.base predicate) (sym deep)))
