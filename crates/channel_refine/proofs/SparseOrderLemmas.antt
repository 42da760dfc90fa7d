-- The rows of a table at the written points of a sparse level, in their order.
use Rattle.std.proofs.Common.{◌≡◌, ℕ, ◌<◌, true, nat_lt, ℤ, pos, List, [], length, map, get_or, arith, ap, sym, ◌∙◌, subst}
use Rattle.std.specs.List.{list_all, sum_by}
use Rattle.std.proofs.Math.ListN.{get_or-map as get_or-map_all}
use Rattle.std.proofs.lemmas.Bool.{ltb-true}
use Rattle.std.proofs.lemmas.List.{get_or-map, length-map}
use Rattle.number_laws.proofs.CountLemmas.{all-weaker}
use Rattle.subdiv_model.specs.Mask.{Scheme}
use Rattle.subdiv_model.specs.Value.{Value, IsSameValue, whole_value}
use Rattle.subdiv_model.specs.Refined.{point_value, control_values, refined_denominators, refined_values}
use Rattle.subdiv_model.specs.Support.{refined_supports}
use Rattle.subdiv_model.specs.Sparse.{present_points}
use Rattle.subdiv_model.specs.SparseText.{written_points}
use Rattle.mesh_laws.proofs.ClosedLemmas.{all-at}
use Rattle.mesh_laws.proofs.ChildCornerLemmas.{corner-point}
use Rattle.part_laws.specs.Parts.{is_corner}
use Rattle.part_laws.proofs.ListLemmas.{map-twice}
use Rattle.part_laws.proofs.JoinLemmas.{corner-of}
use Rattle.sparse_laws.specs.Written.{used_points}
use Rattle.sparse_laws.specs.Laws.{SparseRefinement}
use Rattle.sparse_laws.proofs.WrittenLemmas.{own-used, points-written}
use Rattle.sparse_values.specs.Uniform.{at_points, items_at}
use Rattle.stencil_apply.specs.Table.{Row, Table, row_at, entries_of}
use Rattle.stencil_factory.specs.Rows.{support_of, dens_of, share_sum, row_values, AreSameValues}
use Rattle.channel_refine.proofs.IdentityLemmas.{entries-by-support}
use Rattle.channel_refine.specs.SparseComposed.{rows_at}
use Rattle.channel_refine.proofs.SparseListLemmas.{map-same, items-by, sum-mapped}
use Rattle.channel_refine.proofs.SparseTableLemmas.{IsUniformTable}

-- a part of each row, at some points
part-at : {X : Type 0} (part : Row → X) (table : Table) (order : List ℕ) → map part (rows_at table order).rows ≡ items_at order (part (record { den = 1; shares = [] })) (map part table.rows)
part-at part table order =
    map-twice (row_at table) part order
    ∙ map-same (λ n. part (row_at table n)) (λ n. get_or (map part table.rows) n (part (record { den = 1; shares = [] }))) (λ n. sym (get_or-map_all part table.rows n (record { den = 1; shares = [] }))) order

-- values that are the same are the same at some points
same-at : (order : List ℕ) (values others : List Value) → AreSameValues values others → list_all (λ n. nat_lt n (length others)) order ≡ true
    → AreSameValues (items_at order (whole_value (pos 0)) values) (items_at order (whole_value (pos 0)) others)
same-at order values others are below = record {
  count = length-map order (point_value values) ∙ sym (length-map order (point_value others));
  same = λ p h.
      let within : p < length order = omega (arith, h, length-map order (point_value others)) in
      let here = get_or-map (point_value values) order p 0 (whole_value (pos 0)) within in
      let there = get_or-map (point_value others) order p 0 (whole_value (pos 0)) within in
      let one = are.same (get_or order p 0) (ltb-true _ _ (all-at (λ n. nat_lt n (length others)) order p 0 within below)) in
      subst (λ v. IsSameValue v (point_value (items_at order (whole_value (pos 0)) others) p)) (sym here)
      (subst (IsSameValue (point_value values (get_or order p 0))) (sym there) one);
}

module _ (kept : SparseRefinement) where
  -- the written points are points of the level
  pub used-below : list_all (λ n. nat_lt n kept.sparse.level.point_count) (used_points kept.sparse.level) ≡ true
  used-below =
      let level = kept.sparse.level in
      all-weaker (is_corner level.polygons) (λ n. nat_lt n level.point_count) (λ n h.
      let found = corner-of level.polygons n h in corner-point level.point_count level.polygons found.0 n kept.is.over found.2)
      (used_points level) (own-used kept)

  -- the items of the uniform level at the written points
  pub items-written : {X : Type 0} (d : X) (items : List X)
      → items_at (written_points kept.base kept.predicate kept.sparse.depth) d items ≡ items_at (used_points kept.sparse.level) d (at_points kept d items)
  items-written d items =
      ap (λ points. items_at points d items) (points-written kept)
      ∙ items-by d items (present_points kept.base kept.predicate kept.sparse.depth) (used_points kept.sparse.level)
      (subst (λ n. list_all (λ p. nat_lt p n) (used_points kept.sparse.level) ≡ true) kept.is.points used-below)

  module _ (scheme : Scheme) (table : Table) (is : IsUniformTable kept.base scheme kept.predicate kept.sparse.depth table) where
    abbrev order : List ℕ
    order = used_points kept.sparse.level

    -- there is a row for each point
    pub rows-each : length table.rows ≡ kept.sparse.level.point_count
    rows-each =
        sym (length-map table.rows (λ (row : Row). row.den)) ∙ ap length is.dens
        ∙ length-map (present_points kept.base kept.predicate kept.sparse.depth) (λ n. get_or (refined_denominators kept.base scheme kept.sparse.depth) n 1) ∙ sym kept.is.points

    pub order-below : list_all (λ n. nat_lt n (length table.rows)) (used_points kept.sparse.level) ≡ true
    order-below = subst (λ n. list_all (λ p. nat_lt p n) order ≡ true) (sym rows-each) used-below

    pub dens-written : dens_of (rows_at table (used_points kept.sparse.level))
        ≡ items_at (written_points kept.base kept.predicate kept.sparse.depth) 1 (refined_denominators kept.base scheme kept.sparse.depth)
    dens-written = part-at (λ row. row.den) table order ∙ ap (items_at order 1) is.dens ∙ sym (items-written 1 (refined_denominators kept.base scheme kept.sparse.depth))

    pub values-written : (numbers : List ℤ) → length numbers ≡ kept.base.point_count
        → AreSameValues (items_at (written_points kept.base kept.predicate kept.sparse.depth) (whole_value (pos 0)) (refined_values kept.base scheme (control_values numbers) kept.sparse.depth))
        (row_values (rows_at table (used_points kept.sparse.level)) numbers)
    values-written numbers many =
        let zero_value = whole_value (pos 0) in
        let values = refined_values kept.base scheme (control_values numbers) kept.sparse.depth in
        let count : length (row_values table numbers) ≡ length table.rows = length-map {B = Value} table.rows (λ row. record { num = share_sum numbers row.shares; den = row.den }) in
        subst (λ some. AreSameValues some (row_values (rows_at table order) numbers)) (sym (items-written zero_value values))
        (subst (AreSameValues (items_at order zero_value (at_points kept zero_value values))) (sym (part-at {X = Value} (λ row. record { num = share_sum numbers row.shares; den = row.den }) table order))
        (same-at order (at_points kept zero_value values) (row_values table numbers) (is.values numbers many) (subst (λ n. list_all (λ p. nat_lt p n) order ≡ true) (sym count) order-below)))

    -- the entries of the rows are those of the written points
    pub entries-written : entries_of (rows_at table (used_points kept.sparse.level)).rows
        ≡ sum_by (λ p. length (get_or (refined_supports kept.base scheme kept.sparse.depth) p [])) (written_points kept.base kept.predicate kept.sparse.depth)
    entries-written =
        sym (entries-by-support (rows_at table order).rows)
        ∙ ap (sum_by length) (part-at (λ row. support_of row.shares) table order ∙ ap (items_at order []) is.supports ∙ sym (items-written [] (refined_supports kept.base scheme kept.sparse.depth)))
        ∙ sum-mapped (λ p. get_or (refined_supports kept.base scheme kept.sparse.depth) p []) length (written_points kept.base kept.predicate kept.sparse.depth)
