-- The tables of sparse levels, each from the one before it. Their rows are those of the uniform points.
use Rattle.std.proofs.Common.{◌≡◌, ℕ, suc, ℤ, pos, List, [], ◌∷◌, length, map, get_or, refl, ap, sym, ◌∙◌, subst}
use Rattle.std.specs.List.{sum_by}
use Rattle.std.proofs.lemmas.List.{length-map}
use Rattle.std.proofs.lemmas.List.FromFn.{length-map-range_with_len}
use Rattle.subdiv_model.specs.Level.{Level}
use Rattle.subdiv_model.specs.Mask.{Scheme}
use Rattle.subdiv_model.specs.Value.{whole_value}
use Rattle.subdiv_model.specs.Refined.{mask_denominator, source_denominator, child_denominators, mask_value, source_value, control_values, refined_denominators, refined_values}
use Rattle.subdiv_model.specs.Support.{mask_support, source_support, child_supports, refined_supports}
use Rattle.subdiv_model.specs.Sparse.{FacePredicate, present_points}
use Rattle.sparse_laws.specs.Laws.{SparseRefinement, AgreeingTest}
use Rattle.sparse_values.specs.Uniform.{at_next_points, at_points, items_at, next_points_of}
use Rattle.sparse_values.proofs.UniformLemmas.{same-denominators, same-supports, same-values}
use Rattle.level_topology.specs.Child.{PointOrigin}
use Rattle.child_masks.specs.Masks.{dens_from, values_from}
use Rattle.stencil_apply.specs.Table.{Table}
use Rattle.stencil_factory.specs.Rows.{dens_of, supports_of, row_values, AreSameValues}
use Rattle.stencil_factory.specs.Composed.{identity_table, supports_from, entries_from, IsComposed}
use Rattle.channel_refine.proofs.IdentityLemmas.{identity-dens, identity-supports, identity-values}
use Rattle.channel_refine.proofs.SparseListLemmas.{items-all, sum-mapped}
use Rattle.channel_refine.proofs.SparseOriginLemmas.{origin_in, at-origins, next-below}

-- a table has the rows of the present points after k steps: their denominators, their controls, and their values for all numbers
pub record IsUniformTable (base : Level) (scheme : Scheme) (predicate : FacePredicate) (k : ℕ) (table : Table) : Type 0 where
  pub controls : table.controls ≡ base.point_count
  pub dens : dens_of table ≡ items_at (present_points base predicate k) 1 (refined_denominators base scheme k)
  pub supports : supports_of table ≡ items_at (present_points base predicate k) [] (refined_supports base scheme k)
  pub values : (numbers : List ℤ) → length numbers ≡ base.point_count
      → AreSameValues (items_at (present_points base predicate k) (whole_value (pos 0)) (refined_values base scheme (control_values numbers) k)) (row_values table numbers)

-- the table of the points of level 0 themselves
pub uniform-base : (base : Level) (scheme : Scheme) (predicate : FacePredicate) (table : Table) → table ≡ identity_table base.point_count → IsUniformTable base scheme predicate 0 table
uniform-base base scheme predicate table same =
    let count = base.point_count in
    subst (IsUniformTable base scheme predicate 0) (sym same) (record {
      controls = refl;
      dens = identity-dens 0 count ∙ sym (items-all 1 (refined_denominators base scheme 0) count (length-map-range_with_len (λ v. 1) 0 count));
      supports = identity-supports 0 count ∙ sym (items-all [] (refined_supports base scheme 0) count (length-map-range_with_len (λ v. v ∷ []) 0 count));
      values = λ numbers many.
          subst (λ values. AreSameValues values (row_values (identity_table count) numbers))
          (sym (items-all (whole_value (pos 0)) (control_values numbers) count (length-map numbers whole_value ∙ many)))
          (identity-values numbers count many);
    })

module _ (kept : SparseRefinement) (by : AgreeingTest kept) (scheme : Scheme) (table : Table) (is : IsUniformTable kept.base scheme kept.predicate kept.sparse.depth table)
    (origins : List PointOrigin) (from : origins ≡ map (origin_in kept.sparse.level) (next_points_of by)) where
  abbrev level : Level
  level = kept.sparse.level

  -- the composed denominators and controls are those of the next uniform points
  pub dens-next : dens_from kept.sparse.level scheme (dens_of table) origins ≡ at_next_points kept 1 (refined_denominators kept.base scheme (suc kept.sparse.depth))
  dens-next =
      ap (dens_from level scheme (dens_of table)) from
      ∙ at-origins (mask_denominator (source_denominator level (dens_of table))) 1 level scheme (next_points_of by) (next-below kept by)
      ∙ ap (λ dens. items_at (next_points_of by) 1 (child_denominators level scheme dens)) is.dens
      ∙ same-denominators kept by scheme

  pub supports-next : supports_from table.controls kept.sparse.level scheme (supports_of table) origins ≡ at_next_points kept [] (refined_supports kept.base scheme (suc kept.sparse.depth))
  supports-next =
      ap (supports_from table.controls level scheme (supports_of table)) from
      ∙ at-origins (mask_support table.controls (source_support table.controls level (supports_of table))) [] level scheme (next_points_of by) (next-below kept by)
      ∙ ap (λ count. items_at (next_points_of by) [] (child_supports count level scheme (supports_of table))) is.controls
      ∙ ap (λ supports. items_at (next_points_of by) [] (child_supports kept.base.point_count level scheme supports)) is.supports
      ∙ same-supports kept by scheme

  pub entries-next : entries_from kept.sparse.level scheme origins table ≡ sum_by length (at_next_points kept [] (refined_supports kept.base scheme (suc kept.sparse.depth)))
  entries-next = ap (sum_by length) supports-next

  values-next : (numbers : List ℤ)
      → values_from level scheme origins (at_points kept (whole_value (pos 0)) (refined_values kept.base scheme (control_values numbers) kept.sparse.depth))
      ≡ at_next_points kept (whole_value (pos 0)) (refined_values kept.base scheme (control_values numbers) (suc kept.sparse.depth))
  values-next numbers =
      let values = at_points kept (whole_value (pos 0)) (refined_values kept.base scheme (control_values numbers) kept.sparse.depth) in
      ap (λ some. values_from level scheme some values) from
      ∙ at-origins (mask_value (source_value level values)) (whole_value (pos 0)) level scheme (next_points_of by) (next-below kept by)
      ∙ same-values kept by scheme numbers

  -- the composed table is that of the next sparse level
  pub uniform-next : (next : Table) → IsComposed kept.sparse.level scheme origins table next → IsUniformTable kept.base scheme kept.predicate (suc kept.sparse.depth) next
  uniform-next next composed = record {
    controls = composed.controls ∙ is.controls;
    dens = composed.dens ∙ dens-next;
    supports = composed.supports ∙ supports-next;
    values = λ numbers many.
        subst (λ values. AreSameValues values (row_values next numbers)) (values-next numbers)
        (composed.values numbers (at_points kept (whole_value (pos 0)) (refined_values kept.base scheme (control_values numbers) kept.sparse.depth)) (is.values numbers many));
  }

-- the entries of the rows of present points, counted point by point
pub entries-present : (base : Level) (scheme : Scheme) (predicate : FacePredicate) (k : ℕ)
    → sum_by length (items_at (present_points base predicate k) [] (refined_supports base scheme k))
    ≡ sum_by (λ p. length (get_or (refined_supports base scheme k) p [])) (present_points base predicate k)
entries-present base scheme predicate k = sum-mapped (λ p. get_or (refined_supports base scheme k) p []) length (present_points base predicate k)
