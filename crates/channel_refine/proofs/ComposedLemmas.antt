-- The tables of a channel from level 0 on. Each comes from the one before it.
use Rattle.std.proofs.Common.{◌≡◌, ℕ, suc, ◌+◌, ◌*◌, ◌<◌, ◌≤◌, true, false, nat_lt, max, ℤ, List, [], ◌∷◌, length, map, replicate, arith, IsTrue, refl, ap, sym, ◌∙◌, subst}
use Rattle.std.specs.List.{sum_by}
use Rattle.std.proofs.lemmas.Bool.{le-ltb}
use Rattle.std.proofs.lemmas.List.{length-map}
use Rattle.std.proofs.lemmas.List.FromFn.{length-map-range_with_len}
use Rattle.subdiv_model.specs.Level.{Level}
use Rattle.subdiv_model.specs.Child.{refined_level}
use Rattle.subdiv_model.specs.Mask.{child_masks}
use Rattle.subdiv_model.specs.Refined.{mask_value, source_value, child_values, refined_values, control_values}
use Rattle.subdiv_model.specs.Support.{mask_support, source_support, child_supports, refined_supports, entries_after}
use Rattle.subdiv_model.specs.Channel.{Channel, Tables, number_bound, entry_bound, denominators_after, whole_levels}
use Rattle.mask_laws.specs.SharpBoundary.{has_sharp_boundary}
use Rattle.mask_laws.proofs.BoundaryLemmas.{sharp-levels}
use Rattle.level_topology.specs.Topology.{Topology, IsTopology}
use Rattle.level_topology.specs.Child.{ChildTopology}
use Rattle.uniform_refiner.specs.Refined.{IsRefined}
use Rattle.level_walk.proofs.UniformLevelLemmas as series
use Rattle.level_walk.proofs.UniformMaskLemmas.{masks-are}
use Rattle.level_walk.proofs.OriginLemmas.{count-masks}
use Rattle.child_masks.specs.Masks.{masks_from}
use Rattle.stencil_apply.specs.Table.{Table, greatest_of}
use Rattle.stencil_factory.specs.Rows.{supports_of, dens_of, row_values, AreSameValues}
use Rattle.stencil_factory.specs.Composed.{identity_table, entries_from}
use Rattle.channel_refine.specs.Base.{IsBase}
use Rattle.channel_refine.specs.Composed.{IsComposedTo}
use Rattle.channel_refine.specs.Step.{IsCarried}
use Rattle.channel_refine.proofs.FaultLemmas.{HasNoFault, has_entry_fault, no-faults}
use Rattle.channel_refine.proofs.FirstLemmas as first
use Rattle.channel_refine.proofs.DenominatorLemmas.{IsSound, sharp-base}
use Rattle.channel_refine.proofs.ChannelLemmas.{none-more, sound-base, complete-next}
use Rattle.channel_refine.proofs.IdentityLemmas.{identity-dens, identity-supports, identity-greatest, identity-values, entries-by-support}
use Rattle.channel_refine.proofs.TableLemmas.{dens-short}
use Rattle.channel_refine.proofs.UniformLemmas.{AreNextNumbers, next-numbers}

-- the level after k steps with its table; the levels so far have no fault
pub record IsReached (channel : Channel) (k : ℕ) (t : Topology) (table : Table) : Type 0 where
  pub base : IsSound channel.base
  pub level : series.IsReached channel.base k t
  pub complete : t.complete ≡ replicate t.level.point_count true
  pub none : (j : ℕ) → j < k → HasNoFault Tables (whole_levels channel) j
  pub controls : table.controls ≡ channel.base.point_count
  pub dens : dens_of table ≡ denominators_after channel k
  pub supports : supports_of table ≡ refined_supports channel.base channel.scheme k
  pub values : (numbers : List ℤ) → length numbers ≡ channel.base.point_count
      → AreSameValues (refined_values channel.base channel.scheme (control_values numbers) k) (row_values table numbers)
  pub each : length table.rows ≡ t.level.point_count
  pub fits : greatest_of table * max channel.greatest channel.common ≤ number_bound

plus-one : (k : ℕ) → k + 1 ≡ suc k
plus-one k = omega arith

-- level 0
pub reached-none : (channel : Channel) (base : Topology) (table : Table) → IsTopology base → IsBase base → base.level ≡ channel.base
    → max channel.greatest channel.common ≤ number_bound → table ≡ identity_table base.level.point_count → IsReached channel 0 base table
reached-none channel base table is level here short same =
    let count = ap (λ (level : Level). level.point_count) here in
    subst (IsReached channel 0 base) (sym (same ∙ ap identity_table count)) (record {
      base = sound-base base channel.base is level here;
      level = record { level = here; made = λ j h. absurd (omega (arith, h)) };
      complete = level.complete;
      none = λ j h. absurd (omega (arith, h));
      controls = refl;
      dens = identity-dens 0 channel.base.point_count;
      supports = identity-supports 0 channel.base.point_count;
      values = λ numbers count. identity-values numbers channel.base.point_count count;
      each = length-map-range_with_len (λ v. record { den = 1; shares = (v, 1) ∷ [] }) 0 channel.base.point_count ∙ sym count;
      fits = fits (greatest_of (identity_table channel.base.point_count)) (max channel.greatest channel.common) (identity-greatest channel.base.point_count) short;
    })
  where
    fits : (great most : ℕ) → great ≡ 1 → most ≤ number_bound → great * most ≤ number_bound
    fits great most one h = subst (λ n. n * most ≤ number_bound) (sym one) (omega (arith, h))

module _ (channel : Channel) (k : ℕ) (t : Topology) (table : Table) (is : IsReached channel k t table) where
  -- this is the last level and its table
  pub reached-end : IsComposedTo channel k (record { level = t; table = table })
  reached-end = record {
    fine = λ track. no-faults Tables tt (whole_levels channel) track k is.none;
    few = λ j h. (is.level.made j h).few;
    level_is = is.level.level;
    complete = is.complete;
    boundary = subst (λ level. IsTrue (has_sharp_boundary level)) (sym is.level.level) (sharp-levels channel.base k (sharp-base channel.base is.base)).sharp;
    controls = is.controls;
    dens = is.dens;
    supports = is.supports;
    values = is.values;
    fits = is.fits;
  }

  -- the supports of the next level, from those of this level
  supports-after : child_supports table.controls t.level channel.scheme (supports_of table) ≡ refined_supports channel.base channel.scheme (suc k)
  supports-after =
      ap (λ controls. child_supports controls t.level channel.scheme (supports_of table)) is.controls
      ∙ ap (λ level. child_supports channel.base.point_count level channel.scheme (supports_of table)) is.level.level
      ∙ ap (child_supports channel.base.point_count (refined_level channel.base k) channel.scheme) is.supports

  -- the whole next level
  module _ (child : ChildTopology) (refined : IsRefined t child) where
    supports-are : map (mask_support table.controls (source_support table.controls t.level (supports_of table))) (masks_from t.level channel.scheme child.origins)
        ≡ refined_supports channel.base channel.scheme (suc k)
    supports-are =
        ap (map (mask_support table.controls (source_support table.controls t.level (supports_of table)))) (masks-are t child refined channel.scheme) ∙ supports-after

    pub entries-fault : has_entry_fault Tables (whole_levels channel) k ≡ nat_lt entry_bound (entries_from t.level channel.scheme child.origins table)
    entries-fault = ap (nat_lt entry_bound) (sym (ap (sum_by length) supports-are))

    -- one more level
    module _ (next : Topology) (next_table : Table) (same : next ≡ child.topology)
        (step : IsCarried (max channel.greatest channel.common) t.level channel.scheme child.origins table next_table) where
      numbers : AreNextNumbers (max channel.greatest channel.common) t.level channel.scheme (dens_of table) (dens_of next_table)
      numbers =
          next-numbers t child refined (max channel.greatest channel.common) channel.scheme (dens_of table) (dens_of next_table) step.composed.fine step.composed.dens
          (dens-short next_table step.made) step.fits

      next-supports : supports_of next_table ≡ refined_supports channel.base channel.scheme (suc k)
      next-supports = step.composed.supports ∙ supports-are

      few-entries : has_entry_fault Tables (whole_levels channel) k ≡ false
      few-entries =
          le-ltb entry_bound (entries_after channel.base channel.scheme (suc k))
          (omega (arith, step.made.entries_few, entries-by-support next_table.rows, ap (sum_by length) next-supports))

      next-each : length next_table.rows ≡ next.level.point_count
      next-each =
          sym (length-map next_table.rows (λ row. row.den)) ∙ ap length numbers.dens_are ∙ length-map (child_masks t.level channel.scheme) _ ∙ count-masks t.level channel.scheme
          ∙ ap (λ (level : Level). level.point_count) (sym refined.uniform.level) ∙ ap (λ (t : Topology). t.level.point_count) (sym same)

      next-values : (some : List ℤ) → length some ≡ channel.base.point_count
          → AreSameValues (child_values t.level channel.scheme (refined_values channel.base channel.scheme (control_values some) k)) (row_values next_table some)
      next-values some count =
          let before = refined_values channel.base channel.scheme (control_values some) k in
          subst (λ masks. AreSameValues (map (mask_value (source_value t.level before)) masks) (row_values next_table some)) (masks-are t child refined channel.scheme)
          (step.composed.values some before (is.values some count))

      pub reached-next : IsReached channel (k + 1) next next_table
      reached-next = record {
        base = is.base;
        level = series.reached-next channel.base k t next child is.level refined same;
        complete = complete-next t next child refined same;
        none = none-more (HasNoFault Tables (whole_levels channel)) k is.none (first.none-here Tables tt channel k is.none t.level is.level.level (dens_of table) is.dens (dens_of next_table) numbers few-entries);
        controls = step.composed.controls ∙ is.controls;
        dens =
            numbers.dens_are ∙ sym (first.dens-after Tables tt channel k is.none t.level is.level.level (dens_of table) is.dens)
            ∙ ap (denominators_after channel) (sym (plus-one k));
        supports = next-supports ∙ ap (refined_supports channel.base channel.scheme) (sym (plus-one k));
        values = λ some count.
            subst (λ n. AreSameValues (refined_values channel.base channel.scheme (control_values some) n) (row_values next_table some)) (sym (plus-one k))
            (subst (λ level. AreSameValues (child_values level channel.scheme (refined_values channel.base channel.scheme (control_values some) k)) (row_values next_table some)) is.level.level
            (next-values some count));
        each = next-each;
        fits = step.fits;
      }
