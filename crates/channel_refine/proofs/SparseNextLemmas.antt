-- A table carried to the next sparse level: that level has no fault, or this is its first one.
use Rattle.std.proofs.Common.{◌≡◌, ℕ, suc, ◌+◌, ◌*◌, ◌<◌, ◌≤◌, Bool, true, false, nat_lt, max, List, length, map, arith, refl, ap, sym, ◌∙◌, subst, IsTrue}
use Rattle.std.specs.List.{list_any, sum_by}
use Rattle.std.proofs.lemmas.Bool.{le-ltb}
use Rattle.subdiv_model.specs.Polygons.{is_over}
use Rattle.subdiv_model.specs.Feature.{FaceFacts}
use Rattle.subdiv_model.specs.Channel.{Channel, Tables, number_bound, entry_bound, has_chaikin_overflow, has_transition_overflow}
use Rattle.subdiv_model.specs.Sparse.{FacePredicate}
use Rattle.subdiv_model.specs.SparseFaults.{present_denominators, present_entries, sparse_levels}
use Rattle.sparse_laws.specs.SparseLevels.{SparseLevel, IsSparse}
use Rattle.sparse_laws.specs.NextSparse.{next_points}
use Rattle.sparse_laws.specs.Selected.{Agrees, selected_in}
use Rattle.sparse_laws.specs.Laws.{SparseRefinement, AgreeingTest}
use Rattle.sparse_values.proofs.UniformLemmas.{weighs-here, weighs-there}
use Rattle.level_topology.specs.Child.{PointOrigin, FromVertex}
use Rattle.child_masks.specs.Masks.{has_origin, IsFirstTransition, HasNoTransition, dens_from}
use Rattle.primvar_refine.specs.Rows.{greatest_of}
use Rattle.stencil_apply.specs.Table.{Table, entries_of}
use Rattle.stencil_factory.specs.Rows.{dens_of}
use Rattle.stencil_factory.specs.Composed.{entries_from}
use Rattle.level_walk.specs.declared.fault.Cause.{Cause}
use Rattle.sparse_walk.specs.Faults.{IsCauseAt}
use Rattle.channel_refine.specs.Step.{IsCarried, IsTableCause}
use Rattle.channel_refine.proofs.IdentityLemmas.{entries-by-support}
use Rattle.channel_refine.proofs.TableLemmas.{dens-short}
use Rattle.channel_refine.proofs.ValueLemmas.{none-passes}
use Rattle.channel_refine.proofs.SparseOriginLemmas.{origin_in, on-origin, origin-on}
use Rattle.channel_refine.proofs.SparseTableLemmas.{IsUniformTable, dens-next, entries-next, entries-present, uniform-next}
use Rattle.channel_refine.proofs.SparseFaultLemmas.{HasNone, has_many_faces, carried-first}

module _ (channel : Channel) (predicate : FacePredicate) (sparse : SparseLevel) (over : IsTrue (is_over channel.base.point_count channel.base.polygons)) (is : IsSparse channel.base predicate sparse)
    (test : FaceFacts → Bool) (agrees : Agrees test channel.base predicate sparse.depth) where
  -- the level as one of the definitions, with the test that selects
  abbrev pub kept_at : SparseRefinement
  kept_at = record { base = channel.base; predicate = predicate; sparse = sparse; over = over; is = is }

  abbrev pub by_test : AgreeingTest kept_at
  by_test = record { test = test; agrees = agrees }

  module _ (table : Table) (uniform : IsUniformTable channel.base channel.scheme predicate sparse.depth table)
      (origins : List PointOrigin) (from : origins ≡ map (origin_in sparse.level) (next_points sparse.level (selected_in test sparse))) where
    -- the weight between two rules passes its bound at a vertex of the sparse level exactly if it does in the definitions
    transition-fine : HasNoTransition sparse.level channel.scheme origins → has_transition_overflow (sparse_levels channel predicate) sparse.depth ≡ false
    transition-fine none = go (has_transition_overflow (sparse_levels channel predicate) sparse.depth) refl
      where
        go : (b : Bool) → has_transition_overflow (sparse_levels channel predicate) sparse.depth ≡ b → has_transition_overflow (sparse_levels channel predicate) sparse.depth ≡ false
        go false e = e
        go true e =
            let found = weighs-there kept_at by_test channel.scheme e in
            let fine = none found.0 (ap (λ some. has_origin some (FromVertex found.0)) from ∙ on-origin kept_at by_test found.0 found.1.exists found.1.on) in
            absurd (cc (fine, found.1.overflows))

    transition-some : (v : ℕ) → IsFirstTransition sparse.level channel.scheme origins v → has_transition_overflow (sparse_levels channel predicate) sparse.depth ≡ true
    transition-some v first =
        let at = origin-on kept_at by_test v (ap (λ some. has_origin some (FromVertex v)) (sym from) ∙ first.has) in
        weighs-here kept_at by_test channel.scheme v (record { exists = at.0; on = at.1; overflows = first.refused })

    entries-are : entries_from sparse.level channel.scheme origins table ≡ present_entries channel predicate (suc sparse.depth)
    entries-are =
        entries-next kept_at by_test channel.scheme table uniform origins from ∙ entries-present channel.base channel.scheme predicate (suc sparse.depth)

    -- the table of the next level
    pub next-table : (next : Table) → IsCarried (max channel.greatest channel.common) sparse.level channel.scheme origins table next → IsUniformTable channel.base channel.scheme predicate (suc sparse.depth) next
    next-table next step = uniform-next kept_at by_test channel.scheme table uniform origins from next step.composed

    module _ (faces : has_many_faces channel predicate sparse.depth ≡ false) (chaikin : has_chaikin_overflow (sparse_levels channel predicate) sparse.depth ≡ false) where
      -- if the table is made, the next level has no fault
      pub next-none : (next : Table) → IsCarried (max channel.greatest channel.common) sparse.level channel.scheme origins table next → HasNone channel predicate sparse.depth
      next-none next step =
          let after = next-table next step in
          record {
            faces = faces;
            numbers = record {
              chaikin = chaikin;
              transition = transition-fine step.composed.fine;
              denominator = ap (list_any (nat_lt number_bound)) (sym after.dens) ∙ none-passes (dens_of next) (dens-short next step.made);
              entries = le-ltb entry_bound (present_entries channel predicate (suc sparse.depth)) (few next after step.made.entries_few);
              value =
                  le-ltb number_bound (greatest_of (present_denominators channel predicate (suc sparse.depth)) * max channel.greatest channel.common)
                  (subst (λ some. greatest_of some * max channel.greatest channel.common ≤ number_bound) after.dens step.fits);
            };
          }
        where
          few : (next : Table) → IsUniformTable channel.base channel.scheme predicate (suc sparse.depth) next → entries_of next.rows ≤ entry_bound → present_entries channel predicate (suc sparse.depth) ≤ entry_bound
          few next after h = omega (arith, h, entries-by-support next.rows, ap (sum_by length) after.supports, entries-present channel.base channel.scheme predicate (suc sparse.depth))

      -- else the fault is the first of all, if the levels before have none
      pub next-fault : (depth : ℕ) → sparse.depth < depth → ((j : ℕ) → j < sparse.depth → HasNone channel predicate j) → (why : Cause)
          → IsTableCause (max channel.greatest channel.common) sparse.level channel.scheme origins table why → IsCauseAt Tables channel predicate depth (sparse.depth + 1) why
      next-fault depth within before why fails =
          carried-first channel predicate sparse.depth depth within before faces chaikin sparse.level channel.scheme origins transition-fine transition-some
          (dens_from sparse.level channel.scheme (dens_of table) origins) (dens-next kept_at by_test channel.scheme table uniform origins from)
          (entries_from sparse.level channel.scheme origins table) entries-are why fails
