-- The start of a walk over sparse levels that carries the table of a channel.
use Rattle.std.proofs.Common.{◌≡◌, ℕ, ◌*◌, ◌≤◌, Bool, max, [], ◌∷◌, length, None, arith, ap, sym, ◌∙◌, subst}
use Rattle.std.proofs.lemmas.List.FromFn.{length-map-range_with_len}
use Rattle.subdiv_model.specs.Level.{Level}
use Rattle.subdiv_model.specs.Feature.{FaceFacts}
use Rattle.subdiv_model.specs.Mask.{Scheme}
use Rattle.subdiv_model.specs.Channel.{Channel, number_bound}
use Rattle.subdiv_model.specs.Sparse.{predicate_to}
use Rattle.level_topology.specs.Topology.{Topology, IsTopology}
use Rattle.level_walk.specs.declared.reached.Reached.{Reached}
use Rattle.level_walk.specs.Walk.{Place}
use Rattle.sparse_walk.specs.View.{Walked}
use Rattle.sparse_walk.specs.Base.{IsSparseBase}
use Rattle.sparse_walk.specs.Kept.{KeptSoFar, kept_so_far}
use Rattle.sparse_walk.proofs.ReachedLemmas as levels
use Rattle.sparse_walk.proofs.StartLemmas.{reached-start}
use Rattle.stencil_apply.specs.Table.{Table, greatest_of}
use Rattle.stencil_factory.specs.Composed.{identity_table}
use Rattle.channel_refine.specs.Base.{IsBase}
use Rattle.channel_refine.proofs.IdentityLemmas.{identity-greatest}
use Rattle.channel_refine.specs.SparseStart.{IsStart}
use Rattle.channel_refine.proofs.SparseTableLemmas.{uniform-base}
use Rattle.channel_refine.proofs.SparseWalkedLemmas.{IsAt, at-start}

pub sparse-base : (base : Topology) → IsBase base → IsSparseBase base
sparse-base base is = record { complete = is.complete; boundary = is.boundary }

-- level 0 with the table of its own points; no level is kept yet
module _ (test : FaceFacts → Bool) (channel : Channel) (depth : ℕ) (base : Topology) (is : IsBase base) (here : base.level ≡ channel.base) (formed : IsTopology base)
    (short : max channel.greatest channel.common ≤ number_bound) (most : ℕ) (same : most ≡ max channel.greatest channel.common) (scheme : Scheme) (by : scheme ≡ channel.scheme) where
  pub started : (start : Place Walked Table (KeptSoFar Table)) → IsStart base start.reached → start.visitor ≡ kept_so_far [] None → IsAt test channel depth most same scheme by start 0 start
  started start from none =
      at-start test channel depth most same scheme by start
      (subst (λ b. levels.IsReached test b depth 0 start.reached.level.sparse) here (reached-start test base (sparse-base base is) formed depth start.reached.level from.level))
      (uniform-base channel.base channel.scheme (predicate_to test channel.base depth) start.reached.carried (from.table ∙ ap (λ (level : Level). identity_table level.point_count) here))
      from.made
      (subst (λ t. greatest_of t * max channel.greatest channel.common ≤ number_bound) (sym from.table)
      (times (greatest_of (identity_table base.level.point_count)) (max channel.greatest channel.common) (identity-greatest base.level.point_count) short))
      none
    where
      times : (great amount : ℕ) → great ≡ 1 → amount ≤ number_bound → great * amount ≤ number_bound
      times great amount one h = subst (λ n. n * amount ≤ number_bound) (sym one) (omega (arith, h))

-- the table has a row for each point
pub start-rows : (base : Topology) (start : Reached Walked Table) → IsStart base start → length start.carried.rows ≡ start.level.sparse.topology.level.point_count
start-rows base start from =
    ap (λ (t : Table). length t.rows) from.table ∙ length-map-range_with_len (λ v. record { den = 1; shares = (v, 1) ∷ [] }) 0 base.level.point_count
    ∙ ap (λ (w : Walked). w.sparse.topology.level.point_count) (sym from.level)
