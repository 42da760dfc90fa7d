-- The steps that the sparse levels of a channel take.
use Rattle.std.specs.Prelude.{ℕ, ◌+◌, ◌≤◌}
use Rattle.subdiv_model.specs.Channel.{Channel}
use Rattle.subdiv_model.specs.Sparse.{FacePredicate}
use Rattle.channel_refine.specs.SparseRefined.{present_to, entries_to}

-- the call takes at most one step for each face of the levels after the first, and one for each table entry of a present point
pub record ArePredicateSteps (channel : Channel) (predicate : FacePredicate) (depth old new : ℕ) : Type 0 where
  pub most : new ≤ old + present_to channel.base predicate depth + entries_to channel predicate depth
  pub later : old ≤ new
