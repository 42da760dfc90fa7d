-- The number of steps that a call takes.
use Rattle.std.specs.Prelude.{ℕ, ◌+◌, ◌≤◌, Result, OnOk}

-- the count grows by at most `limit`, and by at least `fewest` where the call succeeds
pub record StepsTaken {T E : Type 0} (result : Result T E) (old new fewest limit : ℕ) : Type 0 where
  pub least : OnOk result (old + fewest ≤ new)
  pub most : new ≤ old + limit
  pub later : old ≤ new
