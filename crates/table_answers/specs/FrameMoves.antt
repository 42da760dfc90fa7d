-- The result of a move of a control point.
use Rattle.std.specs.Prelude.{ℕ, ◌≡◌, ◌+◌, ◌*◌, ◌<◌, ◌≤◌, Result, OnOk, IfErr, OnErr}
use Rattle.subdiv_model.specs.Channel.{number_bound}
use Rattle.ratio128.specs.Numbers.{greatest_amount}
use Rattle.stencil_apply.specs.Table.{greatest_of}
use Rattle.stencil_session.specs.Session.{State, IsState, Move, after_move, rows_with}
use Rattle.level_walk.specs.declared.fault.OverflowKind.TheVariants.{Value}
use Rattle.far_fault.specs.declared.fault.FarFault.{FarFault}
use Rattle.far_fault.specs.declared.fault.FarFault.TheVariants.{Overflow}
use Rattle.far_fault.specs.declared.fault.Track.TheVariants.{Positions}

-- The control point moves in this number of steps, or its numbers pass their bound over the greatest denominator and nothing changes.
pub record Moves (depth : ℕ) (old new : State) (move : Move) (result : Result (Unit {0}) FarFault) (before after : ℕ) : Type 0 where
  pub moved : OnOk result (new ≡ after_move old move)
  pub unchanged : OnErr result (new ≡ old)
  pub state : IsState new
  pub within : OnOk result (greatest_of old.table * greatest_amount move.1 ≤ number_bound)
  pub above : OnErr result (number_bound < greatest_of old.table * greatest_amount move.1)
  pub fault : IfErr result (λ fault. fault ≡ Overflow Positions depth Value)
  pub steps : OnOk result (after ≡ before + rows_with move.0 old.table)
  pub none : OnErr result (after ≡ before)
