use Rattle.std.proofs.Common.{◌≡◌, ◌<◌, length}
use Rattle.std.specs.List.{All}
use Rattle.subdiv_model.specs.Channel.{number_bound}
use Rattle.stencil_factory.specs.Rows.{dens_of}
use Rattle.stencil_factory.specs.Composing.{added_rows, CanAddRows}
use Rattle.stencil_factory.specs.Joined.{amounts_of, weighing}
use Rattle.stencil_factory.proofs.weighted_rows.add_weighted_rows.Given as goal

-- Adding the remaining rows to the present sums gives the same as adding all rows to the first sums.
abbrev pub invariant-loop-rest : goal.invariant-loop-rest
invariant-loop-rest g l = record {
  all : added_rows l.table (amounts_of (dens_of l.table) l.multiple (weighing l.rest)) l.sums ≡ added_rows l.table (amounts_of (dens_of l.table) l.multiple (weighing l.weights)) l.fn.sums;
  known : All (λ share. share.0 < length l.table.rows) l.rest;
  can : CanAddRows g.T.Natural.most l.table (amounts_of (dens_of l.table) l.multiple (weighing l.rest)) l.sums;
  short : CanAddRows number_bound l.table (amounts_of (dens_of l.table) l.multiple (weighing l.rest)) l.sums;
}

abbrev pub decreases-loop-rest : goal.decreases-loop-rest
decreases-loop-rest g l = length l.rest
