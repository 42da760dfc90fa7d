use Rattle.std.proofs.Common.{length, arith, ap, sym}
use Rattle.std.proofs.lemmas.List.{length-map}
use Rattle.stencil_apply.specs.Table.{Row}
use Rattle.stencil_factory.specs.Rows.{dens_of}
use Rattle.stencil_factory.specs.Composing.{added_rows}
use Rattle.stencil_factory.specs.Joined.{amounts_of}
use Rattle.stencil_factory.proofs.PutLemmas.{one-none}
use Rattle.stencil_factory.proofs.weighted_rows.add_weighted_row.Goals as goal

pub returns-then-weight-eq0 : goal.returns-then-weight-eq0
returns-then-weight-eq0 g c =
    sym (ap (λ ws. added_rows c.args.table.now (amounts_of (dens_of c.args.table.now) c.args.multiple ws) c.args.sums.now) (one-none c.args.weight.now c.if-weight-eq0.true))

pub amount_of-amount-requires-clause-known : goal.amount_of-amount-requires-clause-known
amount_of-amount-requires-clause-known g c =
    omega (arith, c.requires.known, ap length c.requires.dens, length-map c.args.table.now.rows (λ (row : Row). row.den))
