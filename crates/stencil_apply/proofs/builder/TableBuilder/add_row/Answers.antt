use Rattle.std.proofs.Common.{ap, sym}
use Rattle.stencil_apply.specs.Built.{Built}
use Rattle.stencil_apply.proofs.BuilderLemmas.{entries-small, width-enough, length-shares_of, end-short, table-added, capacity-left}
use Rattle.stencil_apply.proofs.builder.TableBuilder.add_row.Goals as goal

pub push_row-requires-clause-short : goal.push_row-requires-clause-short
push_row-requires-clause-short c =
    end-short _ _ c.reserve_row.ensures.grown _ (ap (λ (b : Built). b.table) c.self.view_is) _ _ c.self.invariant _ c.requires.rows c.requires.entries

pub push_row-requires-clause-small : goal.push_row-requires-clause-small
push_row-requires-clause-small c =
    entries-small _ c.args.denominator _ c.args.row.now c.requires.row
    (width-enough _ _ c.args.denominator c.ranges.denominator.fits c.in_ok-reserve_row.ensures.wide)

pub invariant_of-self-2 : goal.invariant_of-self-2
invariant_of-self-2 c =
    rw (c.take_capacity.ensures.rows, c.take_capacity.ensures.entries)
    (capacity-left _ _ c.reserve_row.ensures.grown _ (ap (λ (b : Built). b.table) c.self.view_is) _ _ c.self.invariant _ c.requires.rows c.requires.entries
    _ _ c.push_row.ensures (sym (length-shares_of c.args.row.now)) c.requires.row c.in_ok-reserve_row.ensures.space)

pub returns-clause-added : goal.returns-clause-added
returns-clause-added c =
    table-added _ _ c.reserve_row.ensures.grown _ (ap (λ (b : Built). b.table) c.self.view_is) _ _ c.self.invariant _ c.requires.rows c.requires.entries _ _ c.push_row.ensures
