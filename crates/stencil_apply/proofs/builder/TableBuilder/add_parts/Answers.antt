use Rattle.std.proofs.Common.{ap, sym}
use Rattle.stencil_apply.specs.Built.{Built}
use Rattle.stencil_apply.proofs.BuilderLemmas.{parts-small, width-enough, length-parts, end-short, table-added, capacity-left}
use Rattle.stencil_apply.proofs.builder.TableBuilder.add_parts.Goals as goal

pub push_parts-requires-clause-short : goal.push_parts-requires-clause-short
push_parts-requires-clause-short g c =
    end-short _ _ c.reserve_row.ensures.grown _ (ap (λ (b : Built). b.table) c.self.view_is) _ _ c.self.invariant _ c.requires.rows c.requires.entries

pub push_parts-requires-clause-small : goal.push_parts-requires-clause-small
push_parts-requires-clause-small g c =
    parts-small g.T.Natural.value _ c.args.denominator _ c.args.indices.now c.args.numerators.now c.requires.equal c.requires.row
    (width-enough _ _ c.args.denominator c.ranges.denominator.fits c.in_ok-reserve_row.ensures.wide)

pub invariant_of-self-2 : goal.invariant_of-self-2
invariant_of-self-2 g c =
    rw (c.take_capacity.ensures.rows, c.take_capacity.ensures.entries)
    (capacity-left _ _ c.reserve_row.ensures.grown _ (ap (λ (b : Built). b.table) c.self.view_is) _ _ c.self.invariant _ c.requires.rows c.requires.entries
    _ _ c.push_parts.ensures (sym (length-parts g.T.Natural.value c.args.indices.now c.args.numerators.now c.requires.equal)) c.requires.row c.in_ok-reserve_row.ensures.space)

pub returns-clause-added : goal.returns-clause-added
returns-clause-added g c =
    table-added _ _ c.reserve_row.ensures.grown _ (ap (λ (b : Built). b.table) c.self.view_is) _ _ c.self.invariant _ c.requires.rows c.requires.entries _ _ c.push_parts.ensures
