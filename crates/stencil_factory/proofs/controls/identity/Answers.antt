use Rattle.std.proofs.Common.{rules, ◌∙◌, length, arith, ap}
use Rattle.stencil_apply.specs.Table.{Table, entries_of}
use Rattle.stencil_factory.proofs.ControlLemmas.{rows-count, entries-count, rows-more}
use Rattle.stencil_factory.proofs.controls.identity.Goals as goal

pub add_row-requires-clause-rows : goal.add_row-requires-clause-rows
add_row-requires-clause-rows c = omega (arith, rows-count c.args.points c.loop-v.v, ap (λ (t : Table). length t.rows) c.loop-v.invariant)

pub add_row-requires-clause-entries : goal.add_row-requires-clause-entries
add_row-requires-clause-entries c = omega (arith, entries-count 0 c.loop-v.v, ap (λ (t : Table). entries_of t.rows) c.loop-v.invariant)

pub loop-v-preserved : goal.loop-v-preserved
loop-v-preserved c = c.in_ok-add_row.ensures.added ∙ rows-more c.args.points c.loop-v.v c.loop-v.builder.table c.loop-v.invariant

-- The proof is given here by name, so that a wrong body is refused at once.
pub returns : goal.returns
returns c = search rules
