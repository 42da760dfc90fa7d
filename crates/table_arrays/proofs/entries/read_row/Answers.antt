use Rattle.table_arrays.proofs.EntryLemmas.{judged}
use Rattle.table_arrays.proofs.entries.read_row.Goals as goal

pub returns : goal.returns
returns c =
    judged c.args.rows.now c.args.r c.denominator_of.result c.copy_entries.new.entries.items c.deref.result.now c.are_row.result c.if-to-from.false c.if-rows-to.false
    c.in_ok-copy_entries.ensures c.denominator_of.ensures c.deref.ensures.value c.are_row.ensures
