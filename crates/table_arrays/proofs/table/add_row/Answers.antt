use Rattle.table_arrays.proofs.BuiltLemmas.{entries-few, row-added, rows-few}
use Rattle.table_arrays.proofs.table.add_row.Goals as goal

pub add_row-requires-clause-rows : goal.add_row-requires-clause-rows
add_row-requires-clause-rows c = rows-few c.args.rows.now c.args.r c.args.added.now.builder.table c.requires.shape c.requires.inside c.requires.before

pub add_row-requires-clause-entries : goal.add_row-requires-clause-entries
add_row-requires-clause-entries c =
    let judged = rw c.if-not-branch.false at c.in_ok-read_row.ensures in
    entries-few c.args.rows.now c.args.r c.args.added.now.builder.table c.read_row.new.entries.items c.deref.result.now c.requires.shape c.requires.before judged.0 judged.1 c.deref.ensures.value

pub returns : goal.returns
returns c =
    let judged = rw c.if-not-branch.false at c.in_ok-read_row.ensures in
    row-added c.args.rows.now c.args.r c.denominator_of.result c.args.added.now.builder.table c.add_row.new.self.table c.read_row.new.entries.items c.deref.result.now c.requires.before
    judged.0 judged.1 c.deref.ensures.value c.denominator_of.ensures c.in_ok-add_row.ensures.added
