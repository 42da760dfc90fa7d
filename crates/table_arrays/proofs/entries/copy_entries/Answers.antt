use Rattle.table_arrays.proofs.EntryLemmas.{shares-more}
use Rattle.table_arrays.proofs.entries.copy_entries.Goals as goal

pub loop-at-preserved : goal.loop-at-preserved
loop-at-preserved c =
    shares-more c.args.rows.now c.args.from c.loop-at.at c.natural.result c.loop-at.entries.items c.push.new.self.items c.loop-at.auto.at c.loop-at.invariant c.natural.ensures
    c.in_ok-push.ensures.items
