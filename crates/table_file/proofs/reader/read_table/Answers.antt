use Rattle.std.proofs.Common.{drop, sym, ◌∙◌}
use Rattle.table_file.proofs.ReadLemmas.{no-rows, same-reading}
use Rattle.table_file.proofs.reader.read_table.Goals as goal

pub returns : goal.returns
returns c =
    same-reading c.args.bytes.now _ _ c.read_rest.result
    (no-rows c.in_ok-header.header c.in_ok-rows.rows (drop c.in_ok-header.from c.args.bytes.now) c.in_ok-rows.ensures.none ∙ sym c.in_ok-header.ensures.same)
    c.read_rest.ensures
