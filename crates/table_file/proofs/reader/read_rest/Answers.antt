use Rattle.std.proofs.Common.{◌≡◌, arith, ap}
use Rattle.table_file.proofs.reader.read_rest.Goals as goal

pub invariant_of-result : goal.invariant_of-result
invariant_of-result c =
    let controls : c.finish.result.controls ≡ c.read_all.new.rows.builder.table.controls = ap (λ t. t.controls) c.finish.ensures in
    (omega (arith, controls, c.in_ok-end.ensures.few), omega (arith, c.in_ok-end.ensures.read.1, c.requires.few))
