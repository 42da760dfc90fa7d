use Rattle.nearest_float.specs.Binary.{binary32}
use Rattle.stencil_apply.specs.Table.{row_at}
use Rattle.table_arrays.proofs.WeightLemmas.{weights-row, numerators-short}
use Rattle.table_arrays.proofs.floats.fill_weights32.Goals as goal

pub fill_binary32-requires-clause-fits : goal.fill_binary32-requires-clause-fits
fill_binary32-requires-clause-fits c = numerators-short c.args.table.now c.args.row c.in-Narrow.numerators.now c.facts.ensures c.requires.inside c.in-Narrow.ensures

pub fill_binary32-requires-in-Wide-clause-fits : goal.fill_binary32-requires-in-Wide-clause-fits
fill_binary32-requires-in-Wide-clause-fits c = numerators-short c.args.table.now c.args.row c.in-Wide.numerators.now c.facts.ensures c.requires.inside c.in-Wide.ensures

pub returns-in-Narrow-clause-nearest : goal.returns-in-Narrow-clause-nearest
returns-in-Narrow-clause-nearest c =
    weights-row binary32 (row_at c.args.table.now c.args.row) c.in-Narrow.numerators.now c.denominator-den.result c.fill_binary32.new.out c.in-Narrow.ensures c.denominator-den.ensures c.fill_binary32.ensures.nearest

pub returns-in-Wide-clause-nearest : goal.returns-in-Wide-clause-nearest
returns-in-Wide-clause-nearest c =
    weights-row binary32 (row_at c.args.table.now c.args.row) c.in-Wide.numerators.now c.denominator-den.result c.fill_binary32-in-Wide.new.out c.in-Wide.ensures c.denominator-den.ensures c.fill_binary32-in-Wide.ensures.nearest
