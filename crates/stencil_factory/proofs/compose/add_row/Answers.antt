use Rattle.stencil_factory.proofs.RowSumLemmas.{read-inside, read-some, read-fits, read-added}
use Rattle.stencil_factory.proofs.compose.add_row.Goals as goal

pub add_shares-requires-clause-inside : goal.add_shares-requires-clause-inside
add_shares-requires-clause-inside g c = read-inside c.args.table.now c.facts.ensures c.args.point c.requires.known c.row_indices-indices.result.now c.in-Narrow.numerators.now c.row_indices-indices.ensures.indices c.in-Narrow.ensures _ c.requires.places

pub add_shares-requires-clause-some : goal.add_shares-requires-clause-some
add_shares-requires-clause-some g c = read-some c.args.table.now c.facts.ensures c.args.point c.requires.known c.row_indices-indices.result.now c.in-Narrow.numerators.now c.row_indices-indices.ensures.indices c.in-Narrow.ensures

pub add_shares-requires-clause-fits : goal.add_shares-requires-clause-fits
add_shares-requires-clause-fits g c =
    read-fits c.args.table.now c.facts.ensures c.args.point c.requires.known c.row_indices-indices.result.now c.in-Narrow.numerators.now c.row_indices-indices.ensures.indices c.in-Narrow.ensures
    (g.T.Natural.value c.args.factor) c.args.sums.now g.T.Natural.most c.requires.fits

pub returns-in-Narrow : goal.returns-in-Narrow
returns-in-Narrow g c =
    read-added c.args.table.now c.facts.ensures c.args.point c.requires.known c.row_indices-indices.result.now c.in-Narrow.numerators.now c.row_indices-indices.ensures.indices c.in-Narrow.ensures
    (g.T.Natural.value c.args.factor) c.args.sums.now c.add_shares.new.self c.add_shares.ensures

pub add_shares-requires-in-Wide-clause-inside : goal.add_shares-requires-in-Wide-clause-inside
add_shares-requires-in-Wide-clause-inside g c = read-inside c.args.table.now c.facts.ensures c.args.point c.requires.known c.row_indices-indices.result.now c.in-Wide.numerators.now c.row_indices-indices.ensures.indices c.in-Wide.ensures _ c.requires.places

pub add_shares-requires-in-Wide-clause-some : goal.add_shares-requires-in-Wide-clause-some
add_shares-requires-in-Wide-clause-some g c = read-some c.args.table.now c.facts.ensures c.args.point c.requires.known c.row_indices-indices.result.now c.in-Wide.numerators.now c.row_indices-indices.ensures.indices c.in-Wide.ensures

pub add_shares-requires-in-Wide-clause-fits : goal.add_shares-requires-in-Wide-clause-fits
add_shares-requires-in-Wide-clause-fits g c =
    read-fits c.args.table.now c.facts.ensures c.args.point c.requires.known c.row_indices-indices.result.now c.in-Wide.numerators.now c.row_indices-indices.ensures.indices c.in-Wide.ensures
    (g.T.Natural.value c.args.factor) c.args.sums.now g.T.Natural.most c.requires.fits

pub returns-in-Wide : goal.returns-in-Wide
returns-in-Wide g c =
    read-added c.args.table.now c.facts.ensures c.args.point c.requires.known c.row_indices-indices.result.now c.in-Wide.numerators.now c.row_indices-indices.ensures.indices c.in-Wide.ensures
    (g.T.Natural.value c.args.factor) c.args.sums.now c.add_shares-in-Wide.new.self c.add_shares-in-Wide.ensures
