use Rattle.std.proofs.Common.{ap, ◌∙◌}
use Rattle.std.proofs.lemmas.List.{map-id}
use Rattle.stencil_apply.specs.Table.{sum_of_shares}
use Rattle.stencil_apply.proofs.RowLemmas.{zip-row, CanSum-wide, CanSum-narrow}
use Rattle.stencil_apply.proofs.apply.sum_at.Goals as goal

pub sum_row-requires-clause-fits : goal.sum_row-requires-clause-fits
sum_row-requires-clause-fits g c =
    rw (zip-row _ _ _ c.row_indices-indices.ensures.indices (map-id c.in-Narrow.numerators.now ∙ c.in-Narrow.ensures))
    (CanSum-wide g.P.Primvar.numbers c.args.controls.now c.args.table.now c.args.row c.facts.ensures c.requires.inside c.requires.controls c.requires.fits)

pub sum_row-requires-clause-narrow : goal.sum_row-requires-clause-narrow
sum_row-requires-clause-narrow g c is =
    rw (zip-row _ _ _ c.row_indices-indices.ensures.indices (map-id c.in-Narrow.numerators.now ∙ c.in-Narrow.ensures))
    (CanSum-narrow g.P.Primvar.numbers c.args.controls.now c.args.table.now c.args.row c.facts.ensures c.requires.inside c.requires.controls (c.requires.narrow is))

pub returns-in-Narrow-clause-sum : goal.returns-in-Narrow-clause-sum
returns-in-Narrow-clause-sum g c = c.sum_row.ensures.sum ∙ ap (sum_of_shares _ _) (zip-row _ _ _ c.row_indices-indices.ensures.indices (map-id c.in-Narrow.numerators.now ∙ c.in-Narrow.ensures))

pub sum_row-requires-in-Wide-clause-fits : goal.sum_row-requires-in-Wide-clause-fits
sum_row-requires-in-Wide-clause-fits g c =
    rw (zip-row _ _ _ c.row_indices-indices.ensures.indices (map-id c.in-Wide.numerators.now ∙ c.in-Wide.ensures))
    (CanSum-wide g.P.Primvar.numbers c.args.controls.now c.args.table.now c.args.row c.facts.ensures c.requires.inside c.requires.controls c.requires.fits)

pub sum_row-requires-in-Wide-clause-narrow : goal.sum_row-requires-in-Wide-clause-narrow
sum_row-requires-in-Wide-clause-narrow g c is =
    rw (zip-row _ _ _ c.row_indices-indices.ensures.indices (map-id c.in-Wide.numerators.now ∙ c.in-Wide.ensures))
    (CanSum-narrow g.P.Primvar.numbers c.args.controls.now c.args.table.now c.args.row c.facts.ensures c.requires.inside c.requires.controls (c.requires.narrow is))

pub returns-in-Wide-clause-sum : goal.returns-in-Wide-clause-sum
returns-in-Wide-clause-sum g c = c.sum_row-in-Wide.ensures.sum ∙ ap (sum_of_shares _ _) (zip-row _ _ _ c.row_indices-indices.ensures.indices (map-id c.in-Wide.numerators.now ∙ c.in-Wide.ensures))
