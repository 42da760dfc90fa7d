use Rattle.std.proofs.Common.{◌<◌, ◌∙◌, sym, subst}
use Rattle.std.specs.List.{All}
use Rattle.stencil_factory.specs.MaskRows.{mask_at}
use Rattle.stencil_factory.proofs.MarkLemmas.{marks-after, fresh-marks, read-named}
use Rattle.stencil_factory.proofs.count.count_row.Goals as goal

pub mark_rows-requires-clause-inside : goal.mark_rows-requires-clause-inside
mark_rows-requires-clause-inside g c =
    subst (λ n. All (λ point. point < n) c.places-points.result.now) (c.in_ok-name.ensures.named.count ∙ sym c.requires.each) c.places-points.ensures.inside

pub returns-clause-marks : goal.returns-clause-marks
returns-clause-marks g c =
    let level = g.R.RowMasks.level c.args.rows.now in
    let mask = mask_at (g.R.RowMasks.masks c.args.rows.now) c.args.row in
    let inside = subst (λ n. All (λ point. point < n) c.places-points.result.now) (c.in_ok-name.ensures.named.count ∙ sym c.requires.each) c.places-points.ensures.inside in
    marks-after c.args.table.now c.facts.ensures level mask c.places-points.result.now inside
    (read-named level mask c.name.new.members.members c.places-points.result.now c.places-points.ensures.places c.in_ok-name.ensures.named.named)
    c.args.row c.args.buffers.now.marks.items c.requires.marks c.mark_rows.new.marks.items c.mark_rows.ensures.marked

pub returns-clause-count : goal.returns-clause-count
returns-clause-count g c =
    let level = g.R.RowMasks.level c.args.rows.now in
    let mask = mask_at (g.R.RowMasks.masks c.args.rows.now) c.args.row in
    let inside = subst (λ n. All (λ point. point < n) c.places-points.result.now) (c.in_ok-name.ensures.named.count ∙ sym c.requires.each) c.places-points.ensures.inside in
    fresh-marks c.args.table.now c.facts.ensures level mask c.places-points.result.now inside
    (read-named level mask c.name.new.members.members c.places-points.result.now c.places-points.ensures.places c.in_ok-name.ensures.named.named)
    c.args.row c.args.buffers.now.marks.items c.requires.marks c.mark_rows.result c.mark_rows.new.marks.items c.mark_rows.ensures.marked c.mark_rows.ensures.fresh
