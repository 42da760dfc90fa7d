use Rattle.std.proofs.Common.{◌≡◌, [], arith, ap, ◌∙◌}
use Rattle.std.specs.List.{flat_map, range_with_len}
use Rattle.sheet_maker.specs.Rows.{row_corners}
use Rattle.sheet_maker.proofs.SheetLemmas.{flat-row-more}
use Rattle.sheet_maker.proofs.quads.corners_of_quads.Goals as goal

pub loop-i-init : goal.loop-i-init
loop-i-init c = c.in_ok-corners.ensures.items

pub loop-i-preserved : goal.loop-i-preserved
loop-i-preserved c = flat-row-more (row_corners c.args.size) [] c.loop-i.corners.items _ c.loop-i.i c.in_ok-put_row.ensures c.loop-i.invariant

pub returns : goal.returns
returns c =
    let all : c.loop-i.i ≡ c.args.size = omega (arith, c.loop-i-test.false, c.loop-i.auto.i-end) in
    c.loop-i.invariant ∙ ap (λ n. flat_map (row_corners c.args.size) (range_with_len 0 n)) all
