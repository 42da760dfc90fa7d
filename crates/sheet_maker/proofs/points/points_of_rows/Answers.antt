use Rattle.std.proofs.Common.{◌≡◌, ◌+◌, [], arith, ap, ◌∙◌, map}
use Rattle.std.specs.List.{flat_map, range_with_len}
use Rattle.raw_mesh.specs.View.{point_of}
use Rattle.sheet_maker.specs.Rows.{row_points}
use Rattle.sheet_maker.proofs.SheetLemmas.{flat-row-more}
use Rattle.sheet_maker.proofs.points.points_of_rows.Goals as goal

pub loop-i-init : goal.loop-i-init
loop-i-init c = ap (map point_of) c.in_ok-points.ensures.items

pub loop-i-preserved : goal.loop-i-preserved
loop-i-preserved c =
    flat-row-more (row_points c.args.size c.args.draws.now) [] (map point_of c.loop-i.points.items) _ c.loop-i.i c.in_ok-put_row.ensures c.loop-i.invariant

pub returns : goal.returns
returns c =
    let all : c.loop-i.i ≡ c.args.size + 1 = omega (arith, c.loop-i-test.false, c.loop-i.auto.i-end) in
    c.loop-i.invariant ∙ ap (λ n. flat_map (row_points c.args.size c.args.draws.now) (range_with_len 0 n)) all
