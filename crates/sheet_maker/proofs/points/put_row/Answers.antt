use Rattle.std.proofs.Common.{◌≡◌, ◌+◌, ◌++◌, arith, ap, sym, ◌∙◌, map}
use Rattle.std.specs.List.{range_with_len}
use Rattle.std.proofs.lemmas.List.{append-nil}
use Rattle.raw_mesh.specs.View.{point_of}
use Rattle.sheet_maker.specs.Rows.{place_of}
use Rattle.sheet_maker.proofs.SheetLemmas.{row-more}
use Rattle.sheet_maker.proofs.points.put_row.Goals as goal

pub loop-j-init : goal.loop-j-init
loop-j-init c = sym (append-nil (map point_of c.args.points.now.items))

pub loop-j-preserved : goal.loop-j-preserved
loop-j-preserved c =
    row-more point_of (place_of c.args.size c.args.draws.now c.args.i) (map point_of c.args.points.now.items) c.loop-j.points.items _ _ c.loop-j.j
    c.in_ok-push.ensures.items c.point.ensures c.loop-j.invariant

pub returns : goal.returns
returns c =
    let all : c.loop-j.j ≡ c.args.size + 1 = omega (arith, c.loop-j-test.false, c.loop-j.auto.j-end) in
    c.loop-j.invariant ∙ ap (λ n. map point_of c.args.points.now.items ++ map (place_of c.args.size c.args.draws.now c.args.i) (range_with_len 0 n)) all
