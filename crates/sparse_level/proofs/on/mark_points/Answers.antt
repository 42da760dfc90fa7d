use Rattle.std.proofs.Common.{◌<◌, ◌≤◌, length, arith}
use Rattle.sparse_level.proofs.MarkLemmas.{marks-none, marks-more, marks-all}
use Rattle.sparse_level.proofs.on.mark_points.Goals as goal

pub loop-f-init : goal.loop-f-init
loop-f-init c =
    let none = marks-none c.args.level.now.level c.in_ok-on.on.items _ (c.in_ok-on.ensures.items_if_clones_equal (λ y h. h)) c.points.ensures in
    record { count = none.0; marks = none.1 }

pub loop-f-preserved : goal.loop-f-preserved
loop-f-preserved c =
    let inside : c.loop-f.f < length c.args.selected.now = omega (arith, c.loop-f-test.true, c.faces-f-end.ensures, c.requires) in
    record {
      count = c.mark_face.ensures.count;
      marks = marks-more c.args.level.now.level c.args.selected.now c.loop-f.on.items c.mark_face.new.on.items c.loop-f.f inside c.loop-f.invariant.marks c.mark_face.ensures.marks;
    }

pub returns : goal.returns
returns c =
    let past : length c.args.selected.now ≤ c.loop-f.f = omega (arith, c.loop-f-test.false, c.faces-f-end.ensures, c.requires) in
    marks-all c.args.level.now.level c.args.selected.now c.loop-f.on.items c.loop-f.f past c.loop-f.invariant.count c.loop-f.invariant.marks
