use Rattle.face_varying.proofs.KeptLemmas.{ends-more}
use Rattle.face_varying.proofs.kept_ends.mark_face.Goals as goal

pub loop-c-preserved : goal.loop-c-preserved
loop-c-preserved c =
    ends-more c.args.apart.now c.args.numbers.now c.args.start c.args.edges.now c.loop-c.c c.corner_after.result c.point_at-first.result c.point_at-last.result c.is_apart.result c.args.marks.now.items c.loop-c.marks.items c.mark_ends.new.marks.items
    c.point_at-first.ensures c.corner_after.ensures.after c.point_at-last.ensures c.is_apart.ensures c.loop-c.invariant c.mark_ends.ensures
