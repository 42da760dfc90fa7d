use Rattle.sparse_laws.specs.NextSparse.{has_all_faces}
use Rattle.sparse_level.proofs.ListLemmas.{made-more, made-all}
use Rattle.sparse_level.proofs.complete.mark_complete.Goals as goal

pub has_all_faces-requires : goal.has_all_faces-requires
has_all_faces-requires c = record { marks = c.requires.marks; inside = c.requires.inside c.loop-n.n-index 0 c.loop-n-test.true }

pub loop-n-preserved : goal.loop-n-preserved
loop-n-preserved c = λ selected on.
    made-more (has_all_faces c.args.level.now.level selected) c.args.points.now c.loop-n.complete.items c.push.new.self.items c.loop-n.n-index 0 c.has_all_faces.result c.loop-n-test.true (c.loop-n.invariant selected on) c.in_ok-push.ensures.items (c.has_all_faces.ensures selected on)

pub returns : goal.returns
returns c = λ selected on. made-all (has_all_faces c.args.level.now.level selected) c.args.points.now c.loop-n.complete.items c.loop-n.n-index c.loop-n-test.false (c.loop-n.invariant selected on)
