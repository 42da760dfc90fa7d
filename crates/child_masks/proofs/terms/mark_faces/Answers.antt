use Rattle.child_masks.proofs.TermLemmas.{marked-more, among-same}
use Rattle.child_masks.proofs.terms.mark_faces.Goals as goal

pub mark_face-requires : goal.mark_face-requires
mark_face-requires c = among-same _ _ _ c.loop-term.auto.named (c.requires _ _ c.loop-term-test.true)

pub loop-term-preserved : goal.loop-term-preserved
loop-term-preserved c = marked-more _ _ _ c.args.terms.now _ _ c.loop-term-test.true c.loop-term.invariant c.mark_face.ensures
