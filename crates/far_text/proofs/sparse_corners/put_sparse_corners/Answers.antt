use Rattle.obj_out.proofs.PutsLemmas.{puts-same}
use Rattle.far_text.proofs.TexturedLemmas.{plain-words, textured-words}
use Rattle.far_text.proofs.sparse_corners.put_sparse_corners.Goals as goal

pub returns-in-Some : goal.returns-in-Some
returns-in-Some g c = rw c.in-Some.is (puts-same (textured-words c.args.corners.now c.in-Some.points.now) c.put_corners.ensures)

pub returns-in-None : goal.returns-in-None
returns-in-None g c = rw c.in-None.is (puts-same (plain-words c.args.corners.now) c.put_corners-in-None.ensures)
