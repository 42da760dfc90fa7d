use Rattle.std.proofs.Common.{ap, zip}
use Rattle.std.specs.List.{flat_map}
use Rattle.obj_out.proofs.PutsLemmas.{puts-next, puts-stop, puts-same}
use Rattle.far_text.specs.Lines.{textured_word}
use Rattle.far_text.proofs.ListLemmas.{pair-there, pair-at, all-pairs}
use Rattle.far_text.proofs.textured_faces.put_corners.Goals as goal

pub returns-in_err-put_corner_word : goal.returns-in_err-put_corner_word
returns-in_err-put_corner_word g c =
    puts-stop textured_word (zip c.args.corners.now c.args.texture.now) c.loop-k.k (0, 0) (pair-there _ _ _ c.requires.alike
    c.loop-k-test.true) c.from_residual.ensures.0 c.loop-k.invariant
    (puts-same (ap textured_word (pair-at _ _ _ (0, 0) c.requires.alike c.loop-k-test.true)) c.in_err-put_corner_word.ensures)

pub loop-k-preserved : goal.loop-k-preserved
loop-k-preserved g c =
    puts-next textured_word (zip c.args.corners.now c.args.texture.now) c.loop-k.k (0, 0) (pair-there _ _ _ c.requires.alike
    c.loop-k-test.true) c.loop-k.invariant
    (puts-same (ap textured_word (pair-at _ _ _ (0, 0) c.requires.alike c.loop-k-test.true)) c.in_ok-put_corner_word.ensures)

pub returns : goal.returns
returns g c =
    puts-same
    (ap (flat_map textured_word) (all-pairs c.args.corners.now c.args.texture.now c.loop-k.k c.requires.alike c.loop-k-test.false))
    c.loop-k.invariant
