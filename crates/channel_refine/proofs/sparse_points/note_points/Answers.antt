use Rattle.std.proofs.Common.{◌∙◌, ap, sym, refl, get_or, arith, ℕ, List}
use Rattle.std.proofs.lemmas.List.{take_all}
use Rattle.sparse_level.specs.Places.{with_point, with_points}
use Rattle.sparse_level.proofs.OnceLemmas.{with-more}
use Rattle.channel_refine.proofs.sparse_points.note_points.Goals as goal

pub loop-n-init : goal.loop-n-init
loop-n-init c = record { points = refl; marks = c.requires.marks; size = refl }

pub note_point-requires : goal.note_point-requires
note_point-requires c = record {
  marks = c.loop-n.invariant.marks;
  inside = omega (arith, c.requires.inside c.loop-n.n-index 0 c.loop-n-test.true, c.loop-n.invariant.size);
}

pub loop-n-preserved : goal.loop-n-preserved
loop-n-preserved c = record {
  points = c.in_ok-note_point.ensures.points ∙ ap (λ (xs : List ℕ). with_point xs (get_or c.args.corners.now c.loop-n.n-index 0)) c.loop-n.invariant.points ∙ sym (with-more c.args.points.now.items c.args.corners.now c.loop-n.n-index c.loop-n-test.true);
  marks = c.in_ok-note_point.ensures.marks;
  size = c.in_ok-note_point.ensures.size ∙ c.loop-n.invariant.size;
}

pub returns : goal.returns
returns c = record {
  points = c.loop-n.invariant.points ∙ ap (λ (xs : List ℕ). with_points c.args.points.now.items xs) (take_all c.loop-n.n-index c.args.corners.now c.loop-n-test.false);
  marks = c.loop-n.invariant.marks;
  size = c.loop-n.invariant.size;
}
