use Rattle.std.proofs.Common.{◌∙◌, ap, sym, refl, length, get_or, arith, ℕ, List}
use Rattle.std.proofs.lemmas.List.{take_all}
use Rattle.sparse_level.specs.Places.{with_point, with_points}
use Rattle.sparse_level.proofs.OnceLemmas.{with-more, with-few}
use Rattle.sparse_level.proofs.points.add_points.Goals as goal

pub loop-n-init : goal.loop-n-init
loop-n-init c = record { points = refl; is = c.requires.is; count = refl; few = omega arith }

pub add_point-requires : goal.add_point-requires
add_point-requires c = record {
  is = c.loop-n.invariant.is;
  inside = omega (arith, c.requires.inside c.loop-n.n-index 0 c.loop-n-test.true, c.loop-n.invariant.count);
  few = omega (arith, c.loop-n.invariant.few, c.loop-n-test.true, c.requires.few);
}

pub loop-n-preserved : goal.loop-n-preserved
loop-n-preserved c = record {
  points = c.in_ok-add_point.ensures.points ∙ ap (λ (xs : List ℕ). with_point xs (get_or c.args.corners.now c.loop-n.n-index 0)) c.loop-n.invariant.points ∙ sym (with-more c.args.points.now.items c.args.corners.now c.loop-n.n-index c.loop-n-test.true);
  is = c.in_ok-add_point.ensures.is;
  count = c.in_ok-add_point.ensures.count ∙ c.loop-n.invariant.count;
  few = omega (arith, ap (λ (xs : List ℕ). length xs) c.in_ok-add_point.ensures.points, with-few c.loop-n.points.items (get_or c.args.corners.now c.loop-n.n-index 0), c.loop-n.invariant.few);
}

pub returns : goal.returns
returns c = record {
  points = c.loop-n.invariant.points ∙ ap (λ (xs : List ℕ). with_points c.args.points.now.items xs) (take_all c.loop-n.n-index c.args.corners.now c.loop-n-test.false);
  is = c.loop-n.invariant.is;
  count = c.loop-n.invariant.count;
}
