use Rattle.std.proofs.Common.{ℕ, List, nat_eq, min, ◌∙◌, ap, get_or, arith}
use Rattle.std.specs.List.{count_by}
use Rattle.std.proofs.lemmas.List.{take_all}
use Rattle.face_varying.proofs.KeptLemmas.{counted-more}
use Rattle.face_varying.proofs.kept_corners.corner_counts.Goals as goal

pub loop-point-preserved : goal.loop-point-preserved
loop-point-preserved c = record {
  counts = λ p inside.
      counted-more c.args.numbers.now c.loop-point.point-index p (get_or c.loop-point.counts.items p 0) (get_or c.count_corner.new.counts.items p 0) c.loop-point-test.true
      (c.loop-point.invariant.counts p inside) (c.count_corner.ensures.counts p (omega (arith, inside, c.loop-point.invariant.size)));
  size = c.count_corner.ensures.size ∙ c.loop-point.invariant.size;
}

pub returns-clause-counts : goal.returns-clause-counts
returns-clause-counts c = λ p inside.
    c.loop-point.invariant.counts p inside ∙ ap (λ (ns : List ℕ). min (count_by (nat_eq p) ns) 255) (take_all c.loop-point.point-index c.args.numbers.now c.loop-point-test.false)
