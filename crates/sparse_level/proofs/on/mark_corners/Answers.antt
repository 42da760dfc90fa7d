use Rattle.std.proofs.Common.{◌∙◌, ◌||◌, ap, refl, false, true, get_or, arith, List, ℕ}
use Rattle.std.proofs.lemmas.List.{length-set, take_all}
use Rattle.subdiv_model.specs.Polygons.{has_corner}
use Rattle.sparse_level.proofs.MarkLemmas.{or-false, mark-more}
use Rattle.sparse_level.proofs.on.mark_corners.Goals as goal

pub loop-v-init : goal.loop-v-init
loop-v-init c = record { count = refl; marks = λ u h. or-false (get_or c.args.on.now.items u false) }

pub loop-v-preserved : goal.loop-v-preserved
loop-v-preserved c =
    let i = c.loop-v.v-index in
    let long = c.loop-v.invariant.count in
    let below = c.requires.inside i 0 c.loop-v-test.true in
    record {
      count = length-set c.loop-v.on.items (get_or c.args.corners.now i 0) true ∙ long;
      marks = λ u h. mark-more c.args.on.now.items c.loop-v.on.items c.args.corners.now i u c.loop-v-test.true (omega (arith, h, long)) (omega (arith, below, long)) (c.loop-v.invariant.marks u h);
    }

pub returns-clause-marks : goal.returns-clause-marks
returns-clause-marks c = λ v h.
    c.loop-v.invariant.marks v h ∙ ap (λ (xs : List ℕ). get_or c.args.on.now.items v false || has_corner v xs) (take_all c.loop-v.v-index c.args.corners.now c.loop-v-test.false)
