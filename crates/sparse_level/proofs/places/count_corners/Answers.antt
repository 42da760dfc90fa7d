use Rattle.std.proofs.Common.{◌∙◌, ap, refl, false, get_or, arith, ℕ}
use Rattle.std.specs.List.{count_by}
use Rattle.std.proofs.lemmas.List.{take_all}
use Rattle.level_topology.proofs.FactLemmas.{count-next, count-most}
use Rattle.sparse_level.proofs.places.count_corners.Goals as goal

pub overflow_add-count : goal.overflow_add-count
overflow_add-count c =
    let most = count-most (λ v. get_or c.args.on.now v false) c.args.corners.now c.loop-v.v-index 0 _ _ _ c.loop-v-test.true c.from-count.ensures refl c.loop-v.invariant in
    record { fits = omega (arith, most) }

pub loop-v-preserved : goal.loop-v-preserved
loop-v-preserved c = count-next (λ v. get_or c.args.on.now v false) c.args.corners.now c.loop-v.v-index 0 _ _ _ c.loop-v-test.true c.from-count.ensures refl c.loop-v.invariant

pub returns : goal.returns
returns c =
    let is_marked = λ (v : ℕ). get_or c.args.on.now v false in c.loop-v.invariant ∙ ap (count_by is_marked) (take_all c.loop-v.v-index c.args.corners.now c.loop-v-test.false)
