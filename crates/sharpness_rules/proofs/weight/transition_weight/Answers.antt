use Rattle.std.proofs.Common.{◌∙◌, arith}
use Rattle.std.proofs.lemmas.Result.{IfOk-weaker}
use Rattle.sharpness_rules.proofs.EndedLemmas.{length-values_ended, values_ended, values_ended-proper}
use Rattle.sharpness_rules.proofs.WeightLemmas.{mean-too_fine, mean-value, total-above}
use Rattle.sharpness_rules.proofs.weight.transition_weight.Goals as goal

pub returns-in_err-total-clause-overflow : goal.returns-in_err-total-clause-overflow
returns-in_err-total-clause-overflow c = (λ _. mean-too_fine _ c.in_err-total.ensures, λ _. c.from_residual.ensures.0)

pub mean_of-requires-clause-few : goal.mean_of-requires-clause-few
mean_of-requires-clause-few c =
    omega (arith, c.in_ok-total.ensures.count, length-values_ended c.args.vertex c.args.vertex_child c.args.ring.now c.args.ring_child.now c.requires.same_length)

pub mean_of-requires-clause-above : goal.mean_of-requires-clause-above
mean_of-requires-clause-above c =
    total-above (values_ended c.args.vertex c.args.vertex_child c.args.ring.now c.args.ring_child.now) c.in_ok-total.total (values_ended-proper c.args.vertex c.args.vertex_child c.args.ring.now c.args.ring_child.now) c.in_ok-total.ensures

pub returns-clause-weight : goal.returns-clause-weight
returns-clause-weight c =
    let same = mean-value (values_ended c.args.vertex c.args.vertex_child c.args.ring.now c.args.ring_child.now) c.in_ok-total.total (values_ended-proper c.args.vertex c.args.vertex_child c.args.ring.now c.args.ring_child.now) c.in_ok-total.ensures in
    IfOk-weaker c.mean_of.result _ _ (λ w made. made ∙ same) c.mean_of.ensures.mean
