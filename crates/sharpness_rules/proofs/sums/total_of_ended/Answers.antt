use Rattle.std.proofs.Common.{List, ℕ, arith, sym, subst, append-nil}
use Rattle.std.proofs.lemmas.Result.{MatchResult-from_err}
use Rattle.sharpness_rules.specs.Totals.{IsTotal}
use Rattle.sharpness_rules.proofs.EndedLemmas.{EndsAt-from, length-values_before, values_before-all, values_before-next, values_before-too_fine, vertex-too_fine}
use Rattle.sharpness_rules.proofs.sums.total_of_ended.Goals as goal

pub returns-in_err-total : goal.returns-in_err-total
returns-in_err-total c =
    MatchResult-from_err _ _ _ c.from_residual.ensures.0
    (λ _. vertex-too_fine c.args.vertex c.args.vertex_child c.args.ring.now c.args.ring_child.now c.in_err-total.ensures)

pub loop-i-init : goal.loop-i-init
loop-i-init c =
    let P : List (ℕ × ℕ) → Type 0 = λ values. IsTotal values c.in_ok-total.total in
    subst P (sym (append-nil _)) c.in_ok-total.ensures

pub plus-requires : goal.plus-requires
plus-requires c = record {
  countable = omega (arith, c.loop-i.invariant.count, length-values_before c.args.vertex c.args.vertex_child c.args.ring.now c.args.ring_child.now c.loop-i.i);
}

pub returns-in_err-total-2 : goal.returns-in_err-total-2
returns-in_err-total-2 c =
    let at = EndsAt-from c.args.ring.now c.args.ring_child.now c.loop-i.i c.index-ring-i.result c.index-ring_child-i.result _ c.requires.same_length c.loop-i-test.true c.index-ring-i.is c.index-ring_child-i.is c.ended.ensures in
    MatchResult-from_err _ _ _ c.from_residual-in_err-total-2.ensures.0
    (λ _. values_before-too_fine c.args.vertex c.args.vertex_child c.args.ring.now c.args.ring_child.now c.loop-i.i _ at (c.in_err-total-2.ensures _ c.loop-i.invariant))

pub loop-i-preserved : goal.loop-i-preserved
loop-i-preserved c =
    let at = EndsAt-from c.args.ring.now c.args.ring_child.now c.loop-i.i c.index-ring-i.result c.index-ring_child-i.result _ c.requires.same_length c.loop-i-test.true c.index-ring-i.is c.index-ring_child-i.is c.ended.ensures in
    let P : List (ℕ × ℕ) → Type 0 = λ values. IsTotal values c.in_ok-total-2.total in
    subst P (values_before-next c.args.vertex c.args.vertex_child c.args.ring.now c.args.ring_child.now c.loop-i.i _ at) (c.in_ok-total-2.ensures _ c.loop-i.invariant)

pub returns : goal.returns
returns c =
    let P : List (ℕ × ℕ) → Type 0 = λ values. IsTotal values c.loop-i.total in
    subst P (values_before-all c.args.vertex c.args.vertex_child c.args.ring.now c.args.ring_child.now c.loop-i.i c.requires.same_length c.loop-i-test.false) c.loop-i.invariant
