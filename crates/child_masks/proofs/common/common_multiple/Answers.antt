use Rattle.std.proofs.Common.{arith, sym, ◌∙◌}
use Rattle.child_masks.proofs.WithinLemmas.{joined-same, joined-one, joined-first, joined-second, joined-absorbs, joined-taken_in, joined-from-one, joined-exact}
use Rattle.child_masks.proofs.common.common_multiple.Goals.{then-c-m-via-then-c-m, then-c-m-via-else-c-m+then-c-eq1, then-m-eq0-via-then-m-eq0, then-m-eq0-via-else-m-eq0+then-c-eq0}
use Rattle.child_masks.proofs.common.common_multiple.Goals as goal

pub returns-then-c-m : goal.returns-then-c-m
returns-then-c-m c a b first second h k = elim c.then-c-m.branch [
  | then-c-m-via-then-c-m w ↦ joined-same _ _ a b first second w.if-c-m.true h k
  | then-c-m-via-else-c-m+then-c-eq1 w ↦ joined-one _ _ a b w.if-c-eq1.true h k
]

pub returns-then-m-eq0 : goal.returns-then-m-eq0
returns-then-m-eq0 c a b first second h k = elim c.then-m-eq0.branch [
  | then-m-eq0-via-then-m-eq0 w ↦ joined-first a b first second (sym w.if-m-eq0.true ∙ h)
  | then-m-eq0-via-else-m-eq0+then-c-eq0 w ↦ joined-second a b first second (sym w.if-c-eq0.true ∙ k)
]

pub returns-then-m-eq1 : goal.returns-then-m-eq1
returns-then-m-eq1 c a b first second h k = joined-from-one _ _ a b (omega arith) c.if-m-eq1.true h k

pub returns-then-is_shift : goal.returns-then-is_shift
returns-then-is_shift c a b first second h k =
    joined-absorbs _ _ a b (omega arith) (omega arith) (c.is_shift.ensures c.if-is_shift.true) h k

pub returns-then-is_shift-2 : goal.returns-then-is_shift-2
returns-then-is_shift-2 c a b first second h k =
    joined-taken_in _ _ a b (omega arith) (omega arith) (c.is_shift-2.ensures c.if-is_shift-2.true) h k

pub returns : goal.returns
returns c a b first second h k = joined-exact _ _ a b _ (omega arith) (omega arith) c.multiple.ensures h k
