use Rattle.std.proofs.Common.{arith, sym, nat_eq, length}
use Rattle.std.proofs.lemmas.Bool.{eq-eqb}
use Rattle.std.proofs.lemmas.List.Sums.{position_or_len_is}
use Rattle.patch_bspline.proofs.points.place_of.Goals as goal

pub returns-then-face-f : goal.returns-then-face-f
returns-then-face-f c =
    sym (position_or_len_is (nat_eq c.args.face) c.args.faces.now c.loop-i.i 0 (omega arith) c.loop-i.invariant (λ _. eq-eqb _ _ c.if-face-f.true))

pub returns : goal.returns
returns c =
    sym (position_or_len_is (nat_eq c.args.face) c.args.faces.now (length c.args.faces.now) 0 (omega arith) (λ k h. c.loop-i.invariant k (omega (arith, h, c.loop-i-test.false)))
    (λ h. absurd (omega (arith, h))))
