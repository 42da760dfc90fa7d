use Rattle.std.proofs.Common.{sym, subst, ℕ}
use Rattle.std.specs.Int.{◌∣◌}
use Rattle.std.proofs.Math.Nat.{one-dvd}
use Rattle.std.proofs.lemmas.Nat.Gcd.{dvd_refl}
use Rattle.sharpness_rules.proofs.MultipleLemmas.{IsLcm-multiple}
use Rattle.sharpness_rules.proofs.sums.common_denominator.Goals as goal
use Rattle.sharpness_rules.proofs.sums.common_denominator.Goals.{then-b-eq1-via-then-b-eq1, then-b-eq1-via-else-b-eq1+then-a-b}

pub returns-then-b-eq1-clause-multiple : goal.returns-then-b-eq1-clause-multiple
returns-then-b-eq1-clause-multiple c =
    let P : ℕ → Type 0 = λ b. b ∣ c.args.a in
    IsLcm-multiple c.args.a c.args.b (elim c.then-b-eq1.branch [
      | then-b-eq1-via-then-b-eq1 w ↦ subst P (sym w.if-b-eq1.true) (one-dvd c.args.a)
      | then-b-eq1-via-else-b-eq1+then-a-b w ↦ subst P w.if-a-b.true (dvd_refl c.args.a)
    ])
