use Rattle.std.proofs.Common.{ℕ, ◌*◌, ◌≡◌, arith, ap, sym, ◌∙◌}
use Rattle.patch_bspline.proofs.SplineLemmas.{cube-is, sixth-is}
use Rattle.patch_bspline.proofs.spline.denominator.Goals as goal

regroup : (n : ℕ) → 36 * n * n ≡ 36 * (n * n)
regroup n = omega arith

pub returns : goal.returns
returns c =
    ap (λ (n : ℕ). 36 * n * n) (c.from-cube.ensures ∙ c.product.ensures.product ∙ sym (cube-is c.args.m)) ∙ regroup _ ∙ ap (λ n. 36 * n) (sym (sixth-is c.args.m))
