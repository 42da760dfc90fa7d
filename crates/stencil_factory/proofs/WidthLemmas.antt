-- The width of the numbers in which rows are composed.
use Rattle.std.proofs.Common.{◌≡◌, ℕ, ◌-◌, ◌^◌, ◌≤◌, max, Bool, true, false, nat_le, List, get_or, if◌then◌else◌, arith, refl, sym, subst}
use Rattle.std.specs.List.{All, fold}
use Rattle.std.proofs.lemmas.Bool.Decides.{nat_tests}
use Rattle.subdiv_model.specs.Channel.{number_bound}
use Rattle.number_width.specs.Numbers.{width_for, most_of}
use Rattle.number_width.specs.declared.width.Width.{Width}
use Rattle.number_width.specs.declared.width.Width.TheVariants as width
use Rattle.stencil_apply.proofs.RowLemmas.{each-le}

-- a number that is no more than another has the other's width
fits : (number greatest : ℕ) → number ≤ greatest → number ≤ number_bound → number ≤ most_of (width_for greatest)
fits number greatest below short = by_test (nat_le greatest (2 ^ 64 - 1)) refl
  where
    by_test : (narrow : Bool) → nat_le greatest (2 ^ 64 - 1) ≡ narrow → number ≤ most_of (if narrow then width.Narrow else width.Wide)
    by_test true e = grind (arith, nat_tests)
    by_test false e = omega (arith, short)

-- the width of the greatest has them all
pub width-has-all : (dens : List ℕ) (own : Width) → All (λ den. den ≤ number_bound) dens → own ≡ width_for (fold max 1 dens) → All (λ den. den ≤ most_of own) dens
width-has-all dens own short is =
    subst (λ w. All (λ den. den ≤ most_of w) dens) (sym is) (λ i d h. fits (get_or dens i d) (fold max 1 dens) (each-le 1 dens i d h) (short i d h))
