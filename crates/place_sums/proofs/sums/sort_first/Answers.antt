use Rattle.std.proofs.Common.{sym, ◌∙◌, subst, take}
use Rattle.std.specs.List.Sorted.{IsPermutation, IsNonDecreasing}
use Rattle.std.proofs.lemmas.List.{length-take-le}
use Rattle.std.proofs.lemmas.List.Sorted.{IsNonDecreasingBy-from_sort}
use Rattle.place_sums.proofs.TouchedLemmas.{first-part}
use Rattle.place_sums.proofs.sums.sort_first.Goals as goal

pub returns-clause-permutation : goal.returns-clause-permutation
returns-clause-permutation c =
    subst (IsPermutation (take c.args.count c.args.numbers.now))
    (sym (first-part c.args.count c.sort_unstable.new.self _ (c.sort_unstable.ensures.len ∙ length-take-le c.args.count c.args.numbers.now c.requires))) c.sort_unstable.ensures.permutation

pub returns-clause-sorted : goal.returns-clause-sorted
returns-clause-sorted c =
    subst IsNonDecreasing
    (sym (first-part c.args.count c.sort_unstable.new.self _ (c.sort_unstable.ensures.len ∙ length-take-le c.args.count c.args.numbers.now c.requires)))
    (IsNonDecreasingBy-from_sort (λ v. v) _ c.sort_unstable.ensures.sorted)
