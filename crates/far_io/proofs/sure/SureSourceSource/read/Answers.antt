use Rattle.std.proofs.Common.{◌≡◌, ℕ, ◌+◌, List, take, drop, ◌++◌, ◌∙◌, sym, ap}
use Rattle.std.proofs.lemmas.List.{take_rest, take-append-drop, drop-drop}
use Rattle.far_io.proofs.sure.SureSourceSource.read.Goals as goal

-- what was left is what is copied and what is left after that
prefix_and_rest : (xs : List ℕ) (at n : ℕ) → drop at xs ≡ take n (drop at xs) ++ drop (at + n) xs
prefix_and_rest xs at n = sym (take-append-drop n (drop at xs)) ∙ ap (λ r. take n (drop at xs) ++ r) (drop-drop n at xs)

pub returns-clause-taken : goal.returns-clause-taken
returns-clause-taken c =
    rw (c.copy_prefix-n.ensures.copied, take_rest, c.deref.ensures.value)
    (sym c.self.view_is ∙ prefix_and_rest c.self.inside.bytes.items c.self.inside.at c.copy_prefix-n.result)
