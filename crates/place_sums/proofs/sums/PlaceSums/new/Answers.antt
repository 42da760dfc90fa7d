use Rattle.std.proofs.Common.{◌≡◌, ◌+◌, ℕ, ap, ◌∙◌, length, replicate, rules}
use Rattle.std.proofs.lemmas.List.{length-replicate}
use Rattle.place_sums.proofs.TouchedLemmas.{untouched}
use Rattle.place_sums.proofs.sums.PlaceSums.new.Goals as goal

pub invariant_of-result : goal.invariant_of-result
invariant_of-result g c =
    let zeros : c.in_ok-vec.field-0.items ≡ replicate {A = ℕ} (c.args.places + 1) 0 = search rules in
    untouched c.in_ok-vec.field-0.items _ c.args.places (ap length zeros ∙ length-replicate {A = ℕ} (c.args.places + 1) 0) c.in_ok-zeros.ensures
