use Rattle.std.proofs.Common.{[], List, ℕ, subst}
use Rattle.sharpness_rules.specs.Totals.{Sums}
use Rattle.sharpness_rules.proofs.TotalLemmas.{IsTotal-none}
use Rattle.sharpness_rules.proofs.sums.total_of_vertex.Goals as goal

pub returns : goal.returns
returns c =
    let none = IsTotal-none c.none.result c.none.ensures.count c.none.ensures.num c.none.ensures.den in
    let P : List (ℕ × ℕ) → Type 0 = λ values. Sums values c.plus.result in
    subst P c.ended.ensures (c.plus.ensures [] none)
