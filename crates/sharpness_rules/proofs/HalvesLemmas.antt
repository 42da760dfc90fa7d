-- The half of an edge that has its share of a sum.
use Rattle.std.proofs.Common.{◌≡◌, ℕ, ◌+◌, ◌-◌, ◌*◌, ◌<◌, arith, sym, ap, subst, ◌∙◌, List, length, map, get_or}
use Rattle.std.proofs.lemmas.Nat.Gcd.{dvd_trans}
use Rattle.subdiv_model.specs.Sharpness.{sharpness_of_fraction, half_child}
use Rattle.sharpness_rules.specs.declared.child.Method.{Method}
use Rattle.sharpness_rules.specs.declared.child.Method.TheVariants.{Normal, Chaikin}
use Rattle.sharpness_rules.specs.declared.sharpness.Semi.{Semi}
use Rattle.sharpness_rules.specs.declared.sharpness.Sharpness.{Sharpness}
use Rattle.sharpness_rules.specs.declared.sharpness.Sharpness.TheVariants as variant
use Rattle.sharpness_rules.specs.declared.shares.Shares.{Shares}
use Rattle.sharpness_rules.specs.declared.halves.HalvesRule.TheVariants.{Shared}
use Rattle.sharpness_rules.specs.declared.halves.Halves.{Halves}
use Rattle.sharpness_rules.specs.Totals.{IsTotal, parts_over}
use Rattle.sharpness_rules.specs.View.{sharpness_of, method_of}
use Rattle.sharpness_rules.specs.Halves.{IsHalvesRuleOfRing, AreHalves}
use Rattle.sharpness_rules.proofs.RingLemmas.{ring_values, ring-proper, edge-divides}
use Rattle.sharpness_rules.proofs.HalfLemmas.{half-value, total-common}

-- Only the method chaikin has shares, and the code computes the half of the definition from the sum.
pub shared-half : (method : Method) (ring : List Sharpness) (halves : Halves) (shares : Shares) (at : ℕ) (s : Sharpness) (edge : Semi)
    → AreHalves method ring halves → halves.rule ≡ Shared shares → at < length ring → s ≡ get_or ring at s → s ≡ variant.Semi edge
    → sharpness_of_fraction (3 * (shares.total.count - 1) * parts_over shares.total.den (edge.num, edge.den) + (shares.total.num - parts_over shares.total.den (edge.num, edge.den)) - 4 * (shares.total.count - 1) * shares.total.den, 4 * (shares.total.count - 1) * shares.total.den)
    ≡ half_child (method_of method) (map sharpness_of ring) (sharpness_of s)
shared-half Normal ring halves shares at s edge are rule within read is = absurd (cc)
shared-half Chaikin ring halves shares at s edge are rule within read is =
    let total : IsTotal (ring_values ring) shares.total = subst (IsHalvesRuleOfRing (map sharpness_of ring)) rule are in
    let divides = dvd_trans edge.den (edge-divides ring at s edge within (sym read ∙ is)) (total-common (ring_values ring) shares.total total) in
    let below : edge.num < 10 * edge.den = edge.below in
    half-value (ring_values ring) (edge.num, edge.den) shares.total (ring-proper ring) (omega arith) divides total shares.several
    ∙ sym (ap (λ t. half_child (method_of Chaikin) (map sharpness_of ring) (sharpness_of t)) is)
