-- Every sharpness of this crate as one of the definitions.
use Rattle.std.proofs.Common.{◌≡◌, ◌*◌, ◌<◌, true, List, [], ◌∷◌, map, refl}
use Rattle.std.specs.List.{list_all}
use Rattle.std.proofs.lemmas.Bool.{and_from, eq-eqb, lt-ltb}
use Rattle.subdiv_model.specs.Sharpness.{is_proper_sharpness}
use Rattle.sharpness_rules.specs.declared.sharpness.Sharpness.{Sharpness}
use Rattle.sharpness_rules.specs.declared.sharpness.Sharpness.TheVariants.{Smooth, Semi, Infinite}
use Rattle.sharpness_rules.specs.View.{sharpness_of}

pub sharpness_of-proper : (s : Sharpness) → is_proper_sharpness (sharpness_of s) ≡ true
sharpness_of-proper Smooth = refl
sharpness_of-proper (Semi value) =
    let above : 0 < value.num = value.above in
    let below : value.num < 10 * value.den = value.below in
    and_from _ _ (lt-ltb 0 value.num above) (and_from _ _ (lt-ltb value.num (10 * value.den) below) (eq-eqb _ 1 value.lowest))
sharpness_of-proper Infinite = refl

pub ring-proper : (ring : List Sharpness) → list_all is_proper_sharpness (map sharpness_of ring) ≡ true
ring-proper [] = refl
ring-proper (s ∷ ring) = and_from _ _ (sharpness_of-proper s) (ring-proper ring)
