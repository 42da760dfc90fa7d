-- A ring that is written edge by edge, and its halves.
use Rattle.std.proofs.Common.{◌≡◌, ℕ, ◌+◌, ◌<◌, List, [], ◌∷◌, ◌++◌, length, map, take, get_or, slice_set, refl, false, ap, sym, ◌∙◌}
use Rattle.std.proofs.lemmas.List.{take_more, take_more_set, map-append}
use Rattle.subdiv_model.specs.Sharpness.{Sharpness, Smooth, Chaikin, chaikin_overflows}
use Rattle.sharpness_rules.specs.declared.child.Method.{Method}
use Rattle.sharpness_rules.specs.declared.child.Method.TheVariants as variant
use Rattle.sharpness_rules.specs.declared.sharpness.Sharpness as rules
use Rattle.sharpness_rules.specs.View.{sharpness_of, method_of}
use Rattle.sharpness_rules.specs.Halves.{halves_overflow}

pub ring-step : {X : Type 0} (f : X → Sharpness) (xs : List X) (i : ℕ) (y : X) (target : List Sharpness) → i < length xs → i < length target
    → map f (take i xs) ≡ take i target → f y ≡ get_or target i Smooth → map f (take (i + 1) (slice_set xs i y)) ≡ take (i + 1) target
ring-step f xs i y target inside within so_far here =
    ap (map f) (take_more_set xs i y inside) ∙ map-append f (take i xs) (y ∷ []) ∙ ap (λ l. l ++ f y ∷ []) so_far
    ∙ ap (λ s. take i target ++ s ∷ []) here ∙ sym (take_more target i Smooth within)

-- no half overflows but by the method chaikin
pub none-overflow : (method : Method) (ring : List rules.Sharpness) → (method_of method ≡ Chaikin → chaikin_overflows (map sharpness_of ring) ≡ false)
    → halves_overflow method ring ≡ false
none-overflow variant.Normal ring fine = refl
none-overflow variant.Chaikin ring fine = fine refl
