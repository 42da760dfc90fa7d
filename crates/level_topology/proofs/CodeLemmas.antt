-- Codes of kept sharpness.
use Rattle.std.proofs.Common.{◌≡◌, ℕ, suc, ◌+◌, ◌<◌, ◌⊎◌, inl, inr, List, [], ◌∷◌, ◌++◌, length, map, take, get_or, arith, refl, ap, sym, ◌∙◌}
use Rattle.std.proofs.lemmas.List.{map_push, map-append, take_more, get_or_append_left, length-map}
use Rattle.subdiv_model.specs.Sharpness.{Sharpness, Smooth}
use Rattle.sharpness_rules.specs.declared.sharpness.Sharpness as declared
use Rattle.sharpness_rules.specs.View.{sharpness_of}
use Rattle.level_topology.specs.Coded.{kept, decoded, Kept}

-- Codes keep their values when more values follow.
decoded-more : (values more : List Sharpness) (codes : List ℕ) → ((k : ℕ) → k < length codes → get_or codes k 0 < length values) → decoded (values ++ more) codes ≡ decoded values codes
decoded-more values more [] each = refl
decoded-more values more (code ∷ codes) each =
    let here : code < length values = each 0 (omega arith) in
    let first = get_or_append_left values more Smooth code here in
    let rest = decoded-more values more codes (λ k h. each (suc k) (omega arith)) in
    cc

pub kept-push : (old new : List declared.Sharpness) (s : declared.Sharpness) (codes : List ℕ) (code limit : ℕ) → ((k : ℕ) → k < length codes → get_or codes k 0 < length (map sharpness_of old)) → (new ≡ old) ⊎ (new ≡ old ++ s ∷ []) → get_or (map sharpness_of new) code Smooth ≡ sharpness_of s → kept (decoded (map sharpness_of new) (codes ++ code ∷ [])) limit ≡ kept (decoded (map sharpness_of old) codes ++ sharpness_of s ∷ []) limit
kept-push old new s codes code limit each how value = ap (λ xs. kept xs limit) (map_push (λ c. get_or (map sharpness_of new) c Smooth) codes code ∙ joined (stays how))
  where
    stays : (new ≡ old) ⊎ (new ≡ old ++ s ∷ []) → decoded (map sharpness_of new) codes ≡ decoded (map sharpness_of old) codes
    stays (inl e) = ap (λ xs. decoded (map sharpness_of xs) codes) e
    stays (inr e) = ap (λ xs. decoded (map sharpness_of xs) codes) e ∙ ap (λ xs. decoded xs codes) (map_push sharpness_of old s) ∙ decoded-more (map sharpness_of old) (sharpness_of s ∷ []) codes each

    joined : decoded (map sharpness_of new) codes ≡ decoded (map sharpness_of old) codes → decoded (map sharpness_of new) codes ++ get_or (map sharpness_of new) code Smooth ∷ [] ≡ decoded (map sharpness_of old) codes ++ sharpness_of s ∷ []
    joined e = cc

-- an item has a code
pub code-inside : (values : List Sharpness) (codes : List ℕ) (i : ℕ) (said : List Sharpness) → decoded values codes ≡ said → i < length said → i < length codes
code-inside values codes i said is inside = omega (arith, inside, ap length is, length-map codes (λ code. get_or values code Smooth))

-- there are fewer codes than there may be
pub fewer : (values : List Sharpness) (codes : List ℕ) (limit : ℕ) (said : Kept) → kept (decoded values codes) limit ≡ said → length said.sharpness < said.limit → length codes < limit
fewer values codes limit said is less = omega (arith, less, ap (λ (k : Kept). length k.sharpness) is, ap (λ (k : Kept). k.limit) is, length-map codes (λ code. get_or values code Smooth))

-- a sharpness more
pub kept-more : (values : List declared.Sharpness) (i limit : ℕ) (s : declared.Sharpness) (old new : Kept) → i < length values → old ≡ kept (map sharpness_of (take i values)) limit → s ≡ get_or values i s → new ≡ kept (old.sharpness ++ sharpness_of s ∷ []) old.limit → new ≡ kept (map sharpness_of (take (i + 1) values)) limit
kept-more values i limit s old new inside e is f =
    f ∙ ap (λ (k : Kept). kept (k.sharpness ++ sharpness_of s ∷ []) k.limit) e
    ∙ ap (λ t. kept (map sharpness_of (take i values) ++ sharpness_of t ∷ []) limit) is
    ∙ ap (λ xs. kept xs limit) (sym (ap (map sharpness_of) (take_more values i s inside) ∙ map-append sharpness_of (take i values) (get_or values i s ∷ [])))
