-- Masks with the same weights have the same terms up to order, if each source is listed once and no weight is 0.
use Rattle.std.proofs.Common.{◌≡◌, ◌+◌, ◌<◌, Bool, true, false, not, cond, ◌||◌, nat_lt, if◌then◌else◌, List, [], ◌∷◌, arith, refl, ap, sym, ◌∙◌, subst}
use Rattle.std.specs.List.{filter, list_all}
use Rattle.std.specs.List.Sorted.{IsPermutation}
use Rattle.std.proofs.lemmas.Bool.{cond_both, and_from, and_parts, or_from, or_parts, ltb-true, not-true}
use Rattle.std.proofs.lemmas.List.Sorted.{IsPermutation-refl, IsPermutation-trans, IsPermutation-cons, IsPermutation-sym}
use Rattle.subdiv_model.specs.Mask.{SourcePoint, Term, Mask, weigh, same_source, weight_in, has_source, has_distinct_sources}
use Rattle.number_laws.proofs.ListLemmas.{all-kept}
use Rattle.sharpness_laws.specs.SameWeights.{HaveSameWeights, is_joined}
use Rattle.sharpness_laws.proofs.PermutationLemmas.{first-two}
use Rattle.sharpness_laws.proofs.JoinedWeightLemmas.{source-refl, source-eq, weight_in-cons}
use Rattle.sharpness_laws.proofs.SameWeightLemmas.{without, weight_of-own, weight-without}

-- an absent source weighs nothing, and omitting it changes nothing
weight-absent : (s : SourcePoint) (terms : List Term) → has_source terms s ≡ false → weight_in terms s ≡ 0
weight-absent s [] h = refl
weight-absent s (t ∷ terms) h =
    let parts = or_parts (same_source s t.source) (has_source terms s) h in
    weight_in-cons t terms s ∙ ap (λ b. (if b then t.weight else 0) + weight_in terms s) parts.0 ∙ ap (λ n. 0 + n) (weight-absent s terms parts.1)

without-absent : (s : SourcePoint) (terms : List Term) → has_source terms s ≡ false → without s terms ≡ terms
without-absent s [] h = refl
without-absent s (t ∷ terms) h =
    let parts = or_parts (same_source s t.source) (has_source terms s) h in
    ap (λ b. cond (not b) (t ∷ without s terms) (without s terms)) parts.0 ∙ ap (λ l. t ∷ l) (without-absent s terms parts.1)

has-kept : (p : Term → Bool) (s : SourcePoint) (terms : List Term) → has_source terms s ≡ false → has_source (filter p terms) s ≡ false
has-kept p s [] h = refl
has-kept p s (t ∷ terms) h =
    let parts = or_parts (same_source s t.source) (has_source terms s) h in
    let rest = has-kept p s terms parts.1 in
    cond_both (p t) (t ∷ filter p terms) (filter p terms) (λ l. has_source l s ≡ false) (λ _. or_from _ _ parts.0 rest) (λ _. rest)

pub distinct-kept : (p : Term → Bool) (terms : List Term) → has_distinct_sources terms ≡ true
    → has_distinct_sources (filter p terms) ≡ true
distinct-kept p [] h = refl
distinct-kept p (t ∷ terms) h =
    let parts = and_parts (not (has_source terms t.source)) (has_distinct_sources terms) h in
    let rest = distinct-kept p terms parts.1 in
    cond_both (p t) (t ∷ filter p terms) (filter p terms) (λ l. has_distinct_sources l ≡ true)
    (λ _. and_from _ _ (ap not (has-kept p t.source terms (not-true _ parts.0))) rest) (λ _. rest)

-- the one term of a source, and all others
taken-first : (t : Term) (terms : List Term) → has_source terms t.source ≡ false
    → t ∷ terms ≡ weigh (weight_in (t ∷ terms) t.source) t.source ∷ without t.source (t ∷ terms)
taken-first t terms h =
    let weight : weight_in (t ∷ terms) t.source ≡ t.weight =
    omega (arith, weight_in-cons t terms t.source, weight_of-own t, weight-absent t.source terms h) in
    let gone : without t.source (t ∷ terms) ≡ terms =
    ap (λ b. cond (not b) (t ∷ without t.source terms) (without t.source terms)) (source-refl t.source) ∙ without-absent t.source terms h in
    sym (ap (λ n. weigh n t.source ∷ without t.source (t ∷ terms)) weight ∙ ap (λ l. t ∷ l) gone)

taken-out : (s : SourcePoint) (terms : List Term) → has_distinct_sources terms ≡ true → has_source terms s ≡ true
    → IsPermutation terms (weigh (weight_in terms s) s ∷ without s terms)
taken-out s [] d h = cc
taken-out s (t ∷ terms) d h =
    let parts = and_parts (not (has_source terms t.source)) (has_distinct_sources terms) d in
    either (same_source s t.source) refl (not-true _ parts.0) h (taken-out s terms parts.1)
  where
    whole : IsPermutation (t ∷ terms) (weigh (weight_in terms s) s ∷ t ∷ without s terms) → same_source s t.source ≡ false
        → IsPermutation (t ∷ terms) (weigh (weight_in (t ∷ terms) s) s ∷ without s (t ∷ terms))
    whole p e =
        let weight : weight_in terms s ≡ weight_in (t ∷ terms) s =
        sym (weight_in-cons t terms s ∙ ap (λ b. (if b then t.weight else 0) + weight_in terms s) e ∙ omega arith) in
        let kept : t ∷ without s terms ≡ without s (t ∷ terms) = sym (ap (λ b. cond (not b) (t ∷ without s terms) (without s terms)) e) in
        subst (λ l. IsPermutation (t ∷ terms) (weigh (weight_in (t ∷ terms) s) s ∷ l)) kept
        (subst (λ n. IsPermutation (t ∷ terms) (weigh n s ∷ t ∷ without s terms)) weight p)

    either : (b : Bool) → same_source s t.source ≡ b → has_source terms t.source ≡ false → (b || has_source terms s) ≡ true
        → (has_source terms s ≡ true → IsPermutation terms (weigh (weight_in terms s) s ∷ without s terms))
        → IsPermutation (t ∷ terms) (weigh (weight_in (t ∷ terms) s) s ∷ without s (t ∷ terms))
    either true e none found rest =
        subst (λ u. IsPermutation (t ∷ terms) (weigh (weight_in (t ∷ terms) u) u ∷ without u (t ∷ terms))) (sym (source-eq s t.source e))
        (subst (IsPermutation (t ∷ terms)) (taken-first t terms none) (IsPermutation-refl (t ∷ terms)))
    either false e none found rest =
        whole (IsPermutation-trans _ _ _ (IsPermutation-cons t _ _ (rest found)) (first-two t (weigh (weight_in terms s) s) (without s terms))) e

abbrev are_positive : List Term → Bool
are_positive terms = list_all (λ t. nat_lt 0 t.weight) terms

-- a weight above 0 is there
found : (s : SourcePoint) (terms : List Term) → 0 < weight_in terms s → has_source terms s ≡ true
found s terms h = either (has_source terms s) refl
  where
    either : (b : Bool) → has_source terms s ≡ b → b ≡ true
    either true e = refl
    either false e = absurd (omega (arith, weight-absent s terms e))

permuted-terms : (xs ys : List Term) → has_distinct_sources xs ≡ true → are_positive xs ≡ true → has_distinct_sources ys ≡ true
    → are_positive ys ≡ true → ((source : SourcePoint) → weight_in xs source ≡ weight_in ys source) → IsPermutation xs ys
permuted-terms [] [] d p e q h = IsPermutation-refl []
permuted-terms [] (t ∷ ys) d p e q h =
    let above : 0 < t.weight = ltb-true 0 t.weight (and_parts (nat_lt 0 t.weight) (are_positive ys) q).0 in
    absurd (omega (arith, weight_in-cons t ys t.source, weight_of-own t, h t.source))
permuted-terms (t ∷ xs) ys d p e q h =
    let s = t.source in
    let once = and_parts (not (has_source xs s)) (has_distinct_sources xs) d in
    let positive = and_parts (nat_lt 0 t.weight) (are_positive xs) p in
    let none = not-true (has_source xs s) once.0 in
    let above : 0 < t.weight = ltb-true 0 t.weight positive.0 in
    let weight : weight_in ys s ≡ t.weight = omega (arith, h s, weight_in-cons t xs s, weight_of-own t, weight-absent s xs none) in
    let removed : without s (t ∷ xs) ≡ xs = ap (λ b. cond (not b) (t ∷ without s xs) (without s xs)) (source-refl s) ∙ without-absent s xs none in
    let out = taken-out s ys e (found s ys (omega arith)) in
    let there : IsPermutation ys (t ∷ without s ys) = subst (λ n. IsPermutation ys (weigh n s ∷ without s ys)) weight out in
    let rest =
    permuted-terms xs (without s ys) once.1 positive.1 (distinct-kept (λ u. not (same_source s u.source)) ys e)
    (all-kept (λ u. not (same_source s u.source)) (λ u. nat_lt 0 u.weight) ys q)
    (λ source. ap (λ l. weight_in l source) (sym removed) ∙ weight-without s (t ∷ xs) source
    ∙ ap (λ n. if same_source s source then 0 else n) (h source) ∙ sym (weight-without s ys source)) in
    IsPermutation-trans _ _ _ (IsPermutation-cons t xs (without s ys) rest) (IsPermutation-sym ys (t ∷ without s ys) there)

pub same_weights-permuted : (m n : Mask) → is_joined m ≡ true → is_joined n ≡ true → HaveSameWeights m n → IsPermutation m.terms n.terms
same_weights-permuted m n h k same =
    let first = and_parts (has_distinct_sources m.terms) (are_positive m.terms) h in
    let second = and_parts (has_distinct_sources n.terms) (are_positive n.terms) k in
    permuted-terms m.terms n.terms first.0 first.1 second.0 second.1 same.weights
