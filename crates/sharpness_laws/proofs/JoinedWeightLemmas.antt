-- The weight of a source in the terms of a mask: joining terms keeps it, and so does every order of the terms.
use Rattle.std.proofs.Common.{◌≡◌, ℕ, ◌+◌, ◌*◌, Bool, true, false, not, nat_lt, if◌then◌else◌, cond, List, [], ◌∷◌, ◌++◌, map, arith, refl, ap, sym, ◌∙◌}
use Rattle.std.specs.List.{filter, list_any, sum_by}
use Rattle.std.specs.List.Sorted.{IsPermutation}
use Rattle.std.proofs.lemmas.Bool.{eq-eqb, eqb-true}
use Rattle.std.proofs.lemmas.Bool.Decides.{nat_tests}
use Rattle.std.proofs.lemmas.List.Elements.{filter-append}
use Rattle.std.proofs.lemmas.List.Sums.{sum_by-cons, sum_by-append}
use Rattle.std.proofs.lemmas.List.Sorted.{sum_by-IsPermutation}
use Rattle.subdiv_model.specs.Mask.{SourcePoint, OfPoint, OfFace, Term, weigh, same_source, weight_in, each_once, joined_terms, scaled_terms, mask_of}
use Rattle.sharpness_laws.proofs.PermutationLemmas.{IsPermutation-filter}

pub source-refl : (s : SourcePoint) → same_source s s ≡ true
source-refl (OfPoint v) = eq-eqb v v refl
source-refl (OfFace f) = eq-eqb f f refl

pub source-eq : (s t : SourcePoint) → same_source s t ≡ true → s ≡ t
source-eq (OfPoint v) (OfPoint w) h = ap OfPoint (eqb-true v w h)
source-eq (OfPoint v) (OfFace g) h = cc
source-eq (OfFace f) (OfPoint w) h = cc
source-eq (OfFace f) (OfFace g) h = ap OfFace (eqb-true f g h)

pub source-sym : (s t : SourcePoint) → same_source s t ≡ same_source t s
source-sym (OfPoint v) (OfPoint w) = grind (arith, nat_tests)
source-sym (OfPoint v) (OfFace g) = refl
source-sym (OfFace f) (OfPoint w) = refl
source-sym (OfFace f) (OfFace g) = grind (arith, nat_tests)

pub source-trans : (s t u : SourcePoint) → same_source s t ≡ true → same_source s u ≡ same_source t u
source-trans s t u h = ap (λ x. same_source x u) (source-eq s t h)

source-swap : (s t u : SourcePoint) → same_source s t ≡ true → same_source u s ≡ same_source u t
source-swap s t u h = ap (same_source u) (source-eq s t h)

same-weight : (f : SourcePoint → ℕ) (s t : SourcePoint) → same_source s t ≡ true → f s ≡ f t
same-weight f s t h = ap f (source-eq s t h)

-- what one term gives a source
abbrev pub weight_of : Term → SourcePoint → ℕ
weight_of t source = if same_source source t.source then t.weight else 0

pub weight_in-cons : (t : Term) (terms : List Term) (source : SourcePoint)
    → weight_in (t ∷ terms) source ≡ weight_of t source + weight_in terms source
weight_in-cons t terms source = either (same_source source t.source)
  where
    kept : List Term
    kept = filter (λ u. same_source source u.source) terms

    either : (b : Bool)
        → sum_by (λ (u : Term). u.weight) (cond b (t ∷ kept) kept) ≡ (if b then t.weight else 0) + sum_by (λ (u : Term). u.weight) kept
    either true = sum_by-cons (λ (u : Term). u.weight) t kept
    either false = omega arith

pub weight_in-append : (xs ys : List Term) (source : SourcePoint)
    → weight_in (xs ++ ys) source ≡ weight_in xs source + weight_in ys source
weight_in-append xs ys source =
    let test : Term → Bool = λ t. same_source source t.source in
    ap (sum_by (λ (t : Term). t.weight)) (filter-append test xs ys) ∙ sum_by-append (λ (t : Term). t.weight) (filter test xs) (filter test ys)

pub weight_in-scaled : (amount : ℕ) (terms : List Term) (source : SourcePoint)
    → weight_in (scaled_terms amount terms) source ≡ amount * weight_in terms source
weight_in-scaled amount [] source = omega arith
weight_in-scaled amount (t ∷ terms) source =
    weight_in-cons (weigh (amount * t.weight) t.source) (scaled_terms amount terms) source
    ∙ ap (λ n. weight_of (weigh (amount * t.weight) t.source) source + n) (weight_in-scaled amount terms source)
    ∙ either (same_source source t.source)
    ∙ ap (λ n. amount * n) (sym (weight_in-cons t terms source))
  where
    either : (b : Bool)
        → (if b then amount * t.weight else 0) + amount * weight_in terms source
        ≡ amount * ((if b then t.weight else 0) + weight_in terms source)
    either true = omega arith
    either false = omega arith

pub weight_in-permuted : (xs ys : List Term) (source : SourcePoint) → IsPermutation xs ys → weight_in xs source ≡ weight_in ys source
weight_in-permuted xs ys source h =
    let test : Term → Bool = λ t. same_source source t.source in
    sym (sum_by-IsPermutation (λ (t : Term). t.weight) (filter test xs) (filter test ys) (IsPermutation-filter test xs ys h))

-- a weight of 0 gives nothing
weight_in-kept : (terms : List Term) (source : SourcePoint)
    → weight_in (filter (λ t. nat_lt 0 t.weight) terms) source ≡ weight_in terms source
weight_in-kept [] source = refl
weight_in-kept (t ∷ terms) source =
    grind (
      arith,
      nat_tests,
      weight_in-kept terms source,
      weight_in-cons t terms source,
      weight_in-cons t (filter (λ u. nat_lt 0 u.weight) terms) source,
    )

-- each source of a list with one weight
abbrev pub weighed : (SourcePoint → ℕ) → List SourcePoint → List Term
weighed f sources = map (λ s. weigh (f s) s) sources

-- without one source, every other source keeps its weight
weighed-without : (f : SourcePoint → ℕ) (s : SourcePoint) (sources : List SourcePoint) (source : SourcePoint)
    → weight_in (weighed f (filter (λ u. not (same_source s u)) sources)) source
    ≡ (if same_source source s then 0 else weight_in (weighed f sources) source)
weighed-without f s [] source = grind (arith, nat_tests)
weighed-without f s (u ∷ sources) source =
    grind (
      arith,
      nat_tests,
      weighed-without f s sources source,
      weight_in-cons (weigh (f u) u) (weighed f sources) source,
      weight_in-cons (weigh (f u) u) (weighed f (filter (λ x. not (same_source s x)) sources)) source,
      source-trans source s u,
      source-swap s u source,
    )

weighed-once : (f : SourcePoint → ℕ) (sources : List SourcePoint) (source : SourcePoint)
    → weight_in (weighed f (each_once sources)) source ≡ (if list_any (same_source source) sources then f source else 0)
weighed-once f [] source = refl
weighed-once f (s ∷ sources) source =
    grind (
      arith,
      nat_tests,
      weighed-once f sources source,
      weighed-without f s (each_once sources) source,
      weight_in-cons (weigh (f s) s) (weighed f (filter (λ x. not (same_source s x)) (each_once sources))) source,
      same-weight f source s,
    )

weight_in-none : (terms : List Term) (source : SourcePoint) → list_any (same_source source) (map (λ t. t.source) terms) ≡ false
    → weight_in terms source ≡ 0
weight_in-none [] source h = refl
weight_in-none (t ∷ terms) source h = grind (arith, nat_tests, weight_in-none terms source, weight_in-cons t terms source)

pub weight_in-joined : (terms : List Term) (source : SourcePoint) → weight_in (joined_terms terms) source ≡ weight_in terms source
weight_in-joined terms source =
    weighed-once (weight_in terms) (map (λ t. t.source) terms) source ∙ either (list_any (same_source source) (map (λ t. t.source) terms)) refl
  where
    either : (b : Bool) → list_any (same_source source) (map (λ t. t.source) terms) ≡ b
        → (if b then weight_in terms source else 0) ≡ weight_in terms source
    either true e = refl
    either false e = sym (weight_in-none terms source e)

pub weight_in-mask_of : (terms : List Term) (denominator : ℕ) (source : SourcePoint)
    → weight_in (mask_of terms denominator).terms source ≡ weight_in terms source
weight_in-mask_of terms denominator source = weight_in-kept (joined_terms terms) source ∙ weight_in-joined terms source
