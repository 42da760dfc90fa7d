-- What the weights of the sources decide: every weighted sum, and the terms themselves up to their order.
use Rattle.std.proofs.Common.{◌≡◌, ℕ, zero, suc, ◌+◌, ◌*◌, ◌≤◌, Bool, true, false, not, cond, if◌then◌else◌, List, [], ◌∷◌, length, arith, refl, ap, sym, ◌∙◌}
use Rattle.std.specs.List.{filter, sum_by}
use Rattle.std.proofs.lemmas.Bool.{cond_both}
use Rattle.std.proofs.lemmas.Bool.Decides.{nat_tests}
use Rattle.std.proofs.lemmas.List.Sums.{sum_by-cons}
use Rattle.subdiv_model.specs.Mask.{SourcePoint, Term, Mask, same_source, weight_in, total_weight}
use Rattle.sharpness_laws.specs.SameWeights.{HaveSameWeights}
use Rattle.sharpness_laws.proofs.JoinedWeightLemmas.{source-refl, source-eq, source-sym, source-trans, weight_of, weight_in-cons}

-- the terms of all other sources
abbrev pub without : SourcePoint → List Term → List Term
without s terms = filter (λ t. not (same_source s t.source)) terms

pub weight_of-own : (t : Term) → weight_of t t.source ≡ t.weight
weight_of-own t = ap (λ b. if b then t.weight else 0) (source-refl t.source)

pub weight-without : (s : SourcePoint) (terms : List Term) (source : SourcePoint)
    → weight_in (without s terms) source ≡ (if same_source s source then 0 else weight_in terms source)
weight-without s [] source = grind (arith, nat_tests)
weight-without s (t ∷ terms) source =
    grind (
      arith,
      nat_tests,
      weight-without s terms source,
      weight_in-cons t terms source,
      weight_in-cons t (without s terms) source,
      source-trans s t.source source,
      source-trans s source t.source,
      source-sym t.source source,
    )

length-without : (s : SourcePoint) (terms : List Term) → length (without s terms) ≤ length terms
length-without s [] = omega arith
length-without s (t ∷ terms) =
    cond_both (not (same_source s t.source)) (t ∷ without s terms) (without s terms) (λ l. length l ≤ suc (length terms))
    (λ _. let short = length-without s terms in omega arith) (λ _. let short = length-without s terms in omega arith)

-- without its own source a term is gone
shorter-without : (t : Term) (terms : List Term) → length (without t.source (t ∷ terms)) ≤ length terms
shorter-without t terms =
    let gone = ap (λ b. length (cond (not b) (t ∷ without t.source terms) (without t.source terms))) (source-refl t.source) in
    let short = length-without t.source terms in omega arith

module _ (f : SourcePoint → ℕ) where
  abbrev weighted_sum : List Term → ℕ
  weighted_sum terms = sum_by (λ t. t.weight * f t.source) terms

  weighted-cons : (t : Term) (terms : List Term) → weighted_sum (t ∷ terms) ≡ t.weight * f t.source + weighted_sum terms
  weighted-cons t terms = sum_by-cons (λ (u : Term). u.weight * f u.source) t terms

  -- the sum over one source, and over all others
  weighted-split : (s : SourcePoint) (terms : List Term) → weighted_sum terms ≡ weight_in terms s * f s + weighted_sum (without s terms)
  weighted-split s [] = omega arith
  weighted-split s (t ∷ terms) =
      weighted-cons t terms ∙ either (same_source s t.source) refl (weighted-split s terms)
      ∙ ap (λ n. n * f s + weighted_sum (without s (t ∷ terms))) (sym (weight_in-cons t terms s))
    where
      either : (b : Bool) → same_source s t.source ≡ b → weighted_sum terms ≡ weight_in terms s * f s + weighted_sum (without s terms)
          → t.weight * f t.source + weighted_sum terms
          ≡ ((if b then t.weight else 0) + weight_in terms s) * f s + weighted_sum (cond (not b) (t ∷ without s terms) (without s terms))
      either true e h =
          let own : t.weight * f t.source ≡ t.weight * f s = ap (λ u. t.weight * f u) (sym (source-eq s t.source e)) in omega (arith, own, h)
      either false e h = omega (arith, weighted-cons t (without s terms), h)

  weighted-none : (terms : List Term) → ((source : SourcePoint) → weight_in terms source ≡ 0) → weighted_sum terms ≡ 0
  weighted-none [] h = refl
  weighted-none (t ∷ terms) h =
      let none : t.weight ≡ 0 = omega (arith, weight_of-own t, weight_in-cons t terms t.source, h t.source) in
      let own : t.weight * f t.source ≡ 0 = ap (λ n. n * f t.source) none ∙ omega arith in
      let rest = weighted-none terms (λ source. omega (arith, weight_in-cons t terms source, h source)) in
      omega (arith, weighted-cons t terms, own, rest)

  weighted-same : (n : ℕ) (xs ys : List Term) → length xs ≤ n → ((source : SourcePoint) → weight_in xs source ≡ weight_in ys source)
      → weighted_sum xs ≡ weighted_sum ys
  weighted-same n [] ys short h = sym (weighted-none ys (λ source. sym (h source)))
  weighted-same zero (t ∷ xs) ys short h = absurd (omega arith)
  weighted-same (suc n) (t ∷ xs) ys short h =
      let s = t.source in
      let gone = shorter-without t xs in
      let rest =
      weighted-same n (without s (t ∷ xs)) (without s ys) (omega arith)
      (λ source. weight-without s (t ∷ xs) source ∙ ap (λ w. if same_source s source then 0 else w) (h source)
      ∙ sym (weight-without s ys source)) in
      weighted-split s (t ∷ xs) ∙ ap (λ w. w * f s + weighted_sum (without s (t ∷ xs))) (h s) ∙ ap (λ n. weight_in ys s * f s + n) rest
      ∙ sym (weighted-split s ys)

  pub same-sum : (m n : Mask) → HaveSameWeights m n → weighted_sum m.terms ≡ weighted_sum n.terms
  same-sum m n h = weighted-same (length m.terms) m.terms n.terms (omega arith) h.weights

total-once : (terms : List Term) → total_weight terms ≡ weighted_sum (λ s. 1) terms
total-once [] = refl
total-once (t ∷ terms) = omega (arith, sum_by-cons (λ (u : Term). u.weight) t terms, weighted-cons (λ s. 1) t terms, total-once terms)

pub same-total : (m n : Mask) → HaveSameWeights m n → total_weight m.terms ≡ total_weight n.terms
same-total m n h = total-once m.terms ∙ same-sum (λ s. 1) m n h ∙ sym (total-once n.terms)
