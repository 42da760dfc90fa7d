-- The denominators of the sources that terms name, and the marks of the faces.
use Rattle.std.proofs.Common.{◌≡◌, ℕ, ◌+◌, ◌<◌, ◌≤◌, Bool, true, false, ◌||◌, List, [], ◌∷◌, ◌++◌, length, map, take, get_or, refl, ap, sym, ◌∙◌, subst}
use Rattle.std.specs.List.{All, AllByRecursion, fold}
use Rattle.std.proofs.lemmas.List.{take_more, length-map, get_or-map}
use Rattle.std.proofs.lemmas.List.Elements.{recursion_from_All}
use Rattle.std.proofs.lemmas.List.Folds.{list_any-append}
use Rattle.subdiv_model.specs.Mask.{SourcePoint, OfFace, has_source, same_source}
use Rattle.subdiv_model.specs.Mask as model
use Rattle.subdiv_model.specs.Multiples.{lcm_of, lcm_of_all}
use Rattle.number_laws.proofs.MultipleLemmas.{lcm_of_all-positive}
use Rattle.mask_rules.specs.declared.mask.Term.{Term}
use Rattle.mask_rules.specs.View.{source_of, term_of, terms_of}
use Rattle.child_masks.specs.Survey.{within_bound}
use Rattle.child_masks.specs.Found.{IsAmong, IsFaceAmong, HaveDenominators, AreMarked}
use Rattle.child_masks.proofs.FoldLemmas.{ArePositive, joined-more, joined-all}

-- the denominators of the sources of the code's terms
abbrev dens_named : (SourcePoint → ℕ) → List Term → List ℕ
dens_named denominator terms = map (λ t. denominator t.source) (terms_of terms)

-- there is one denominator for each term
length-named : (denominator : SourcePoint → ℕ) (terms : List Term) → length (dens_named denominator terms) ≡ length terms
length-named denominator terms = length-map (terms_of terms) (λ (t : model.Term). denominator t.source) ∙ length-map terms term_of

-- at its place
named-at : (denominator : SourcePoint → ℕ) (terms : List Term) (i : ℕ) (d : Term) → i < length terms
    → get_or (dens_named denominator terms) i 1 ≡ denominator (source_of (get_or terms i d).at)
named-at denominator terms i d inside =
    get_or-map (λ (t : model.Term). denominator t.source) (terms_of terms) i (term_of d) 1 (subst (λ n. i < n) (sym (length-map terms term_of)) inside)
    ∙ ap (λ (t : model.Term). denominator t.source) (get_or-map term_of terms i d (term_of d) inside)

module _ (denominator : SourcePoint → ℕ) (dens faces : List ℕ) (dens_are : HaveDenominators denominator dens faces) where
  -- the denominators of the terms are above 0
  named-positive : (terms : List Term) → AllByRecursion (λ t. IsAmong (length dens) (length faces) (source_of t.at)) terms → ArePositive (dens_named denominator terms)
  named-positive [] h = tt
  named-positive (t ∷ terms) h = (dens_are.positive (source_of t.at) h.0, named-positive terms h.1)

  -- the denominators of terms are above 0, from a claim for each place
  positive-named : (terms : List Term) → All (λ t. IsAmong (length dens) (length faces) (source_of t.at)) terms → ArePositive (dens_named denominator terms)
  positive-named terms h = named-positive terms (recursion_from_All (λ (t : Term). IsAmong (length dens) (length faces) (source_of t.at)) terms h)

  -- the least common multiple with one term more
  pub multiple-more : (terms : List Term) (i m c r : ℕ) (d : Term) → All (λ t. IsAmong (length dens) (length faces) (source_of t.at)) terms → i < length terms
      → m ≡ within_bound (fold lcm_of 1 (take i (dens_named denominator terms))) → c ≡ within_bound (denominator (source_of (get_or terms i d).at))
      → ((a b : ℕ) → 0 < a → 0 < b → m ≡ within_bound a → c ≡ within_bound b → r ≡ within_bound (lcm_of a b))
      → r ≡ within_bound (fold lcm_of 1 (take (i + 1) (dens_named denominator terms)))
  multiple-more terms i m c r d among inside h k joined =
      joined-more (dens_named denominator terms) i m c r (positive-named terms among) (subst (λ n. i < n) (sym (length-named denominator terms)) inside) h
      (k ∙ ap within_bound (sym (named-at denominator terms i d inside))) joined

  -- the least common multiple over all terms
  pub multiple-all : (terms : List Term) (i m : ℕ) → All (λ t. IsAmong (length dens) (length faces) (source_of t.at)) terms → length terms ≤ i
      → m ≡ within_bound (fold lcm_of 1 (take i (dens_named denominator terms))) → m ≡ within_bound (lcm_of_all (dens_named denominator terms))
  multiple-all terms i m among past h =
      joined-all (dens_named denominator terms) i m (positive-named terms among) (subst (λ n. n ≤ i) (sym (length-named denominator terms)) past) h

  -- the least common multiple over all terms is above 0
  pub multiple-positive : (terms : List Term) → All (λ t. IsAmong (length dens) (length faces) (source_of t.at)) terms → 0 < lcm_of_all (dens_named denominator terms)
  multiple-positive terms among = lcm_of_all-positive (dens_named denominator terms) (positive-named terms among)

-- terms after terms
pub marked-after : (old some new : List Bool) (xs ys : List model.Term) → AreMarked old xs some → AreMarked some ys new → AreMarked old (xs ++ ys) new
marked-after old some new xs ys h k = record {
  count = k.count ∙ h.count;
  each = λ f inside.
      let here = h.each f inside in
      let there = k.each f (subst (λ n. f < n) (sym h.count) inside) in
      let both = list_any-append (λ (t : model.Term). same_source (OfFace f) t.source) xs ys in
      there ∙ ap (λ b. b || has_source ys (OfFace f)) here ∙ third (get_or old f false) (has_source xs (OfFace f)) (has_source ys (OfFace f))
      ∙ ap (λ b. get_or old f false || b) (sym both);
}
  where
    third : (a b c : Bool) → ((a || b) || c) ≡ (a || (b || c))
    third true b c = refl
    third false b c = refl

-- one term more
pub marked-more : (old some new : List Bool) (terms : List Term) (i : ℕ) (d : Term) → i < length terms → AreMarked old (take i (terms_of terms)) some
    → AreMarked some (term_of (get_or terms i d) ∷ []) new → AreMarked old (take (i + 1) (terms_of terms)) new
marked-more old some new terms i d inside h k =
    let below = subst (λ n. i < n) (sym (length-map terms term_of)) inside in
    let next = take_more (terms_of terms) i (term_of d) below ∙ ap (λ t. take i (terms_of terms) ++ t ∷ []) (get_or-map term_of terms i d (term_of d) inside) in
    subst (λ xs. AreMarked old xs new) (sym next) (marked-after old some new (take i (terms_of terms)) (term_of (get_or terms i d) ∷ []) h k)

-- equally many faces
pub among-same : (m n : ℕ) (source : SourcePoint) → m ≡ n → IsFaceAmong n source → IsFaceAmong m source
among-same m n source e h = subst (λ k. IsFaceAmong k source) (sym e) h
