-- Numbers of a list that are reached from one number, step by step.
use Rattle.std.proofs.Common.{◌≡◌, ℕ, zero, suc, ◌+◌, ◌<◌, ◌≤◌, Bool, true, false, ◌&&◌, nat_eq, List, [], ◌∷◌, length, arith, refl, ap, sym, ◌∙◌, subst, ◌⊎◌, inl, inr}
use Rattle.std.specs.List.{filter, list_any}
use Rattle.std.proofs.lemmas.Bool.Decides.{nat_tests}
use Rattle.std.proofs.lemmas.Bool.{and_parts, and_from, or_left, or_cases, eqb-true, eq-eqb}
use Rattle.std.proofs.lemmas.List.Elements.{filter_agree}
use Rattle.subdiv_model.specs.Polygons.{is_among}
use Rattle.mesh_laws.proofs.FanLemmas.{any-number, number-any}

pub among-filter : (keep : ℕ → Bool) (n : ℕ) (xs : List ℕ) → is_among (filter keep xs) n ≡ (keep n && is_among xs n)
among-filter keep n [] = grind (arith, nat_tests)
among-filter keep n (x ∷ xs) = here (nat_eq n x) refl (keep x) refl (among-filter keep n xs)
  where
    here : (same : Bool) → nat_eq n x ≡ same → (kept : Bool) → keep x ≡ kept → is_among (filter keep xs) n ≡ (keep n && is_among xs n) → is_among (filter keep (x ∷ xs)) n ≡ (keep n && is_among (x ∷ xs) n)
    here true e kept k behind = let alike : keep n ≡ keep x = ap keep (eqb-true n x e) in grind (arith, nat_tests)
    here false e kept k behind = grind (arith, nat_tests)

pub same-any : (p : ℕ → Bool) (xs ys : List ℕ) → ((n : ℕ) → is_among xs n ≡ true → is_among ys n ≡ true) → list_any p xs ≡ true → list_any p ys ≡ true
same-any p xs ys within h = let found = any-number p xs h in number-any p ys found.0 found.1 (within found.0 found.2)

pub same-tests : (a b : Bool) → (a ≡ true → b ≡ true) → (b ≡ true → a ≡ true) → a ≡ b
same-tests true b f g = sym (f refl)
same-tests false true f g = g refl
same-tests false false f g = refl

-- a filter that keeps no less keeps the same, or more
pub filter-more : (p q : ℕ → Bool) → ((n : ℕ) → p n ≡ true → q n ≡ true) → (xs : List ℕ) → (filter p xs ≡ filter q xs) ⊎ (length (filter p xs) < length (filter q xs))
filter-more p q weaker [] = inl refl
filter-more p q weaker (x ∷ xs) = here (p x) refl (q x) refl (filter-more p q weaker xs)
  where
    here : (a : Bool) → p x ≡ a → (b : Bool) → q x ≡ b → (filter p xs ≡ filter q xs) ⊎ (length (filter p xs) < length (filter q xs)) → (filter p (x ∷ xs) ≡ filter q (x ∷ xs)) ⊎ (length (filter p (x ∷ xs)) < length (filter q (x ∷ xs)))
    here true e true k (inl same) = inl (rw (e, k) (ap (λ (ys : List ℕ). x ∷ ys) same))
    here true e true k (inr more) = inr (rw (e, k) (omega arith))
    here true e false k behind = let h = weaker x e in absurd (cc)
    here false e true k (inl same) = let alike = ap length same in inr (rw (e, k) (omega arith))
    here false e true k (inr more) = inr (rw (e, k) (omega arith))
    here false e false k (inl same) = inl (rw (e, k) same)
    here false e false k (inr more) = inr (rw (e, k) more)

filter-le : (p : ℕ → Bool) (xs : List ℕ) → length (filter p xs) ≤ length xs
filter-le p [] = omega arith
filter-le p (x ∷ xs) = here (p x) refl (filter-le p xs)
  where
    here : (b : Bool) → p x ≡ b → length (filter p xs) ≤ length xs → length (filter p (x ∷ xs)) ≤ length (x ∷ xs)
    here true e behind = rw e (omega arith)
    here false e behind = rw e (omega arith)

pub among-some : (n : ℕ) (xs : List ℕ) → is_among xs n ≡ true → 0 < length xs
among-some n [] h = absurd (cc)
among-some n (x ∷ xs) h = omega arith

module _ (near : ℕ → ℕ → Bool) (faces : List ℕ) where
  abbrev pub next_reached : List ℕ → List ℕ
  next_reached reached = filter (λ g. list_any (λ f. near f g) reached) faces

  abbrev pub reached_in : ℕ → List ℕ → List ℕ
  reached_in zero reached = reached
  reached_in (suc steps) reached = reached_in steps (next_reached reached)

  abbrev pub IsWithin : List ℕ → List ℕ → Type 0
  IsWithin xs ys = (n : ℕ) → is_among xs n ≡ true → is_among ys n ≡ true

  -- the faces joined after as many steps as faces
  abbrev pub joined_with : ℕ → List ℕ
  joined_with face = reached_in (length faces) (face ∷ [])

  next-parts : (reached : List ℕ) (g : ℕ) → is_among (next_reached reached) g ≡ true → (list_any (λ f. near f g) reached ≡ true) × (is_among faces g ≡ true)
  next-parts reached g h = and_parts (list_any (λ f. near f g) reached) (is_among faces g) (sym (among-filter (λ m. list_any (λ f. near f m) reached) g faces) ∙ h)

  next-from : (reached : List ℕ) (f g : ℕ) → near f g ≡ true → is_among reached f ≡ true → is_among faces g ≡ true → is_among (next_reached reached) g ≡ true
  next-from reached f g h there inside = among-filter (λ m. list_any (λ k. near k m) reached) g faces ∙ and_from _ _ (number-any (λ k. near k g) reached f h there) inside

  next-within : (reached : List ℕ) → IsWithin (next_reached reached) faces
  next-within reached n h = (next-parts reached n h).1

  -- a property of the first that passes from near to near holds of all that is reached
  pub reached-least : (S : ℕ → Type 0) → ((f g : ℕ) → near f g ≡ true → is_among faces g ≡ true → S f → S g) → (steps : ℕ) (reached : List ℕ) → ((n : ℕ) → is_among reached n ≡ true → S n) → (n : ℕ) → is_among (reached_in steps reached) n ≡ true → S n
  reached-least S closed zero reached first n h = first n h
  reached-least S closed (suc steps) reached first n h =
      reached-least S closed steps (next_reached reached) (λ g k.
      let parts = next-parts reached g k in
      let found = any-number (λ f. near f g) reached parts.0 in
      closed found.0 g found.1 parts.1 (first found.0 found.2)) n h

  reached-stays : (steps : ℕ) (reached : List ℕ) → next_reached reached ≡ reached → reached_in steps reached ≡ reached
  reached-stays zero reached e = refl
  reached-stays (suc steps) reached e = ap (reached_in steps) e ∙ reached-stays steps reached e

  module _ (itself : (f : ℕ) → near f f ≡ true) where
    next-has : (reached : List ℕ) → IsWithin reached faces → IsWithin reached (next_reached reached)
    next-has reached inside n h = next-from reached n n (itself n) h (inside n h)

    next-grows : (reached : List ℕ) → IsWithin reached faces → (next_reached reached ≡ next_reached (next_reached reached)) ⊎ (length (next_reached reached) < length (next_reached (next_reached reached)))
    next-grows reached inside = filter-more (λ g. list_any (λ f. near f g) reached) (λ g. list_any (λ f. near f g) (next_reached reached)) (λ g h. same-any (λ f. near f g) reached (next_reached reached) (next-has reached inside) h) faces

    reached-has : (steps : ℕ) (reached : List ℕ) → IsWithin reached faces → IsWithin reached (reached_in steps reached)
    reached-has zero reached inside n h = h
    reached-has (suc steps) reached inside n h = reached-has steps (next_reached reached) (next-within reached) n (next-has reached inside n h)

    -- as many steps as faces are enough, because each step that changes something adds a face
    reached-stable : (steps : ℕ) (reached : List ℕ) → IsWithin reached faces → length faces < steps + length (next_reached reached) → next_reached (reached_in steps reached) ≡ reached_in steps reached
    reached-stable zero reached inside enough = let most = filter-le (λ g. list_any (λ f. near f g) reached) faces in absurd (omega arith)
    reached-stable (suc steps) reached inside enough = here (next-grows reached inside) (λ k. reached-stable steps (next_reached reached) (next-within reached) k)
      where
        here : (next_reached reached ≡ next_reached (next_reached reached)) ⊎ (length (next_reached reached) < length (next_reached (next_reached reached))) → (length faces < steps + length (next_reached (next_reached reached)) → next_reached (reached_in steps (next_reached reached)) ≡ reached_in steps (next_reached reached)) → next_reached (reached_in steps (next_reached reached)) ≡ reached_in steps (next_reached reached)
        here (inl same) behind = let stays = reached-stays steps (next_reached reached) (sym same) in ap next_reached stays ∙ sym same ∙ sym stays
        here (inr more) behind = behind (omega arith)

    single-within : (face : ℕ) → is_among faces face ≡ true → IsWithin (face ∷ []) faces
    single-within face inside n h = here (or_cases (nat_eq n face) false h)
      where
        here : (nat_eq n face ≡ true) ⊎ (false ≡ true) → is_among faces n ≡ true
        here (inl same) = ap (is_among faces) (eqb-true n face same) ∙ inside
        here (inr none) = absurd (cc)

    pub joined-itself : (face : ℕ) → is_among faces face ≡ true → is_among (joined_with face) face ≡ true
    joined-itself face inside = reached-has (length faces) (face ∷ []) (single-within face inside) face (or_left _ _ (eq-eqb face face refl))

    pub joined-stable : (face : ℕ) → is_among faces face ≡ true → next_reached (joined_with face) ≡ joined_with face
    joined-stable face inside =
        let within = single-within face inside in
        let some = among-some face (next_reached (face ∷ [])) (next-has (face ∷ []) within face (or_left _ _ (eq-eqb face face refl))) in
        reached-stable (length faces) (face ∷ []) within (omega arith)

    pub joined-within : (face f : ℕ) → is_among faces face ≡ true → is_among (joined_with face) f ≡ true → is_among faces f ≡ true
    joined-within face f inside h = next-within (joined_with face) f (ap (λ (xs : List ℕ). is_among xs f) (joined-stable face inside) ∙ h)

    pub joined-closed : (face f g : ℕ) → is_among faces face ≡ true → near f g ≡ true → is_among faces g ≡ true → is_among (joined_with face) f ≡ true → is_among (joined_with face) g ≡ true
    joined-closed face f g inside h there joined = ap (λ (xs : List ℕ). is_among xs g) (sym (joined-stable face inside)) ∙ next-from (joined_with face) f g h joined there

    -- a property that passes from near to near among the faces holds of all joined faces
    pub joined-least : (S : ℕ → Type 0) → ((f g : ℕ) → near f g ≡ true → is_among faces g ≡ true → S f → S g) → (face : ℕ) → S face → (f : ℕ) → is_among (joined_with face) f ≡ true → S f
    joined-least S closed face first f h = reached-least S closed (length faces) (face ∷ []) (λ n k. here n (or_cases (nat_eq n face) false k)) f h
      where
        here : (n : ℕ) → (nat_eq n face ≡ true) ⊎ (false ≡ true) → S n
        here n (inl same) = subst S (sym (eqb-true n face same)) first
        here n (inr none) = absurd (cc)

    pub joined-trans : (f g h : ℕ) → is_among faces f ≡ true → is_among (joined_with f) g ≡ true → is_among (joined_with g) h ≡ true → is_among (joined_with f) h ≡ true
    joined-trans f g h inside one two = joined-least (λ n. is_among (joined_with f) n ≡ true) (λ k m close there has. joined-closed f k m inside close there has) g one h two

    module _ (back : (f g : ℕ) → near f g ≡ true → near g f ≡ true) where
      pub joined-sym : (f g : ℕ) → is_among faces f ≡ true → is_among (joined_with f) g ≡ true → is_among (joined_with g) f ≡ true
      joined-sym f g inside h =
          (joined-least (λ n. (is_among faces n ≡ true) × (is_among (joined_with n) f ≡ true)) (λ k m close there has.
          (there, joined-trans m k f there (joined-closed m m k there (back k m close) has.0 (joined-itself m there)) has.1)) f (inside, joined-itself f inside) g h).1

      -- joined faces have one list
      pub joined-same : (f g : ℕ) → is_among faces f ≡ true → is_among (joined_with f) g ≡ true → joined_with g ≡ joined_with f
      joined-same f g inside h =
          let there = joined-within f g inside h in
          let other = joined-sym f g inside h in
          sym (joined-stable g there)
          ∙ filter_agree (λ m. list_any (λ k. near k m) (joined_with g)) (λ m. list_any (λ k. near k m) (joined_with f)) (λ m. same-tests _ _ (same-any (λ k. near k m) (joined_with g) (joined_with f) (λ n k. joined-trans f g n inside h k)) (same-any (λ k. near k m) (joined_with f) (joined_with g) (λ n k. joined-trans g f n there other k))) faces
          ∙ joined-stable f inside
