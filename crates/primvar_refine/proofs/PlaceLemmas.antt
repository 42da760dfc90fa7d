-- Places of faces, one face after another.
use Rattle.std.proofs.Common.{◌≡◌, ℕ, zero, suc, ◌+◌, ◌<◌, ◌≤◌, Bool, true, false, not, cond, ◌&&◌, nat_lt, List, [], ◌∷◌, ◌++◌, length, map, get_or, Some, None, if◌then◌else◌, arith, refl, ap, sym, ◌∙◌, subst, length-append, append_assoc, add-one, inl, inr, ◌⊎◌}
use Rattle.std.specs.List.{position, position_or_len, list_any, filter, range_with_len}
use Rattle.std.proofs.lemmas.Bool.{cond_both, cases_lt, lt-ltb}
use Rattle.std.proofs.lemmas.Bool.Decides.{nat_tests}
use Rattle.std.proofs.lemmas.List.{length-map, get_or_append_left, get_or-append-add}
use Rattle.std.proofs.lemmas.List.Elements.{filter-append}
use Rattle.std.proofs.lemmas.List.Quantifiers.{position-Some}
use Rattle.std.proofs.lemmas.List.FromFn.{length-range_with_len}
use Rattle.level_topology.specs.Child.{PointOrigin, FromVertex, FromFace, same_origin}
use Rattle.level_topology.proofs.ChildLemmas.{same_origin-true}
use Rattle.child_masks.specs.Masks.{has_origin, origin_at}
use Rattle.child_masks.proofs.OriginLemmas.{any-at}
use Rattle.primvar_refine.specs.Places.{is_hidden, all_origins, IsPlace, ArePlaces}

-- a point with a place comes from the origin, and no point comes from an origin without a place
pub found : (origins : List PointOrigin) (origin : PointOrigin) (p : ℕ) → position (same_origin origin) origins ≡ Some p
    → (p < length origins) × (origin_at origins p ≡ origin) × (has_origin origins origin ≡ true)
found origins origin p e =
    let at = position-Some (same_origin origin) origins p (FromVertex 0) e in
    (at.0, sym (same_origin-true origin (origin_at origins p) at.1), any-at (same_origin origin) origins p (FromVertex 0) at.0 at.1)

-- the place of a child point serves
pub place-found : (origins : List PointOrigin) (hidden : List ℕ) (f p : ℕ) (named : Bool) → position (same_origin (FromFace f)) origins ≡ Some p
    → IsPlace origins hidden f named p
place-found origins hidden f p named e =
    let at = found origins (FromFace f) p e in
    record {
      inside = λ _. omega (arith, at.0, length-append origins (map FromFace hidden));
      there = λ _. get_or_append_left origins (map FromFace hidden) (FromVertex 0) p at.0 ∙ at.1;
    }

-- a face with a child point is not hidden
pub kept-found : (origins : List PointOrigin) (hidden : List ℕ) (f p : ℕ) (named : Bool) → position (same_origin (FromFace f)) origins ≡ Some p
    → hidden ≡ hidden ++ (if named && not (has_origin origins (FromFace f)) then f ∷ [] else [])
kept-found origins hidden f p named e =
    let at = found origins (FromFace f) p e in
    let gone : (named && not (has_origin origins (FromFace f))) ≡ false = none named (has_origin origins (FromFace f)) at.2 in
    nothing hidden ∙ ap (λ b. hidden ++ (if b then f ∷ [] else [])) (sym gone)
  where
    none : (n h : Bool) → h ≡ true → (n && not h) ≡ false
    none true h e = ap not e
    none false h e = refl

    nothing : (xs : List ℕ) → xs ≡ xs ++ []
    nothing [] = refl
    nothing (x ∷ xs) = ap (λ l. x ∷ l) (nothing xs)

-- one more place after all others
pub place-pushed : (origins : List PointOrigin) (hidden now : List ℕ) (f p : ℕ) (named : Bool) → now ≡ hidden ++ f ∷ [] → p ≡ length origins + length hidden
    → IsPlace origins now f named p
place-pushed origins hidden now f p named e h =
    let after : map FromFace now ≡ map FromFace hidden ++ FromFace f ∷ [] = ap (map FromFace) e ∙ map-push hidden in
    let here : origin_at (origins ++ (map FromFace hidden ++ FromFace f ∷ [])) (length origins + length hidden) ≡ FromFace f =
    get_or-append-add origins (map FromFace hidden ++ FromFace f ∷ []) (length hidden) (FromVertex 0) ∙ last hidden in
    record {
      inside = λ _. omega (arith, h, length-append origins (map FromFace now), length-map now FromFace, ap length e, length-append hidden (f ∷ []));
      there = λ _. ap (λ l. origin_at (origins ++ l) p) after ∙ ap (λ n. origin_at (origins ++ (map FromFace hidden ++ FromFace f ∷ [])) n) h ∙ here;
    }
  where
    map-push : (xs : List ℕ) → map FromFace (xs ++ f ∷ []) ≡ map FromFace xs ++ FromFace f ∷ []
    map-push [] = refl
    map-push (x ∷ xs) = ap (λ l. FromFace x ∷ l) (map-push xs)

    last : (xs : List ℕ) → origin_at (map FromFace xs ++ FromFace f ∷ []) (length xs) ≡ FromFace f
    last [] = refl
    last (x ∷ xs) = last xs

-- a place stays where more faces are hidden
place-kept : (origins : List PointOrigin) (hidden more : List ℕ) (f p : ℕ) (named : Bool) → IsPlace origins hidden f named p → IsPlace origins (hidden ++ more) f named p
place-kept origins hidden more f p named is =
    let split : all_origins origins (hidden ++ more) ≡ all_origins origins hidden ++ map FromFace more =
    ap (λ l. origins ++ l) (map-both hidden) ∙ sym (append_assoc origins (map FromFace hidden) (map FromFace more)) in
    record {
      inside = λ yes. omega (arith, is.inside yes, ap length split, length-append (all_origins origins hidden) (map FromFace more));
      there = λ yes. ap (λ l. origin_at l p) split
          ∙ get_or_append_left (all_origins origins hidden) (map FromFace more) (FromVertex 0) p (is.inside yes) ∙ is.there yes;
    }
  where
    map-both : (xs : List ℕ) → map FromFace (xs ++ more) ≡ map FromFace xs ++ map FromFace more
    map-both [] = refl
    map-both (x ∷ xs) = ap (λ l. FromFace x ∷ l) (map-both xs)

-- one number more
range-push : (a n : ℕ) → range_with_len a (suc n) ≡ range_with_len a n ++ (a + n) ∷ []
range-push a zero = ap (λ k. k ∷ []) (let same : a ≡ a + 0 = omega arith in same)
range-push a (suc n) =
    let same : a + 1 + n ≡ a + suc n = omega arith in
    ap (λ l. a ∷ l) (range-push (a + 1) n ∙ ap (λ k. range_with_len (a + 1) n ++ k ∷ []) same)

-- one more face
pub hidden-goes_on : (origins : List PointOrigin) (named : List Bool) (hidden now : List ℕ) (f : ℕ) (n : Bool) → n ≡ get_or named f false
    → hidden ≡ filter (is_hidden origins named) (range_with_len 0 f)
    → now ≡ hidden ++ (if n && not (has_origin origins (FromFace f)) then f ∷ [] else [])
    → now ≡ filter (is_hidden origins named) (range_with_len 0 (f + 1))
hidden-goes_on origins named hidden now f n en before e =
    let test = is_hidden origins named in
    let first : 0 + f ≡ f = omega arith in
    e ∙ ap (λ b. hidden ++ (if b && not (has_origin origins (FromFace f)) then f ∷ [] else [])) en
    ∙ ap (λ l. l ++ (if test f then f ∷ [] else [])) before
    ∙ sym (filter-append test (range_with_len 0 f) (f ∷ []))
    ∙ ap (λ k. filter test (range_with_len 0 f ++ k ∷ [])) (sym first)
    ∙ ap (filter test) (sym (range-push 0 f))
    ∙ ap (λ k. filter test (range_with_len 0 k)) (sym (add-one f))

-- one more face, with its place
pub places-go_on : (origins : List PointOrigin) (named : List Bool) (hidden now more : List ℕ) (f place : ℕ) (places after : List ℕ) (n : Bool) → n ≡ get_or named f false
    → now ≡ hidden ++ more → after ≡ places ++ place ∷ []
    → ArePlaces origins named hidden f places → IsPlace origins now f n place → ArePlaces origins named now (f + 1) after
places-go_on origins named hidden now more f place places after n en e ep are is = record {
  counted = ap length ep ∙ length-append places (place ∷ []) ∙ ap (λ k. k + 1) are.counted;
  each = λ g below. at g below (cases_lt g f);
}
  where
    at : (g : ℕ) → g < f + 1 → (g < f) ⊎ (f ≤ g) → IsPlace origins now g (get_or named g false) (get_or after g 0)
    at g below (inl less) =
        let kept = place-kept origins hidden more g (get_or places g 0) (get_or named g false) (are.each g less) in
        let here : get_or after g 0 ≡ get_or places g 0 = ap (λ l. get_or l g 0) ep ∙ get_or_append_left places (place ∷ []) 0 g (omega (arith, less, are.counted)) in
        subst (λ p. IsPlace origins now g (get_or named g false) p) (sym here)
        (subst (λ l. IsPlace origins l g (get_or named g false) (get_or places g 0)) (sym e) kept)
    at g below (inr more_than) =
        let same : g ≡ f = omega (arith, below, more_than) in
        let last : g ≡ length places + 0 = omega (arith, same, are.counted) in
        let here : get_or after g 0 ≡ place = ap (λ l. get_or l g 0) ep ∙ ap (λ k. get_or (places ++ place ∷ []) k 0) last ∙ get_or-append-add places (place ∷ []) 0 0 in
        subst (λ p. IsPlace origins now g (get_or named g false) p) (sym here)
        (subst (λ k. IsPlace origins now k (get_or named k false) place) (sym same) (subst (λ b. IsPlace origins now f b place) en is))

-- as many as there are faces at most
filter-short : (p : ℕ → Bool) (xs : List ℕ) → length (filter p xs) ≤ length xs
filter-short p [] = omega arith
filter-short p (x ∷ xs) =
    let rest = filter-short p xs in
    cond_both (p x) (x ∷ filter p xs) (filter p xs) (λ l. length l ≤ suc (length xs)) (λ _. omega (arith, rest)) (λ _. omega (arith, rest))

-- hidden faces are at most as many as faces
pub hidden-short : (origins : List PointOrigin) (named : List Bool) (hidden : List ℕ) (f : ℕ) → hidden ≡ filter (is_hidden origins named) (range_with_len 0 f) → length hidden ≤ f
hidden-short origins named hidden f e =
    omega (arith, ap length e, filter-short (is_hidden origins named) (range_with_len 0 f), length-range_with_len 0 f)

-- an item that passes has a place
exists-at : {X : Type 0} (p : X → Bool) (xs : List X) → list_any p xs ≡ true → position_or_len p xs < length xs
exists-at p [] h = absurd (cc)
exists-at p (x ∷ xs) h = grind (arith, nat_tests, exists-at p xs)

-- no item passes if none has a place
pub none-found : {X : Type 0} (p : X → Bool) (xs : List X) → position p xs ≡ None → list_any p xs ≡ false
none-found p xs e = here (list_any p xs) refl
  where
    here : (b : Bool) → list_any p xs ≡ b → b ≡ false
    here false h = refl
    here true h =
        let below = exists-at p xs h in
        let some : nat_lt (position_or_len p xs) (length xs) ≡ true = lt-ltb (position_or_len p xs) (length xs) below in
        absurd (wrong (nat_lt (position_or_len p xs) (length xs)) (position_or_len p xs) some e)
      where
        wrong : (t : Bool) (i : ℕ) → t ≡ true → cond t (Some i) None ≡ None → ⊥
        wrong t i there gone = grind (arith, nat_tests, there, gone)

-- a face without a child point is hidden if some mask uses it
pub kept-none : (origins : List PointOrigin) (hidden now : List ℕ) (f : ℕ) (named : Bool) → position (same_origin (FromFace f)) origins ≡ None → named ≡ true
    → now ≡ hidden ++ f ∷ [] → now ≡ hidden ++ (if named && not (has_origin origins (FromFace f)) then f ∷ [] else [])
kept-none origins hidden now f named e yes_named h =
    h ∙ ap (λ b. hidden ++ (if b then f ∷ [] else [])) (sym (both named (has_origin origins (FromFace f)) yes_named (none-found (same_origin (FromFace f)) origins e)))
  where
    both : (n h : Bool) → n ≡ true → h ≡ false → (n && not h) ≡ true
    both n h p q = ap (λ b. b && not h) p ∙ ap not q
