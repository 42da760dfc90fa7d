-- The set of places: a further member, further members, and an empty set with a new mark.
use Rattle.std.proofs.Common.{◌≡◌, ℕ, zero, suc, ◌+◌, ◌<◌, ◌≤◌, Bool, true, false, ◌||◌, nat_eq, List, [], ◌∷◌, ◌++◌, length, get_or, set, replicate, if◌then◌else◌, arith, refl, ap, sym, ◌∙◌, subst}
use Rattle.std.specs.List.{All, AllByRecursion}
use Rattle.std.proofs.Math.Bool.{or_assoc, or-false}
use Rattle.std.proofs.lemmas.Bool.{eqb-true}
use Rattle.std.proofs.lemmas.Bool.Decides.{nat_tests}
use Rattle.std.proofs.lemmas.List.{get_or_default, get_or_past, length-set}
use Rattle.std.proofs.lemmas.List.Elements.{All-from_get_or}
use Rattle.std.proofs.lemmas.List.Folds.{list_any-append}
use Rattle.subdiv_model.specs.Polygons.{is_among}
use Rattle.mesh_laws.proofs.SideLemmas.{among-place}
use Rattle.stencil_factory.specs.PlaceSet.{Places, AreMarked, noted_with, with_place, with_places}
use Rattle.stencil_factory.proofs.MarkLemmas.{set-at, All-set, at-none}

turned : (a b : ℕ) → nat_eq a b ≡ nat_eq b a
turned a b = grind (arith, nat_tests)

-- A place that is in the first list is in the joined list.
within : (b c : Bool) → (b ≡ true → c ≡ true) → c ≡ (c || b)
within true true h = refl
within true false h = h refl
within false true h = refl
within false false h = refl

again : (a b : Bool) → (a || (b || false)) ≡ (a || b)
again true b = refl
again false true = refl
again false false = refl

-- Adding a place by its mark adds it to the set.
marked-added : (mark place : ℕ) (members marks : List ℕ) → place < length marks → AreMarked mark members marks → AreMarked mark (noted_with place (get_or marks place 0) mark members) (set marks place mark)
marked-added mark place members marks h is = record {
  some = is.some;
  below = All-set mark mark place marks (omega arith) is.below;
  named = go (nat_eq (get_or marks place 0) mark) refl;
}
  where
    go : (b : Bool) → nat_eq (get_or marks place 0) mark ≡ b → (v : ℕ) → is_among (if b then members else members ++ place ∷ []) v ≡ nat_eq mark (get_or (set marks place mark) v 0)
    go true e v =
        is.named v
        ∙ within (nat_eq v place) (nat_eq mark (get_or marks v 0)) (λ same. ap (λ u. nat_eq mark (get_or marks u 0)) (eqb-true v place same) ∙ turned mark (get_or marks place 0) ∙ e)
        ∙ sym (set-at mark place v marks h)
    go false e v =
        list_any-append (nat_eq v) members (place ∷ []) ∙ again (is_among members v) (nat_eq v place) ∙ ap (λ b. b || nat_eq v place) (is.named v) ∙ sym (set-at mark place v marks h)

pub marked-step : (mark place own : ℕ) (members noted marks : List ℕ) → place < length marks → own ≡ get_or marks place own → noted ≡ noted_with place own mark members → AreMarked mark members marks → AreMarked mark noted (set marks place mark)
marked-step mark place own members noted marks h at is before =
    subst (λ l. AreMarked mark l (set marks place mark)) (sym is)
    (subst (λ n. AreMarked mark (noted_with place n mark members) (set marks place mark)) (sym (at ∙ get_or_default marks place own 0 h)) (marked-added mark place members marks h before))

pub marked-places : (mark place own : ℕ) (members noted marks : List ℕ) (old : Places) → place < length marks → own ≡ get_or marks place own → noted ≡ noted_with place own mark members → AreMarked mark members marks
    → record { count = length marks; mark = mark; members = members } ≡ old → record { count = length (set marks place mark); mark = mark; members = noted } ≡ with_place place old
marked-places mark place own members noted marks old h at is before same =
    let test : nat_eq own mark ≡ is_among members place =
    ap (λ n. nat_eq n mark) (at ∙ get_or_default marks place own 0 h) ∙ turned (get_or marks place 0) mark ∙ sym (before.named place) in
    made (length-set marks place mark) (is ∙ ap (λ b. if b then members else members ++ place ∷ []) test) ∙ ap (with_place place) same
  where
    made : {n k : ℕ} {xs ys : List ℕ} → n ≡ k → xs ≡ ys → ◌≡◌ {A = Places} (record { count = n; mark = mark; members = xs }) (record { count = k; mark = mark; members = ys })
    made {n} {k} {xs} {ys} e f = ap (λ c. record { count = c; mark = mark; members = xs }) e ∙ ap (λ l. record { count = k; mark = mark; members = l }) f

-- An empty set with a mark that no place has.
pub marked-none : (mark : ℕ) (members marks : List ℕ) → AreMarked mark members marks → AreMarked (mark + 1) [] marks
marked-none mark members marks is = record {
  some = omega arith;
  below = looser marks is.below;
  named = λ v. sym (at-none mark v marks is.below);
}
  where
    looser : (ms : List ℕ) → AllByRecursion (λ m. m ≤ mark) ms → AllByRecursion (λ m. m ≤ mark + 1) ms
    looser [] all = tt
    looser (m ∷ ms) all = (omega (arith, all.0), looser ms all.1)

zeros-below : (n : ℕ) → AllByRecursion (λ m. m ≤ 0) (replicate n 0)
zeros-below zero = tt
zeros-below (suc n) = (omega arith, zeros-below n)

marked-zeros : (n : ℕ) → AreMarked 1 [] (replicate n 0)
marked-zeros n = record {
  some = omega arith;
  below = looser n;
  named = λ v. sym (at-none 0 v (replicate n 0) (zeros-below n));
}
  where
    looser : (n : ℕ) → AllByRecursion (λ m. m ≤ 1) (replicate n 0)
    looser zero = tt
    looser (suc n) = (omega arith, looser n)

pub marked-start : (members marks : List ℕ) (n : ℕ) → members ≡ [] → marks ≡ replicate n 0 → AreMarked 1 members marks
marked-start members marks n none zeros = subst (λ l. AreMarked 1 l marks) (sym none) (subst (AreMarked 1 []) (sym zeros) (marked-zeros n))

-- Each member is one of the places.
marked-inside : (mark : ℕ) (members marks : List ℕ) → AreMarked mark members marks → All (λ v. v < length marks) members
marked-inside mark members marks is = All-from_get_or (λ v. v < length marks) members 0 (λ i h. inside (get_or members i 0) (among-place (get_or members i 0) members i h refl))
  where
    inside : (v : ℕ) → is_among members v ≡ true → v < length marks
    inside v there =
        let named : nat_eq mark (get_or marks v 0) ≡ true = sym (is.named v) ∙ there in
        let past = get_or_past marks v 0 in
        let some = is.some in
        grind (arith, nat_tests)

pub marked-read : (mark : ℕ) (members read marks : List ℕ) (count : ℕ) → AreMarked mark members marks → read ≡ members → length marks ≡ count → All (λ v. v < count) read
marked-read mark members read marks count is e long = subst (λ n. All (λ v. v < n) read) long (subst (All (λ v. v < length marks)) (sym e) (marked-inside mark members marks is))

-- Adding several places.
pub count-places : (more : List ℕ) (places : Places) → (with_places more places).count ≡ places.count
count-places [] places = refl
count-places (v ∷ more) places = count-places more (with_place v places)

pub mark-places : (more : List ℕ) (places : Places) → (with_places more places).mark ≡ places.mark
mark-places [] places = refl
mark-places (v ∷ more) places = mark-places more (with_place v places)

among-one : (u v : ℕ) (members : List ℕ) → is_among (if is_among members v then members else members ++ v ∷ []) u ≡ (is_among members u || nat_eq u v)
among-one u v members = go (is_among members v) refl
  where
    go : (b : Bool) → is_among members v ≡ b → is_among (if b then members else members ++ v ∷ []) u ≡ (is_among members u || nat_eq u v)
    go true e = within (nat_eq u v) (is_among members u) (λ same. ap (is_among members) (eqb-true u v same) ∙ e)
    go false e = list_any-append (nat_eq u) members (v ∷ []) ∙ again (is_among members u) (nat_eq u v)

pub among-places : (u : ℕ) (more : List ℕ) (places : Places) → is_among (with_places more places).members u ≡ (is_among places.members u || is_among more u)
among-places u [] places = sym (or-false (is_among places.members u))
among-places u (v ∷ more) places =
    among-places u more (with_place v places) ∙ ap (λ b. b || is_among more u) (among-one u v places.members) ∙ or_assoc (is_among places.members u) (nat_eq u v) (is_among more u)
