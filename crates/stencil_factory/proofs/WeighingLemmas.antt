-- Weights of points as they are put, where those of 0 are passed over: they name the points that the joined weights name, have the same
-- common denominator, and add the same amounts.
use Rattle.std.proofs.Common.{◌≡◌, ℕ, zero, suc, ◌+◌, ◌*◌, ◌/◌, ◌<◌, Bool, true, false, ◌||◌, if◌then◌else◌, nat_eq, nat_lt, List, [], ◌∷◌, length, map, get_or, arith, refl, ap, sym, ◌∙◌, subst}
use Rattle.std.specs.Int.{◌∣◌}
use Rattle.std.specs.List.{AllByRecursion}
use Rattle.std.proofs.lemmas.Bool.{eq-eqb}
use Rattle.std.proofs.lemmas.Nat.Gcd.{dvd_trans, dvd_antisymm}
use Rattle.std.proofs.lemmas.List.Elements.{All-from_recursion}
use Rattle.std.proofs.lemmas.Bool.Decides.{nat_tests}
use Rattle.std.proofs.lemmas.List.{ext_get_or}
use Rattle.subdiv_model.specs.Polygons.{is_among}
use Rattle.subdiv_model.specs.Mask.{OfPoint, weigh, weight_in}
use Rattle.subdiv_model.specs.Multiples.{lcm_of_all}
use Rattle.number_laws.proofs.MultipleLemmas.{lcm-first, lcm-second, least-of-all}
use Rattle.stencil_apply.specs.Table.{Share}
use Rattle.stencil_factory.specs.Rows.{support_of}
use Rattle.place_sums.specs.Sums.{added_at, added_shares, shares_from}
use Rattle.stencil_factory.specs.Joined.{terms_of_shares, amounts_of, weighing}
use Rattle.place_sums.proofs.SumLemmas.{length-added_at, length-added_shares, place-added_at}
use Rattle.sharpness_laws.proofs.JoinedWeightLemmas.{weight_in-cons}
use Rattle.stencil_factory.proofs.JoinLemmas.{added-none, none-among}

-- a share is kept where its weight is above 0
pub weighing-some : (share : Share) (shares : List Share) → nat_lt 0 share.1 ≡ true → weighing (share ∷ shares) ≡ share ∷ weighing shares
weighing-some share shares h = ap (λ b. if b then share ∷ weighing shares else weighing shares) h

pub weighing-none : (share : Share) (shares : List Share) → nat_lt 0 share.1 ≡ false → weighing (share ∷ shares) ≡ weighing shares
weighing-none share shares h = ap (λ b. if b then share ∷ weighing shares else weighing shares) h

-- Each share that remains is above 0.
pub weighing-above : (shares : List Share) → AllByRecursion (λ share. 0 < share.1) (weighing shares)
weighing-above [] = tt
weighing-above (share ∷ shares) = step (nat_lt 0 share.1) refl (weighing-above shares)
  where
    above : (n : ℕ) → true ≡ nat_lt 0 n → 0 < n
    above n h = grind (arith, nat_tests, h)

    step : (b : Bool) → b ≡ nat_lt 0 share.1 → AllByRecursion (λ s. 0 < s.1) (weighing shares) → AllByRecursion (λ s. 0 < s.1) (weighing (share ∷ shares))
    step true h rest = subst (AllByRecursion (λ (s : Share). 0 < s.1)) (sym (weighing-some share shares (sym h))) (above share.1 h, rest)
    step false h rest = subst (AllByRecursion (λ (s : Share). 0 < s.1)) (sym (weighing-none share shares (sym h))) rest

-- A property of all shares holds for those that remain.
pub weighing-all : (P : Share → Type 0) (shares : List Share) → AllByRecursion P shares → AllByRecursion P (weighing shares)
weighing-all P [] h = tt
weighing-all P (share ∷ shares) h = step (nat_lt 0 share.1) refl (weighing-all P shares h.1)
  where
    step : (b : Bool) → b ≡ nat_lt 0 share.1 → AllByRecursion P (weighing shares) → AllByRecursion P (weighing (share ∷ shares))
    step true k rest = subst (AllByRecursion P) (sym (weighing-some share shares (sym k))) (h.0, rest)
    step false k rest = subst (AllByRecursion P) (sym (weighing-none share shares (sym k))) rest

-- passing over 0 changes no sum
pub weighing-added : (shares : List Share) (sums : List ℕ) → added_shares 1 (weighing shares) sums ≡ added_shares 1 shares sums
weighing-added [] sums = refl
weighing-added (share ∷ shares) sums = step (nat_lt 0 share.1) refl (weighing-added shares)
  where
    none : (n : ℕ) → false ≡ nat_lt 0 n → 1 * n ≡ 0
    none n k = grind (arith, nat_tests, k)

    step : (b : Bool) → b ≡ nat_lt 0 share.1 → ((l : List ℕ) → added_shares 1 (weighing shares) l ≡ added_shares 1 shares l)
        → added_shares 1 (weighing (share ∷ shares)) sums ≡ added_shares 1 (share ∷ shares) sums
    step true k rest = ap (λ l. added_shares 1 l sums) (weighing-some share shares (sym k)) ∙ rest (added_at share.0 (1 * share.1) sums)
    step false k rest =
        ap (λ l. added_shares 1 l sums) (weighing-none share shares (sym k)) ∙ rest sums
        ∙ ap (added_shares 1 shares) (sym (ap (λ n. added_at share.0 n sums) (none share.1 k) ∙ added-none share.0 sums))

-- Lists with the same members have one common multiple.
module _ (f : ℕ → ℕ) (positive : (v : ℕ) → 0 < f v) where
  -- the number of a member divides the multiple
  member-divides : (v : ℕ) (points : List ℕ) → is_among points v ≡ true → f v ∣ lcm_of_all (map f points)
  member-divides v [] h = absurd (cc)
  member-divides v (u ∷ points) h = step (nat_eq v u) refl (member-divides v points)
    where
      same : (a b : ℕ) → true ≡ nat_eq a b → b ≡ a
      same a b h = grind (arith, nat_tests, h)

      step : (b : Bool) → b ≡ nat_eq v u → (is_among points v ≡ true → f v ∣ lcm_of_all (map f points)) → f v ∣ lcm_of_all (map f (u ∷ points))
      step true k rest = subst (λ w. f w ∣ lcm_of_all (map f (u ∷ points))) (same v u k) (lcm-first (f u) (lcm_of_all (map f points)))
      step false k rest =
          dvd_trans (f v) (rest (ap (λ b. b || is_among points v) k ∙ h)) (lcm-second (f u) (lcm_of_all (map f points)))

  each-positive : (points : List ℕ) → AllByRecursion (λ n. 0 < n) (map f points)
  each-positive [] = tt
  each-positive (v ∷ points) = (positive v, each-positive points)

  -- where all of some points are among others, their multiple divides that of the others
  among-divides : (some others : List ℕ) → ((v : ℕ) → is_among some v ≡ true → is_among others v ≡ true) → lcm_of_all (map f some) ∣ lcm_of_all (map f others)
  among-divides some others h =
      least-of-all (map f some) (lcm_of_all (map f others)) (All-from_recursion (λ n. 0 < n) (map f some) (each-positive some))
      (All-from_recursion (λ n. n ∣ lcm_of_all (map f others)) (map f some) (each some (λ v k. h v k)))
    where
      each : (points : List ℕ) → ((v : ℕ) → is_among points v ≡ true → is_among others v ≡ true) → AllByRecursion (λ n. n ∣ lcm_of_all (map f others)) (map f points)
      each [] k = tt
      each (u ∷ points) k =
          (member-divides u others (k u (ap (λ b. b || is_among points u) (eq-eqb u u refl))), each points (λ v l. k v (later (nat_eq v u) (is_among points v) l)))
        where
          later : (b d : Bool) → d ≡ true → (b || d) ≡ true
          later true d h = refl
          later false d h = h

  pub same-multiple : (some others : List ℕ) → ((v : ℕ) → is_among some v ≡ is_among others v) → lcm_of_all (map f some) ≡ lcm_of_all (map f others)
  same-multiple some others h = dvd_antisymm (among-divides some others (λ v k. sym (h v) ∙ k)) (among-divides others some (λ v k. h v ∙ k))

-- The points of sums that are not 0.
pub among-sums : (place v : ℕ) (sums : List ℕ) → is_among (support_of (shares_from place sums)) (place + v) ≡ nat_lt 0 (get_or sums v 0)
among-sums place v [] = refl
among-sums place zero (zero ∷ sums) = none-among (place + 0) (place + 1) sums (omega arith)
among-sums place zero (suc n ∷ sums) = here (nat_eq (place + 0) place) (is_among (support_of (shares_from (place + 1) sums)) (place + 0)) n (eq-eqb (place + 0) place (omega arith))
  where
    here : (b d : Bool) (n : ℕ) → b ≡ true → (b || d) ≡ nat_lt 0 (suc n)
    here true d n h = grind (arith, nat_tests)
    here false d n h = absurd (cc)
among-sums place (suc v) (zero ∷ sums) = let same : place + suc v ≡ place + 1 + v = omega arith in ap (is_among (support_of (shares_from (place + 1) sums))) same ∙ among-sums (place + 1) v sums
among-sums place (suc v) (suc n ∷ sums) =
    let same : place + suc v ≡ place + 1 + v = omega arith in
    ap (λ b. b || is_among (support_of (shares_from (place + 1) sums)) (place + suc v)) (other (place + suc v) place (omega arith))
    ∙ ap (is_among (support_of (shares_from (place + 1) sums))) same ∙ among-sums (place + 1) v sums
  where
    other : (a b : ℕ) → b < a → nat_eq a b ≡ false
    other a b h = grind (arith, nat_tests, h)

-- The amounts of weights, by their points.
module _ (dens : List ℕ) (m : ℕ) where
  abbrev factor : ℕ → ℕ
  factor v = m / get_or dens v 1

  pub place-amount : (v : ℕ) (shares : List Share) (sums : List ℕ) → AllByRecursion (λ share. share.0 < length sums) shares
      → get_or (added_shares 1 (amounts_of dens m shares) sums) v 0 ≡ get_or sums v 0 + weight_in (terms_of_shares shares) (OfPoint v) * factor v
  place-amount v [] sums h = omega arith
  place-amount v (share ∷ shares) sums h =
      let amount = 1 * (share.1 * factor share.0) in
      let rest = subst (λ n. AllByRecursion (λ (s : Share). s.0 < n) shares) (sym (length-added_at share.0 amount sums)) h.1 in
      step (nat_eq share.0 v) refl _ _ _ _ _
      (place-amount v shares (added_at share.0 amount sums) rest) (place-added_at share.0 amount v sums h.0)
      (weight_in-cons (weigh share.1 (OfPoint share.0)) (terms_of_shares shares) (OfPoint v))
    where
      flipped : (a b : ℕ) → nat_eq a b ≡ nat_eq b a
      flipped a b = grind (arith, nat_tests)

      same : (a b : ℕ) → true ≡ nat_eq a b → a ≡ b
      same a b h = grind (arith, nat_tests, h)

      some : (w z f : ℕ) → (w + z) * f ≡ w * f + z * f
      some w z f = grind arith

      step : (b : Bool) → b ≡ nat_eq share.0 v → (x y z old all : ℕ) → x ≡ y + z * factor v
          → y ≡ old + (if nat_eq share.0 v then 1 * (share.1 * factor share.0) else 0) → all ≡ (if nat_eq v share.0 then share.1 else 0) + z → x ≡ old + all * factor v
      step true e x y z old all h k l =
          let k' : y ≡ old + 1 * (share.1 * factor v) = k ∙ ap (λ b. old + (if b then 1 * (share.1 * factor share.0) else 0)) (sym e) ∙ ap (λ u. old + 1 * (share.1 * factor u)) (same share.0 v e) in
          let l' : all ≡ share.1 + z = l ∙ ap (λ b. (if b then share.1 else 0) + z) (flipped v share.0 ∙ sym e) in
          let whole : all * factor v ≡ share.1 * factor v + z * factor v = ap (λ n. n * factor v) l' ∙ some share.1 z (factor v) in
          omega (arith, h, k', whole)
      step false e x y z old all h k l =
          let k' : y ≡ old + 0 = k ∙ ap (λ b. old + (if b then 1 * (share.1 * factor share.0) else 0)) (sym e) in
          let l' : all ≡ 0 + z = l ∙ ap (λ b. (if b then share.1 else 0) + z) (flipped v share.0 ∙ sym e) in
          let zs : 0 + z ≡ z = omega arith in
          let whole : all * factor v ≡ z * factor v = ap (λ n. n * factor v) (l' ∙ zs) in
          omega (arith, h, k', whole)

  -- Two lists that give each point the same weight add the same sums.
  pub same-added : (some others : List Share) (sums : List ℕ) → AllByRecursion (λ share. share.0 < length sums) some → AllByRecursion (λ share. share.0 < length sums) others
      → ((v : ℕ) → weight_in (terms_of_shares some) (OfPoint v) ≡ weight_in (terms_of_shares others) (OfPoint v))
      → added_shares 1 (amounts_of dens m some) sums ≡ added_shares 1 (amounts_of dens m others) sums
  same-added some others sums inside inside' h =
      ext_get_or 0 _ _ (length-added_shares 1 (amounts_of dens m some) sums ∙ sym (length-added_shares 1 (amounts_of dens m others) sums))
      (λ v below. place-amount v some sums inside ∙ ap (λ w. get_or sums v 0 + w * factor v) (h v) ∙ sym (place-amount v others sums inside'))
