-- The rule that a point keeps, by how many of its edges are infinitely sharp.
use Rattle.std.proofs.Common.{◌≡◌, ℕ, ◌+◌, ◌≤◌, Bool, true, false, not, ◌||◌, nat_eq, List, [], ◌∷◌, length, map, get_or, Result, Ok, Err, arith, refl, ap, sym, ◌∙◌}
use Rattle.std.specs.List.{list_all, list_any, count_by}
use Rattle.std.proofs.lemmas.Bool.{eq-eqb, eqb-true, cond_both, cond-false, or_parts, or_from, false≢true}
use Rattle.subdiv_model.specs.Lists.{places, places_from}
use Rattle.subdiv_model.specs.Sharpness.{Sharpness, Smooth, Semi, Infinite, is_sharp, is_semi_sharp}
use Rattle.subdiv_model.specs.Rule.{Rule, SmoothRule, DartRule, CreaseRule, CornerRule, rule_of_sharp_edges, vertex_rule}
use Rattle.subdiv_model.specs.Feature.{is_infinite}
use Rattle.subdiv_model.specs.Mask.{Mask}
use Rattle.subdiv_model.specs.Limit.{lasting_rule, has_semi_sharp, unless_semi_sharp, limit_of_rule, crease_limit_mask, smooth_limit_mask}
use Rattle.subdiv_model.specs.Fault.{LimitCause, Dart}
use Rattle.number_laws.proofs.CountLemmas.{one_if, count-cons}
use Rattle.number_laws.proofs.ListLemmas.{places-from-length}
use Rattle.mask_laws.proofs.BoundaryLemmas.{is-infinite}

-- Counts.

pub count-map : {X Y : Type 0} (test : Y → Bool) (f : X → Y) (xs : List X) → count_by test (map f xs) ≡ count_by (λ x. test (f x)) xs
count-map test f [] = refl
count-map test f (x ∷ xs) =
    count-cons test (f x) (map f xs) ∙ ap (λ n. one_if (test (f x)) + n) (count-map test f xs) ∙ sym (count-cons (λ y. test (f y)) x xs)

pub count-all : {X : Type 0} (xs : List X) → count_by (λ x. true) xs ≡ length xs
count-all [] = refl
count-all (x ∷ xs) = omega (arith, count-cons (λ y. true) x xs, count-all xs)

-- Rules by the number of places.

three-corner : (l : List ℕ) → 3 ≤ length l → rule_of_sharp_edges l ≡ CornerRule
three-corner [] h = absurd (omega arith)
three-corner (a ∷ []) h = absurd (omega arith)
three-corner (a ∷ (b ∷ [])) h = absurd (omega arith)
three-corner (a ∷ (b ∷ (c ∷ l))) h = refl

-- the rule by the number of sharp edges: smooth for none, dart for one, crease for two, corner for more
data Places (l : List ℕ) : Type 0 where
  no_place : rule_of_sharp_edges l ≡ SmoothRule → length l ≡ 0 → Places l
  one_place : rule_of_sharp_edges l ≡ DartRule → Places l
  two_places : (i j : ℕ) → rule_of_sharp_edges l ≡ CreaseRule i j → length l ≡ 2 → Places l
  more_places : rule_of_sharp_edges l ≡ CornerRule → 3 ≤ length l → Places l

places-of : (l : List ℕ) → Places l
places-of [] = no_place refl refl
places-of (a ∷ []) = one_place refl
places-of (a ∷ (b ∷ [])) = two_places a b refl refl
places-of (a ∷ (b ∷ (c ∷ l))) = more_places refl (omega arith)

-- Where a point is a corner at every later level.

-- the point is infinitely sharp, or has no edge, or three infinitely sharp ones
pub data StaysCorner (vertex : Sharpness) (ring : List Sharpness) : Type 0 where
  itself : vertex ≡ Infinite → StaysCorner vertex ring
  bare : length ring ≡ 0 → StaysCorner vertex ring
  edges : 3 ≤ count_by is_infinite ring → StaysCorner vertex ring

-- the lasting rule of the vertex is corner
pub corner-lasts : (vertex : Sharpness) (ring : List Sharpness) → StaysCorner vertex ring → lasting_rule vertex ring ≡ CornerRule
corner-lasts vertex ring (itself e) = ap (λ s. lasting_rule s ring) e
corner-lasts vertex ring (bare e) =
    cond_both (is_infinite vertex || nat_eq (length ring) 0) CornerRule (rule_of_sharp_edges (places is_infinite ring)) (λ r. r ≡ CornerRule)
    (λ _. refl) (λ no. absurd (false≢true (sym (or_parts (is_infinite vertex) (nat_eq (length ring) 0) no).1 ∙ eq-eqb (length ring) 0 e)))
corner-lasts vertex ring (edges h) =
    cond_both (is_infinite vertex || nat_eq (length ring) 0) CornerRule (rule_of_sharp_edges (places is_infinite ring)) (λ r. r ≡ CornerRule)
    (λ _. refl) (λ _. three-corner (places is_infinite ring) (omega (arith, h, places-from-length is_infinite 0 ring)))

-- an infinite sharpness is sharp
infinite-sharp : (s : Sharpness) → one_if (is_infinite s) ≤ one_if (is_sharp s)
infinite-sharp Smooth = omega arith
infinite-sharp (Semi num den) = omega arith
infinite-sharp Infinite = omega arith

more-sharp : (ring : List Sharpness) → count_by is_infinite ring ≤ count_by is_sharp ring
more-sharp [] = omega arith
more-sharp (s ∷ ring) = omega (arith, count-cons is_infinite s ring, count-cons is_sharp s ring, infinite-sharp s, more-sharp ring)

-- the vertex has the corner rule in its level
pub corner-now : (vertex : Sharpness) (ring : List Sharpness) → StaysCorner vertex ring → vertex_rule vertex ring ≡ CornerRule
corner-now vertex ring (itself e) = ap (λ s. vertex_rule s ring) e
corner-now vertex ring (bare e) =
    cond_both (is_sharp vertex || nat_eq (length ring) 0) CornerRule (rule_of_sharp_edges (places is_sharp ring)) (λ r. r ≡ CornerRule)
    (λ _. refl) (λ no. absurd (false≢true (sym (or_parts (is_sharp vertex) (nat_eq (length ring) 0) no).1 ∙ eq-eqb (length ring) 0 e)))
corner-now vertex ring (edges h) =
    cond_both (is_sharp vertex || nat_eq (length ring) 0) CornerRule (rule_of_sharp_edges (places is_sharp ring)) (λ r. r ≡ CornerRule)
    (λ _. refl) (λ _. three-corner (places is_sharp ring) (omega (arith, h, places-from-length is_sharp 0 ring, more-sharp ring)))

-- Where nothing is semi-sharp.

-- the point is smooth and has edges, but no semi-sharp edge
pub record IsPlain (vertex : Sharpness) (ring : List Sharpness) : Type 0 where
  pub smooth : vertex ≡ Smooth
  pub semi : list_any is_semi_sharp ring ≡ false
  pub some : nat_eq (length ring) 0 ≡ false

pub plain-semi : (vertex : Sharpness) (ring : List Sharpness) → IsPlain vertex ring → has_semi_sharp vertex ring ≡ false
plain-semi vertex ring is = ap (λ s. is_semi_sharp s || list_any is_semi_sharp ring) is.smooth ∙ is.semi

pub plain-rule : (vertex : Sharpness) (ring : List Sharpness) → IsPlain vertex ring → lasting_rule vertex ring ≡ rule_of_sharp_edges (places is_infinite ring)
plain-rule vertex ring is =
    cond-false (is_infinite vertex || nat_eq (length ring) 0) CornerRule (rule_of_sharp_edges (places is_infinite ring))
    (ap (λ s. is_infinite s || nat_eq (length ring) 0) is.smooth ∙ is.some)

-- sharpness that is not semi-sharp is sharp exactly where it is infinite
sharp-places : (place : ℕ) (ring : List Sharpness) → list_any is_semi_sharp ring ≡ false → places_from place is_sharp ring ≡ places_from place is_infinite ring
sharp-places place [] h = refl
sharp-places place (Smooth ∷ ring) h = sharp-places (place + 1) ring h
sharp-places place (Semi num den ∷ ring) h = absurd (false≢true (sym h))
sharp-places place (Infinite ∷ ring) h = ap (λ l. place ∷ l) (sharp-places (place + 1) ring h)

pub plain-now : (vertex : Sharpness) (ring : List Sharpness) → IsPlain vertex ring → vertex_rule vertex ring ≡ rule_of_sharp_edges (places is_infinite ring)
plain-now vertex ring is =
    cond-false (is_sharp vertex || nat_eq (length ring) 0) CornerRule (rule_of_sharp_edges (places is_sharp ring))
    (ap (λ s. is_sharp s || nat_eq (length ring) 0) is.smooth ∙ is.some)
    ∙ ap rule_of_sharp_edges (sharp-places 0 ring is.semi)

-- a ring without semi-sharp edges keeps its sharpness
pub plain-stays : (ring : List Sharpness) → list_any is_semi_sharp ring ≡ false → list_all (λ s. not (is_semi_sharp s)) ring ≡ true
plain-stays [] h = refl
plain-stays (Smooth ∷ ring) h = plain-stays ring h
plain-stays (Semi num den ∷ ring) h = absurd (false≢true (sym h))
plain-stays (Infinite ∷ ring) h = plain-stays ring h

-- The three rules that give a limit mask.

pub data HasLimitKind (vertex : Sharpness) (ring : List Sharpness) : Type 0 where
  corner : StaysCorner vertex ring → HasLimitKind vertex ring
  crease : IsPlain vertex ring → count_by is_infinite ring ≡ 2 → HasLimitKind vertex ring
  smooth : IsPlain vertex ring → count_by is_infinite ring ≡ 0 → HasLimitKind vertex ring

not-ok : (v : ℕ) (semi : Bool) (cause : LimitCause) (mask : Mask) → unless_semi_sharp v semi (Err cause) ≡ Ok mask → ⊥
not-ok v true cause mask h = cc
not-ok v false cause mask h = cc

no-semi : (v : ℕ) (semi : Bool) (limit : Result Mask LimitCause) (mask : Mask) → unless_semi_sharp v semi limit ≡ Ok mask → semi ≡ false
no-semi v true limit mask h = absurd (cc)
no-semi v false limit mask h = refl

-- sharpness that is neither infinite nor semi-sharp is smooth
neither : (s : Sharpness) → is_infinite s ≡ false → is_semi_sharp s ≡ false → s ≡ Smooth
neither Smooth h k = refl
neither (Semi num den) h k = absurd (false≢true (sym k))
neither Infinite h k = absurd (false≢true (sym h))

pub limit-kind : (vertex : Sharpness) (ring : List Sharpness) (v : ℕ) (ends opposites : List ℕ) (mask : Mask)
    → limit_of_rule v ends opposites (has_semi_sharp vertex ring) (lasting_rule vertex ring) ≡ Ok mask → HasLimitKind vertex ring
limit-kind vertex ring v ends opposites mask ok = here (is_infinite vertex) (nat_eq (length ring) 0) refl refl
  where
    semi : Bool
    semi = has_semi_sharp vertex ring

    Of : Rule → Type 0
    Of rule = limit_of_rule v ends opposites semi rule ≡ Ok mask

    plain : is_infinite vertex ≡ false → nat_eq (length ring) 0 ≡ false → semi ≡ false → IsPlain vertex ring
    plain h k none =
        let parts = or_parts (is_semi_sharp vertex) (list_any is_semi_sharp ring) none in
        record { smooth = neither vertex h parts.0; semi = parts.1; some = k }

    by-places : is_infinite vertex ≡ false → nat_eq (length ring) 0 ≡ false → Places (places is_infinite ring)
        → Of (rule_of_sharp_edges (places is_infinite ring)) → HasLimitKind vertex ring
    by-places h k (no_place is empty) of =
        let limit = Ok (smooth_limit_mask v ends opposites) in
        let ok' : unless_semi_sharp v semi limit ≡ Ok mask = ap (limit_of_rule v ends opposites semi) (sym is) ∙ of in
        smooth (plain h k (no-semi v semi limit mask ok')) (sym (places-from-length is_infinite 0 ring) ∙ empty)
    by-places h k (one_place is) of = absurd (not-ok v semi (Dart v) mask (ap (limit_of_rule v ends opposites semi) (sym is) ∙ of))
    by-places h k (two_places i j is both) of =
        let limit = Ok (crease_limit_mask v (get_or ends i 0) (get_or ends j 0)) in
        let ok' : unless_semi_sharp v semi limit ≡ Ok mask = ap (limit_of_rule v ends opposites semi) (sym is) ∙ of in
        crease (plain h k (no-semi v semi limit mask ok')) (sym (places-from-length is_infinite 0 ring) ∙ both)
    by-places h k (more_places is three) of = corner (edges (omega (arith, three, places-from-length is_infinite 0 ring)))

    here : (p q : Bool) → is_infinite vertex ≡ p → nat_eq (length ring) 0 ≡ q → HasLimitKind vertex ring
    here true q h k = corner (itself (is-infinite vertex h))
    here false true h k = corner (bare (eqb-true (length ring) 0 k))
    here false false h k =
        let rule = cond-false (is_infinite vertex || nat_eq (length ring) 0) CornerRule (rule_of_sharp_edges (places is_infinite ring)) (or_from (is_infinite vertex) (nat_eq (length ring) 0) h k) in
        by-places h k (places-of (places is_infinite ring)) (ap (limit_of_rule v ends opposites semi) (sym rule) ∙ ok)
