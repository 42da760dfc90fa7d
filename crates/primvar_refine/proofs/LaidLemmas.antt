-- The survey gives all conditions for making the values.
use Rattle.std.proofs.Common.{◌≡◌, ℕ, zero, suc, ◌+◌, ◌-◌, ◌*◌, ◌<◌, ◌≤◌, Bool, true, false, cond, not, ◌&&◌, List, [], ◌∷◌, ◌++◌, length, map, get_or, arith, refl, ap, sym, ◌∙◌, subst, inl, inr, ◌⊎◌, length-append}
use Rattle.std.specs.List.{All, AllByRecursion, filter, range_with_len, sum_by}
use Rattle.std.proofs.lemmas.Bool.{cases_lt, and_parts}
use Rattle.std.proofs.lemmas.Bool.Decides.{nat_tests}
use Rattle.std.proofs.lemmas.List.{get_or-map, length-map, get_or_append_left, get_or-append-add, map-append}
use Rattle.std.proofs.lemmas.List.Elements.{All-from_recursion}
use Rattle.std.proofs.lemmas.List.Sums.{sum_by-cons}
use Rattle.std.proofs.lemmas.Simd.{map-map}
use Rattle.std.proofs.Math.Nat.{mul-le-mul_right}
use Rattle.subdiv_model.specs.Mask.{Scheme, OfFace, Mask, has_source}
use Rattle.subdiv_model.specs.Refined.{mask_denominator, source_denominator}
use Rattle.subdiv_model.specs.Channel.{number_bound}
use Rattle.level_topology.specs.Topology.{Topology, IsTopology}
use Rattle.level_topology.specs.Child.{PointOrigin, FromVertex, FromFace, FromEdge, ChildTopology, HasParent}
use Rattle.number_width.specs.declared.width.Width.{Width}
use Rattle.primvar_refine.specs.Rows.{Row, row_at, dens_of, AreGood, least_bound, greatest_of}
use Rattle.primvar_refine.specs.Width.{sum_bound, HasSums}
use Rattle.child_masks.specs.Masks.{mask_from, masks_from, has_origin, CanRefine, hidden_faces, step_terms, origin_at}
use Rattle.child_masks.specs.Survey.{IsSurvey, within_bound}
use Rattle.child_masks.specs.declared.survey.Survey.{Survey}
use Rattle.primvar_refine.specs.Made.{terms_of_face, terms_of_hidden, terms_of_other}
use Rattle.primvar_refine.specs.Places.{is_hidden, all_origins, ArePlaces}
use Rattle.primvar_refine.specs.Ready.{IsReady, all_terms}
use Rattle.primvar_refine.proofs.SurveyLemmas.{good-positive}
use Rattle.primvar_refine.proofs.MadeLemmas.{all-below-fold}
use Rattle.primvar_refine.proofs.WidthLemmas.{sum_bound-short}
use Rattle.child_masks.proofs.SourceLemmas.{corner-dens, map-same}
use Rattle.child_masks.proofs.DenLemmas.{some-place, named-den}

-- an item that a filter keeps passes the test, and has the properties of all items
kept-both : {X : Type 0} (test : X → Bool) (P : X → Type 0) (xs : List X) → AllByRecursion P xs → AllByRecursion (λ x. P x × (test x ≡ true)) (filter test xs)
kept-both test P [] h = tt
kept-both test P (x ∷ xs) h = here (test x) refl (kept-both test P xs h.1)
  where
    here : (b : Bool) → test x ≡ b → AllByRecursion (λ y. P y × (test y ≡ true)) (filter test xs)
        → AllByRecursion (λ y. P y × (test y ≡ true)) (cond b (x ∷ filter test xs) (filter test xs))
    here true e rest = ((h.0, e), rest)
    here false e rest = rest

-- numbers of a range
range-below : (a n k : ℕ) → a + k ≤ n → AllByRecursion (λ f. f < n) (range_with_len a k)
range-below a n zero h = tt
range-below a n (suc k) h = (omega (arith, h), range-below (a + 1) n k (omega (arith, h)))

-- tests that agree keep the same
filter-same : (p q : ℕ → Bool) (xs : List ℕ) → AllByRecursion (λ x. p x ≡ q x) xs → filter p xs ≡ filter q xs
filter-same p q [] h = refl
filter-same p q (x ∷ xs) h =
    ap (λ b. cond b (x ∷ filter p xs) (filter p xs)) h.0 ∙ ap (λ l. cond (q x) (x ∷ l) l) (filter-same p q xs h.1)

-- a weaker claim holds for all items
weaker-all : {X : Type 0} (P Q : X → Type 0) → ((x : X) → P x → Q x) → (xs : List X) → AllByRecursion P xs → AllByRecursion Q xs
weaker-all P Q f [] h = tt
weaker-all P Q f (x ∷ xs) h = (f x h.0, weaker-all P Q f xs h.1)

-- the list is long enough for the first of them
pub first-count : (made after : List Row) (dens more : List ℕ) (n : ℕ) → dens_of made ≡ dens ++ more → length after ≡ length made → n ≡ length dens → n ≤ length after
first-count made after dens more n e count same =
    omega (arith, ap length e, length-map made (λ (r : Row). r.den), length-append dens more, count, same)

-- the number, and all numbers over it, are within the bound of sums of a width
record IsShort (width : Width) (most n : ℕ) : Type 0 where
  short : n ≤ sum_bound width
  kept : n * most ≤ sum_bound width

module _ (width : Width) (parent : Topology) (child : ChildTopology) (scheme : Scheme) (rows : List Row) (survey : Survey) (is : IsTopology parent) (has : HasParent child)
    (can : CanRefine parent child scheme) (good : AreGood rows) (survey_is : IsSurvey parent scheme child.origins (dens_of rows) survey)
    (sums : HasSums width survey.dens.items rows) where
  abbrev own_den : PointOrigin → ℕ
  own_den origin = mask_denominator (source_denominator parent.level (dens_of rows)) (mask_from parent.level scheme origin)

  abbrev face_den : ℕ → ℕ
  face_den f = source_denominator parent.level (dens_of rows) (OfFace f)

  abbrev most : ℕ
  most = least_bound rows

  abbrev named : List Bool
  named = survey.named.items

  -- the denominators of the survey, point by point
  dens-are : survey.dens.items ≡ map own_den child.origins
  dens-are = survey_is.dens ∙ map-map (mask_denominator (source_denominator parent.level (dens_of rows))) (mask_from parent.level scheme) child.origins

  -- there is one denominator for each child point
  pub dens-counted : length survey.dens.items ≡ length child.origins
  dens-counted = ap length dens-are ∙ length-map child.origins own_den

  -- the denominator of each child point is short
  child-short : (p : ℕ) → p < length child.origins → IsShort width most (own_den (origin_at child.origins p))
  child-short p inside =
      let inside-dens : p < length survey.dens.items = omega (arith, inside, dens-counted) in
      let here : get_or survey.dens.items p 1 ≡ own_den (origin_at child.origins p) = ap (λ l. get_or l p 1) dens-are ∙ get_or-map own_den child.origins p (FromVertex 0) 1 inside in
      let below : get_or survey.dens.items p 1 ≤ greatest_of survey.dens.items =
      All-from_recursion (λ n. n ≤ greatest_of survey.dens.items) survey.dens.items (all-below-fold survey.dens.items 1).1 p 1 inside-dens in
      let more : get_or survey.dens.items p 1 * most ≤ greatest_of survey.dens.items * most = mul-le-mul_right most below in
      subst (IsShort width most) here (record { short = chain _ _ below sums.short; kept = chain _ _ more sums.kept })
    where
      chain : (a b : ℕ) → a ≤ b → b ≤ sum_bound width → a ≤ sum_bound width
      chain a b h k = omega (arith, h, k)

  -- the denominator of a face that some mask uses is short
  face-short : (f : ℕ) → f < length parent.level.polygons → get_or named f false ≡ true → IsShort width most (face_den f)
  face-short f inside name =
      let none : Mask = record { terms = []; denominator = 0 } in
      let masks = masks_from parent.level scheme child.origins in
      let place = some-place (λ mask. has_source mask.terms (OfFace f)) masks none (sym (survey_is.named f inside) ∙ name) in
      let below : place.at < length child.origins = subst (λ n. place.at < n) (length-map child.origins (mask_from parent.level scheme)) place.inside in
      let here : get_or masks place.at none ≡ mask_from parent.level scheme (origin_at child.origins place.at) =
      get_or-map (mask_from parent.level scheme) child.origins place.at (FromVertex 0) none below in
      let less = named-den parent child scheme (dens_of rows) is has can (good-positive rows good) place.at f below (ap (λ (m : Mask). has_source m.terms (OfFace f)) (sym here) ∙ place.passes) in
      let short = child-short place.at below in
      record {
        short = chain _ _ less short.short;
        kept = chain _ _ (mul-le-mul_right most less) short.kept;
      }
    where
      chain : (a b : ℕ) → a ≤ b → b ≤ sum_bound width → a ≤ sum_bound width
      chain a b h k = omega (arith, h, k)

  module _ (hidden : List ℕ) (hidden_is : hidden ≡ filter (is_hidden child.origins named) (range_with_len 0 (length child.parent_sizes))) where
    hidden-known : AllByRecursion (λ f. (f < length parent.level.polygons) × (is_hidden child.origins named f ≡ true)) hidden
    hidden-known =
        subst (AllByRecursion (λ f. (f < length parent.level.polygons) × (is_hidden child.origins named f ≡ true))) (sym hidden_is)
        (kept-both (is_hidden child.origins named) (λ f. f < length parent.level.polygons) (range_with_len 0 (length child.parent_sizes))
        (range-below 0 (length parent.level.polygons) (length child.parent_sizes) (omega (arith, can.faces))))

    -- hidden faces are faces
    pub hidden-inside : All (λ f. f < length parent.level.polygons) hidden
    hidden-inside = All-from_recursion (λ f. f < length parent.level.polygons) hidden (weaker-all _ (λ f. f < length parent.level.polygons) (λ f h. h.0) hidden hidden-known)

    -- the denominators of hidden faces, from the survey
    pub hidden-dens : map (λ f. get_or survey.faces.items f 0) hidden ≡ map own_den (map FromFace hidden)
    hidden-dens =
        map-same (λ f. get_or survey.faces.items f 0) (λ f. own_den (FromFace f)) hidden
        (weaker-all (λ f. (f < length parent.level.polygons) × (is_hidden child.origins named f ≡ true)) (λ f. get_or survey.faces.items f 0 ≡ own_den (FromFace f))
        (λ f h. survey_is.faces f h.0 ∙ within f (short (face-short f h.0 (and_parts (get_or named f false) (not (has_origin child.origins (FromFace f))) h.1).0).short)
        ∙ corner-dens parent.level f (dens_of rows)) hidden hidden-known)
        ∙ sym (map-map own_den FromFace hidden)
      where
        short : {n : ℕ} → n ≤ sum_bound width → n ≤ number_bound
        short h = omega (arith, h, sum_bound-short width)

        within : (f : ℕ) → face_den f ≤ number_bound → within_bound (face_den f) ≡ face_den f
        within f h = small (face_den f) h
          where
            small : (n : ℕ) → n ≤ number_bound → within_bound n ≡ n
            small n k = grind (arith, nat_tests, k)

    -- the denominators of hidden faces are short
    hidden-short : (i : ℕ) → i < length hidden → IsShort width most (own_den (FromFace (get_or hidden i 0)))
    hidden-short i inside =
        let known = All-from_recursion (λ f. (f < length parent.level.polygons) × (is_hidden child.origins named f ≡ true)) hidden hidden-known i 0 inside in
        let f = get_or hidden i 0 in
        subst (IsShort width most) (corner-dens parent.level f (dens_of rows))
        (face-short f known.0 (and_parts (get_or named f false) (not (has_origin child.origins (FromFace f))) known.1).0)

    abbrev all : List PointOrigin
    all = all_origins child.origins hidden

    -- the denominators of all new values are short
    all-short : (p : ℕ) → p < length all → IsShort width most (own_den (origin_at all p))
    all-short p inside = at (cases_lt p (length child.origins))
      where
        at : (p < length child.origins) ⊎ (length child.origins ≤ p) → IsShort width most (own_den (origin_at all p))
        at (inl first) =
            subst (λ o. IsShort width most (own_den o)) (sym (get_or_append_left child.origins (map FromFace hidden) (FromVertex 0) p first)) (child-short p first)
        at (inr past) =
            let i : ℕ = p - length child.origins in
            let place : p ≡ length child.origins + i = omega (arith, past) in
            let below : i < length hidden = omega (arith, place, inside, length-append child.origins (map FromFace hidden), length-map hidden FromFace) in
            let own : origin_at all (length child.origins + i) ≡ FromFace (get_or hidden i 0) =
            get_or-append-add child.origins (map FromFace hidden) i (FromVertex 0) ∙ get_or-map FromFace hidden i 0 (FromVertex 0) below in
            subst (λ o. IsShort width most (own_den o)) (sym (ap (origin_at all) place ∙ own)) (hidden-short i below)

    -- a list over these denominators is laid out for all that is made
    pub laid : (made : List Row) (places : List ℕ) → length rows ≡ parent.level.point_count
        → ArePlaces child.origins named hidden (length child.parent_sizes) places
        → dens_of made ≡ survey.dens.items ++ map (λ f. get_or survey.faces.items f 0) hidden
        → IsReady width parent child scheme rows named hidden places made
    laid made places counted find dens_is =
        let whole : dens_of made ≡ map own_den all =
        dens_is ∙ ap (λ l. l ++ map (λ f. get_or survey.faces.items f 0) hidden) dens-are ∙ ap (λ l. map own_den child.origins ++ l) hidden-dens
        ∙ sym (map-append own_den child.origins (map FromFace hidden)) in
        let many : length made ≡ length all = sym (length-map made (λ (r : Row). r.den)) ∙ ap length whole ∙ length-map all own_den in
        let at : (p : ℕ) → p < length all → (row_at made p).den ≡ own_den (origin_at all p) = λ p inside.
        sym (get_or-map (λ (r : Row). r.den) made p (record { numbers = []; den = 1 }) 1 (omega (arith, inside, many)))
        ∙ ap (λ l. get_or l p 1) whole ∙ get_or-map own_den all p (FromVertex 0) 1 inside in
        record {
          can = can;
          allowed = survey_is.fine;
          good = good;
          counted = counted;
          names = record { counted = survey_is.named_count; each = survey_is.named };
          find = subst (λ n. ArePlaces child.origins named hidden n places) can.faces find;
          inside = hidden-inside;
          each = many;
          dens = record {
            are = at;
            short = λ p inside. subst (λ n. n ≤ sum_bound width) (sym (at p inside)) (all-short p inside).short;
            kept = λ p inside. subst (λ n. n * most ≤ sum_bound width) (sym (at p inside)) (all-short p inside).kept;
          };
        }

    -- the hidden faces are those of the step
    hidden-same : hidden ≡ hidden_faces parent.level scheme child.origins
    hidden-same =
        hidden_is
        ∙ ap (λ n. filter (is_hidden child.origins named) (range_with_len 0 n)) can.faces
        ∙ filter-same (is_hidden child.origins named) _ (range_with_len 0 (length parent.level.polygons))
        (weaker-all (λ f. f < length parent.level.polygons) _ (λ f h. ap (λ b. b && not (has_origin child.origins (FromFace f))) (survey_is.named f h))
        (range_with_len 0 (length parent.level.polygons)) (range-below 0 (length parent.level.polygons) (length parent.level.polygons) (omega arith)))

    -- each term is that of a point from a face or of another
    terms-split : (origins : List PointOrigin) → sum_by (λ mask. length mask.terms) (masks_from parent.level scheme origins)
        ≡ sum_by (terms_of_face parent.level) origins + sum_by (terms_of_other parent.level scheme) origins
    terms-split [] = refl
    terms-split (o ∷ origins) =
        let rest = terms-split origins in
        omega (
          arith,
          rest,
          here o,
          sum_by-cons (λ (mask : Mask). length mask.terms) (mask_from parent.level scheme o) (masks_from parent.level scheme origins),
          sum_by-cons (terms_of_face parent.level) o origins,
          sum_by-cons (terms_of_other parent.level scheme) o origins,
        )
      where
        here : (o : PointOrigin) → length (mask_from parent.level scheme o).terms ≡ terms_of_face parent.level o + terms_of_other parent.level scheme o
        here (FromVertex v) = omega arith
        here (FromFace f) = omega arith
        here (FromEdge e) = omega arith

    -- as many terms as the step has
    pub terms-all-made : all_terms parent child scheme hidden ≡ step_terms parent.level scheme child.origins
    terms-all-made =
        let split = terms-split child.origins in
        let same : sum_by (terms_of_hidden parent.level) hidden ≡ sum_by (terms_of_hidden parent.level) (hidden_faces parent.level scheme child.origins) =
        ap (sum_by (terms_of_hidden parent.level)) hidden-same in
        omega (arith, split, same)
