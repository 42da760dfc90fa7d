-- The rows of the table of a level whose masks are means.
use Rattle.std.proofs.Common.{◌≡◌, ℕ, suc, ◌+◌, ◌<◌, ◌≤◌, true, nat_eq, List, [], ◌∷◌, length, map, get_or, arith, refl, ap, sym, subst, ◌∙◌, eq-eqb}
use Rattle.std.specs.List.{AllByRecursion, enumerate_from, sum_by}
use Rattle.std.specs.List.Sorted.{IsStrictlyIncreasing}
use Rattle.std.proofs.lemmas.Bool.{or_left, or_right}
use Rattle.std.proofs.lemmas.List.{length-map}
use Rattle.std.proofs.lemmas.List.Elements.{All-from_recursion, recursion_from_All}
use Rattle.std.proofs.lemmas.List.Sums.{sum_by-cons}
use Rattle.subdiv_model.specs.Channel.{number_bound}
use Rattle.subdiv_model.specs.Child.{refined_level}
use Rattle.subdiv_model.specs.Level.{Level}
use Rattle.subdiv_model.specs.Mask.{Scheme, has_means}
use Rattle.subdiv_model.specs.Polygons.{is_among}
use Rattle.subdiv_model.specs.Refined.{refined_denominators}
use Rattle.subdiv_model.specs.Support.{refined_supports, stencil_numerator}
use Rattle.subdiv_model.specs.Table.{Share, Row, IsRow, total_of, entries_of, level_row}
use Rattle.stencil_laws.proofs.MeanShareLemmas.{share-above}
use Rattle.stencil_laws.proofs.SupportLemmas.{length-supports, supports-ascending, supports-inside}
use Rattle.stencil_laws.proofs.SupportSumLemmas.{support-total}

-- a list contains each of its items
among-all : (whole xs : List ℕ) → ((v : ℕ) → is_among xs v ≡ true → is_among whole v ≡ true) → AllByRecursion (λ v. is_among whole v ≡ true) xs
among-all whole [] kept = tt
among-all whole (x ∷ xs) kept = (
  kept x (or_left (nat_eq x x) (is_among xs x) (eq-eqb x x refl)),
  among-all whole xs (λ v among. kept v (or_right (nat_eq v x) (is_among xs v) among)),
)

-- control points with a numerator each
module _ (share : ℕ → ℕ) where
  abbrev with_share : ℕ → Share
  with_share control = (control, share control)

  points-of : (support : List ℕ) → map (λ (s : Share). s.0) (map with_share support) ≡ support
  points-of [] = refl
  points-of (v ∷ support) = ap (λ points. v ∷ points) (points-of support)

  each-point : (P : ℕ → Type 0) (support : List ℕ) → AllByRecursion P support → AllByRecursion (λ (s : Share). P s.0) (map with_share support)
  each-point P [] all = tt
  each-point P (v ∷ support) all = (all.0, each-point P support all.1)

  each-share : (P : ℕ → Type 0) (support : List ℕ) → AllByRecursion (λ v. P (share v)) support → AllByRecursion (λ (s : Share). P s.1) (map with_share support)
  each-share P [] all = tt
  each-share P (v ∷ support) all = (all.0, each-share P support all.1)

  total : (support : List ℕ) → total_of (map with_share support) ≡ sum_by share support
  total [] = refl
  total (v ∷ support) =
      let rest = total support in
      let whole = sum_by-cons (λ (s : Share). s.1) (with_share v) (map with_share support) in
      let own = sum_by-cons share v support in
      omega (arith, rest, whole, own)

weaker : (P Q : ℕ → Type 0) (xs : List ℕ) → ((x : ℕ) → P x → Q x) → AllByRecursion P xs → AllByRecursion Q xs
weaker P Q [] from all = tt
weaker P Q (x ∷ xs) from all = (from x all.0, weaker P Q xs from all.1)

module _ (level : Level) (scheme : Scheme) (k : ℕ) (means : (j : ℕ) → has_means (refined_level level j) scheme ≡ true) where
  abbrev den : ℕ → ℕ
  den p = get_or (refined_denominators level scheme k) p 1

  row-at : (p : ℕ) → p < (refined_level level k).point_count → 0 < den p → den p ≤ number_bound
      → IsRow level.point_count (level_row level scheme k (p, get_or (refined_supports level scheme k) p []))
  row-at p inside positive short =
      let support = get_or (refined_supports level scheme k) p [] in
      let share = stencil_numerator level scheme k p in
      let placed : p < length (refined_supports level scheme k) = omega (arith, inside, length-supports level scheme k) in
      let early : (j : ℕ) → j < k → has_means (refined_level level j) scheme ≡ true = λ j below. means j in
      let below = recursion_from_All (λ v. v < level.point_count) support (supports-inside level scheme k p [] placed) in
      let above = weaker (λ v. is_among support v ≡ true) (λ v. 0 < share v) support (λ v among. share-above level scheme k p v early among) (among-all support support (λ v among. among)) in
      record {
        positive = positive;
        short = short;
        ascending = subst IsStrictlyIncreasing (sym (points-of share support)) (supports-ascending level scheme k p [] placed);
        inside = All-from_recursion _ (map (with_share share) support) (each-point share (λ v. v < level.point_count) support below);
        each = All-from_recursion _ (map (with_share share) support) (each-share share (λ n. 0 < n) support above);
        whole = total share support ∙ support-total level scheme k p early inside;
      }

  rows-from : (start : ℕ) (supports : List (List ℕ)) → ((i : ℕ) → i < length supports → get_or supports i [] ≡ get_or (refined_supports level scheme k) (start + i) [])
      → ((i : ℕ) → i < length supports → IsRow level.point_count (level_row level scheme k (start + i, get_or (refined_supports level scheme k) (start + i) [])))
      → AllByRecursion (IsRow level.point_count) (map (level_row level scheme k) (enumerate_from start supports))
  rows-from start [] own are = tt
  rows-from start (support ∷ supports) own are =
      let here : start + 0 ≡ start = omega arith in
      let shift : (i : ℕ) → start + suc i ≡ start + 1 + i = λ i. omega arith in
      let all = refined_supports level scheme k in
      let Is : ℕ → Type 0 = λ p. IsRow level.point_count (level_row level scheme k (p, get_or all p [])) in
      let mine : support ≡ get_or all start [] = own 0 (omega arith) ∙ ap (λ p. get_or all p []) here in
      let first : Is start = subst Is here (are 0 (omega arith)) in (
        subst (λ points. IsRow level.point_count (level_row level scheme k (start, points))) (sym mine) first,
        rows-from (start + 1) supports (λ i inside. own (suc i) (omega (arith, inside)) ∙ ap (λ p. get_or all p []) (shift i))
            (λ i inside. subst Is (shift i) (are (suc i) (omega (arith, inside)))),
      )

  pub rows-are : ((p : ℕ) → 0 < den p) → ((p : ℕ) → den p ≤ number_bound)
      → AllByRecursion (IsRow level.point_count) (map (level_row level scheme k) (enumerate_from 0 (refined_supports level scheme k)))
  rows-are positive short =
      let all = refined_supports level scheme k in
      let next : (i : ℕ) → i ≡ 0 + i = λ i. omega arith in
      rows-from 0 all (λ i inside. ap (λ p. get_or all p []) (next i))
      (λ i inside. row-at (0 + i) (omega (arith, inside, length-supports level scheme k)) (positive (0 + i)) (short (0 + i)))

-- Entries.

pub entries-from : (level : Level) (scheme : Scheme) (k start : ℕ) (supports : List (List ℕ))
    → entries_of (map (level_row level scheme k) (enumerate_from start supports)) ≡ sum_by length supports
entries-from level scheme k start [] = refl
entries-from level scheme k start (support ∷ supports) =
    let row = level_row level scheme k in
    let rest = entries-from level scheme k (start + 1) supports in
    let whole = sum_by-cons (λ (r : Row). length r.shares) (row (start, support)) (map row (enumerate_from (start + 1) supports)) in
    let own = sum_by-cons (λ (points : List ℕ). length points) support supports in
    let each = length-map support (with_share (stencil_numerator level scheme k start)) in
    omega (arith, rest, whole, own, each)

-- each row has an entry
pub rows-few : (controls : ℕ) (rows : List Row) → AllByRecursion (IsRow controls) rows → length rows ≤ entries_of rows
rows-few controls [] are = omega arith
rows-few controls (row ∷ rows) are =
    let rest = rows-few controls rows are.1 in
    let whole = sum_by-cons (λ (r : Row). length r.shares) row rows in
    let own = some row.shares (are.0.whole) are.0.positive in
    omega (arith, rest, whole, own)
  where
    some : (shares : List Share) {den : ℕ} → total_of shares ≡ den → 0 < den → 0 < length shares
    some [] total positive = absurd (omega (arith, total, positive))
    some (share ∷ shares) total positive = omega arith
