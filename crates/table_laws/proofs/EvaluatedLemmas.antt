-- The rows of the table of a level, over control points, have the values of the points after the steps.
use Rattle.std.proofs.Common.{◌≡◌, ℕ, zero, suc, ◌+◌, ◌*◌, ◌<◌, ℤ, pos, ◌+ℤ◌, ◌*ℤ◌, List, [], ◌∷◌, ◌++◌, length, map, get_or, arith, refl, ap, sym, subst, ◌∙◌, None}
use Rattle.std.specs.Prelude.{codes}
use Rattle.std.specs.List.{AllByRecursion, flat_map, enumerate_from}
use Rattle.std.proofs.Math.IntN.{*ℤ_comm}
use Rattle.std.proofs.lemmas.List.{length-map}
use Rattle.std.proofs.lemmas.List.Elements.{recursion_from_All}
use Rattle.subdiv_model.specs.Level.{Level}
use Rattle.subdiv_model.specs.Child.{refined_level}
use Rattle.subdiv_model.specs.Mask.{Scheme, child_masks}
use Rattle.subdiv_model.specs.NumberText.{value_text}
use Rattle.subdiv_model.specs.Refined.{point_value, mask_value, source_value, control_values, refined_values, refined_coordinates, over_common, points_of_coordinates}
use Rattle.subdiv_model.specs.Support.{refined_supports, stencil_numerator}
use Rattle.subdiv_model.specs.Table.{Row, IsRow, IsTable, level_row, level_table}
use Rattle.subdiv_model.specs.Text.{line_text, point_line}
use Rattle.subdiv_model.specs.Value.{Value, IsSameValue, whole_value}
use Rattle.far_model.specs.Stored.{sum_over, row_value, table_coordinates}
use Rattle.number_laws.proofs.MultipleLemmas.{product-positive}
use Rattle.number_laws.proofs.TextLemmas.{fraction_text-same}
use Rattle.number_laws.proofs.WholeNumberLemmas.{pos-assoc}
use Rattle.stencil_laws.specs.Rows.{sum_of_shares, value_of_shares}
use Rattle.stencil_laws.proofs.ShareLemmas.{value-positive}
use Rattle.stencil_laws.proofs.SupportLemmas.{length-child_masks, length-supports}
use Rattle.stencil_laws.proofs.SupportSumLemmas.{support-value}
use Rattle.table_laws.specs.Evaluated.{LevelOverControls, evaluated_points, points_after_steps}

-- equal values, over a common denominator, have one text
text-same : (common : ℕ) (x y : Value) → 0 < common → 0 < x.den → 0 < y.den → IsSameValue x y
    → value_text (over_common common x) ≡ value_text (over_common common y)
text-same common x y some first second same =
    fraction_text-same x.num y.num (x.den * common) (y.den * common) (product-positive x.den common first some) (product-positive y.den common second some)
    (scaled x.num y.den ∙ ap (λ z. pos common *ℤ z) same ∙ sym (scaled y.num x.den))
  where
    scaled : (a : ℤ) (n : ℕ) → a *ℤ pos (n * common) ≡ pos common *ℤ (a *ℤ pos n)
    scaled a n =
        let turned : n * common ≡ common * n = omega arith in
        *ℤ_comm a (pos (n * common))
        ∙ ap (λ m. pos m *ℤ a) turned
        ∙ sym (pos-assoc common n a)
        ∙ ap (λ z. pos common *ℤ z) (*ℤ_comm (pos n) a)

-- the sum of numerators times control numbers is that of the shares
sum-same : (share : ℕ → ℕ) (numbers : List ℤ) (points : List ℕ) → sum_over numbers (map (λ control. (control, share control)) points) ≡ sum_of_shares share numbers points
sum-same share numbers [] = refl
sum-same share numbers (v ∷ points) = ap (λ z. pos (share v) *ℤ get_or numbers v (pos 0) +ℤ z) (sum-same share numbers points)

module _ (level : Level) (scheme : Scheme) (k : ℕ) (common : ℕ) (some : 0 < common) (numbers : List ℤ) (count : length numbers ≡ level.point_count) where
  abbrev values : List Value
  values = refined_values level scheme (control_values numbers) k

  abbrev row : ℕ × List ℕ → Row
  row = level_row level scheme k

  abbrev row_text_of : Row → List ℕ
  row_text_of r = value_text (over_common common (row_value numbers r))

  -- a point has one text by its row and by refinement
  point-text : (p : ℕ) (support : List ℕ) → support ≡ get_or (refined_supports level scheme k) p [] → 0 < (row (p, support)).den
      → row_text_of (row (p, support)) ≡ value_text (over_common common (point_value values p))
  point-text p support own positive =
      let x = point_value values p in
      let shares = value_of_shares level scheme numbers k p support in
      let same : IsSameValue x shares = subst (λ points. IsSameValue x (value_of_shares level scheme numbers k p points)) (sym own) (support-value level scheme k p numbers count) in
      let sum : (row_value numbers (row (p, support))).num ≡ shares.num = sum-same (stencil_numerator level scheme k p) numbers support in
      ap (λ (n : ℤ). value_text (over_common common (record { num = n; den = shares.den }))) sum
      ∙ sym (text-same common x shares some (value-positive level scheme numbers k p positive) positive same)

  -- points one after another
  texts-same : (start : ℕ) (supports : List (List ℕ)) (xs : List Value) → length supports ≡ length xs
      → ((i : ℕ) → i < length supports → get_or supports i [] ≡ get_or (refined_supports level scheme k) (start + i) [])
      → ((i : ℕ) → i < length supports → get_or xs i (whole_value (pos 0)) ≡ point_value values (start + i))
      → AllByRecursion (λ (r : Row). 0 < r.den) (map row (enumerate_from start supports))
      → map value_text (map (λ r. over_common common (row_value numbers r)) (map row (enumerate_from start supports))) ≡ map value_text (map (over_common common) xs)
  texts-same start [] [] same own values_own positive = refl
  texts-same start [] (x ∷ xs) same own values_own positive = absurd (omega (arith, same))
  texts-same start (support ∷ supports) [] same own values_own positive = absurd (omega (arith, same))
  texts-same start (support ∷ supports) (x ∷ xs) same own values_own positive =
      let here : start + 0 ≡ start = omega arith in
      let shift : (i : ℕ) → start + suc i ≡ start + 1 + i = λ i. omega arith in
      let others = map value_text (map (λ r. over_common common (row_value numbers r)) (map row (enumerate_from (start + 1) supports))) in
      let mine = own 0 (omega arith) ∙ ap (λ p. get_or (refined_supports level scheme k) p []) here in
      let value = values_own 0 (omega arith) ∙ ap (point_value values) here in
      ap (λ text. text ∷ others) (point-text start support mine positive.0 ∙ ap (λ v. value_text (over_common common v)) (sym value))
      ∙ ap (λ texts. value_text (over_common common x) ∷ texts)
      (texts-same (start + 1) supports xs (omega (arith, same))
      (λ i inside. own (suc i) (omega (arith, inside)) ∙ ap (λ p. get_or (refined_supports level scheme k) p []) (shift i))
      (λ i inside. values_own (suc i) (omega (arith, inside)) ∙ ap (point_value values) (shift i)) positive.1)

length-values : (level : Level) (scheme : Scheme) (numbers : List ℤ) (k : ℕ) → length numbers ≡ level.point_count
    → length (refined_values level scheme (control_values numbers) k) ≡ (refined_level level k).point_count
length-values level scheme numbers zero count = length-map numbers whole_value ∙ count
length-values level scheme numbers (suc k) count =
    let here = refined_level level k in
    length-map (child_masks here scheme) (mask_value (source_value here (refined_values level scheme (control_values numbers) k))) ∙ length-child_masks here scheme

-- the coordinates of all points have the texts of the refined ones
coordinates-same : (level : Level) (scheme : Scheme) (k common : ℕ) (numbers : List ℤ) → 0 < common → length numbers ≡ level.point_count → IsTable (level_table level scheme k)
    → map value_text (table_coordinates (level_table level scheme k) common numbers) ≡ map value_text (refined_coordinates level scheme common numbers k)
coordinates-same level scheme k common numbers some count is =
    let supports = refined_supports level scheme k in
    let rows = map (level_row level scheme k) (enumerate_from 0 supports) in
    let none : (i : ℕ) → i ≡ 0 + i = λ i. omega arith in
    texts-same level scheme k common some numbers count 0 supports (refined_values level scheme (control_values numbers) k)
    (length-supports level scheme k ∙ sym (length-values level scheme numbers k count))
    (λ i inside. ap (λ p. get_or supports p []) (none i))
    (λ i inside. ap (point_value (refined_values level scheme (control_values numbers) k)) (none i))
    (positives rows (recursion_from_All (IsRow level.point_count) rows is.rows))
  where
    positives : (some : List Row) → AllByRecursion (IsRow level.point_count) some → AllByRecursion (λ (r : Row). 0 < r.den) some
    positives [] are = tt
    positives (r ∷ some) are = (are.0.positive, positives some are.1)

-- the lines of points are those of the texts of their coordinates
abbrev lines_of_texts : List (List ℕ) → List (List ℕ) → List (List ℕ) → List ℕ
lines_of_texts (x ∷ xs) (y ∷ ys) (z ∷ zs) = line_text (codes "v") (x ∷ y ∷ z ∷ []) ++ lines_of_texts xs ys zs
lines_of_texts [] ys zs = []
lines_of_texts (x ∷ xs) [] zs = []
lines_of_texts (x ∷ xs) (y ∷ ys) [] = []

lines-of : (xs ys zs : List Value) → flat_map (point_line None) (points_of_coordinates xs ys zs) ≡ lines_of_texts (map value_text xs) (map value_text ys) (map value_text zs)
lines-of [] ys zs = refl
lines-of (x ∷ xs) [] zs = refl
lines-of (x ∷ xs) (y ∷ ys) [] = refl
lines-of (x ∷ xs) (y ∷ ys) (z ∷ zs) = ap (λ lines. point_line None (x, y, z) ++ lines) (lines-of xs ys zs)

lines-same : (xs ys zs us vs ws : List Value) → map value_text xs ≡ map value_text us → map value_text ys ≡ map value_text vs → map value_text zs ≡ map value_text ws
    → flat_map (point_line None) (points_of_coordinates xs ys zs) ≡ flat_map (point_line None) (points_of_coordinates us vs ws)
lines-same xs ys zs us vs ws first second third =
    lines-of xs ys zs
    ∙ ap (λ texts. lines_of_texts texts (map value_text ys) (map value_text zs)) first
    ∙ ap (λ texts. lines_of_texts (map value_text us) texts (map value_text zs)) second
    ∙ ap (λ texts. lines_of_texts (map value_text us) (map value_text vs) texts) third
    ∙ sym (lines-of us vs ws)

pub points-same : (given : LevelOverControls) → flat_map (point_line None) (evaluated_points given) ≡ flat_map (point_line None) (points_after_steps given)
points-same given =
    let axis : (axis : ℤ × ℤ × ℤ → ℤ) → map value_text (table_coordinates (level_table given.level given.scheme given.steps) given.common (map axis given.controls))
    ≡ map value_text (refined_coordinates given.level given.scheme given.common (map axis given.controls) given.steps) =
    λ axis. coordinates-same given.level given.scheme given.steps given.common (map axis given.controls) given.above_zero (length-map given.controls axis ∙ given.one_each) given.is_table in
    lines-same _ _ _ _ _ _ (axis (λ p. p.0)) (axis (λ p. p.1)) (axis (λ p. p.2))
