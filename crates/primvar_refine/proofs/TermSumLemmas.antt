-- The terms of a mask summed one after another, over a common multiple of the denominators of their sources.
use Rattle.std.proofs.Common.{◌≡◌, ℕ, zero, suc, ◌+◌, ◌*◌, ◌/◌, ◌<◌, ◌≤◌, ℤ, pos, ◌+ℤ◌, ◌*ℤ◌, List, [], ◌∷◌, length, take, get_or, arith, refl, ap, sym, ◌∙◌, subst}
use Rattle.std.specs.List.{AllByRecursion}
use Rattle.std.specs.Int.{◌∣◌}
use Rattle.std.proofs.lemmas.List.{take_all}
use Rattle.std.proofs.lemmas.List.Sums.{sum_by-cons, sum_by_more_le, sum_by_more, fold_more}
use Rattle.std.proofs.Math.IntN.{*ℤ-zero, +ℤ_idl, +ℤ_idr, +ℤ_assoc}
use Rattle.std.proofs.Math.Nat.{div-mul_cancel, mul_assoc, div-le_self, mul-le-mul_right, mul-le-mul_left}
use Rattle.subdiv_model.specs.Mask.{SourcePoint, OfPoint, Term, weigh, total_weight}
use Rattle.number_laws.proofs.WholeNumberLemmas.{pos-assoc}
use Rattle.number_laws.proofs.MultipleLemmas.{product-positive}
use Rattle.mask_laws.proofs.SumLemmas.{weighted_sum}
use Rattle.ratio128.specs.Numbers.{plus_times, zeros, greatest_amount}
use Rattle.number_width.specs.declared.width.Width.{Width}
use Rattle.primvar_refine.specs.Rows.{Row}
use Rattle.primvar_refine.specs.Width.{sum_bound}
use Rattle.primvar_refine.specs.Sums.{weight_over, term_sums, IsSummand, CanSum}
use Rattle.ratio128.proofs.AmountLemmas.{IsWithin, IsWithin-greatest, IsWithin-plus_times, greatest-within, length-plus_times}

-- one number of the sum
plus_times-at : (w : ℤ) (xs ys : List ℤ) (c : ℕ) → length xs ≡ length ys
    → get_or (plus_times w xs ys) c (pos 0) ≡ get_or xs c (pos 0) +ℤ w *ℤ get_or ys c (pos 0)
plus_times-at w [] [] c e = sym (*ℤ-zero w) ∙ sym (+ℤ_idl (w *ℤ pos 0))
plus_times-at w [] (y ∷ ys) c e = absurd (omega arith)
plus_times-at w (x ∷ xs) [] c e = absurd (omega arith)
plus_times-at w (x ∷ xs) (y ∷ ys) zero e = refl
plus_times-at w (x ∷ xs) (y ∷ ys) (suc c) e = plus_times-at w xs ys c (omega arith)

-- zeros are 0
pub zeros-at : (xs : List ℤ) (c : ℕ) → get_or (zeros xs) c (pos 0) ≡ pos 0
zeros-at [] c = refl
zeros-at (x ∷ xs) zero = refl
zeros-at (x ∷ xs) (suc c) = zeros-at xs c

module _ (m : ℕ) (row : SourcePoint → Row) where
  -- a column of the sum is the sum of the column
  pub term_sums-at : (c : ℕ) (start : List ℤ) (terms : List Term) → AllByRecursion (λ t. length (row t.source).numbers ≡ length start) terms
      → get_or (term_sums m row start terms) c (pos 0)
      ≡ get_or start c (pos 0) +ℤ weighted_sum (λ s. pos (m / (row s).den) *ℤ get_or (row s).numbers c (pos 0)) terms
  term_sums-at c start [] h = sym (+ℤ_idr (get_or start c (pos 0)))
  term_sums-at c start (t ∷ terms) h =
      let numbers = (row t.source).numbers in
      let next = plus_times (pos (weight_over m row t)) start numbers in
      let long : length next ≡ length start = length-plus_times (pos (weight_over m row t)) start numbers in
      let rest = weighted_sum (λ s. pos (m / (row s).den) *ℤ get_or (row s).numbers c (pos 0)) terms in
      term_sums-at c next terms (alike next long terms h.1)
      ∙ ap (λ z. z +ℤ rest) (plus_times-at (pos (weight_over m row t)) start numbers c (sym h.0))
      ∙ +ℤ_assoc (get_or start c (pos 0)) (pos (weight_over m row t) *ℤ get_or numbers c (pos 0)) rest
      ∙ ap (λ z. get_or start c (pos 0) +ℤ (z +ℤ rest)) (sym (pos-assoc t.weight (m / (row t.source).den) (get_or numbers c (pos 0))))
    where
      alike : (next : List ℤ) → length next ≡ length start → (some : List Term) → AllByRecursion (λ u. length (row u.source).numbers ≡ length start) some
          → AllByRecursion (λ u. length (row u.source).numbers ≡ length next) some
      alike next long [] k = tt
      alike next long (u ∷ some) k = (k.0 ∙ sym long, alike next long some k.1)

  -- a sum has as many numbers as before
  pub length-term_sums : (start : List ℤ) (terms : List Term) → length (term_sums m row start terms) ≡ length start
  length-term_sums start [] = refl
  length-term_sums start (t ∷ terms) =
      length-term_sums (plus_times (pos (weight_over m row t)) start (row t.source).numbers) terms
      ∙ length-plus_times (pos (weight_over m row t)) start (row t.source).numbers

  -- the amount of a term
  term-most : (most : ℕ) (t : Term) → (row t.source).den ∣ m → weight_over m row t * ((row t.source).den * most) ≡ t.weight * (m * most)
  term-most most t d =
      reorder t.weight (m / (row t.source).den) (row t.source).den most
      ∙ ap (λ k. t.weight * (k * most)) (div-mul_cancel (row t.source).den d)
    where
      reorder : (a b c e : ℕ) → a * b * (c * e) ≡ a * (b * c * e)
      reorder a b c e = mul_assoc a b (c * e) ∙ ap (λ k. a * k) (sym (mul_assoc b c e))

  -- amounts of a sum of terms
  pub term_sums-within : (most s : ℕ) (start : List ℤ) (terms : List Term) → IsWithin s start
      → AllByRecursion (λ t. ((row t.source).den ∣ m) × (greatest_amount (row t.source).numbers ≤ (row t.source).den * most)) terms
      → IsWithin (s + total_weight terms * (m * most)) (term_sums m row start terms)
  term_sums-within most s start [] w h = let same : s ≡ s + 0 * (m * most) = omega arith in subst (λ n. IsWithin n start) same w
  term_sums-within most s start (t ∷ terms) w h =
      let numbers = (row t.source).numbers in
      let den = (row t.source).den in
      let first = IsWithin-plus_times s (weight_over m row t) (den * most) start numbers w (IsWithin-greatest (den * most) numbers h.0.1) in
      let next = plus_times (pos (weight_over m row t)) start numbers in
      let P : ℕ → Type 0 = λ n. IsWithin n (term_sums m row next terms) in
      subst P
      (ap (λ k. s + k + total_weight terms * (m * most)) (term-most most t h.0.0)
      ∙ together s t.weight (total_weight terms) (m * most)
      ∙ ap (λ k. s + k * (m * most)) (sym (sum_by-cons (λ (u : Term). u.weight) t terms)))
      (term_sums-within most (s + weight_over m row t * (den * most)) next terms first h.1)
    where
      together : (a b c e : ℕ) → a + b * e + c * e ≡ a + (b + c) * e
      together a b c e = omega arith

-- the numbers after the first terms, as a loop over the terms has them
pub record IsSumSoFar (m most : ℕ) (row : SourcePoint → Row) (start : List ℤ) (terms : List Term) (i : ℕ) (sums : List ℤ) : Type 0 where
  pub sums_are : sums ≡ term_sums m row start (take i terms)
  pub long : length sums ≡ length start
  pub within : IsWithin (total_weight (take i terms) * (m * most)) sums

-- a row can be added by a weight, in sums of a width
pub record CanTake (width : Width) (m : ℕ) (sums : List ℤ) (w : ℕ) (r : Row) : Type 0 where
  pub positive : 0 < r.den
  pub long : length sums ≡ length r.numbers
  pub some : 0 < w * (m / r.den)
  pub small : w * (m / r.den) ≤ sum_bound width
  pub fits : greatest_amount sums + w * (m / r.den) * greatest_amount r.numbers ≤ sum_bound width

abbrev pub none : Term
none = weigh 0 (OfPoint 0)

module _ (width : Width) (m most size : ℕ) (row : SourcePoint → Row) (start : List ℤ) (size_is : length start ≡ size) (terms : List Term)
    (can : CanSum width m most size row terms) where
  pub sum-begins : IsWithin 0 start → IsSumSoFar m most row start terms 0 start
  sum-begins w = record {
    sums_are = refl;
    long = refl;
    within = let nothing : 0 ≡ total_weight (take 0 terms) * (m * most) = omega arith in subst (λ n. IsWithin n start) nothing w;
  }

  -- one more term, of this weight and with this row for its source
  module _ (i : ℕ) (inside : i < length terms) (sums : List ℤ) (here : IsSumSoFar m most row start terms i sums) (w : ℕ) (r : Row)
      (weight_is : w ≡ (get_or terms i none).weight) (row_is : r ≡ row (get_or terms i none).source) where
    abbrev t : Term
    t = get_or terms i none

    abbrev is : IsSummand m most size (row t.source)
    is = can.each i none inside

    turned : (P : ℕ → Row → Type 0) → P t.weight (row t.source) → P w r
    turned P p = subst (λ x. P x r) (sym weight_is) (subst (P t.weight) (sym row_is) p)

    -- the weight of the next term is within the bound
    next-small : t.weight * (m / (row t.source).den) ≤ sum_bound width
    next-small =
        let part = sum_by_more_le (λ (u : Term). u.weight) terms i none inside in
        let most-weight : t.weight ≤ total_weight terms = omega arith in
        let less : t.weight * (m / (row t.source).den) ≤ t.weight * m = mul-le-mul_left t.weight (div-le_self m (row t.source).den) in
        let all : t.weight * m ≤ total_weight terms * m = mul-le-mul_right m most-weight in
        small (t.weight * (m / (row t.source).den)) (t.weight * m) (total_weight terms * m) less all can.short
      where
        small : (a b c : ℕ) → a ≤ b → b ≤ c → c ≤ sum_bound width → a ≤ sum_bound width
        small a b c p q r = omega (arith, p, q, r)

    -- the weight of the next term is not 0
    next-some : 0 < t.weight * (m / (row t.source).den)
    next-some =
        let whole : t.weight * (m / (row t.source).den) * (row t.source).den ≡ t.weight * m =
        mul_assoc t.weight (m / (row t.source).den) (row t.source).den ∙ ap (λ k. t.weight * k) (div-mul_cancel (row t.source).den is.divides) in
        factor (t.weight * (m / (row t.source).den)) (row t.source).den (subst (λ k. 0 < k) (sym whole) (product-positive t.weight m (can.weighed i none inside) can.some))
      where
        factor : (a b : ℕ) → 0 < a * b → 0 < a
        factor zero b h = absurd (omega (arith, h))
        factor (suc a) b h = omega arith

    -- the numbers of the next term can be added
    next-fits : greatest_amount sums + weight_over m row t * greatest_amount (row t.source).numbers ≤ sum_bound width
    next-fits =
        let part = sum_by_more_le (λ (u : Term). u.weight) terms i none inside in
        let enough : (total_weight (take i terms) + t.weight) * (m * most) ≤ total_weight terms * (m * most) = mul-le-mul_right (m * most) part in
        let own = term-most m row most t is.divides in
        let before : greatest_amount sums ≤ total_weight (take i terms) * (m * most) = greatest-within _ sums here.within in
        let next : weight_over m row t * greatest_amount (row t.source).numbers ≤ weight_over m row t * ((row t.source).den * most) =
        mul-le-mul_left (weight_over m row t) is.within in
        small (total_weight (take i terms)) t.weight (m * most) _ (weight_over m row t * ((row t.source).den * most)) (total_weight terms * (m * most)) _ before next own enough can.kept
      where
        small : (a b k g x y h : ℕ) → g ≤ a * k → h ≤ x → x ≡ b * k → (a + b) * k ≤ y → y ≤ sum_bound width → g + h ≤ sum_bound width
        small a b k g x y h p q e enough short = omega (arith, p, q, e, enough, short)

    -- the next term can be added
    pub can-take : CanTake width m sums w r
    can-take =
        turned (λ x y. CanTake width m sums x y) (record {
          positive = is.positive;
          long = here.long ∙ size_is ∙ sym is.alike;
          some = next-some;
          small = next-small;
          fits = next-fits;
        })

    -- the sum with the next term
    pub sum-goes_on : IsSumSoFar m most row start terms (i + 1) (plus_times (pos (w * (m / r.den))) sums r.numbers)
    sum-goes_on =
        turned (λ x y. IsSumSoFar m most row start terms (i + 1) (plus_times (pos (x * (m / y.den))) sums y.numbers))
        (record {
          sums_are = ap (λ s. plus_times (pos (weight_over m row t)) s (row t.source).numbers) here.sums_are
              ∙ sym (fold_more (λ s u. plus_times (pos (weight_over m row u)) s (row u.source).numbers) start terms i none inside);
          long = length-plus_times (pos (weight_over m row t)) sums (row t.source).numbers ∙ here.long;
          within =
              let more = sum_by_more (λ (u : Term). u.weight) terms i none inside in
              let own = term-most m row most t is.divides in
              let P : ℕ → Type 0 = λ n. IsWithin n (plus_times (pos (weight_over m row t)) sums (row t.source).numbers) in
              subst P (together (total_weight (take i terms)) t.weight (m * most) _ _ own more)
              (IsWithin-plus_times (total_weight (take i terms) * (m * most)) (weight_over m row t) ((row t.source).den * most) sums (row t.source).numbers here.within
              (IsWithin-greatest _ _ is.within));
        })
      where
        together : (a b k x y : ℕ) → x ≡ b * k → y ≡ a + b → a * k + x ≡ y * k
        together a b k x y e h = ap (λ n. a * k + n) e ∙ distributed a b k ∙ ap (λ n. n * k) (sym h)
          where
            distributed : (a b k : ℕ) → a * k + b * k ≡ (a + b) * k
            distributed a b k = omega arith

-- the sum after all terms
pub sum-ends : (m most : ℕ) (row : SourcePoint → Row) (start : List ℤ) (terms : List Term) (i : ℕ) (sums : List ℤ) → length terms ≤ i
    → IsSumSoFar m most row start terms i sums → sums ≡ term_sums m row start terms
sum-ends m most row start terms i sums past here = here.sums_are ∙ ap (term_sums m row start) (take_all i terms past)
