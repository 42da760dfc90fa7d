-- A column that is added to values, entry by entry.
use Rattle.std.proofs.Common.{◌≡◌, ℕ, ◌+◌, ◌^◌, ◌<◌, ℤ, pos, ◌+ℤ◌, ◌*ℤ◌, to_z, nat_eq, if◌then◌else◌, Bool, true, List, [], ◌∷◌, length, map, get_or, set, take, arith, refl, ap, sym, ◌∙◌, subst, inl, inr}
use Rattle.std.specs.Int.{w128}
use Rattle.std.proofs.Math.IntN.{+ℤ_assoc, +ℤ_idr, zero-*ℤ}
use Rattle.std.proofs.lemmas.Bool.{cases_eq, eq-eqb, ne_eqb}
use Rattle.std.proofs.lemmas.Bool.Decides.{nat_tests}
use Rattle.std.proofs.lemmas.Int.{to_z_pos}
use Rattle.std.proofs.lemmas.List.{length-map, get_or-map, get_or_default, get_or-set_same, get_or-set_other}
use Rattle.std.proofs.lemmas.List.Sums.{sum_by_more, sum_by_more_le, sum_by-cons, fold_more}
use Rattle.number_laws.proofs.WholeNumberLemmas.{pos-sum}
use Rattle.ratio128.specs.Numbers.{plus_times, CanAdd}
use Rattle.ratio128.specs.declared.point.Point3.{Point3}
use Rattle.stencil_apply.proofs.ArrayLemmas.{cons_both}
use Rattle.stencil_session.specs.Session.{numbers_of}
use Rattle.stencil_session.specs.Columns.{Entry, amount_in, marked, AreAdded, CanAddColumn}

-- no times a difference, and two times one after the other
pub plus_times-none : (xs ys : List ℤ) → plus_times (pos 0) xs ys ≡ xs
plus_times-none [] ys = refl
plus_times-none (x ∷ xs) [] = refl
plus_times-none (x ∷ xs) (y ∷ ys) = cons_both (ap (λ z. x +ℤ z) (zero-*ℤ y) ∙ +ℤ_idr x) (plus_times-none xs ys)

plus_times-more : (a b : ℕ) (xs ys : List ℤ) → plus_times (pos b) (plus_times (pos a) xs ys) ys ≡ plus_times (pos (a + b)) xs ys
plus_times-more a b [] ys = refl
plus_times-more a b (x ∷ xs) [] = refl
plus_times-more a b (x ∷ xs) (y ∷ ys) = cons_both (+ℤ_assoc x (pos a *ℤ y) (pos b *ℤ y) ∙ ap (λ z. x +ℤ z) (pos-sum a b y)) (plus_times-more a b xs ys)

module _ (column : List Entry) (before : List Point3) (difference : List ℤ) (can : CanAddColumn column (map numbers_of before) difference)
    (rows numerators : List ℕ) (named : rows ≡ map (λ entry. entry.0) column) (numbered : numerators ≡ map (λ entry. entry.1) column) (at : ℕ) (h : at < length rows) where
  abbrev entry : Entry
  entry = get_or column at (0, 0)

  in-column : at < length column
  in-column = omega (arith, h, ap length named, length-map column (λ (e : Entry). e.0))

  row-is : get_or rows at 0 ≡ entry.0
  row-is = ap (λ xs. get_or xs at 0) named ∙ get_or-map (λ (e : Entry). e.0) column at (0, 0) 0 in-column

  numerator-is : get_or numerators at 0 ≡ entry.1
  numerator-is = ap (λ xs. get_or xs at 0) numbered ∙ get_or-map (λ (e : Entry). e.1) column at (0, 0) 0 in-column

  row-inside : entry.0 < length before
  row-inside = let there = can.inside at (0, 0) in-column in omega (arith, there, length-map before numbers_of)

  abbrev amount_at : ℕ → Entry → ℕ
  amount_at row e = if nat_eq e.0 row then e.1 else 0

  amount-more : (row : ℕ) → amount_in (take (at + 1) column) row ≡ amount_in (take at column) row + amount_at row entry
  amount-more row = sum_by_more (amount_at row) column at (0, 0) in-column

  same-amount : (row : ℕ) → row ≡ entry.0 → amount_at row entry ≡ entry.1
  same-amount row e = grind (arith, nat_tests)

  -- one mark more
  pub marked-more : (old now new : List Bool) → now ≡ marked old (take at column) → new ≡ set now (get_or rows at 0) true → new ≡ marked old (take (at + 1) column)
  marked-more old now new so_far e =
      e
      ∙ ap (λ row. set now row true) row-is
      ∙ ap (λ marks. set marks entry.0 true) so_far
      ∙ sym (fold_more (λ marks (e : Entry). set marks e.0 true) old column at (0, 0) in-column)

  -- the row has not stood before this entry
  none-before : amount_in (take at column) entry.0 ≡ 0
  none-before = omega (arith, sum_by_more_le (amount_at entry.0) column at (0, 0) in-column, same-amount entry.0 refl, can.once at (0, 0) in-column)

  -- the numerator of the entry can be added
  module _ (w : ℕ) (weight : w ≡ get_or numerators at 0) where
    weight-is : w ≡ entry.1
    weight-is = weight ∙ numerator-is

    pub weight-short : w < 2 ^ 127
    weight-short = let short = can.short at (0, 0) in-column in omega (arith, short, weight-is)

    module _ (now : List Point3) (long : length now ≡ length before) (added : AreAdded (take at column) difference before now) where
      pub in-values : get_or rows at 0 < length now
      in-values = omega (arith, row-is, row-inside, long)

      value-is : (d : Point3) → numbers_of (get_or now (get_or rows at 0) d) ≡ get_or (map numbers_of before) entry.0 []
      value-is d =
          ap (λ row. numbers_of (get_or now row d)) row-is
          ∙ added entry.0 d row-inside
          ∙ ap (λ n. plus_times (pos n) (numbers_of (get_or before entry.0 d)) difference) none-before
          ∙ plus_times-none (numbers_of (get_or before entry.0 d)) difference
          ∙ sym (get_or-map numbers_of before entry.0 d [] row-inside)

      pub can-add : (d : Point3) → CanAdd (pos w) (numbers_of (get_or now (get_or rows at 0) d)) difference
      can-add d =
          let fits = can.fits at (0, 0) in-column in
          subst (λ n. CanAdd (pos n) (numbers_of (get_or now (get_or rows at 0) d)) difference) (sym weight-is)
          (subst (λ xs. CanAdd (pos entry.1) xs difference) (sym (value-is d)) fits)

      pub added-more : (new : List Point3) → AreAdded ((get_or rows at 0, w) ∷ []) difference now new → AreAdded (take (at + 1) column) difference before new
      added-more new one row d inside =
          one row d (omega (arith, inside, long))
          ∙ ap (λ e. plus_times (pos (amount_in (e ∷ []) row)) (numbers_of (get_or now row d)) difference) same
          ∙ ap (λ xs. plus_times (pos (amount_in (entry ∷ []) row)) xs difference) (added row d inside)
          ∙ plus_times-more (amount_in (take at column) row) (amount_in (entry ∷ []) row) (numbers_of (get_or before row d)) difference
          ∙ ap (λ n. plus_times (pos n) (numbers_of (get_or before row d)) difference) (omega (arith, amount-more row, sum_by-cons (amount_at row) entry []))
        where
          same : ◌≡◌ {A = Entry} (get_or rows at 0, w) entry
          same = ap {B = Entry} (λ r. (r, w)) row-is ∙ ap {B = Entry} (λ n. (entry.0, n)) weight-is

-- one value that is written
pub added-one : (row numerator : ℕ) (difference : List ℤ) (old : List Point3) (value new : Point3) → row < length old → numerator < 2 ^ 127 → value ≡ get_or old row value → numbers_of new ≡ plus_times (to_z w128 numerator) (numbers_of value) difference
    → AreAdded ((row, numerator) ∷ []) difference old (set old row new)
added-one row numerator difference old value new inside short read added other d there = elim (cases_eq other row) [
  | inl same ↦
      let all : amount_in ((row, numerator) ∷ []) other ≡ numerator = omega (arith, ap (λ b. if b then numerator else 0) (eq-eqb row other (sym same))) in
      ap (λ r. numbers_of (get_or (set old row new) r d)) same
      ∙ ap numbers_of (get_or-set_same old row new d inside)
      ∙ added
      ∙ ap (λ z. plus_times z (numbers_of value) difference) (to_z_pos w128 numerator (omega (arith, short)) ∙ ap pos (sym all))
      ∙ ap (λ (p : Point3). plus_times (pos (amount_in ((row, numerator) ∷ []) other)) (numbers_of p) difference) (read ∙ ap (λ r. get_or old r value) (sym same) ∙ get_or_default old other value d there)
  | inr apart ↦
      let none : amount_in ((row, numerator) ∷ []) other ≡ 0 = omega (arith, ap (λ b. if b then numerator else 0) (ne_eqb row other (λ e. apart (sym e)))) in
      ap numbers_of (get_or-set_other old row other new d apart)
      ∙ sym (plus_times-none (numbers_of (get_or old other d)) difference)
      ∙ ap (λ n. plus_times (pos n) (numbers_of (get_or old other d)) difference) (sym none)
]
