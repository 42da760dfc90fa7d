-- Sums of rows over controls, column by column.
use Rattle.std.proofs.Common.{◌≡◌, ℕ, zero, suc, ◌+◌, ◌*◌, ◌≤◌, ℤ, pos, ◌+ℤ◌, ◌*ℤ◌, List, [], ◌∷◌, length, get_or, arith, refl, ap, sym, ◌∙◌, subst}
use Rattle.std.specs.List.{AllByRecursion}
use Rattle.std.proofs.Math.IntN.{*ℤ-zero, +ℤ_idl, +ℤ_idr, +ℤ_assoc}
use Rattle.std.proofs.lemmas.List.Sums.{sum_by-cons}
use Rattle.ratio128.specs.Numbers.{plus_times, greatest_amount}
use Rattle.stencil_apply.specs.Table.{Share, total_of, sum_of_shares}
use Rattle.ratio128.proofs.AmountLemmas.{IsWithin, IsWithin-greatest, IsWithin-plus_times, length-plus_times}
use Rattle.stencil_factory.specs.Rows.{share_sum}
use Rattle.channel_refine.specs.Refined.{column_of}
use Rattle.channel_refine.specs.Evaluated.{control_rows}

-- one number of a sum
plus_times-at : (w : ℤ) (xs ys : List ℤ) (c : ℕ) → length ys ≡ length xs
    → get_or (plus_times w xs ys) c (pos 0) ≡ get_or xs c (pos 0) +ℤ w *ℤ get_or ys c (pos 0)
plus_times-at w [] [] c e = sym (*ℤ-zero w) ∙ sym (+ℤ_idl (w *ℤ pos 0))
plus_times-at w [] (y ∷ ys) c e = absurd (omega (arith, e))
plus_times-at w (x ∷ xs) [] c e = absurd (omega (arith, e))
plus_times-at w (x ∷ xs) (y ∷ ys) zero e = refl
plus_times-at w (x ∷ xs) (y ∷ ys) (suc c) e = plus_times-at w xs ys c (omega (arith, e))

-- a column of the controls
column-at : (controls : List (List ℤ)) (c v : ℕ) → get_or (column_of c (control_rows controls)) v (pos 0) ≡ get_or (get_or controls v []) c (pos 0)
column-at [] c v = refl
column-at (numbers ∷ controls) c zero = refl
column-at (numbers ∷ controls) c (suc v) = column-at controls c v

module _ (controls : List (List ℤ)) where
  alike-next : (n m : ℕ) (shares : List Share) → n ≡ m → AllByRecursion (λ share. length (get_or controls share.0 []) ≡ n) shares
      → AllByRecursion (λ share. length (get_or controls share.0 []) ≡ m) shares
  alike-next n m shares e h = subst (λ k. AllByRecursion (λ share. length (get_or controls share.0 []) ≡ k) shares) e h

  -- a column of the sum is the sum of the column
  pub sum-at : (c : ℕ) (start : List ℤ) (shares : List Share) → AllByRecursion (λ share. length (get_or controls share.0 []) ≡ length start) shares
      → get_or (sum_of_shares start controls shares) c (pos 0) ≡ get_or start c (pos 0) +ℤ share_sum (column_of c (control_rows controls)) shares
  sum-at c start [] h = sym (+ℤ_idr (get_or start c (pos 0)))
  sum-at c start (share ∷ shares) h =
      let numbers = get_or controls share.0 [] in
      let next = plus_times (pos share.1) start numbers in
      let rest = share_sum (column_of c (control_rows controls)) shares in
      let first = get_or start c (pos 0) in
      sum-at c next shares (alike-next _ _ shares (sym (length-plus_times (pos share.1) start numbers)) h.1)
      ∙ ap (λ z. z +ℤ rest) (plus_times-at (pos share.1) start numbers c h.0)
      ∙ +ℤ_assoc first (pos share.1 *ℤ get_or numbers c (pos 0)) rest
      ∙ ap (λ z. first +ℤ (pos share.1 *ℤ z +ℤ rest)) (sym (column-at controls c share.0))

  -- a sum has as many numbers as its rows
  pub length-sum : (start : List ℤ) (shares : List Share) → length (sum_of_shares start controls shares) ≡ length start
  length-sum start [] = refl
  length-sum start (share ∷ shares) =
      length-sum (plus_times (pos share.1) start (get_or controls share.0 [])) shares ∙ length-plus_times (pos share.1) start (get_or controls share.0 [])

  -- amounts of a sum of shares
  pub sum-within : (most s : ℕ) (start : List ℤ) (shares : List Share) → IsWithin s start → AllByRecursion (λ share. greatest_amount (get_or controls share.0 []) ≤ most) shares
      → IsWithin (s + total_of shares * most) (sum_of_shares start controls shares)
  sum-within most s start [] w h = let same : s ≡ s + 0 * most = omega arith in subst (λ n. IsWithin n start) same w
  sum-within most s start (share ∷ shares) w h =
      let numbers = get_or controls share.0 [] in
      let next = plus_times (pos share.1) start numbers in
      let first = IsWithin-plus_times s share.1 most start numbers w (IsWithin-greatest most numbers h.0) in
      subst (λ n. IsWithin n (sum_of_shares next controls shares)) (reorder s share.1 (total_of shares) (total_of (share ∷ shares)) most (sum_by-cons (λ (s : Share). s.1) share shares))
      (sum-within most (s + share.1 * most) next shares first h.1)
    where
      reorder : (s w t whole most : ℕ) → whole ≡ w + t → (s + w * most) + t * most ≡ s + whole * most
      reorder s w t whole most e = omega arith ∙ ap (λ n. s + n * most) (sym e)
