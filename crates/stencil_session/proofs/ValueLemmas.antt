-- The sum of a row over controls, one of which is moved.
use Rattle.std.proofs.Common.{◌≡◌, ℕ, suc, ◌+◌, ◌*◌, ◌/◌, ◌^◌, ◌<◌, ◌≤◌, Bool, true, false, ◌||◌, nat_eq, if◌then◌else◌, ℤ, pos, ◌+ℤ◌, ◌-ℤ◌, ◌*ℤ◌, unsigned_abs, List, [], ◌∷◌, length, map, get_or, set, arith, refl, ap, sym, ◌∙◌}
use Rattle.std.specs.List.{All, AllPairs, list_any}
use Rattle.std.proofs.Math.IntN.{+ℤ_assoc}
use Rattle.std.proofs.Math.Nat.{mul-le-mul_right, mul-div-le}
use Rattle.std.proofs.lemmas.Bool.{eqb-true, eqb-false}
use Rattle.std.proofs.lemmas.Int.{ints}
use Rattle.std.proofs.lemmas.List.{get_or-set_same, get_or-set_other}
use Rattle.std.proofs.lemmas.List.Kept.{AllPairs-from_increasing}
use Rattle.std.proofs.lemmas.List.Sums.{sum_by-cons}
use Rattle.number_laws.proofs.WholeNumberLemmas.{pos-distrib}
use Rattle.subdiv_model.specs.Channel.{number_bound}
use Rattle.ratio128.specs.Numbers.{plus_times, CanAdd, greatest_amount}
use Rattle.ratio128.proofs.AmountLemmas.{IsWithin, IsWithin-more, IsWithin-greatest, IsWithin-plus_times}
use Rattle.stencil_apply.specs.Table.{Share, Row, Table, IsRow, IsTable, row_at, greatest_of, total_of, sum_of_shares, sum_of_row}
use Rattle.stencil_apply.specs.Means.{numerator_of}
use Rattle.stencil_apply.proofs.ArrayLemmas.{cons_both}
use Rattle.stencil_apply.proofs.MeanLemmas.{all-first, all-rest}
use Rattle.stencil_apply.proofs.RowLemmas.{start-le, den-row}
use Rattle.stencil_apply.proofs.SumLemmas.{amount_within}
use Rattle.stencil_session.specs.Kept.{difference_of}
use Rattle.stencil_session.proofs.ColumnLemmas.{none-later}
use Rattle.stencil_session.proofs.AddLemmas.{plus_times-none}

-- products are added in any order
swap : (x p q : ℤ) → (x +ℤ p) +ℤ q ≡ (x +ℤ q) +ℤ p
swap x p q = omega (arith, ints)

plus_times-swap : (a b : ℤ) (xs ys zs : List ℤ) → plus_times a (plus_times b xs ys) zs ≡ plus_times b (plus_times a xs zs) ys
plus_times-swap a b [] ys zs = refl
plus_times-swap a b (x ∷ xs) [] [] = refl
plus_times-swap a b (x ∷ xs) [] (z ∷ zs) = refl
plus_times-swap a b (x ∷ xs) (y ∷ ys) [] = refl
plus_times-swap a b (x ∷ xs) (y ∷ ys) (z ∷ zs) = cons_both (swap x (b *ℤ y) (a *ℤ z)) (plus_times-swap a b xs ys zs)

sum-plus : (w : ℤ) (start difference : List ℤ) (controls : List (List ℤ)) (shares : List Share) → sum_of_shares (plus_times w start difference) controls shares ≡ plus_times w (sum_of_shares start controls shares) difference
sum-plus w start difference controls [] = refl
sum-plus w start difference controls (share ∷ shares) =
    ap (λ sum. sum_of_shares sum controls shares) (plus_times-swap (pos share.1) w start difference (get_or controls share.0 []))
    ∙ sum-plus w (plus_times (pos share.1) start (get_or controls share.0 [])) difference controls shares

-- a new number by a weight is the old one, and the difference
one-difference : (w : ℕ) (s new old : ℤ) → s +ℤ pos w *ℤ new ≡ (s +ℤ pos w *ℤ old) +ℤ pos w *ℤ (new -ℤ old)
one-difference w s new old =
    let apart : new ≡ old +ℤ (new -ℤ old) = omega (arith, ints) in
    ap (λ n. s +ℤ pos w *ℤ n) apart
    ∙ ap (λ z. s +ℤ z) (pos-distrib w old (new -ℤ old))
    ∙ sym (+ℤ_assoc s (pos w *ℤ old) (pos w *ℤ (new -ℤ old)))

plus-difference : (w : ℕ) (start new old : List ℤ) → length new ≡ length old → plus_times (pos w) start new ≡ plus_times (pos w) (plus_times (pos w) start old) (difference_of new old)
plus-difference w [] new old e = refl
plus-difference w (s ∷ start) [] [] e = refl
plus-difference w (s ∷ start) [] (o ∷ old) e = absurd (omega (arith, e))
plus-difference w (s ∷ start) (n ∷ new) [] e = absurd (omega (arith, e))
plus-difference w (s ∷ start) (n ∷ new) (o ∷ old) e = cons_both (one-difference w s n o) (plus-difference w start new old (omega (arith, e)))

-- a row that does not have the control
neither : (a b : Bool) → (a || b) ≡ false → (a ≡ false) × (b ≡ false)
neither false b none = (refl, none)
neither true b none = absurd (cc)

pub numerator-none : (i : ℕ) (shares : List Share) → list_any (λ share. nat_eq share.0 i) shares ≡ false → numerator_of shares i ≡ 0
numerator-none i [] none = refl
numerator-none i (share ∷ shares) none =
    let both = neither (nat_eq share.0 i) (list_any (λ s. nat_eq s.0 i) shares) none in
    rw both.0 (numerator-none i shares both.1)

sum-without : (i : ℕ) (new start : List ℤ) (controls : List (List ℤ)) (shares : List Share) → list_any (λ share. nat_eq share.0 i) shares ≡ false → sum_of_shares start (set controls i new) shares ≡ sum_of_shares start controls shares
sum-without i new start controls [] none = refl
sum-without i new start controls (share ∷ shares) none =
    let both = neither (nat_eq share.0 i) (list_any (λ s. nat_eq s.0 i) shares) none in
    ap (λ numbers. sum_of_shares (plus_times (pos share.1) start numbers) (set controls i new) shares) (get_or-set_other controls i share.0 new [] (eqb-false share.0 i both.0))
    ∙ sum-without i new (plus_times (pos share.1) start (get_or controls share.0 [])) controls shares both.1

-- the sum moves by the control's numerator times the difference
sum-set : (i : ℕ) (new start : List ℤ) (controls : List (List ℤ)) (shares : List Share) → i < length controls → length new ≡ length (get_or controls i []) → AllPairs (λ x y. x < y) (map (λ share. share.0) shares)
    → sum_of_shares start (set controls i new) shares ≡ plus_times (pos (numerator_of shares i)) (sum_of_shares start controls shares) (difference_of new (get_or controls i []))
sum-set i new start controls [] inside alike apart = sym (plus_times-none start (difference_of new (get_or controls i [])))
sum-set i new start controls (share ∷ shares) inside alike apart =
    go (nat_eq share.0 i) refl
    (sum-set i new (plus_times (pos share.1) start (get_or controls share.0 [])) controls shares inside alike (λ j k d h within. apart (suc j) (suc k) d (omega (arith, h)) (omega (arith, within))))
  where
    go : (test : Bool) → nat_eq share.0 i ≡ test
        → sum_of_shares (plus_times (pos share.1) start (get_or controls share.0 [])) (set controls i new) shares ≡ plus_times (pos (numerator_of shares i)) (sum_of_shares (plus_times (pos share.1) start (get_or controls share.0 [])) controls shares) (difference_of new (get_or controls i []))
        → sum_of_shares start (set controls i new) (share ∷ shares) ≡ plus_times (pos (if nat_eq share.0 i then share.1 else numerator_of shares i)) (sum_of_shares (plus_times (pos share.1) start (get_or controls share.0 [])) controls shares) (difference_of new (get_or controls i []))
    go true is rest =
        let same : share.0 ≡ i = eqb-true share.0 i is in
        let later : list_any (λ s. nat_eq s.0 i) shares ≡ false = rw (← same) (none-later share.0 shares (λ j h. apart 0 (suc j) 0 (omega arith) (omega (arith, h)))) in
        let there : get_or (set controls i new) share.0 [] ≡ new = ap (λ k. get_or (set controls i new) k []) same ∙ get_or-set_same controls i new [] inside in
        ap (λ numbers. sum_of_shares (plus_times (pos share.1) start numbers) (set controls i new) shares) there
        ∙ sum-without i new (plus_times (pos share.1) start new) controls shares later
        ∙ ap (λ sum. sum_of_shares sum controls shares) (plus-difference share.1 start new (get_or controls i []) alike)
        ∙ sum-plus (pos share.1) (plus_times (pos share.1) start (get_or controls i [])) (difference_of new (get_or controls i [])) controls shares
        ∙ ap (λ k. plus_times (pos share.1) (sum_of_shares (plus_times (pos share.1) start (get_or controls k [])) controls shares) (difference_of new (get_or controls i []))) (sym same)
        ∙ ap (λ b. plus_times (pos (if b then share.1 else numerator_of shares i)) (sum_of_shares (plus_times (pos share.1) start (get_or controls share.0 [])) controls shares) (difference_of new (get_or controls i []))) (sym is)
    go false is rest =
        ap (λ numbers. sum_of_shares (plus_times (pos share.1) start numbers) (set controls i new) shares) (get_or-set_other controls i share.0 new [] (eqb-false share.0 i is))
        ∙ rest
        ∙ ap (λ b. plus_times (pos (if b then share.1 else numerator_of shares i)) (sum_of_shares (plus_times (pos share.1) start (get_or controls share.0 [])) controls shares) (difference_of new (get_or controls i []))) (sym is)

pub row-set : (i : ℕ) (new start : List ℤ) (controls : List (List ℤ)) (row : Row) → i < length controls → length new ≡ length (get_or controls i []) → IsRow (length controls) row
    → sum_of_row start (set controls i new) row ≡ plus_times (pos (numerator_of row.shares i)) (sum_of_row start controls row) (difference_of new (get_or controls i []))
row-set i new start controls row inside alike is =
    sum-set i new start controls row.shares inside alike (AllPairs-from_increasing (map (λ share. share.0) row.shares) is.ascending)

-- a numerator is at most all together
pub numerator-most : (i : ℕ) (shares : List Share) → numerator_of shares i ≤ total_of shares
numerator-most i [] = omega arith
numerator-most i (share ∷ shares) = go (nat_eq share.0 i) (numerator-most i shares)
  where
    go : (test : Bool) → numerator_of shares i ≤ total_of shares → (if test then share.1 else numerator_of shares i) ≤ total_of (share ∷ shares)
    go true rest = omega (arith, sum_by-cons (λ (s : Share). s.1) share shares)
    go false rest = omega (arith, rest, sum_by-cons (λ (s : Share). s.1) share shares)

-- sums of products that stay within a bound
sum-within : (m : ℕ) (controls : List (List ℤ)) (shares : List Share) (s : ℕ) (start : List ℤ) → IsWithin s start → All (λ share. IsWithin m (get_or controls share.0 [])) shares
    → IsWithin (s + total_of shares * m) (sum_of_shares start controls shares)
sum-within m controls [] s start within each = IsWithin-more s (s + 0 * m) start (omega arith) within
sum-within m controls (share ∷ shares) s start within each =
    let first : IsWithin m (get_or controls share.0 []) = all-first (λ (sh : Share). IsWithin m (get_or controls sh.0 [])) share shares each in
    let rest = sum-within m controls shares (s + share.1 * m) (plus_times (pos share.1) start (get_or controls share.0 []))
    (IsWithin-plus_times s share.1 m start (get_or controls share.0 []) within first) (all-rest (λ (sh : Share). IsWithin m (get_or controls sh.0 [])) share shares each) in
    IsWithin-more ((s + share.1 * m) + total_of shares * m) (s + total_of (share ∷ shares) * m) (sum_of_shares start controls (share ∷ shares)) (rw (sum_by-cons (λ (sh : Share). sh.1) share shares) (omega arith)) rest

abbrev pub none3 : List ℤ
none3 = pos 0 ∷ pos 0 ∷ pos 0 ∷ []

pub row-within : (table : Table) (controls : List (List ℤ)) (row : ℕ) → IsTable table → row < length table.rows → length controls ≡ table.controls
    → All (λ numbers. greatest_of table * greatest_amount numbers ≤ number_bound) controls → IsWithin number_bound (sum_of_row none3 controls (row_at table row))
row-within table controls row is inside count fits =
    let good : IsRow table.controls (row_at table row) = is.rows row _ inside in
    let greatest = greatest_of table in
    let some : 0 < greatest_of table = omega (arith, start-le 1 (map (λ (r : Row). r.den) table.rows)) in
    let most : total_of (row_at table row).shares ≤ greatest_of table = omega (arith, good.whole, den-row table row inside) in
    let each = sum-within (number_bound / greatest) controls (row_at table row).shares 0 none3 (omega arith, (omega arith, (omega arith, tt)))
    (λ k d h. IsWithin-greatest (number_bound / greatest) _ (amount_within greatest _ number_bound some (fits (get_or (row_at table row).shares k d).0 [] (let named = good.inside k d h in omega (arith, named, count))))) in
    IsWithin-more (0 + total_of (row_at table row).shares * (number_bound / greatest)) number_bound (sum_of_row none3 controls (row_at table row))
    (omega (arith, mul-le-mul_right (number_bound / greatest) most, mul-div-le number_bound greatest)) each

-- a product between two sums within a bound can be added
pub CanAdd-from-sums : (w : ℕ) (xs ys : List ℤ) → IsWithin number_bound xs → IsWithin number_bound (plus_times (pos w) xs ys) → CanAdd (pos w) xs ys
CanAdd-from-sums w [] ys before after = tt
CanAdd-from-sums w (x ∷ xs) [] before after = tt
CanAdd-from-sums w (x ∷ xs) (y ∷ ys) before after = (
  record { kept = product-kept x (pos w *ℤ y) before.0 after.0 },
  record { kept = omega (arith, after.0) },
  CanAdd-from-sums w xs ys before.1 after.1,
)
  where
    product-kept : (x p : ℤ) → unsigned_abs x ≤ number_bound → unsigned_abs (x +ℤ p) ≤ number_bound → unsigned_abs p < 2 ^ 127
    product-kept x p h k = omega (arith, ints)
