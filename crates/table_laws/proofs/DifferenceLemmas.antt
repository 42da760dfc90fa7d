-- The first row at which tables differ.
use Rattle.std.proofs.Common.{◌≡◌, ◌≢◌, ◌↔◌, ℕ, suc, ◌+◌, Bool, true, false, nat_eq, List, [], ◌∷◌, length, map, take, drop, get_or, slice_get, bytes_eq, arith, refl, ap, sym, subst, ◌∙◌, eq-eqb, ne_eqb, eqb-true, true≢false, Some, None, if◌then◌else◌}
use Rattle.std.specs.Prelude.{unwrap_or}
use Rattle.std.specs.Cmp.Lexicographic.{bytes_decides}
use Rattle.std.proofs.lemmas.Bool.{and_parts, and_from, cond-true, cond-false}
use Rattle.subdiv_model.specs.Table.{Share, Row, Table}
use Rattle.far_model.specs.Stored.{are_same_rows, row_difference, first_difference}
use Rattle.table_laws.proofs.CommonLemmas.{no-some}

-- control points with numerators are the same if both the points and the numerators are
shares-same : (xs ys : List Share) → map (λ share. share.0) xs ≡ map (λ share. share.0) ys → map (λ share. share.1) xs ≡ map (λ share. share.1) ys → xs ≡ ys
shares-same [] [] points numbers = refl
shares-same [] (y ∷ ys) points numbers = let long = ap length points in absurd (omega (arith, long))
shares-same (x ∷ xs) [] points numbers = let long = ap length points in absurd (omega (arith, long))
shares-same (x ∷ xs) (y ∷ ys) points numbers =
    let point : x.0 ≡ y.0 = ap (λ (l : List ℕ). get_or l 0 0) points in
    let number : x.1 ≡ y.1 = ap (λ (l : List ℕ). get_or l 0 0) numbers in
    ap (λ (n : ℕ). (n, x.1) ∷ xs) point
    ∙ ap (λ (n : ℕ). (y.0, n) ∷ xs) number
    ∙ ap (λ shares. y ∷ shares) (shares-same xs ys (ap (drop 1) points) (ap (drop 1) numbers))

rows-same : (x y : Row) → are_same_rows x y ≡ true → x ≡ y
rows-same x y same =
    let outer = and_parts _ (bytes_eq (map (λ share. share.1) x.shares) (map (λ share. share.1) y.shares)) same in
    let inner = and_parts (nat_eq x.den y.den) (bytes_eq (map (λ share. share.0) x.shares) (map (λ share. share.0) y.shares)) outer.0 in
    let shares = shares-same x.shares y.shares ((bytes_decides _ _).0 inner.1) ((bytes_decides _ _).0 outer.1) in
    ap (λ (n : ℕ). record { den = n; shares = x.shares }) (eqb-true x.den y.den inner.0)
    ∙ ap (λ (all : List Share). record { den = y.den; shares = all }) shares

row-same : (x : Row) → are_same_rows x x ≡ true
row-same x =
    and_from _ _ (and_from _ _ (eq-eqb x.den x.den refl) ((bytes_decides (map (λ share. share.0) x.shares) _).1 refl))
    ((bytes_decides (map (λ share. share.1) x.shares) _).1 refl)

-- rows without difference are the same, and the same rows have none
none-same : (at : ℕ) (xs ys : List Row) → row_difference at xs ys ≡ None → xs ≡ ys
none-same at [] [] none = refl
none-same at [] (y ∷ ys) none = absurd (no-some none)
none-same at (x ∷ xs) [] none = absurd (no-some none)
none-same at (x ∷ xs) (y ∷ ys) none = here (are_same_rows x y) refl none (none-same (suc at) xs ys)
  where
    here : (t : Bool) → are_same_rows x y ≡ t → (if t then row_difference (suc at) xs ys else Some at) ≡ None → (row_difference (suc at) xs ys ≡ None → xs ≡ ys)
        → x ∷ xs ≡ y ∷ ys
    here true e none more = ap (λ row. row ∷ xs) (rows-same x y e) ∙ ap (λ rows. y ∷ rows) (more none)
    here false e none more = absurd (no-some none)

same-none : (at : ℕ) (xs : List Row) → row_difference at xs xs ≡ None
same-none at [] = refl
same-none at (x ∷ xs) = cond-true _ _ _ (row-same x) ∙ same-none (suc at) xs

pub difference-none : (a b : Table) → (first_difference a b ≡ None) ↔ (a ≡ b)
difference-none a b = (there (nat_eq a.controls b.controls) refl, λ same. subst (λ other. first_difference a other ≡ None) same (cond-true _ _ _ (eq-eqb a.controls a.controls refl) ∙ same-none 0 a.rows))
  where
    there : (t : Bool) → nat_eq a.controls b.controls ≡ t → (if t then row_difference 0 a.rows b.rows else Some 0) ≡ None → a ≡ b
    there true e none =
        ap (λ (n : ℕ). record { controls = n; rows = a.rows }) (eqb-true a.controls b.controls e)
        ∙ ap (λ (rows : List Row). record { controls = b.controls; rows = rows }) (none-same 0 a.rows b.rows none)
    there false e none = absurd (no-some none)

-- a number of rows are equal, then one list ends or the rows differ
record DifferAfter (at row : ℕ) (xs ys : List Row) : Type 0 where
  count : ℕ
  place : row ≡ at + count
  before : take count xs ≡ take count ys
  other : slice_get xs count ≢ slice_get ys count

some-inside : {X : Type 0} (x y : X) → Some x ≡ Some y → x ≡ y
some-inside x y e = ap (λ found. unwrap_or found x) e

first-other : (at row : ℕ) (xs ys : List Row) → row_difference at xs ys ≡ Some row → DifferAfter at row xs ys
first-other at row [] [] found = absurd (no-some (sym found))
first-other at row [] (y ∷ ys) found =
    let here = some-inside at row found in record { count = 0; place = omega (arith, here); before = refl; other = λ e. no-some (sym e) }
first-other at row (x ∷ xs) [] found =
    let here = some-inside at row found in record { count = 0; place = omega (arith, here); before = refl; other = λ e. no-some e }
first-other at row (x ∷ xs) (y ∷ ys) found = here (are_same_rows x y) refl found (first-other (suc at) row xs ys)
  where
    here : (t : Bool) → are_same_rows x y ≡ t → (if t then row_difference (suc at) xs ys else Some at) ≡ Some row
        → (row_difference (suc at) xs ys ≡ Some row → DifferAfter (suc at) row xs ys) → DifferAfter at row (x ∷ xs) (y ∷ ys)
    here true e found more =
        let rest = more found in
        let place = rest.place in
        record {
          count = suc rest.count;
          place = omega (arith, place);
          before = ap (λ first. first ∷ take rest.count xs) (rows-same x y e) ∙ ap (λ rows. y ∷ rows) rest.before;
          other = rest.other;
        }
    here false e found more =
        let place = some-inside at row found in
        record {
          count = 0;
          place = omega (arith, place);
          before = refl;
          other = λ same. true≢false (sym (subst (λ z. are_same_rows x z ≡ true) (some-inside x y same) (row-same x)) ∙ e);
        }

found-row : (a b : Table) (row : ℕ) → a.controls ≡ b.controls → first_difference a b ≡ Some row → DifferAfter 0 row a.rows b.rows
found-row a b row same found = first-other 0 row a.rows b.rows (sym (cond-true _ _ _ (eq-eqb a.controls b.controls same)) ∙ found)

pub rows-before : (a b : Table) (row : ℕ) → a.controls ≡ b.controls → first_difference a b ≡ Some row → take row a.rows ≡ take row b.rows
rows-before a b row same found =
    let differ = found-row a b row same found in
    let at = differ.place in
    let place : differ.count ≡ row = omega (arith, at) in
    subst (λ n. take n a.rows ≡ take n b.rows) place differ.before

pub row-there : (a b : Table) (row : ℕ) → a.controls ≡ b.controls → first_difference a b ≡ Some row → slice_get a.rows row ≢ slice_get b.rows row
row-there a b row same found =
    let differ = found-row a b row same found in
    let at = differ.place in
    let place : differ.count ≡ row = omega (arith, at) in
    subst (λ n. slice_get a.rows n ≢ slice_get b.rows n) place differ.other

pub other-controls : (a b : Table) → a.controls ≢ b.controls → first_difference a b ≡ Some 0
other-controls a b other = cond-false _ _ _ (ne_eqb a.controls b.controls other)
