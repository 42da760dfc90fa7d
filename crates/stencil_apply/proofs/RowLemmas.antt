-- A row of a table, and its sum.
use Rattle.std.proofs.Common.{◌≡◌, ℕ, zero, suc, ◌*◌, ◌<◌, ◌≤◌, max, ℤ, List, [], ◌∷◌, length, map, get_or, arith, refl, ap, ◌∙◌}
use Rattle.std.specs.List.{fold, zip, All}
use Rattle.std.proofs.Math.Nat.{mul-le-mul_right}
use Rattle.std.proofs.lemmas.List.{length-map, get_or-map}
use Rattle.std.proofs.lemmas.List.Elements.{All-map}
use Rattle.subdiv_model.specs.Channel.{number_bound}
use Rattle.ratio128.specs.Numbers.{greatest_amount}
use Rattle.stencil_apply.specs.Table.{Share, Row, Table, IsRow, IsTable, row_at, total_of, greatest_of}
use Rattle.stencil_apply.specs.Means.{CanSum, CanSumNarrow, word_bound}

-- the control points and the numerators of shares are those shares
pub zip-maps : (shares : List Share) → zip (map (λ share. share.0) shares) (map (λ share. share.1) shares) ≡ shares
zip-maps [] = refl
zip-maps (share ∷ shares) = ap (λ ps. share ∷ ps) (zip-maps shares)

-- lists that equal the control points and the numerators of shares give those shares
pub zip-row : (indices numerators : List ℕ) (shares : List Share) → indices ≡ map (λ share. share.0) shares → numerators ≡ map (λ share. share.1) shares → zip indices numerators ≡ shares
zip-row indices numerators shares e f = rw (e, f) (zip-maps shares)

-- a greatest number is at least each that it is the greatest of
pub start-le : (a : ℕ) (xs : List ℕ) → a ≤ fold max a xs
start-le a [] = omega arith
start-le a (x ∷ xs) = omega (arith, start-le (max a x) xs)

pub each-le : (a : ℕ) (xs : List ℕ) (i d : ℕ) → i < length xs → get_or xs i d ≤ fold max a xs
each-le a [] i d h = absurd (omega arith)
each-le a (x ∷ xs) zero d h = omega (arith, start-le (max a x) xs)
each-le a (x ∷ xs) (suc i) d h = each-le (max a x) xs i d (omega arith)

-- no denominator of a table passes the greatest
pub den-row : (table : Table) (row : ℕ) → row < length table.rows → (row_at table row).den ≤ greatest_of table
den-row table row h =
    let den = λ (r : Row). r.den in
    rw (← get_or-map den table.rows row (record { den = 1; shares = [] }) 0 h) (each-le 1 (map den table.rows) row 0 (rw (length-map table.rows den) h))

-- a row of a table can be summed over controls that the greatest denominator suits
pub CanSum-row : (bound : ℕ) (controls : List (List ℤ)) (table : Table) (row : ℕ) → IsTable table → row < length table.rows → length controls ≡ table.controls → (row_at table row).den ≤ bound → All (λ numbers. greatest_of table * greatest_amount numbers ≤ bound) controls → CanSum bound (row_at table row).shares controls
CanSum-row bound controls table row is h e short fits =
    let good : IsRow table.controls (row_at table row) = is.rows row _ h in
    let least = den-row table row h in
    let whole = good.whole in
    let below : total_of (row_at table row).shares ≤ greatest_of table = omega (arith, whole, least) in
    record {
      some = omega (arith, whole, good.positive);
      short = omega (arith, whole, short);
      each = good.each;
      inside = rw e good.inside;
      within = λ k d within. omega (arith, fits k d within, mul-le-mul_right (greatest_amount (get_or controls k d)) below);
    }

-- over those that numbers of 128 bits suit
pub CanSum-wide : {X : Type 0} (numbers : X → List ℤ) (controls : List X) (table : Table) (row : ℕ) → IsTable table → row < length table.rows → length controls ≡ table.controls → All (λ control. greatest_of table * greatest_amount (numbers control) ≤ number_bound) controls → CanSum number_bound (row_at table row).shares (map numbers controls)
CanSum-wide numbers controls table row is h e fits =
    let good : IsRow table.controls (row_at table row) = is.rows row _ h in
    CanSum-row number_bound (map numbers controls) table row is h (length-map controls numbers ∙ e) good.short
    (All-map (λ amounts. greatest_of table * greatest_amount amounts ≤ number_bound) numbers controls fits)

-- over those that 64 bits suit
pub CanSum-narrow : {X : Type 0} (numbers : X → List ℤ) (controls : List X) (table : Table) (row : ℕ) → IsTable table → row < length table.rows → length controls ≡ table.controls → CanSumNarrow table (map numbers controls) → CanSum word_bound (row_at table row).shares (map numbers controls)
CanSum-narrow numbers controls table row is h e can =
    CanSum-row word_bound (map numbers controls) table row is h (length-map controls numbers ∙ e) (omega (arith, den-row table row h, can.short)) can.within
