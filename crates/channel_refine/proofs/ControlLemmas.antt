-- The controls of a table.
use Rattle.std.proofs.Common.{◌≡◌, ℕ, ◌*◌, ◌<◌, ◌≤◌, ℤ, List, [], ◌∷◌, length, map, take, get_or, Option, Some, None, Bor, arith, refl, ap, sym, ◌∙◌, subst}
use Rattle.std.specs.List.{All, slice_get}
use Rattle.std.specs.Option.{option_copied}
use Rattle.std.proofs.Math.ListN.{get_or-map as get_or-map_all}
use Rattle.std.proofs.lemmas.List.{length-map, length-take-le}
use Rattle.ratio128.specs.declared.valued.Valued.{Valued}
use Rattle.primvar_refine.specs.Rows as rows
use Rattle.primvar_refine.specs.View.{row_of, rows_of}
use Rattle.subdiv_model.specs.Channel.{number_bound}
use Rattle.ratio128.specs.Numbers.{greatest_amount}
use Rattle.stencil_apply.specs.Table.{Share, Row, Table, IsRow, IsTable, greatest_of, total_of}
use Rattle.channel_refine.specs.Evaluated.{CanEvaluate}

-- a table over no controls has no rows
no-shares : (controls den : ℕ) (shares : List Share) → 0 < den → total_of shares ≡ den → All (λ share. share.0 < controls) shares → controls ≡ 0 → ⊥
no-shares controls den [] some whole inside none = omega (arith, some, whole)
no-shares controls den (share ∷ shares) some whole inside none = let first = inside 0 share (omega arith) in omega (arith, first, none)

no-rows : (controls : ℕ) (rows : List Row) → All (IsRow controls) rows → controls ≡ 0 → rows ≡ []
no-rows controls [] all none = refl
no-rows controls (row ∷ rows) all none =
    let one : IsRow controls row = all 0 row (omega arith) in absurd (no-shares controls row.den row.shares one.positive one.whole one.inside none)

-- a slice without a first is empty, and so are the rows over it
no-first : {X : Type 0} (numbers : X → List ℤ) (r : Option (Bor X)) (xs : List X) → option_copied r ≡ slice_get xs 0 → r ≡ None → length (map numbers xs) ≡ 0
no-first numbers r [] copied none = refl
no-first numbers r (x ∷ xs) copied none = let both : None ≡ Some x = ap option_copied (sym none) ∙ copied in absurd (cc)

pub none-over : {X : Type 0} (numbers : X → List ℤ) (r : Option (Bor X)) (controls : List X) (table : Table) → IsTable table → length (map numbers controls) ≡ table.controls
    → option_copied r ≡ slice_get controls 0 → r ≡ None → table.rows ≡ []
none-over numbers r controls table is each copied none = no-rows table.controls table.rows is.rows (sym each ∙ no-first numbers r controls copied none)

-- the numbers of the first row are the first numbers
pub first-numbers : {X : Type 0} (numbers : X → List ℤ) (r : Option (Bor X)) (xs : List X) (b : Bor X) → option_copied r ≡ slice_get xs 0 → r ≡ Some b
    → numbers b.now ≡ get_or (map numbers xs) 0 []
first-numbers numbers r [] b copied some = let both : Some b.now ≡ None = ap option_copied (sym some) ∙ copied in absurd (cc)
first-numbers numbers r (x ∷ xs) b copied some = let both : Some b.now ≡ Some x = ap option_copied (sym some) ∙ copied in let same : b.now ≡ x = cc in ap numbers same

module _ {X : Type 0} (numbers : X → List ℤ) (controls : List X) (table : Table) (can : CanEvaluate table (map numbers controls)) where
  -- each row has as many numbers as the first
  pub control-alike : (like : List ℤ) → like ≡ get_or (map numbers controls) 0 [] → (k : ℕ) (d : X) → k < length controls → length (numbers (get_or controls k d)) ≡ length like
  control-alike like is k d h =
      ap length (sym (get_or-map_all numbers controls k d)) ∙ can.alike k (numbers d) (omega (arith, h, length-map controls numbers)) ∙ ap length (sym is)

  -- each row keeps the bound
  pub control-fits : (k : ℕ) (d : X) → k < length controls → greatest_of table * greatest_amount (numbers (get_or controls k d)) ≤ number_bound
  control-fits k d h =
      subst (λ ns. greatest_of table * greatest_amount ns ≤ number_bound) (get_or-map_all numbers controls k d) (can.fits k (numbers d) (omega (arith, h, length-map controls numbers)))

-- there is a value for each row so far
pub rows-counted : {P : Type 0} (numbers : P → List ℤ) (values : List (Valued P)) (value_of : Row → rows.Row) (all : List Row) (n : ℕ) → n ≤ length all
    → rows_of numbers values ≡ map value_of (take n all) → length values ≡ n
rows-counted numbers values value_of all n within is =
    sym (length-map values (row_of numbers)) ∙ ap length is ∙ length-map (take n all) value_of ∙ length-take-le n all within
