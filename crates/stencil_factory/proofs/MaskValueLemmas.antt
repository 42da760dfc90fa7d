-- The values of the rows of masks over controls, one after another.
use Rattle.std.proofs.Common.{◌≡◌, ℕ, zero, suc, ◌+◌, ◌*◌, ◌<◌, ◌≤◌, ℤ, List, [], ◌∷◌, ◌++◌, length, map, get_or, take, replicate, min, arith, refl, ap, sym, ◌∙◌, subst}
use Rattle.std.specs.List.{All, AllByRecursion}
use Rattle.std.proofs.Math.Nat.{mul-le-mul_right}
use Rattle.std.proofs.lemmas.List.{length-map, get_or-map, map-append, take_all, length-take}
use Rattle.std.proofs.lemmas.List.Elements.{All-from_recursion}
use Rattle.subdiv_model.specs.Level.{Level}
use Rattle.subdiv_model.specs.Mask.{Mask}
use Rattle.subdiv_model.specs.Multiples.{lcm_of_all}
use Rattle.subdiv_model.specs.Refined.{mask_denominator, source_denominator}
use Rattle.subdiv_model.specs.Channel.{entry_bound}
use Rattle.ratio128.specs.Numbers.{zeros, greatest_amount}
use Rattle.child_masks.specs.Survey.{within_bound}
use Rattle.child_masks.proofs.WithinLemmas.{within-kept}
use Rattle.stencil_apply.specs.Means.{CanSum, word_bound}
use Rattle.stencil_apply.specs.Table.{Share, Row, Table, IsRow, IsTable, total_of, sum_of_shares}
use Rattle.stencil_factory.specs.Rows.{support_of, dens_of}
use Rattle.place_sums.specs.Sums.{shares_from}
use Rattle.stencil_factory.specs.Composing.{added_rows, CanAddRows, IsComposedRow, AreComposedRows}
use Rattle.stencil_factory.specs.Joined.{terms_of_shares, amounts_of, weighing}
use Rattle.stencil_factory.specs.MaskRows.{AreWeightsOf, no_mask, mask_at, mask_entries, IsRowFault}
use Rattle.stencil_factory.specs.MaskValues.{CanEvaluateMasks, row_value, AreMaskValues}
use Rattle.stencil_factory.specs.declared.row_fault.RowFault.TheVariants.{TooManyEntries}
use Rattle.stencil_factory.proofs.SurveyLemmas.{point-dens}
use Rattle.stencil_factory.proofs.PutLemmas.{put-positive, put-den, multiple-positive}
use Rattle.stencil_factory.proofs.NarrowLemmas.{narrow-can, narrow-row}
use Rattle.stencil_factory.proofs.ComposedLemmas.{row-some, rows-count, rows-entries, rows-few, entries-less, entries-more, next-rows, are-rows}

-- The common denominator that a caller's weights give, where it has at most 63 bits.
module _ (level : Level) (mask put : Mask) (are : AreWeightsOf level.point_count mask put) (raw : List Share) (raw_are : terms_of_shares raw ≡ put.terms)
    (table : Table) (is : IsTable table) (each : length table.rows ≡ level.point_count)
    (short : mask_denominator (source_denominator level (dens_of table)) mask ≤ word_bound)
    (m : ℕ) (m_is : m ≡ within_bound (lcm_of_all (map (λ v. get_or (dens_of table) v 1) (support_of (weighing raw))))) where
  abbrev multiple : ℕ
  multiple = lcm_of_all (map (λ v. get_or (dens_of table) v 1) (support_of (weighing raw)))

  whole : put.denominator * multiple ≡ mask_denominator (source_denominator level (dens_of table)) mask
  whole = put-den level mask put are raw raw_are (dens_of table) (point-dens table level is each)

  is-multiple : m ≡ multiple
  is-multiple = m_is ∙ within-kept multiple (omega (arith, less put.denominator multiple (put-positive level mask put are raw raw_are), whole, short))
    where
      less : (q n : ℕ) → 0 < q → n ≤ q * n
      less zero n h = absurd (omega (arith, h))
      less (suc q) n h = omega arith

  pub product-is : put.denominator * m ≡ mask_denominator (source_denominator level (dens_of table)) mask
  product-is = ap (λ n. put.denominator * n) is-multiple ∙ whole

  pub product-short : put.denominator * m ≤ word_bound
  product-short = omega (arith, product-is, short)

  pub product-some : 0 < put.denominator * m
  product-some =
      subst (λ n. 0 < put.denominator * n) (sym is-multiple)
      (above put.denominator multiple (put-positive level mask put are raw raw_are) (multiple-positive level mask put are raw raw_are (dens_of table) (point-dens table level is each)))
    where
      above : (q n : ℕ) → 0 < q → 0 < n → 0 < q * n
      above q n h k = grind (arith, h, k)

  abbrev amounts : List Share
  amounts = amounts_of (dens_of table) m (weighing raw)

  -- the rows of the points can be added
  pub sum-can : (most : ℕ) → word_bound ≤ most → (start : List ℕ) → start ≡ replicate table.controls 0 → CanAddRows most table amounts start
  sum-can most wide start clear =
      subst (CanAddRows most table amounts) (sym clear)
      (narrow-can level mask put are raw raw_are table is each m m_is (put.denominator * m) product-some refl (omega (arith, product-short)) most (omega (arith, product-short, wide)))

  -- the sums are the row of the mask
  pub sum-row : (den : ℕ) (start sums : List ℕ) → den ≡ put.denominator * m → start ≡ replicate table.controls 0 → sums ≡ added_rows table amounts start
      → IsComposedRow level table mask (record { den = den; shares = shares_from 0 sums })
  sum-row den start sums den_is clear added =
      narrow-row level mask put are raw raw_are table is each m m_is den (subst (λ n. 0 < n) (sym den_is) product-some) den_is (omega (arith, den_is, product-short))
      start sums (shares_from 0 sums) clear added refl

-- The first of some controls, all of which have one length.
module _ {X : Type 0} (numbers : X → List ℤ) (controls : List X) (some : 0 < length controls) (first : X) (read : first ≡ get_or controls 0 first) where
  pub first-numbers : numbers first ≡ get_or (map numbers controls) 0 []
  first-numbers = ap numbers read ∙ sym (get_or-map numbers controls 0 first [] some)

  pub all-alike : All (λ ns. length ns ≡ length (get_or (map numbers controls) 0 [])) (map numbers controls) → All (λ x. length (numbers x) ≡ length (numbers first)) controls
  all-alike alike i d inside =
      ap length (sym (get_or-map numbers controls i d [] inside)) ∙ alike i [] (subst (λ n. i < n) (sym (length-map controls numbers)) inside)
      ∙ ap length (sym first-numbers)

  pub first-sum : (shares : List Share) (sum : List ℤ) → sum ≡ sum_of_shares (zeros (numbers first)) (map numbers controls) shares
      → sum ≡ sum_of_shares (zeros (get_or (map numbers controls) 0 [])) (map numbers controls) shares
  first-sum shares sum e = e ∙ ap (λ ns. sum_of_shares (zeros ns) (map numbers controls) shares) first-numbers

-- The values are those of the rows of the masks.
pub record AreRowValues (level : Level) (masks : List Mask) (table : Table) (controls : List (List ℤ)) (values : List (List ℤ × ℕ)) : Type 0 where
  pub rows : List Row
  pub are : AreComposedRows level table masks rows
  pub each : values ≡ map (row_value controls) rows

module _ (level : Level) (masks : List Mask) (table : Table) (is : IsTable table) (controls : List (List ℤ)) (can : CanEvaluateMasks level masks table controls) where
  abbrev own_den : Mask → ℕ
  own_den = mask_denominator (source_denominator level (dens_of table))

  -- no value before the first
  pub none-yet : (values : List (List ℤ × ℕ)) → values ≡ [] → AreRowValues level [] table controls values
  none-yet values none = record { rows = []; are = tt; each = none }

  module _ (p : ℕ) (inside : p < length masks) where
    own-bound : own_den (mask_at masks p) ≤ can.bound
    own-bound =
        subst (λ n. n ≤ can.bound) (get_or-map own_den masks p no_mask 0 inside)
        (can.dens p 0 (subst (λ n. p < n) (sym (length-map masks own_den)) inside))

    pub own-short : own_den (mask_at masks p) ≤ word_bound
    own-short = omega (arith, own-bound, can.short)

    -- the row of the mask in the sums
    module _ (den : ℕ) (sums : List ℕ) (row : IsComposedRow level table (mask_at masks p) (record { den = den; shares = shares_from 0 sums })) where
      abbrev shares : List Share
      shares = shares_from 0 sums

      total-bound : total_of shares ≤ can.bound
      total-bound = omega (arith, row.is.whole, row.den, own-bound)

      -- it can be summed in 64 bits
      pub can-sum : CanSum word_bound shares controls
      can-sum = record {
        some = omega (arith, row.is.whole, row.is.positive);
        short = omega (arith, total-bound, can.short);
        each = row.is.each;
        inside = subst (λ n. All (λ (share : Share). share.0 < n) shares) (sym can.each) row.is.inside;
        within = λ i d below. omega (arith, mul-le-mul_right (greatest_amount (get_or controls i d)) total-bound, can.room i d below);
      }

      -- there is a control
      pub some-control : 0 < length controls
      some-control =
          let there : (get_or shares 0 (0, 0)).0 < table.controls = row.is.inside 0 (0, 0) (omega (arith, row-some level table (mask_at masks p) _ row)) in
          omega (arith, there, can.each)

      pub some-of : {X : Type 0} (numbers : X → List ℤ) (xs : List X) → controls ≡ map numbers xs → 0 < length xs
      some-of numbers xs same = omega (arith, some-control, ap length same, length-map xs numbers)

      entries-next : mask_entries level table (take (p + 1) masks) ≡ mask_entries level table (take p masks) + length shares
      entries-next =
          entries-more level table masks p inside
          ∙ ap (λ n. mask_entries level table (take p masks) + n) (sym (ap length row.support) ∙ length-map shares (λ (share : Share). share.0))

      -- Its entries and those before it are more than a table has.
      pub too-many : (entries : ℕ) → entries ≡ mask_entries level table (take p masks) → entry_bound < entries + length shares → IsRowFault level masks table TooManyEntries
      too-many entries so_far over = (
        λ i d below. omega (arith, can.dens i d below, can.short),
        omega (arith, over, so_far, entries-next, entries-less level table masks (p + 1)),
      )

      -- the entries with those of this row
      pub entries-with : (entries : ℕ) → entries ≡ mask_entries level table (take p masks) → entries + length shares ≡ mask_entries level table (take (p + 1) masks)
      entries-with entries so_far = omega (arith, so_far, entries-next)

      module _ (values : List (List ℤ × ℕ)) (before : AreRowValues level (take p masks) table controls values) where
        -- the value after those before it
        pub next-value : (sum : List ℤ) → sum ≡ sum_of_shares (zeros (get_or controls 0 [])) controls shares
            → AreRowValues level (take (p + 1) masks) table controls (values ++ (sum, den) ∷ [])
        next-value sum summed = record {
          rows = before.rows ++ record { den = den; shares = shares } ∷ [];
          are = next-rows level table masks p before.rows (record { den = den; shares = shares }) inside before.are row;
          each =
              ap (λ (s : List ℤ). values ++ (s, den) ∷ []) summed
              ∙ ap (λ (vs : List (List ℤ × ℕ)). vs ++ row_value controls (record { den = den; shares = shares }) ∷ []) before.each
              ∙ sym (map-append (row_value controls) before.rows (record { den = den; shares = shares } ∷ []));
        }

        -- The values before it are fewer than the masks and than the entries with it.
        pub values-below : (entries capacity : ℕ) → entries ≡ mask_entries level table (take p masks) → entries + length shares ≤ entry_bound
            → min (length masks) entry_bound ≤ capacity → length values < capacity
        values-below entries capacity so_far few fits =
            let rows = before.rows in
            let counted = ap length before.each ∙ length-map rows (row_value controls) in
            let count = rows-count level table (take p masks) rows before.are in
            let some = row-some level table (mask_at masks p) _ row in
            let taken = rows-few level table (take p masks) rows before.are in
            let entries_are = rows-entries level table (take p masks) rows before.are in
            let less = length-take p masks in
            grind (arith, counted, count, some, taken, entries_are, less, so_far, few, fits, inside)

  pub steps-less : (p entries before steps : ℕ) → entries ≡ mask_entries level table (take p masks) → steps ≡ before + entries → steps ≤ before + mask_entries level table masks
  steps-less p entries before steps so_far taken = omega (arith, so_far, taken, entries-less level table masks p)

  composed-rows : (ms : List Mask) (rows : List Row) → AreComposedRows level table ms rows → AllByRecursion (IsRow table.controls) rows
  composed-rows [] [] are = tt
  composed-rows [] (row ∷ rows) are = absurd are
  composed-rows (mask ∷ ms) [] are = absurd are
  composed-rows (mask ∷ ms) (row ∷ rows) are = (are.0.is, composed-rows ms rows are.1)

  pub all-entries : (p entries : ℕ) → length masks ≤ p → entries ≡ mask_entries level table (take p masks) → entries ≡ mask_entries level table masks
  all-entries p entries past so_far = so_far ∙ ap (mask_entries level table) (take_all p masks past)

  -- The values of all masks.
  pub all-values : (p : ℕ) (values : List (List ℤ × ℕ)) → length masks ≤ p → AreRowValues level (take p masks) table controls values
      → mask_entries level table (take p masks) ≤ entry_bound → AreMaskValues level masks table controls values
  all-values p values past are few = record {
    composed = record { controls = table.controls; rows = are.rows };
    formed = record {
      rows = All-from_recursion (IsRow table.controls) are.rows (composed-rows (take p masks) are.rows are.are);
      controls_few = is.controls_few;
      rows_few = omega (arith, rows-few level table (take p masks) are.rows are.are, rows-entries level table (take p masks) are.rows are.are, few);
      entries_few = omega (arith, rows-entries level table (take p masks) are.rows are.are, few);
    };
    rows = are-rows level table masks p (record { controls = table.controls; rows = are.rows }) past refl are.are;
    entries = rows-entries level table (take p masks) are.rows are.are ∙ ap (mask_entries level table) (take_all p masks past);
    each = are.each;
  }
