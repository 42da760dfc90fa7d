-- The rows of masks, one after another.
use Rattle.std.proofs.Common.{◌≡◌, ℕ, zero, suc, ◌+◌, ◌^◌, ◌<◌, ◌≤◌, ℤ, pos, ◌*ℤ◌, inl, inr, List, [], ◌∷◌, ◌++◌, length, map, get_or, take, arith, refl, ap, sym, ◌∙◌, subst}
use Rattle.std.specs.List.{All, sum_by, take-map}
use Rattle.std.proofs.Math.IntN.{*ℤ_comm}
use Rattle.std.proofs.lemmas.List.{length-map, get_or-map, map-append, take_more, take_all}
use Rattle.std.proofs.lemmas.List.Sums.{sum_by-cons, sum_by-append, sum_by-take-le}
use Rattle.subdiv_model.specs.Level.{Level}
use Rattle.subdiv_model.specs.Value.{Value, IsSameValue, whole_value}
use Rattle.subdiv_model.specs.Mask.{Mask}
use Rattle.subdiv_model.specs.Refined.{mask_value, source_value, mask_denominator, source_denominator}
use Rattle.subdiv_model.specs.Support.{mask_support, source_support}
use Rattle.mask_laws.proofs.SumLemmas.{IsOver}
use Rattle.subdiv_model.specs.Channel.{number_bound}
use Rattle.stencil_apply.specs.Table.{Share, Row, Table, total_of, entries_of}
use Rattle.stencil_factory.specs.Rows.{support_of, supports_of, dens_of, share_sum, row_values, AreSameValues}
use Rattle.stencil_factory.specs.MaskRows.{no_mask, mask_at, mask_entries, AreFew, AreRowDenominators, AreMaskRows}
use Rattle.stencil_factory.specs.Composing.{IsComposedRow, AreComposedRows}

-- the entries with a row more
pub entries-next : (rows : List Row) (row : Row) → entries_of (rows ++ row ∷ []) ≡ entries_of rows + length row.shares
entries-next rows row =
    omega (arith, sum_by-append (λ (r : Row). length r.shares) rows (row ∷ []), sum_by-cons (λ (r : Row). length r.shares) row [])

-- a row has an entry
pub row-some : (level : Level) (table : Table) (mask : Mask) (row : Row) → IsComposedRow level table mask row → 1 ≤ length row.shares
row-some level table mask row is = some row.shares (omega (arith, is.is.positive, is.is.whole))
  where
    some : (shares : List Share) → 0 < total_of shares → 1 ≤ length shares
    some [] h = absurd (omega (arith, h))
    some (share ∷ shares) h = omega arith

-- The denominator that was found for a row.
module _ (level : Level) (table : Table) (masks : List Mask) (dens : List ℕ) (found : AreRowDenominators level table masks dens) where
  found-count : length dens ≡ length masks
  found-count = ap length found.each ∙ length-map masks (mask_denominator (source_denominator level (dens_of table)))

  module _ (p : ℕ) (inside : p < length masks) where
    pub found-inside : p < length dens
    found-inside = subst (λ n. p < n) (sym found-count) inside

    -- The denominator of a row is that of its mask, above 0 and within its bound.
    module _ (den : ℕ) (read : den ≡ get_or dens p den) where
      pub read-den : den ≡ mask_denominator (source_denominator level (dens_of table)) (mask_at masks p)
      read-den = read ∙ ap (λ l. get_or l p den) found.each ∙ get_or-map (mask_denominator (source_denominator level (dens_of table))) masks p no_mask den inside

      pub read-positive : 0 < den
      read-positive = subst (λ n. 0 < n) (sym read) (found.positive p den found-inside)

      pub read-short : den ≤ number_bound
      read-short = subst (λ n. n ≤ number_bound) (sym read) (found.short p den found-inside)

      -- A bound of all denominators bounds this one.
      pub read-fits : (most : ℕ) → All (λ d. d ≤ most) dens → den ≤ most
      read-fits most fits = subst (λ n. n ≤ most) (sym read) (fits p den found-inside)

module _ (level : Level) (table : Table) where
  abbrev support : Mask → List ℕ
  support = mask_support table.controls (source_support table.controls level (supports_of table))

  rows-more : (masks : List Mask) (rows : List Row) (mask : Mask) (row : Row) → AreComposedRows level table masks rows → IsComposedRow level table mask row
      → AreComposedRows level table (masks ++ mask ∷ []) (rows ++ row ∷ [])
  rows-more [] [] mask row are is = (is, tt)
  rows-more [] (r ∷ rows) mask row are is = absurd are
  rows-more (m ∷ masks) [] mask row are is = absurd are
  rows-more (m ∷ masks) (r ∷ rows) mask row are is = (are.0, rows-more masks rows mask row are.1 is)

  pub rows-count : (masks : List Mask) (rows : List Row) → AreComposedRows level table masks rows → length rows ≡ length masks
  rows-count [] [] are = refl
  rows-count [] (r ∷ rows) are = absurd are
  rows-count (m ∷ masks) [] are = absurd are
  rows-count (m ∷ masks) (r ∷ rows) are = ap suc (rows-count masks rows are.1)

  rows-dens : (masks : List Mask) (rows : List Row) → AreComposedRows level table masks rows
      → map (λ row. row.den) rows ≡ map (mask_denominator (source_denominator level (dens_of table))) masks
  rows-dens [] [] are = refl
  rows-dens [] (r ∷ rows) are = absurd are
  rows-dens (m ∷ masks) [] are = absurd are
  rows-dens (m ∷ masks) (r ∷ rows) are =
      let own = mask_denominator (source_denominator level (dens_of table)) in
      ap (λ n. n ∷ map (λ (row : Row). row.den) rows) are.0.den ∙ ap (λ rest. own m ∷ rest) (rows-dens masks rows are.1)

  rows-supports : (masks : List Mask) (rows : List Row) → AreComposedRows level table masks rows → map (λ row. support_of row.shares) rows ≡ map support masks
  rows-supports [] [] are = refl
  rows-supports [] (r ∷ rows) are = absurd are
  rows-supports (m ∷ masks) [] are = absurd are
  rows-supports (m ∷ masks) (r ∷ rows) are =
      ap (λ list. list ∷ map (λ (row : Row). support_of row.shares) rows) are.0.support ∙ ap (λ rest. support m ∷ rest) (rows-supports masks rows are.1)

  -- the entries of the rows are the controls of the masks
  pub rows-entries : (masks : List Mask) (rows : List Row) → AreComposedRows level table masks rows → entries_of rows ≡ sum_by length (map support masks)
  rows-entries masks rows are = each rows ∙ ap (sum_by length) (rows-supports masks rows are)
    where
      each : (rows : List Row) → entries_of rows ≡ sum_by length (map (λ row. support_of row.shares) rows)
      each [] = refl
      each (r ∷ rows) =
          omega (arith, sum_by-cons (λ (row : Row). length row.shares) r rows, sum_by-cons length (support_of r.shares) (map (λ (row : Row). support_of row.shares) rows), length-map r.shares (λ (share : Share). share.0), each rows)

  -- There are at least as many entries as rows.
  pub rows-few : (masks : List Mask) (rows : List Row) → AreComposedRows level table masks rows → length rows ≤ entries_of rows
  rows-few [] [] are = omega arith
  rows-few [] (r ∷ rows) are = absurd are
  rows-few (m ∷ masks) [] are = absurd are
  rows-few (m ∷ masks) (r ∷ rows) are =
      omega (arith, sum_by-cons (λ (row : Row). length row.shares) r rows, row-some level table m r are.0, rows-few masks rows are.1)

  -- The values that the rows give.
  abbrev value_of : List ℤ → Row → Value
  value_of numbers row = record { num = share_sum numbers row.shares; den = row.den }

  rows-values : (numbers : List ℤ) (values : List Value) → AreSameValues values (row_values table numbers) → (masks : List Mask) (rows : List Row) → AreComposedRows level table masks rows
      → (p : ℕ) → p < length (map (value_of numbers) rows)
      → IsSameValue (get_or (map (mask_value (source_value level values)) masks) p (whole_value (pos 0))) (get_or (map (value_of numbers) rows) p (whole_value (pos 0)))
  rows-values numbers values same [] [] are p inside = absurd (omega (arith, inside))
  rows-values numbers values same [] (r ∷ rows) are p inside = absurd are
  rows-values numbers values same (m ∷ masks) [] are p inside = absurd are
  rows-values numbers values same (m ∷ masks) (r ∷ rows) are zero inside = turned (mask_value (source_value level values) m) (share_sum numbers r.shares) r.den (are.0.value numbers values same)
    where
      turned : (x : Value) (n : ℤ) (c : ℕ) → IsOver c x n → x.num *ℤ pos c ≡ n *ℤ pos x.den
      turned x n c e = *ℤ_comm x.num (pos c) ∙ e ∙ *ℤ_comm (pos x.den) n
  rows-values numbers values same (m ∷ masks) (r ∷ rows) are (suc p) inside = rows-values numbers values same masks rows are.1 p (omega (arith, inside))

  module _ (masks : List Mask) where
    -- the entries of some of the rows are no more than all
    pub entries-less : (n : ℕ) → mask_entries level table (take n masks) ≤ mask_entries level table masks
    entries-less n = subst (λ lists. sum_by length lists ≤ mask_entries level table masks) (take-map support n masks) (sum_by-take-le length (map support masks) n)

    -- A further row adds its control points to the entries.
    pub entries-more : (p : ℕ) → p < length masks → mask_entries level table (take (p + 1) masks) ≡ mask_entries level table (take p masks) + length (support (mask_at masks p))
    entries-more p inside =
        let own = mask_at masks p in
        let more = ap (λ list. sum_by length (map support list)) (take_more masks p no_mask inside) in
        let apart = ap (sum_by length) (map-append support (take p masks) (own ∷ [])) in
        omega (arith, more, apart, sum_by-append length (map support (take p masks)) (support own ∷ []), sum_by-cons length (support own) [])

    module _ (p : ℕ) (rows : List Row) (row : Row) (inside : p < length masks) (are : AreComposedRows level table (take p masks) rows)
        (is : IsComposedRow level table (mask_at masks p) row) where
      pub next-rows : AreComposedRows level table (take (p + 1) masks) (rows ++ row ∷ [])
      next-rows = subst (λ list. AreComposedRows level table list (rows ++ row ∷ [])) (sym (take_more masks p no_mask inside)) (rows-more (take p masks) rows _ row are is)

      -- If all rows have at most 2^27 entries, so do the first rows with this row.
      pub next-entries : mask_entries level table masks ≤ 2 ^ 27 → entries_of rows + length row.shares ≤ 2 ^ 27
      next-entries few =
          omega (arith, few, entries-less (p + 1), rows-entries (take (p + 1) masks) (rows ++ row ∷ []) next-rows, sum_by-append (λ (r : Row). length r.shares) rows (row ∷ []))

      -- If `AreFew` holds after this row, the first rows with this row have at most 2^27 entries.
      pub few-entries : (count spare : ℕ) → count ≡ length row.shares → AreFew (mask_entries level table masks) (entries_of rows + count) spare
          → entries_of rows + length row.shares ≤ 2 ^ 27
      few-entries count spare same (inl within) = omega (arith, same, within)
      few-entries count spare same (inr few) = next-entries few

      -- If the first rows with this row have at most 2^27 entries, the first rows are fewer than 2^27.
      pub few-rows : entries_of rows + length row.shares ≤ 2 ^ 27 → length rows < 2 ^ 27
      few-rows few = omega (arith, few, row-some level table _ row is, rows-few (take p masks) rows are)

    -- rows for all masks
    pub are-rows : (p : ℕ) (composed : Table) → length masks ≤ p → composed.controls ≡ table.controls
        → AreComposedRows level table (take p masks) composed.rows → AreMaskRows level masks table composed
    are-rows p composed past controls some = record {
      controls = controls;
      dens = rows-dens masks composed.rows are;
      supports = rows-supports masks composed.rows are;
      values = λ numbers values same. record {
        count =
            length-map masks (mask_value (source_value level values)) ∙ sym (rows-count masks composed.rows are)
            ∙ sym (length-map composed.rows (value_of numbers));
        same = rows-values numbers values same masks composed.rows are;
      };
    }
      where
        are : AreComposedRows level table masks composed.rows
        are = subst (λ list. AreComposedRows level table list composed.rows) (take_all p masks past) some
