-- The sparse levels of a channel with the values of their written points, from their tables.
use Rattle.std.proofs.Common.{◌≡◌, ℕ, zero, suc, ◌+◌, ◌*◌, ◌<◌, ◌≤◌, Bool, nat_lt, max, ℤ, List, [], ◌∷◌, length, get_or, arith, refl, ap, sym, ◌∙◌, subst}
use Rattle.std.specs.List.{All, sum_by, range_with_len}
use Rattle.std.proofs.lemmas.Bool.{ltb-true}
use Rattle.std.proofs.lemmas.List.Elements.{All-map}
use Rattle.std.proofs.lemmas.List.Sums.{sum_by-cons}
use Rattle.subdiv_model.specs.Feature.{FaceFacts}
use Rattle.subdiv_model.specs.Channel.{Channel, number_bound}
use Rattle.subdiv_model.specs.Sparse.{FacePredicate, predicate_to}
use Rattle.subdiv_model.specs.SparseFaults.{present_entries}
use Rattle.subdiv_model.specs.SparseText.{WrittenLevel}
use Rattle.mesh_laws.proofs.ClosedLemmas.{all-at}
use Rattle.sparse_laws.specs.Written.{used_points}
use Rattle.sparse_walk.specs.declared.kept.KeptLevel.{KeptLevel}
use Rattle.stencil_apply.specs.Table.{Row, Table, IsRow, row_at}
use Rattle.channel_refine.specs.Refined.{AreControls, column_of}
use Rattle.channel_refine.specs.Evaluated.{control_rows}
use Rattle.channel_refine.proofs.EvaluatedLemmas.{can-evaluate-by, column-count, stands-for, dens-evaluated, within-evaluated, short-evaluated, short-rows, positive-evaluated, alike-evaluated}
use Rattle.channel_refine.specs.SparseRefined.{SparseRows, IsSparseLevel, AreSparseTo, entries_to}
use Rattle.channel_refine.specs.SparseComposed.{AreComposedTo, CanValue, CanValueAll, IsComposedLevel, kept_order, rows_at, valued, valued_entries, valued_from, entries_in}

-- The levels one after another.

zero-right : (n : ℕ) → n + 0 ≡ n
zero-right n = omega arith

zero-left : (n : ℕ) → 0 + n ≡ n
zero-left n = omega arith

shift : (n m : ℕ) → n + suc m ≡ suc n + m
shift n m = omega arith

valued-count : (controls : List (List ℤ)) (first : List ℕ) (j : ℕ) (levels : List (KeptLevel Table)) → length (valued_from controls first j levels) ≡ length levels
valued-count controls first j [] = refl
valued-count controls first j (level ∷ levels) = ap suc (valued-count controls first (suc j) levels)

valued-at : (controls : List (List ℤ)) (first : List ℕ) (j : ℕ) (levels : List (KeptLevel Table)) (i : ℕ) (none : SparseRows) (d : KeptLevel Table) → i < length levels
    → get_or (valued_from controls first j levels) i none ≡ valued controls (kept_order first (j + i) (get_or levels i d)) (get_or levels i d)
valued-at controls first j [] i none d h = absurd (omega (arith, h))
valued-at controls first j (level ∷ levels) zero none d h = ap (λ n. valued controls (kept_order first n level) level) (sym (zero-right j))
valued-at controls first j (level ∷ levels) (suc i) none d h =
    valued-at controls first (suc j) levels i none d (omega (arith, h))
    ∙ ap (λ n. valued controls (kept_order first n (get_or levels i d)) (get_or levels i d)) (sym (shift j i))

-- the entries of all levels, with a bound for each
entries-within : (first : List ℕ) (most : ℕ → ℕ) (j : ℕ) (levels : List (KeptLevel Table))
    → ((i : ℕ) (d : KeptLevel Table) → i < length levels → valued_entries (kept_order first (j + i) (get_or levels i d)) (get_or levels i d) ≤ most (j + i))
    → entries_in first j levels ≤ sum_by most (range_with_len j (length levels))
entries-within first most j [] each = omega arith
entries-within first most j (level ∷ levels) each =
    let now : valued_entries (kept_order first j level) level ≤ most j = subst (λ n. valued_entries (kept_order first n level) level ≤ most n) (zero-right j) (each 0 level (omega arith)) in
    let rest =
    entries-within first most (suc j) levels (λ i d h.
    subst (λ n. valued_entries (kept_order first n (get_or levels i d)) (get_or levels i d) ≤ most n) (shift j i) (each (suc i) d (omega (arith, h)))) in
    let next : j + 1 ≡ suc j = omega arith in
    omega (arith, now, rest, sum_by-cons most j (range_with_len (j + 1) (length levels)), ap (λ n. sum_by most (range_with_len n (length levels))) next)

-- One level.
module _ (channel : Channel) (predicate : FacePredicate) (k : ℕ) (order : List ℕ) (faces : WrittenLevel) (table : Table) (is : IsComposedLevel channel predicate k order faces table)
    (controls : List (List ℤ)) (are : AreControls channel (control_rows controls)) where
  abbrev most : ℕ
  most = max channel.greatest channel.common

  row-here : (P : Row → Type 0) → All P table.rows → All P (rows_at table order).rows
  row-here P all =
      All-map P (row_at table) order (λ i d h.
      all (get_or order i d) (record { den = 1; shares = [] }) (ltb-true _ _ (all-at (λ row. nat_lt row (length table.rows)) order i d h is.has_rows)))

  rows-are : All (IsRow table.controls) (rows_at table order).rows
  rows-are = row-here (IsRow table.controls) is.made.rows

-- a level that is kept
module _ (channel : Channel) (predicate : FacePredicate) (k : ℕ) (order : List ℕ) (level : KeptLevel Table) (is : IsComposedLevel channel predicate k order level.faces level.carried)
    (controls : List (List ℤ)) (are : AreControls channel (control_rows controls)) where
  abbrev picked : Table
  picked = rows_at level.carried order

  rows : All (IsRow level.carried.controls) (rows_at level.carried order).rows
  rows = rows-are channel predicate k order level.faces level.carried is controls are

  level-valued : IsSparseLevel channel predicate (control_rows controls) k (valued controls order level)
  level-valued = record {
    written = is.written;
    dens = dens-evaluated channel picked is.controls rows controls are ∙ is.dens;
    values = λ column.
        stands-for channel picked is.controls rows controls are column _
        (is.values (column_of column (control_rows controls)) (column-count channel picked is.controls rows controls are column));
    within = within-evaluated channel picked is.controls rows controls are;
    short =
        short-evaluated channel picked is.controls rows controls are
        (row-here channel predicate k order level.faces level.carried is controls are (λ row. row.den * max channel.greatest channel.common ≤ number_bound) (short-rows level.carried (max channel.greatest channel.common) is.fits));
    positive = positive-evaluated channel picked is.controls rows controls are;
    alike = alike-evaluated channel picked is.controls rows controls are;
  }

  can-value : CanValue controls order level
  can-value = record { can = can-evaluate-by channel level.carried is.controls is.fits controls are; has_rows = is.has_rows }

abbrev none_kept : KeptLevel Table
none_kept = record { faces = record { point_count = 0; faces = [] }; carried = record { controls = 0; rows = [] } }

-- All levels.
module _ (test : FaceFacts → Bool) (channel : Channel) (depth : ℕ) (levels : List (KeptLevel Table)) (is : AreComposedTo test channel depth levels)
    (first : List ℕ) (ordered : first ≡ used_points channel.base) (controls : List (List ℤ)) (are : AreControls channel (control_rows controls)) where
  one-level : (k : ℕ) (d : KeptLevel Table) → k < length levels
      → IsComposedLevel channel (predicate_to test channel.base depth) k (kept_order first k (get_or levels k d)) (get_or levels k d).faces (get_or levels k d).carried
  one-level k d h =
      subst (λ order. IsComposedLevel channel (predicate_to test channel.base depth) k (kept_order order k (get_or levels k d)) (get_or levels k d).faces (get_or levels k d).carried) (sym ordered)
      (is.each k d (omega (arith, h, is.count)))

  -- the levels can be evaluated
  pub can-value-all : CanValueAll controls first levels
  can-value-all k d h = can-value channel (predicate_to test channel.base depth) k (kept_order first k (get_or levels k d)) (get_or levels k d) (one-level k d h) controls are

  -- their values are the sparse levels of the definitions
  pub all-valued : (made : List SparseRows) → made ≡ valued_from controls first 0 levels → AreSparseTo test channel (control_rows controls) depth made
  all-valued made same = subst (AreSparseTo test channel (control_rows controls) depth) (sym same) (record {
    fine = is.fine;
    count = valued-count controls first 0 levels ∙ is.count;
    each = λ k h.
        let below : k < length levels = omega (arith, h, is.count) in
        subst (IsSparseLevel channel (predicate_to test channel.base depth) (control_rows controls) k) (sym (valued-at controls first 0 levels k _ none_kept below ∙ ap (λ n. valued controls (kept_order first n (get_or levels k none_kept)) (get_or levels k none_kept)) (zero-left k)))
        (level-valued channel (predicate_to test channel.base depth) k (kept_order first k (get_or levels k none_kept)) (get_or levels k none_kept) (one-level k none_kept below) controls are);
  })

  pub entries-few : entries_in first 0 levels ≤ entries_to channel (predicate_to test channel.base depth) depth
  entries-few =
      omega (
        arith,
        entries-within first (present_entries channel (predicate_to test channel.base depth)) 0 levels (λ k d h.
            subst (λ n. valued_entries (kept_order first n (get_or levels k d)) (get_or levels k d) ≤ present_entries channel (predicate_to test channel.base depth) n) (sym (zero-left k)) (one-level k d h).entries),
        ap (λ n. sum_by (present_entries channel (predicate_to test channel.base depth)) (range_with_len 0 n)) is.count,
      )
