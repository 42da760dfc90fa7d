-- The line of a row of a session.
use Rattle.std.proofs.Common.{◌≡◌, ℕ, ◌*◌, ◌<◌, ◌≤◌, max, ℤ, pos, List, [], length, map, get_or, arith, ap, sym, ◌∙◌, subst}
use Rattle.std.specs.List.{All, fold}
use Rattle.std.proofs.Math.Nat.{mul-le-mul_right}
use Rattle.std.proofs.lemmas.List.{length-map, get_or-map}
use Rattle.std.proofs.lemmas.List.Elements.{All-from_recursion}
use Rattle.subdiv_model.specs.Channel.{number_bound}
use Rattle.number_laws.proofs.MultipleLemmas.{product-positive}
use Rattle.ratio128.specs.Numbers.{greatest_amount}
use Rattle.ratio128.specs.declared.point.Point3.{Point3}
use Rattle.channel_refine.proofs.DenominatorLemmas.{each-below}
use Rattle.stencil_apply.specs.Table.{Row, Table, IsTable, row_at, greatest_of}
use Rattle.stencil_session.specs.Session.{State, numbers_of, row_value}
use Rattle.far_text.specs.Frames.{changed_line, valued_changed_line}
use Rattle.far_text.specs.Points.{CanBeWritten}
use Rattle.mesh_answers.proofs.PointLemmas.{written-point}
use Rattle.table_answers.specs.FrameLines.{row_line}

abbrev none : Row
none = record { den = 1; shares = [] }

-- no denominator is above the greatest
den-below : (table : Table) (row : ℕ) → row < length table.rows → (row_at table row).den ≤ greatest_of table
den-below table row inside =
    let dens = map (λ (r : Row). r.den) table.rows in
    let all : All (λ n. n ≤ fold max 1 dens) dens = All-from_recursion (λ n. n ≤ fold max 1 dens) dens (each-below dens 1) in
    subst (λ n. n ≤ greatest_of table) (get_or-map (λ (r : Row). r.den) table.rows row none 1 inside)
    (all row 1 (omega (arith, inside, length-map table.rows (λ (r : Row). r.den))))

module _ (state : State) (row common den : ℕ) (value : Point3) (is : den ≡ (row_at state.table row).den) where
  -- the numbers of a row can be written
  pub row-written : IsTable state.table → row < length state.table.rows → greatest_amount (numbers_of value) ≤ number_bound → 0 < common →
      greatest_of state.table * common ≤ number_bound → CanBeWritten common (record { value = value; den = den })
  row-written made inside most some fits =
      let positive : 0 < den = subst (λ n. 0 < n) (sym is) (made.rows row none inside).positive in
      let below : den ≤ greatest_of state.table = subst (λ n. n ≤ greatest_of state.table) (sym is) (den-below state.table row inside) in
      written-point common (record { value = value; den = den }) (product-positive den common positive some) (omega (arith, fits, mul-le-mul_right common below)) most

  -- the line of a row is that of the point
  pub row-line : numbers_of value ≡ row_value state row → valued_changed_line common row (record { value = value; den = den }) ≡ row_line common state row
  row-line numbers = ap (λ d. line d (numbers_of value)) is ∙ ap (λ ns. line (row_at state.table row).den ns) numbers
    where
      line : ℕ → List ℤ → List ℕ
      line d ns = changed_line row (record { num = get_or ns 0 (pos 0); den = d * common }, record { num = get_or ns 1 (pos 0); den = d * common }, record { num = get_or ns 2 (pos 0); den = d * common })
