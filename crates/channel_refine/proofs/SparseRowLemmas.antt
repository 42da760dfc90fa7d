-- The sums of some rows of a table, row after row.
use Rattle.std.proofs.Common.{◌≡◌, ℕ, ◌<◌, nat_lt, List, [], ◌∷◌, length, map, get_or, arith, refl, ap, sym, subst}
use Rattle.std.proofs.lemmas.Bool.{ltb-true}
use Rattle.std.proofs.lemmas.List.FromFn.{fill_by_all}
use Rattle.mesh_laws.proofs.ClosedLemmas.{all-at}
use Rattle.primvar_refine.specs.Rows.{Row}
use Rattle.stencil_apply.specs.Table.{Table, row_at}
use Rattle.stencil_apply.specs.Table as table
use Rattle.channel_refine.specs.SparseComposed.{HasRows, order_at, rows_at}

-- the rows of these points
abbrev pub picked : Table → List ℕ → List table.Row
picked some order = map (row_at some) order

-- a requested row exists
pub row-inside : (some : Table) (order : List ℕ) (i n : ℕ) → HasRows some order → i < length order → n ≡ get_or order i 0 → n < length some.rows
row-inside some order i n has h same = subst (λ m. m < length some.rows) (sym same) (ltb-true _ _ (all-at (λ row. nat_lt row (length some.rows)) order i 0 h has))

-- a table without rows gets no request
pub none-asked : (some : Table) (order : List ℕ) → HasRows some order → some.rows ≡ [] → order ≡ []
none-asked some [] has none = refl
none-asked some (n ∷ order) has none = let inside = row-inside some (n ∷ order) 0 n has (omega arith) refl in absurd (omega (arith, inside, ap length none))

-- all rows, in their order
pub rows-all : (some : Table) (first : List ℕ) → rows_at some (order_at first 1 some) ≡ some
rows-all some first =
    ap (λ rows. let t : Table = record { controls = some.controls; rows = rows } in t) (sym (fill_by_all (row_at some) some.rows (length some.rows) (record { den = 1; shares = [] }) refl (λ k h. refl)))
