-- The data of a session besides its table.
use Rattle.std.specs.Prelude.{ℕ, ◌≡◌, ◌<◌, ℤ, ◌-ℤ◌, Bool, List, [], ◌∷◌, length, map, get_or}
use Rattle.ratio128.specs.declared.point.Point3.{Point3}
use Rattle.stencil_apply.specs.Table.{Table}
use Rattle.stencil_session.specs.Session.{State, IsState, numbers_of, row_value}
use Rattle.stencil_session.specs.Columns.{Entry, columns_of}

-- the state of a table with controls and marks
abbrev pub state_of : Table → List Point3 → List Bool → State
state_of table controls marks = record { table = table; controls = map numbers_of controls; marks = marks }

-- the columns are those of the table, and each value is that of its row over the controls
pub record AreKept (table : Table) (columns : List (List Entry)) (controls values : List Point3) (marks : List Bool) : Type 0 where
  pub state : IsState (state_of table controls marks)
  pub by_control : columns ≡ columns_of table
  pub count : length values ≡ length table.rows
  pub sums : (row : ℕ) (d : Point3) → row < length table.rows → numbers_of (get_or values row d) ≡ row_value (state_of table controls marks) row

-- each number minus another
abbrev pub difference_of : List ℤ → List ℤ → List ℤ
difference_of (x ∷ xs) (y ∷ ys) = (x -ℤ y) ∷ difference_of xs ys
difference_of xs ys = []
