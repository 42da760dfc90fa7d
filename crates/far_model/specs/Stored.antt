-- The answers of `verify` and `apply`: a stored table compared with the table of a mesh, or evaluated over control points.
-- Source: Drillolive.
use Rattle.std.specs.Option.{option_or}
use Rattle.std.specs.Prelude.{ℕ, zero, suc, ◌+◌, ◌*◌, ℤ, pos, ◌+ℤ◌, ◌*ℤ◌, Bool, not, ◌&&◌, nat_eq, nat_lt, max, List, [], ◌∷◌, length, map, take_while, get_or, Option, Some, None, option_map, Result, Ok, Err, bytes_eq, codes, if◌then◌else◌}
use Rattle.std.specs.List.{flat_map}
use Rattle.subdiv_model.specs.Channel.{number_bound, greatest_amount}
use Rattle.subdiv_model.specs.Fault.{Fault, Obj, Table, Differs, Controls, Overflow, Positions, ValueOverflow}
use Rattle.subdiv_model.specs.ObjFault.{ObjFault}
use Rattle.subdiv_model.specs.ObjLine.{begins_with}
use Rattle.subdiv_model.specs.ObjMesh.{ObjMesh}
use Rattle.subdiv_model.specs.NumberText.{number_text}
use Rattle.subdiv_model.specs.ReadObj.{obj_lines, without_mark}
use Rattle.subdiv_model.specs.ReadTable.{Reading, behind_line, read_table}
use Rattle.subdiv_model.specs.Refined.{Point, over_common, points_of_coordinates}
use Rattle.subdiv_model.specs.Table as tables
use Rattle.subdiv_model.specs.Table.{Share, Row, greatest_of}
use Rattle.subdiv_model.specs.TableFault.{Form, TableFault}
use Rattle.subdiv_model.specs.Text.{line_text, point_line}
use Rattle.subdiv_model.specs.Value.{Value}
use Rattle.far_model.specs.Refusal.{Answer, answer_unless}

-- the first word of the line is `table`
abbrev pub is_table_line : List (List ℕ) → Bool
is_table_line words = begins_with (codes "table") words

-- the lines before the first line `table`
abbrev pub lines_before_table : List (List (List ℕ)) → List (List (List ℕ))
lines_before_table lines = take_while (λ words. not (is_table_line words)) lines

-- the lines of the mesh in an input that contains a stored table after them
abbrev pub mesh_part : List ℕ → List (List (List ℕ))
mesh_part bytes = lines_before_table (obj_lines bytes)

-- the bytes after a number of lines
abbrev pub behind_lines : ℕ → List ℕ → List ℕ
behind_lines zero bytes = bytes
behind_lines (suc count) bytes = behind_lines count (behind_line bytes)

-- the bytes of the stored table, empty if no line begins with `table`
abbrev pub table_part : List ℕ → List ℕ
table_part bytes = behind_lines (length (mesh_part bytes)) (without_mark bytes)

-- two rows have the same denominator, the same control points and the same numerators
abbrev pub are_same_rows : Row → Row → Bool
are_same_rows x y =
    nat_eq x.den y.den
    && bytes_eq (map (λ share. share.0) x.shares) (map (λ share. share.0) y.shares)
    && bytes_eq (map (λ share. share.1) x.shares) (map (λ share. share.1) y.shares)

-- the first place at which the rows differ or one list has no row, if the lists begin at this place
abbrev pub row_difference : ℕ → List Row → List Row → Option ℕ
row_difference at [] [] = None
row_difference at [] (y ∷ ys) = Some at
row_difference at (x ∷ xs) [] = Some at
row_difference at (x ∷ xs) (y ∷ ys) = if are_same_rows x y then row_difference (suc at) xs ys else Some at

-- the first row, from 0, at which tables differ; 0 if they have different numbers of control points
abbrev pub first_difference : tables.Table → tables.Table → Option ℕ
first_difference a b = if nat_eq a.controls b.controls then row_difference 0 a.rows b.rows else Some 0

-- the fault of a table that follows a number of lines
abbrev pub table_fault_behind : ℕ → TableFault → Fault
table_fault_behind lines fault = Table (record { line = lines + fault.line; cause = fault.cause })

-- the fault of an OBJ text that follows a number of lines
abbrev pub obj_fault_behind : ℕ → ObjFault → Fault
obj_fault_behind lines fault = Obj (record { line = lines + fault.line; cause = fault.cause })

-- the number of lines of the text of a table
abbrev pub line_count : tables.Table → ℕ
line_count table = suc (length table.rows)

-- The fault of a stored table after a number of lines: it is no table, bytes follow it, or a row differs from this table.
abbrev pub stored_fault : ℕ → tables.Table → Result Reading TableFault → Option Fault
stored_fault lines own (Err fault) = Some (table_fault_behind lines fault)
stored_fault lines own (Ok reading) =
    if nat_eq (length reading.rest) 0 then option_map Differs (first_difference reading.table own)
    else Some (table_fault_behind lines (record { line = suc (line_count reading.table); cause = Form }))

-- the answer that the stored table of an input is this one, with its number of rows, unless the mesh before it is refused
abbrev pub answer_of_stored_table : Option Fault → tables.Table → List ℕ → Answer
answer_of_stored_table refusal own bytes =
    answer_unless (option_or refusal (stored_fault (length (mesh_part bytes)) own (read_table (table_part bytes))))
    (line_text (codes "table") (codes "agrees" ∷ number_text (length own.rows) ∷ []))

-- the sum of numerators times control numbers
abbrev pub sum_over : List ℤ → List Share → ℤ
sum_over controls [] = pos 0
sum_over controls (share ∷ shares) = pos share.1 *ℤ get_or controls share.0 (pos 0) +ℤ sum_over controls shares

-- the value of a row over control numbers
abbrev pub row_value : List ℤ → Row → Value
row_value controls row = record { num = sum_over controls row.shares; den = row.den }

-- the coordinates of all rows, from those of the control points over a common denominator
abbrev pub table_coordinates : tables.Table → ℕ → List ℤ → List Value
table_coordinates table common controls = map (λ row. over_common common (row_value controls row)) table.rows

-- the points of a table over control points
abbrev pub table_points : tables.Table → ℕ → List (ℤ × ℤ × ℤ) → List Point
table_points table common controls =
    points_of_coordinates
    (table_coordinates table common (map (λ p. p.0) controls))
    (table_coordinates table common (map (λ p. p.1) controls))
    (table_coordinates table common (map (λ p. p.2) controls))

-- the coordinates of all points
abbrev pub point_numbers : List (ℤ × ℤ × ℤ) → List ℤ
point_numbers points = flat_map (λ p. p.0 ∷ p.1 ∷ p.2 ∷ []) points

-- the fault of a table over points: their number is not that of its control points, or a numerator can pass its bound
abbrev pub evaluation_fault : tables.Table → ObjMesh → Option Fault
evaluation_fault table mesh =
    if not (nat_eq (length mesh.points) table.controls) then Some (Controls (length mesh.points))
    else if nat_lt number_bound (greatest_of table * max (greatest_amount (point_numbers mesh.points)) mesh.common)
    then Some (Overflow Positions 0 ValueOverflow)
    else None

-- the refusal of an OBJ text after a stored table, from the fault of the text and from its mesh
abbrev pub control_fault : tables.Table → Option ObjFault → ObjMesh → Option Fault
control_fault table (Some fault) mesh = Some (obj_fault_behind (line_count table) fault)
control_fault table None mesh = evaluation_fault table mesh

-- the points of a table over those of a mesh, one line each
abbrev pub points_text : tables.Table → ObjMesh → List ℕ
points_text table mesh = flat_map (point_line None) (table_points table mesh.common mesh.points)
