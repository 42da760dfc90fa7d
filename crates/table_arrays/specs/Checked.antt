-- The comparison of a text with the table of a mesh in a caller's arrays.
use Rattle.std.specs.Prelude.{ℕ, ◌≡◌, ◌≤◌, ◌⊎◌, nat_lt, List, [], length, Option, Some, None, option_map, Result, Ok, MatchResult, if◌then◌else◌}
use Rattle.subdiv_model.specs.Fault.{Fault, Long, Differs}
use Rattle.subdiv_model.specs.ReadTable.{read_table}
use Rattle.subdiv_model.specs.Table.{Table}
use Rattle.subdiv_model.specs.TableText.{text_of_table}
use Rattle.far_model.specs.Answer.{own_table, table_faults}
use Rattle.far_model.specs.Stored.{first_difference, stored_fault}
use Rattle.mesh_answers.specs.Refusals.{refusal_by}
use Rattle.mesh_arrays.specs.Arrays.{mesh_of_arrays}
use Rattle.mesh_arrays.specs.Faults.{IsMeshOf}
use Rattle.mesh_arrays.specs.declared.arrays.MeshArrays.{MeshArrays}
use Rattle.array_answers.specs.Refused.{IsRefusal}
use Rattle.array_answers.specs.declared.record.FaultRecord.{FaultRecord}
use Rattle.table_arrays.specs.Texts.{IsRefusedFor, text_limit}

-- the faults of a text that must be that of a table: it is too long, has a bad line, goes on behind the table, or has another row
abbrev pub check_refusal : Table → List ℕ → Option Fault
check_refusal own text = if nat_lt text_limit (length text) then Some Long else stored_fault 0 own (read_table text)

-- the arrays are a mesh that is not refused at the depth
pub record HasTable (mesh : MeshArrays) (depth : ℕ) : Type 0 where
  pub few : depth ≤ 10
  pub good : IsMeshOf mesh (mesh_of_arrays mesh)
  pub fine : refusal_by (table_faults depth (mesh_of_arrays mesh)) (mesh_of_arrays mesh) ≡ None

-- the table of the mesh of arrays at a depth
abbrev pub table_at : MeshArrays → ℕ → Table
table_at mesh depth = own_table depth (mesh_of_arrays mesh)

-- the arrays are a mesh with this table at the depth
pub record IsOwn (mesh : MeshArrays) (depth : ℕ) (table : Table) : Type 0 where
  pub has : HasTable mesh depth
  pub own : table ≡ table_at mesh depth

-- the command `stencils` refuses the mesh at the depth, and this is the record
abbrev pub IsMeshRefused : MeshArrays → ℕ → FaultRecord → Type 0
IsMeshRefused mesh depth found = IsRefusal depth (table_faults depth (mesh_of_arrays mesh)) mesh found

-- the table of the mesh at the depth, or the record of the mesh's refusal
abbrev pub IsOwnTable : MeshArrays → ℕ → Result Table FaultRecord → Type 0
IsOwnTable mesh depth result = MatchResult result (IsOwn mesh depth) (IsMeshRefused mesh depth)

-- the text is not too long, and is exactly the text of this table
pub record IsWhole (text : List ℕ) (table : Table) : Type 0 where
  pub short : length text ≤ text_limit
  pub read : read_table text ≡ Ok (record { table = table; rest = [] })

-- the table whose exact text these bytes are, or the record of the text's fault beside any table
abbrev pub IsWholeTable : List ℕ → Result Table FaultRecord → Type 0
IsWholeTable text result = MatchResult result (IsWhole text) (λ found. (own : Table) → IsRefusedFor (check_refusal own text) found)

-- the number of rows of two equal tables, or the record of the first row in which they differ
abbrev pub IsCompared : Table → Table → Result ℕ FaultRecord → Type 0
IsCompared stored own result =
    MatchResult result
    (λ rows. (first_difference stored own ≡ None) × (rows ≡ length own.rows))
    (IsRefusedFor (option_map Differs (first_difference stored own)))

-- the text is that of the table, which has this number of rows
pub record IsTextOf (own : Table) (text : List ℕ) (rows : ℕ) : Type 0 where
  pub short : length text ≤ text_limit
  pub same : text ≡ text_of_table own
  pub count : rows ≡ length own.rows

-- the number of rows of the table whose text this is, or the record of the text's fault
abbrev pub IsTextChecked : Table → List ℕ → Result ℕ FaultRecord → Type 0
IsTextChecked own text result = MatchResult result (IsTextOf own text) (IsRefusedFor (check_refusal own text))

-- the mesh has a table at the depth, and the text is that of the table
pub record IsOwnText (mesh : MeshArrays) (depth : ℕ) (text : List ℕ) (rows : ℕ) : Type 0 where
  pub has : HasTable mesh depth
  pub is : IsTextOf (table_at mesh depth) text rows

-- the mesh has a table at the depth, and the record is that of the text's fault
pub record IsTextRefused (mesh : MeshArrays) (depth : ℕ) (text : List ℕ) (found : FaultRecord) : Type 0 where
  pub has : HasTable mesh depth
  pub refused : IsRefusedFor (check_refusal (table_at mesh depth) text) found

-- the record of the mesh's refusal, or of the text's fault
abbrev pub IsNotOwn : MeshArrays → ℕ → List ℕ → FaultRecord → Type 0
IsNotOwn mesh depth text found = IsMeshRefused mesh depth found ⊎ IsTextRefused mesh depth text found

-- the number of rows of the mesh's table, whose text this is; or the record of the first fault
abbrev pub IsChecked : MeshArrays → ℕ → List ℕ → Result ℕ FaultRecord → Type 0
IsChecked mesh depth text result = MatchResult result (IsOwnText mesh depth text) (IsNotOwn mesh depth text)
