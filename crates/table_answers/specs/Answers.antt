-- The answer of a command to an input with a stored table: a reply or a fault, within the bounds of steps.
use Rattle.std.specs.Prelude.{ℕ, ◌≡◌, ◌*◌, ◌≤◌, max, List, [], length, map, None, option_map, Result, Ok, Err, IfOk, MatchResult, drop}
use Rattle.subdiv_model.specs.Fault.{Differs}
use Rattle.subdiv_model.specs.ObjMesh.{ObjMesh}
use Rattle.subdiv_model.specs.ReadObj.{obj_lines, mesh_of_lines, read_obj_fault, read_obj_mesh}
use Rattle.subdiv_model.specs.ReadTable.{Reading, read_table}
use Rattle.subdiv_model.specs.Channel.{number_bound}
use Rattle.subdiv_model.specs.Table.{Table, IsTable, entries_of, greatest_of}
use Rattle.subdiv_model.specs.TableFault.{TableFault}
use Rattle.far_model.specs.Answer as model
use Rattle.far_model.specs.Answer.{answer_of_apply, answer_of_stored_text, composition_refusal, mesh_before_table, positions_of}
use Rattle.far_model.specs.Command.{StoredCommand, Verify, Apply}
use Rattle.far_model.specs.Refusal.{Answer, answer_unless}
use Rattle.far_model.specs.Stored.{control_fault, evaluation_fault, first_difference, points_text, stored_fault}
use Rattle.stencil_factory.specs.Rows.{dens_of}
use Rattle.table_file.specs.Read.{TableRead}
use Rattle.ratio128.specs.StepsTaken.{StepsTaken}
use Rattle.far_text.specs.Reply.{CanPut, reply_text}
use Rattle.far_text.specs.Stored.{agreement_line}
use Rattle.far_text.specs.declared.reply.Reply.{Reply}
use Rattle.far_text.specs.declared.reply.Reply.TheVariants.{Agreement, Points}
use Rattle.far_fault.specs.View.{fault_of}
use Rattle.far_fault.specs.declared.fault.FarFault.{FarFault}
use Rattle.mesh_answers.specs.MeshText.{IsMeshText}
use Rattle.mesh_answers.specs.Refusals.{IsFound}
use Rattle.mesh_answers.specs.StepCounts.{level_faces_to}

-- the entries of the table whose text the bytes begin with
abbrev pub entries_read : Result Reading TableFault → ℕ
entries_read (Ok reading) = entries_of reading.table.rows
entries_read (Err fault) = 0

-- the least number of steps of a command that answers an input
abbrev pub stored_least : StoredCommand → List ℕ → ℕ
stored_least (Verify depth) bytes = 0
stored_least Apply bytes = entries_read (read_table bytes)

-- the greatest number of steps of a command with any input
abbrev pub stored_limit : StoredCommand → List ℕ → ℕ
stored_limit (Verify depth) bytes = level_faces_to depth (mesh_before_table bytes)
stored_limit Apply bytes = entries_read (read_table bytes)

-- the command does not refuse the input, and the reply has its text
pub record IsReplyOf (answer : Answer) (reply : Reply) : Type 0 where
  pub good : answer.refusal ≡ None
  pub says : reply_text reply ≡ answer.text
  pub put : CanPut reply

-- a reply of the command, or its refusal
abbrev pub IsAnswerOf : Answer → Result Reply FarFault → Type 0
IsAnswerOf answer result = MatchResult result (IsReplyOf answer) (λ fault. IsFound (fault_of fault) answer.refusal)

-- the reply has points over the denominators of the table's rows and the common one of the mesh
abbrev pub IsOver : Table → ObjMesh → Reply → Type 0
IsOver table mesh (Points points) = (map (λ value. value.den) points.values.items ≡ dens_of table) × (points.common ≡ mesh.common)
IsOver table mesh other = ⊥

-- the table that an input begins with was read, and the reply has points over its denominators and the common one of the text behind it
abbrev pub IsOverRead : Result Reading TableFault → Reply → Type 0
IsOverRead (Ok reading) reply = IsOver reading.table (read_obj_mesh reading.rest 0) reply
IsOverRead (Err fault) reply = ⊥

-- the reply of `verify` has the number of rows of the mesh's table, and that of `apply` has points over the denominators of its table
abbrev pub HasNumbers : StoredCommand → List ℕ → Reply → Type 0
HasNumbers (Verify depth) bytes reply = reply ≡ Agreement (length (model.own_table depth (mesh_before_table bytes)).rows)
HasNumbers Apply bytes reply = IsOverRead (read_table bytes) reply

-- a reply of the command, or its refusal, within the bounds of steps
pub record IsStoredAnswer (command : StoredCommand) (bytes : List ℕ) (result : Result Reply FarFault) (old new : ℕ) : Type 0 where
  pub reply : IsAnswerOf (answer_of_stored_text command bytes) result
  pub numbers : IfOk result (HasNumbers command bytes)
  pub steps : StepsTaken result old new (stored_least command bytes) (stored_limit command bytes)

-- the mesh of an OBJ text
abbrev pub text_mesh : List ℕ → ObjMesh
text_mesh text = mesh_of_lines (obj_lines text) 0

-- the text is not refused, and this is the table of its mesh at a depth
pub record IsOwn (text : List ℕ) (depth : ℕ) (table : Table) : Type 0 where
  pub good : composition_refusal depth 0 (obj_lines text) ≡ None
  pub own : table ≡ model.own_table depth (text_mesh text)

-- the table of the text's mesh at a depth, or the refusal of the text
abbrev pub IsOwnTable : List ℕ → ℕ → Result Table FarFault → Type 0
IsOwnTable text depth result = MatchResult result (IsOwn text depth) (λ fault. IsFound (fault_of fault) (composition_refusal depth 0 (obj_lines text)))

-- the bytes are exactly the text of this table
abbrev pub IsWhole : List ℕ → Table → Type 0
IsWhole text table = read_table text ≡ Ok (record { table = table; rest = [] })

-- the fault is that of the text, whatever the table of the mesh is
abbrev pub IsRefusedTable : List ℕ → ℕ → FarFault → Type 0
IsRefusedTable text lines fault = (own : Table) → IsFound (fault_of fault) (stored_fault lines own (read_table text))

-- the table whose text these bytes are, or their refusal
abbrev pub IsStoredTable : List ℕ → ℕ → Result Table FarFault → Type 0
IsStoredTable text lines result = MatchResult result (IsWhole text) (IsRefusedTable text lines)

-- the answer for this stored table and that table of the mesh
abbrev pub compared : Table → Table → Answer
compared stored own = answer_unless (option_map Differs (first_difference stored own)) (agreement_line (length own.rows))

-- the mesh of the text behind a table, or the refusal of the text
abbrev pub IsControlMesh : List ℕ → Table → Result ObjMesh FarFault → Type 0
IsControlMesh text table result =
    MatchResult result (λ mesh. IsMeshText text 0 mesh) (λ fault. IsFound (fault_of fault) (control_fault table (read_obj_fault text 0) (read_obj_mesh text 0)))

-- the answer for this table over the points of this mesh
abbrev pub evaluated : Table → ObjMesh → Answer
evaluated table mesh = answer_unless (evaluation_fault table mesh) (points_text table mesh)

-- the answer for this text behind this table
abbrev pub answer_behind : Table → List ℕ → Answer
answer_behind table text = answer_of_apply (Ok (record { table = table; rest = text }))

-- the table can be evaluated over the points of a mesh
pub record IsEvaluable (table : Table) (mesh : ObjMesh) : Type 0 where
  pub good : evaluation_fault table mesh ≡ None
  pub made : IsTable table
  pub controls : table.controls ≡ length mesh.points
  pub fits : greatest_of table * max (positions_of mesh).greatest (positions_of mesh).common ≤ number_bound

-- the table whose text the bytes begin with, and the length of that text, or the refusal of `apply`
abbrev pub IsFirstTable : List ℕ → Result TableRead FarFault → Type 0
IsFirstTable bytes result =
    MatchResult result (λ read. (read_table bytes ≡ Ok (record { table = read.table; rest = drop read.end bytes })) × (read.end ≤ length bytes))
    (λ fault. IsFound (fault_of fault) (answer_of_apply (read_table bytes)).refusal)
