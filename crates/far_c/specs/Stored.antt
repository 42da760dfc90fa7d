-- The results of calls about stored tables: rows in arrays, a text, and the comparison of a text with a mesh.
use Rattle.std.specs.Prelude.{ℕ, ◌≡◌, ◌<◌, ◌≤◌, false, List, ◌++◌, length, take, drop}
use Rattle.subdiv_model.specs.Table.{Table}
use Rattle.subdiv_model.specs.TableText.{text_of_table}
use Rattle.memory_streams.specs.Text.{count_of}
use Rattle.mesh_arrays.specs.declared.arrays.MeshArrays.{MeshArrays}
use Rattle.array_answers.specs.declared.record.FaultRecord.{FaultRecord}
use Rattle.table_file.specs.Read.{TableRead}
use Rattle.table_arrays.specs.Places as table
use Rattle.table_arrays.specs.declared.places.TableCounts.{TableCounts}
use Rattle.table_arrays.specs.declared.places.ExactPlaces.{ExactPlaces}
use Rattle.table_arrays.specs.Texts.{IsReadOf, IsRefusedFor, read_refusal}
use Rattle.table_arrays.specs.Rows.{AreRowsRefused, IsTableOf}
use Rattle.table_arrays.specs.Checked.{IsNotOwn, IsOwnText}
use Rattle.table_arrays.specs.declared.exact_rows.ExactRows.{ExactRows}
use Rattle.far_c.specs.Status.{IsStatus}

-- the text begins with the text of a table with these counts, which has this length, and `Holds` is true of the table
pub record HasStored (text : List ℕ) (counts : TableCounts) (end : ℕ) (Holds : Table → Type 0) : Type 0 where
  pub read : TableRead
  pub is : IsReadOf text read
  pub counted : counts ≡ table.counts_of read.table
  pub ended : end ≡ read.end
  pub holds : Holds read.table

-- the table is written, or only its counts and the end of its text if an array is too short
abbrev pub AnswersRead : List ℕ → ℕ → TableCounts → ℕ → ExactPlaces → ExactPlaces → FaultRecord → Type 0
AnswersRead text status counts end old new fault =
    IsStatus status
    (HasStored text counts end (λ t. table.IsExactWritten t new))
    (HasStored text counts end (λ t. (table.are_exact_long_enough (table.counts_of t) old ≡ false) × (new ≡ old)))
    (λ found. IsRefusedFor (read_refusal text) found × (new ≡ old)) fault

-- the rows are those of a table, and `Holds` is true of its text
pub record HasText (rows : ExactRows) (Holds : List ℕ → Type 0) : Type 0 where
  pub made : Table
  pub is : IsTableOf rows made
  pub holds : Holds (text_of_table made)

-- the new bytes are the text, which has this length, and the old ones stay behind it
pub record IsWritten (text old new : List ℕ) (written : ℕ) : Type 0 where
  pub fits : length text ≤ length old
  pub bytes : new ≡ text ++ drop (length text) old
  pub counted : written ≡ length text

-- the new bytes are the beginning of the text, which is longer
pub record IsCut (text old new : List ℕ) (written : ℕ) : Type 0 where
  pub longer : length old < length text
  pub bytes : new ≡ take (length old) text
  pub counted : written ≡ count_of text

-- the text is written, or as much of it as fits
abbrev pub AnswersWrite : ExactRows → ℕ → ℕ → List ℕ → List ℕ → FaultRecord → Type 0
AnswersWrite rows status written old new fault =
    IsStatus status (HasText rows (λ text. IsWritten text old new written)) (HasText rows (λ text. IsCut text old new written)) (λ found. AreRowsRefused rows found × (new ≡ old)) fault

-- the text is that of the mesh's table at the depth, or the fault for which it is not
abbrev pub AnswersCheck : MeshArrays → ℕ → List ℕ → ℕ → FaultRecord → Type 0
AnswersCheck mesh depth text status fault = IsStatus status ((rows : ℕ) × IsOwnText mesh depth text rows) ⊥ (IsNotOwn mesh depth text) fault
