-- The table of a mesh in a caller's arrays, and a text beside it.
use Rattle.std.proofs.Common.{◌≡◌, ℕ, inr, List, None, Result, Ok, Err, ap, subst, ◌∙◌}
use Rattle.subdiv_model.specs.Table.{Table}
use Rattle.far_model.specs.Answer.{own_table, table_faults}
use Rattle.mesh_answers.specs.Refusals.{refusal_by}
use Rattle.mesh_answers.proofs.TableLemmas.{table-own}
use Rattle.mesh_arrays.specs.Faults.{IsMeshOf}
use Rattle.mesh_arrays.specs.declared.arrays.MeshArrays.{MeshArrays}
use Rattle.array_answers.specs.Composed.{IsRefinedOf}
use Rattle.array_answers.specs.declared.compose.RefinedArrays.{RefinedArrays}
use Rattle.array_answers.specs.declared.record.FaultRecord.{FaultRecord}
use Rattle.table_arrays.specs.Texts.{IsRefusedFor}
use Rattle.table_arrays.specs.Checked.{IsChecked, IsOwn, IsTextChecked, IsTextOf, check_refusal}

-- the table that is composed is that of the definitions
pub own-refined : (mesh : MeshArrays) (depth : ℕ) (refined : RefinedArrays) → IsRefinedOf mesh depth refined → IsOwn mesh depth refined.composed.table
own-refined mesh depth refined is = record {
  has = record {
    few = is.few;
    good = subst (IsMeshOf mesh) is.good.same is.good;
    fine = subst (λ m. refusal_by (table_faults depth m) m ≡ None) is.good.same is.composed.good;
  };
  own = table-own refined.mesh depth refined.composed is.composed ∙ ap (own_table depth) is.good.same;
}

-- a result of the text beside this table is one beside the table of the mesh
pub checked : (mesh : MeshArrays) (depth : ℕ) (own : Table) (text : List ℕ) (r : Result ℕ FaultRecord) → IsOwn mesh depth own → IsTextChecked own text r → IsChecked mesh depth text r
checked mesh depth own text (Ok rows) is are = record { has = is.has; is = subst (λ (t : Table). IsTextOf t text rows) is.own are }
checked mesh depth own text (Err found) is refused = inr (record { has = is.has; refused = subst (λ (t : Table). IsRefusedFor (check_refusal t text) found) is.own refused })
