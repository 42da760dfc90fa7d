-- The fault of a record, if there is one.
use Rattle.std.specs.Prelude.{◌≡◌, Option, Some, None}
use Rattle.far_fault.specs.declared.fault.FarFault.{FarFault}
use Rattle.far_fault.specs.View.{fault_of}
use Rattle.subdiv_model.specs.Fault.{Fault}
use Rattle.array_answers.specs.RecordRange.{IsInRange}
use Rattle.array_answers.specs.RecordTable.{record_of}
use Rattle.array_answers.specs.declared.record.FaultRecord.{FaultRecord}

-- the record describes this fault, whose numbers fit the code
pub record IsRecordOf (held : FaultRecord) (fault : Fault) : Type 0 where
  pub row : record_of fault ≡ held
  pub range : IsInRange fault

-- no fault that the code holds has the record
abbrev pub IsOfNone : FaultRecord → Type 0
IsOfNone held = (fault : Fault) → IsRecordOf held fault → ⊥

-- a fault that the record describes, or none exactly if there is no such fault
abbrev pub IsFaultOf : FaultRecord → Option FarFault → Type 0
IsFaultOf held None = IsOfNone held
IsFaultOf held (Some fault) = IsRecordOf held (fault_of fault)
