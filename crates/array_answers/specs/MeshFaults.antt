-- The records of the faults of a mesh.
use Rattle.std.specs.Prelude.{List, map}
use Rattle.subdiv_model.specs.MeshFault.{MeshFault}
use Rattle.subdiv_model.specs.Fault.{Mesh}
use Rattle.array_answers.specs.declared.record.FaultRecord.{FaultRecord}
use Rattle.array_answers.specs.RecordTable.{record_of}

-- the record of each fault, in the order of the faults
abbrev pub records_of : List MeshFault → List FaultRecord
records_of faults = map (λ fault. record_of (Mesh fault)) faults
