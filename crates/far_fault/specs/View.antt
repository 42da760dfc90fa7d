-- The faults and the outcomes of the code as those of the definitions.
use Rattle.std.specs.Prelude.{Option, Some, None, Result, Ok, Err}
use Rattle.subdiv_model.specs.Fault as model
use Rattle.obj_tags.specs.View.{cause_of}
use Rattle.level_topology.specs.CountedText.{counted_of}
use Rattle.mesh_check.specs.View.{mesh_fault_of}
use Rattle.level_walk.specs.View.{kind_of}
use Rattle.table_file.specs.View as table
use Rattle.far_fault.specs.declared.fault.Track.{Track}
use Rattle.far_fault.specs.declared.fault.Track.TheVariants.{Positions, Texture, LimitRows, Patch}
use Rattle.far_fault.specs.declared.fault.LimitCause.{LimitCause}
use Rattle.far_fault.specs.declared.fault.LimitCause.TheVariants.{Dart, SemiSharp}
use Rattle.far_fault.specs.declared.fault.PlaceFault.{PlaceFault}
use Rattle.far_fault.specs.declared.fault.PlaceFault.TheVariants.{NoFace, NotRegular, NoCorner, IsHole}
use Rattle.far_fault.specs.declared.fault.FarFault.{FarFault}
use Rattle.far_fault.specs.declared.fault.FarFault.TheVariants.{Usage, Read, Long, Obj, Mesh, TooLarge, Overflow, Limit, Place, Table, Differs, Controls, Write, Memory}

-- a track of the code as one of the definitions
abbrev pub track_of : Track → model.Track
track_of Positions = model.Positions
track_of Texture = model.Texture
track_of LimitRows = model.LimitRows
track_of Patch = model.Patch

-- a cause that leaves a point without a limit point, as one of the definitions
abbrev pub limit_cause_of : LimitCause → model.LimitCause
limit_cause_of (Dart v) = model.Dart v
limit_cause_of (SemiSharp v) = model.SemiSharp v

-- a fault of a place as one of the definitions
abbrev pub place_fault_of : PlaceFault → model.PlaceFault
place_fault_of (NoFace count) = model.NoFace count
place_fault_of (NotRegular face) = model.NotRegular face
place_fault_of (NoCorner count) = model.NoCorner count
place_fault_of (IsHole face) = model.IsHole face

-- a fault of the code as one of the definitions
abbrev pub fault_of : FarFault → model.Fault
fault_of (Usage word) = model.Usage word
fault_of Read = model.Read
fault_of Long = model.Long
fault_of (Obj line cause) = model.Obj (record { line = line; cause = cause_of cause })
fault_of (Mesh fault) = model.Mesh (mesh_fault_of fault)
fault_of (TooLarge counted) = model.TooLarge (counted_of counted)
fault_of (Overflow track level kind) = model.Overflow (track_of track) level (kind_of kind)
fault_of (Limit cause) = model.Limit (limit_cause_of cause)
fault_of (Place fault) = model.Place (place_fault_of fault)
fault_of (Table line cause) = model.Table (record { line = line; cause = table.cause_of cause })
fault_of (Differs row) = model.Differs row
fault_of (Controls count) = model.Controls count
fault_of Write = model.Write
fault_of Memory = model.Memory

-- the fault of a run, or none
abbrev pub outcome_of : Result (Unit {0}) FarFault → Option model.Fault
outcome_of (Ok done) = None
outcome_of (Err fault) = Some (fault_of fault)
