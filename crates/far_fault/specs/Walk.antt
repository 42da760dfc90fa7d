-- The fault of a walk over the levels of a track, as the fault of a run.
use Rattle.std.specs.Prelude.{ℕ}
use Rattle.subdiv_model.specs.Fault.{Fault, Track, TooLarge, LevelFaces, Entries, Overflow, Memory}
use Rattle.level_walk.specs.View.{kind_of}
use Rattle.level_walk.specs.declared.fault.Cause.{Cause}
use Rattle.level_walk.specs.declared.fault.Cause.TheVariants as cause
use Rattle.level_walk.specs.declared.fault.WalkFault.{WalkFault}

-- the fault of a run for a cause at a level of a track
abbrev pub fault_at : Track → ℕ → Cause → Fault
fault_at track level (cause.TooManyFaces count) = TooLarge (LevelFaces level count)
fault_at track level cause.TooManyEntries = TooLarge (Entries level)
fault_at track level (cause.Overflow kind) = Overflow track level (kind_of kind)
fault_at track level cause.Memory = Memory

-- the fault of a run for the fault of a walk over a track
abbrev pub walk_fault_of : Track → WalkFault → Fault
walk_fault_of track fault = fault_at track fault.level fault.cause
