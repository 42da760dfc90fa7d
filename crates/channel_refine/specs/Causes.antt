-- The causes of a walk for faults of values and of tables.
use Rattle.level_walk.specs.declared.fault.Cause.{Cause}
use Rattle.level_walk.specs.declared.fault.Cause.TheVariants.{Overflow, TooManyEntries, Memory}
use Rattle.level_walk.specs.declared.fault.OverflowKind.TheVariants.{Transition, Denominator, Value}
use Rattle.primvar_refine.specs.declared.fault.ValueFault.{ValueFault}
use Rattle.primvar_refine.specs.declared.fault.ValueFault.TheVariants as value
use Rattle.stencil_factory.specs.declared.fault.TableFault.{TableFault}
use Rattle.stencil_factory.specs.declared.fault.TableFault.TheVariants as table

-- the cause of a walk for a fault of values
abbrev pub cause_of_value : ValueFault → Cause
cause_of_value (value.Transition v) = Overflow Transition
cause_of_value (value.Denominator p) = Overflow Denominator
cause_of_value (value.TooBig p) = Overflow Value
cause_of_value value.Memory = Memory

-- the cause of a walk for a fault of a table
abbrev pub cause_of_table : TableFault → Cause
cause_of_table (table.Transition v) = Overflow Transition
cause_of_table (table.Denominator p) = Overflow Denominator
cause_of_table table.TooManyEntries = TooManyEntries
cause_of_table table.Memory = Memory
