-- The faults of this crate in the terms of the definitions, and a table that was read.
use Rattle.subdiv_model.specs.Fault as run
use Rattle.subdiv_model.specs.TableFault as model
use Rattle.table_file.specs.declared.fault.TableCause.{TableCause}
use Rattle.table_file.specs.declared.fault.TableCause.TheVariants.{Form, Range, Sum, Count}
use Rattle.table_file.specs.declared.fault.TableFault.{TableFault}
use Rattle.table_file.specs.declared.fault.TableReadFault.{TableReadFault}
use Rattle.table_file.specs.declared.fault.TableReadFault.TheVariants as read

abbrev pub cause_of : TableCause → model.TableCause
cause_of Form = model.Form
cause_of Range = model.Range
cause_of Sum = model.Sum
cause_of Count = model.Count

abbrev pub fault_of : TableFault → model.TableFault
fault_of fault = record { line = fault.line; cause = cause_of fault.cause }

abbrev pub read_fault_of : TableReadFault → run.Fault
read_fault_of (read.Table line cause) = run.Table (record { line = line; cause = cause_of cause })
read_fault_of read.Memory = run.Memory
