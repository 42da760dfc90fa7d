-- The text of a refused number and its fault.
use Rattle.std.specs.Prelude.{ℕ, List, ◌++◌, codes}
use Rattle.subdiv_model.specs.NumberText.{number_text}
use Rattle.nearest_float.specs.FaultText.{float_fault_text}
use Rattle.row_arrays.specs.declared.number_fault.NumberFault.{NumberFault}

-- the place of the number, counted from 0, and its fault
abbrev pub number_fault_text : NumberFault → List ℕ
number_fault_text fault = codes "number " ++ (number_text fault.place ++ (codes ": " ++ float_fault_text fault.fault))
