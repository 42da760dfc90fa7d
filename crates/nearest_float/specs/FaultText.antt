-- The texts of the faults of numbers.
use Rattle.std.specs.Prelude.{ℕ, List, ◌++◌, codes}
use Rattle.subdiv_model.specs.NumberText.{number_text}
use Rattle.nearest_float.specs.declared.fault.FloatFault.{FloatFault}
use Rattle.nearest_float.specs.declared.fault.FloatFault.TheVariants.{NotFinite, TooWide}
use Rattle.nearest_float.specs.declared.fault.ListFault.{ListFault}
use Rattle.nearest_float.specs.declared.fault.ListFault.TheVariants.{At, Memory}

-- the fault of a number
abbrev pub float_fault_text : FloatFault → List ℕ
float_fault_text NotFinite = codes "not a finite number"
float_fault_text TooWide = codes "the fraction is too wide"

-- the fault of a list, with the place of the number, counted from 0
abbrev pub list_fault_text : ListFault → List ℕ
list_fault_text (At place fault) = codes "number " ++ (number_text place ++ (codes ": " ++ float_fault_text fault))
list_fault_text Memory = codes "out of memory"
