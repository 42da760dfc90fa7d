-- The text of the fault that keeps values from being refined.
use Rattle.std.specs.Prelude.{ℕ, List, ◌++◌, codes}
use Rattle.subdiv_model.specs.NumberText.{number_text}
use Rattle.primvar_refine.specs.declared.fault.ValueFault.{ValueFault}
use Rattle.primvar_refine.specs.declared.fault.ValueFault.TheVariants.{Transition, Denominator, TooBig, Memory}

abbrev pub fault_text : ValueFault → List ℕ
fault_text (Transition v) = codes "vertex " ++ (number_text v ++ codes ": a denominator passes 2^60")
fault_text (Denominator p) = codes "point " ++ (number_text p ++ codes ": the denominator is too great")
fault_text (TooBig p) = codes "point " ++ (number_text p ++ codes ": a numerator may be too great")
fault_text Memory = codes "out of memory"
