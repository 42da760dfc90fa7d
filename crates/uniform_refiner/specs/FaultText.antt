-- The text of the fault of a refinement.
use Rattle.std.specs.Prelude.{ℕ, List, ◌++◌, codes}
use Rattle.subdiv_model.specs.NumberText.{number_text}
use Rattle.subdiv_model.specs.Fault as model
use Rattle.uniform_refiner.specs.declared.fault.RefineFault.{RefineFault}
use Rattle.uniform_refiner.specs.declared.fault.RefineFault.TheVariants.{TooLarge, Chaikin, Memory}

abbrev pub fault_text : RefineFault → List ℕ
fault_text (TooLarge count) = model.counted_text (model.Faces count)
fault_text (Chaikin v) = codes "vertex " ++ (number_text v ++ (codes ": " ++ (model.kind_text model.ChaikinOverflow ++ codes " overflow")))
fault_text Memory = codes "out of memory"
