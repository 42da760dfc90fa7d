-- The causes of this crate in the terms of the definitions.
use Rattle.subdiv_model.specs.Fault as model
use Rattle.level_walk.specs.declared.fault.OverflowKind.{OverflowKind}
use Rattle.level_walk.specs.declared.fault.OverflowKind.TheVariants.{Chaikin, Transition, Denominator, Value}

abbrev pub kind_of : OverflowKind → model.OverflowKind
kind_of Chaikin = model.ChaikinOverflow
kind_of Transition = model.TransitionOverflow
kind_of Denominator = model.DenominatorOverflow
kind_of Value = model.ValueOverflow
