-- The text of the fault that keeps a vertex from a mask.
use Rattle.std.specs.Prelude.{ℕ, List, codes}
use Rattle.mask_rules.specs.declared.mask.MaskFault.{MaskFault}
use Rattle.mask_rules.specs.declared.mask.MaskFault.TheVariants.{Transition, Memory}

abbrev pub fault_text : MaskFault → List ℕ
fault_text Transition = codes "a denominator passes 2^60"
fault_text Memory = codes "out of memory"
