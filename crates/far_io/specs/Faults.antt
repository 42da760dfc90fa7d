-- The text of each `InputFault`.
-- Source: this profile.
use Rattle.std.specs.Prelude.{ℕ, List, codes}
use Rattle.far_io.specs.declared.source.InputFault.{InputFault}
use Rattle.far_io.specs.declared.source.InputFault.TheVariants.{Read, Long, Memory}

-- The text of a fault.
abbrev pub text_of_fault : InputFault → List ℕ
text_of_fault Read = codes "reading failed"
text_of_fault Long = codes "input is too long"
text_of_fault Memory = codes "out of memory"
