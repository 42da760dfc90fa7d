-- What the reader keeps of a word, a line or a text, or the fault of it.
use Rattle.std.specs.Prelude.{ℕ, ◌≡◌, ◌<◌, ◌≤◌, ◌^◌, unsigned_abs, List, Option, Some, None, Result, MatchResult}
use Rattle.subdiv_model.specs.ObjFault as fault
use Rattle.subdiv_model.specs.Numeral.{numeral_form, decimals_of}
use Rattle.subdiv_model.specs.ObjMesh.{ObjMesh}
use Rattle.subdiv_model.specs.ReadObj.{first_late_fault, mesh_of_lines}
use Rattle.obj_tags.specs.Line.{Line}
use Rattle.obj_text.specs.declared.numeral.Numeral.{Numeral}
use Rattle.obj_tags.specs.declared.fault.ObjCause.{ObjCause}
use Rattle.obj_tags.specs.declared.fault.LineFault.{LineFault}
use Rattle.obj_tags.specs.declared.fault.LineFault.TheVariants.{Cause, Memory}
use Rattle.obj_tags.specs.declared.fault.ReadFault.{ReadFault}
use Rattle.obj_tags.specs.declared.fault.ReadFault.TheVariants as read
use Rattle.obj_tags.specs.View.{terms_of, cause_of, fault_of}

-- The line has this fault, or memory ran out.
abbrev pub IsLineFault : LineFault → Option fault.ObjCause → Type 0
IsLineFault (Cause cause) fault = fault ≡ Some (cause_of cause)
IsLineFault Memory fault = Unit {0}

-- The text has this fault, or memory ran out.
abbrev pub IsReadFault : ReadFault → Option fault.ObjFault → Type 0
IsReadFault (read.Obj f) fault = fault ≡ Some (fault_of f)
IsReadFault read.Memory fault = Unit {0}

-- Without a fault the words are read as `Says` claims; with one the result is the fault.
abbrev pub ReadUnless : {X : Type 0} → Result X ObjCause → Option fault.ObjCause → (X → Type 0) → Type 0
ReadUnless result fault Says = MatchResult result (λ x. (fault ≡ None) × Says x) (λ cause. fault ≡ Some (cause_of cause))

-- Without a fault the line is kept as `Says` claims; with one the result is the fault. Memory may run out.
abbrev pub KeptUnless : {X : Type 0} → Result X LineFault → Option fault.ObjCause → (X → Type 0) → Type 0
KeptUnless result fault Says = MatchResult result (λ x. (fault ≡ None) × Says x) (λ cause. IsLineFault cause fault)

-- Without a fault the text is kept as `Says` claims; with one the result is the fault. Memory may run out.
abbrev pub TextKeptUnless : {X : Type 0} → Result X ReadFault → Option fault.ObjFault → (X → Type 0) → Type 0
TextKeptUnless result fault Says = MatchResult result (λ x. (fault ≡ None) × Says x) (λ f. IsReadFault f fault)

-- The result is the value that the word spells, seen through `view`, or this cause if it spells none.
abbrev pub ReadOr : {X Y : Type 0} → Result X ObjCause → (X → Y) → Option Y → fault.ObjCause → Type 0
ReadOr result view said cause = MatchResult result (λ x. said ≡ Some (view x)) (λ c. (said ≡ None) × (cause_of c ≡ cause))

-- The numeral of a word, in lowest terms.
pub record IsNumeralOf (n : Numeral) (word : List ℕ) : Type 0 where
  pub terms : terms_of n ≡ numeral_form word
  pub decimals : n.decimals ≡ decimals_of word
  pub short : unsigned_abs n.num < 10 ^ 37
  pub positive : 0 < n.den
  pub bounded : n.den ≤ 10 ^ 37

-- The mesh of the lines with this scale, or the fault of the least line with a number out of range.
abbrev pub IsMeshRead : List Line → ℕ → Result ObjMesh ReadFault → Type 0
IsMeshRead lines least result = TextKeptUnless result (first_late_fault least lines) (λ mesh. mesh ≡ mesh_of_lines lines least)
