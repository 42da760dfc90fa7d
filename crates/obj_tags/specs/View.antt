-- The types of this crate as those of the definitions.
use Rattle.std.specs.Prelude.{ℕ, ℤ}
use Rattle.subdiv_model.specs.Fault as run
use Rattle.subdiv_model.specs.ObjFault as fault
use Rattle.subdiv_model.specs.ObjWord as words
use Rattle.subdiv_model.specs.ObjTag as tags
use Rattle.obj_text.specs.declared.numeral.Numeral.{Numeral}
use Rattle.obj_tags.specs.declared.fault.ObjCause.{ObjCause}
use Rattle.obj_tags.specs.declared.fault.ObjCause.TheVariants.{BadNumeral, NumberRange, UnknownKeyword, Continuation, ShortLine, BadCorner, IndexRange, BadTag, TagIndex, SharpnessRange, MoveIndex, TooFine, LongLine}
use Rattle.obj_tags.specs.declared.fault.ObjFault.{ObjFault}
use Rattle.obj_tags.specs.declared.fault.ReadFault.{ReadFault}
use Rattle.obj_tags.specs.declared.fault.ReadFault.TheVariants as read
use Rattle.obj_tags.specs.declared.face.Counts.{Counts}
use Rattle.obj_tags.specs.declared.tag_counts.TagKind.{TagKind}
use Rattle.obj_tags.specs.declared.tag_counts.TagKind.TheVariants as kind

-- A cause as in the definitions.
abbrev pub cause_of : ObjCause → fault.ObjCause
cause_of BadNumeral = fault.BadNumeral
cause_of NumberRange = fault.NumberRange
cause_of UnknownKeyword = fault.UnknownKeyword
cause_of Continuation = fault.Continuation
cause_of ShortLine = fault.ShortLine
cause_of BadCorner = fault.BadCorner
cause_of IndexRange = fault.IndexRange
cause_of BadTag = fault.BadTag
cause_of TagIndex = fault.TagIndex
cause_of SharpnessRange = fault.SharpnessRange
cause_of MoveIndex = fault.MoveIndex
cause_of TooFine = fault.TooFine
cause_of LongLine = fault.LongLine

-- A fault of a line as in the definitions.
abbrev pub fault_of : ObjFault → fault.ObjFault
fault_of f = record { line = f.line; cause = cause_of f.cause }

-- A fault of a text as in the definitions.
abbrev pub read_fault_of : ReadFault → run.Fault
read_fault_of (read.Obj f) = run.Obj (fault_of f)
read_fault_of read.Memory = run.Memory

-- The counts of lines as in the definitions.
abbrev pub counts_of : Counts → words.Counts
counts_of c = record { point_count = c.point_count; texture_count = c.texture_count; face_count = c.face_count }

-- The kind of a tag as in the definitions.
abbrev pub kind_of : TagKind → tags.TagKind
kind_of kind.Crease = tags.CreaseTag
kind_of kind.Corner = tags.CornerTag
kind_of kind.Hole = tags.HoleTag
kind_of kind.Boundary = tags.BoundaryTag
kind_of kind.Method = tags.MethodTag
kind_of kind.Dropped = tags.DroppedTag

-- The terms of a numeral.
abbrev pub terms_of : Numeral → ℤ × ℕ
terms_of n = (n.num, n.den)
