-- The faults of an OBJ text.
-- Source: Drillolive.
use Rattle.std.specs.Prelude.{ℕ, Bool, true, false, List, Option}
use Rattle.std.specs.List.{filter_map}
use Rattle.subdiv_model.specs.Lists.{first_of}

-- the cause of a bad line
pub data ObjCause : Type 0 where
  -- a word that must be a numeral is not one
  BadNumeral : ObjCause
  -- a numeral has too many digits or decimals
  NumberRange : ObjCause
  -- the first word of a line is no keyword
  UnknownKeyword : ObjCause
  -- the last word of a line ends with `\`
  Continuation : ObjCause
  -- a line has too few words
  ShortLine : ObjCause
  -- a corner of a face has no valid form, or another form than the first corner
  BadCorner : ObjCause
  -- an index in a face is 0 or not in its list
  IndexRange : ObjCause
  -- a tag has an unknown name, or counts or values that its kind does not allow
  BadTag : ObjCause
  -- an index in a tag is negative or not in its list
  TagIndex : ObjCause
  -- a sharpness is negative, or is below 10 with more than six decimals
  SharpnessRange : ObjCause
  -- a moved point is not among the points
  MoveIndex : ObjCause
  -- the denominator of a moved coordinate in lowest terms does not divide the common denominator
  TooFine : ObjCause
  -- a line has too many bytes
  LongLine : ObjCause

-- the cause comes from reading a text, not from a move
abbrev pub is_of_reading : ObjCause → Bool
is_of_reading BadNumeral = true
is_of_reading NumberRange = true
is_of_reading UnknownKeyword = true
is_of_reading Continuation = true
is_of_reading ShortLine = true
is_of_reading BadCorner = true
is_of_reading IndexRange = true
is_of_reading BadTag = true
is_of_reading TagIndex = true
is_of_reading SharpnessRange = true
is_of_reading MoveIndex = false
is_of_reading TooFine = false
is_of_reading LongLine = false

-- a fault: the number of the line, from 1, and the cause
pub record ObjFault : Type 0 where
  pub line : ℕ
  pub cause : ObjCause

-- the cause of the first bad word from the left
abbrev pub first_cause : (List ℕ → Option ObjCause) → List (List ℕ) → Option ObjCause
first_cause cause_of words = first_of (filter_map cause_of words)
