-- The array of a caller after a call.
use Rattle.std.specs.Borrow.{MutBor}
use Rattle.std.specs.Prelude.{◌≡◌, List, length}

-- The array has the address and the length it had.
abbrev pub IsSameArray : {X : Type 0} → MutBor (List X) → MutBor (List X) → Type 0
IsSameArray old new = (new.ref_ptr ≡ old.ref_ptr) × (length new.now ≡ length old.now)
