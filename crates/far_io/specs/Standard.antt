-- What contracts see of a reader or writer of std.
use Rattle.std.specs.Prelude.{ℕ, List, Option}

-- The bytes that the reader has left or the writer holds, if its type reports them, and the count of failed calls.
pub record Stream : Type 0 where
  pub known : Option (List ℕ)
  pub faults : ℕ
