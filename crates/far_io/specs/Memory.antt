-- What contracts see of the sources and sinks in memory.
use Rattle.std.specs.Prelude.{ℕ, ◌≡◌, ◌+◌, ◌-◌, ◌%◌, ◌^◌, ◌<◌, min, nat_lt, List, [], ◌∷◌, length, get_or, if◌then◌else◌}

-- One more, up to 2^64 - 1.
abbrev pub one_more : ℕ → ℕ
one_more calls = min (calls + 1) (2 ^ 64 - 1)

-- How many of n bytes a call passes on: at most its size, with the sizes taken in turn, or all n without sizes.
abbrev pub piece_of : List ℕ → ℕ → ℕ → ℕ
piece_of [] call n = n
piece_of (size ∷ sizes) call n = min n (get_or (size ∷ sizes) (call % length (size ∷ sizes)) 1)

-- The numbers of the calls that fail, the sizes of the other calls, and the count of calls so far.
pub record CallPlan : Type 0 where
  pub fails : List ℕ
  pub sizes : List ℕ
  pub calls : ℕ

-- A source in memory. Its fields: the bytes left, the numbers of the calls that fail, the sizes of the other calls, and the counts of calls
-- and of failures.
pub record MemInput : Type 0 where
  pub left : List ℕ
  pub fails : List ℕ
  pub sizes : List ℕ
  pub calls : ℕ
  pub faults : ℕ

-- Held bytes that never outgrow their room.
pub record Store : Type 0 where
  pub held : List ℕ
  pub room : ℕ

-- How many bytes of a piece fit.
abbrev pub fitting : Store → List ℕ → ℕ
fitting store piece = min (length piece) (store.room - length store.held)

-- The piece is not empty and the store has no room.
abbrev pub IsFull : Store → List ℕ → Type 0
IsFull store piece = (0 < length piece) × (length store.held ≡ store.room)

-- A sink of fixed size and its count of failures.
pub record SureOutput : Type 0 where
  pub store : Store
  pub failures : ℕ

-- The faults that contracts see: 0 while the sink has room for one byte more, and its count of failures otherwise.
abbrev pub sure_faults : SureOutput → ℕ
sure_faults sink = if nat_lt (length sink.store.held) sink.store.room then 0 else sink.failures

-- A sink in memory. Its fields: its bytes, the numbers of the calls that fail, the sizes of the other calls, and the counts of calls and of
-- failures.
pub record MemOutput : Type 0 where
  pub store : Store
  pub fails : List ℕ
  pub sizes : List ℕ
  pub calls : ℕ
  pub faults : ℕ
