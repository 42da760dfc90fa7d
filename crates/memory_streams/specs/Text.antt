-- The text written into a sink over a slice: the bytes in the slice, then those that did not fit.
use Rattle.std.specs.Prelude.{ℕ, ◌≡◌, ◌-◌, ◌^◌, min, nat_lt, List, [], ◌++◌, length, take, drop, if◌then◌else◌}
use Rattle.memory_streams.specs.declared.sink.SliceSink.{SliceSink}

-- The first `at` bytes of the slice; if the slice is full, the bytes beyond it follow.
abbrev pub text_in : List ℕ → ℕ → List ℕ → List ℕ
text_in out at beyond = take at out ++ (if (nat_lt at (length out)) then [] else beyond)

-- All bytes written into a sink over a slice.
abbrev pub text_of : SliceSink → List ℕ
text_of sink = text_in sink.out.now sink.at sink.beyond

-- The bytes of the slice before the first write.
abbrev pub before_of : SliceSink → List ℕ
before_of sink = sink.before.bytes

-- The sink keeps its slice and the bytes that the slice had before the first write.
pub record KeepsSlice (old new : SliceSink) : Type 0 where
  pub same_reference : new.out.ghost_name ≡ old.out.ghost_name
  pub same_before : before_of new ≡ before_of old

-- How much of the piece a call takes: what fits into the slice, or the whole piece if the slice is full.
abbrev pub count_taken : SliceSink → List ℕ → ℕ
count_taken sink piece = if (nat_lt sink.at (length sink.out.now)) then min (length piece) (length sink.out.now - sink.at) else length piece

-- The new bytes of a slice are the text, or as much of it as fits. The old bytes follow in the places behind the text.
abbrev pub IsStored : List ℕ → List ℕ → List ℕ → Type 0
IsStored text old new = new ≡ take (length old) text ++ drop (length text) old

-- The length of a text, up to 2^64 - 1.
abbrev pub count_of : List ℕ → ℕ
count_of text = min (length text) (2 ^ 64 - 1)
