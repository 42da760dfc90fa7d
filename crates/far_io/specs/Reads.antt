-- The result of reading a whole input.
use Rattle.std.specs.Prelude.{ℕ, ◌<◌, ◌≤◌, List, length, Option, Result, Ok, Err}
use Rattle.far_io.specs.Bytes.{Took, TookPrefix, IsDry}
use Rattle.far_io.specs.declared.source.InputFault.{InputFault}
use Rattle.far_io.specs.declared.source.InputFault.TheVariants.{Read, Long, Memory}

-- `Ok`: all bytes, at most `bound`. `Read`: the bytes before the failed read. `Long`: more than `bound` bytes. `Memory`: some prefix was
-- taken.
abbrev pub HasRead : Result (Unit {0}) InputFault → ℕ → Option (List ℕ) → Option (List ℕ) → List ℕ → Type 0
HasRead (Ok _) bound old new bytes = Took old new bytes × IsDry new × (length bytes ≤ bound)
HasRead (Err Read) bound old new bytes = Took old new bytes × (length bytes ≤ bound)
HasRead (Err Long) bound old new bytes = Took old new bytes × (bound < length bytes)
HasRead (Err Memory) bound old new bytes = TookPrefix old new
