-- The result of the calls for the exact numerators of doubles and floats.
use Rattle.std.specs.Prelude.{ℕ, ◌≡◌, ◌<◌, ◌≤◌, ◌⊎◌, List, length, map, take}
use Rattle.nearest_float.specs.Binary.{Format}
use Rattle.flat_arrays.specs.Words.{integer_of}
use Rattle.flat_arrays.specs.declared.wide.Wide.{Wide}
use Rattle.row_arrays.specs.Scale.{AreScaled}
use Rattle.row_arrays.specs.ScaleFaults.{IsScaleFault}
use Rattle.row_arrays.specs.Grid.{AreRounded, IsRoundFault}
use Rattle.row_arrays.specs.declared.number_fault.NumberFault.{NumberFault}
use Rattle.array_answers.specs.ArrayRecords.{row, record_of_bad_number}
use Rattle.array_answers.specs.declared.record.FaultRecord.{FaultRecord}
use Rattle.far_c.specs.Status.{IsStatus}

-- the array has a place for each number, a number is refused for this fault, and this is the record
pub record IsNumberRefused (bits : List ℕ) (places : List Wide) (Refused : NumberFault → Type 0) (found : FaultRecord) : Type 0 where
  pub long : length bits ≤ length places
  pub fault : NumberFault
  pub is : Refused fault
  pub recorded : found ≡ record_of_bad_number fault.place fault.fault

-- the array has fewer places than there are numbers, and nothing is written
abbrev pub IsShort : List ℕ → List Wide → List Wide → Type 0
IsShort bits old new = (length old < length bits) × (new ≡ old)

-- the numerators over the least common denominator are written; or the array is too short; or else the fault of the first number without one
abbrev pub AnswersScale : Format → List ℕ → ℕ → ℕ → List Wide → List Wide → FaultRecord → Type 0
AnswersScale f bits status scale old new fault =
    IsStatus status (AreScaled f bits scale (map integer_of (take (length bits) new))) (IsShort bits old new) (IsNumberRefused bits old (IsScaleFault f bits)) fault

-- a grid finer than 2^-126 is refused first, then an array that is too short, then a number
abbrev pub AnswersRounding : Format → ℕ → List ℕ → ℕ → ℕ → List Wide → List Wide → FaultRecord → Type 0
AnswersRounding f grid_bits bits status changed old new fault =
    IsStatus status ((grid_bits ≤ 126) × AreRounded f grid_bits bits changed (map integer_of (take (length bits) new)))
    ((grid_bits ≤ 126) × IsShort bits old new)
    (λ found. ((126 < grid_bits) × (found ≡ row 19 0 0 0)) ⊎ ((grid_bits ≤ 126) × IsNumberRefused bits old (IsRoundFault f grid_bits bits) found)) fault
