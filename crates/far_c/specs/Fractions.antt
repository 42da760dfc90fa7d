-- The result of the calls for the nearest numbers of fractions.
use Rattle.std.specs.Prelude.{ℕ, ◌≡◌, List, length, take, MatchOption}
use Rattle.nearest_float.specs.Binary.{Format}
use Rattle.nearest_float.specs.NearestArrays.{AreNearest}
use Rattle.row_arrays.specs.Fractions.{fraction_fault, fractions_of}
use Rattle.row_arrays.specs.declared.fraction_fault.FractionFault.{FractionFault}
use Rattle.row_arrays.specs.declared.fraction_fault.FractionFault.TheVariants.{Short, Denominator, Numerator}
use Rattle.row_arrays.specs.declared.fractions.FractionArrays.{FractionArrays}
use Rattle.array_answers.specs.ArrayRecords.{row}
use Rattle.array_answers.specs.declared.record.FaultRecord.{FaultRecord}
use Rattle.far_c.specs.Status.{AnswersFault}

-- status, kind and first number; a place is counted from 0
abbrev pub record_of_fraction_fault : FractionFault → FaultRecord
record_of_fraction_fault Short = row 1 0 0 0
record_of_fraction_fault (Denominator place) = row 17 18 place 0
record_of_fraction_fault (Numerator place) = row 18 1 place 0

-- the nearest numbers are written; or this is the record of the first fault, and nothing is written
abbrev pub AnswersFractions : Format → FractionArrays → ℕ → List ℕ → List ℕ → FaultRecord → Type 0
AnswersFractions f fractions status old new held =
    AnswersFault record_of_fraction_fault (fraction_fault fractions (length old)) status held
    × MatchOption (fraction_fault fractions (length old)) (AreNearest f (fractions_of fractions) (take (length fractions.numerators.now) new)) (λ _. new ≡ old)
