-- The texts of the faults of rows and fractions, with places counted from 0.
use Rattle.std.specs.Prelude.{ℕ, List, ◌++◌, codes}
use Rattle.subdiv_model.specs.NumberText.{number_text}
use Rattle.row_arrays.specs.declared.fraction_fault.FractionFault.{FractionFault}
use Rattle.row_arrays.specs.declared.fraction_fault.FractionFault.TheVariants as fraction
use Rattle.row_arrays.specs.declared.rows.RowFault.{RowFault}
use Rattle.row_arrays.specs.declared.rows.RowFault.TheVariants as row

-- the fault that stopped the rounding of fractions
abbrev pub fraction_fault_text : FractionFault → List ℕ
fraction_fault_text fraction.Short = codes "an array is too short"
fraction_fault_text (fraction.Denominator place) = codes "denominator " ++ (number_text place ++ codes " is out of its range")
fraction_fault_text (fraction.Numerator place) = codes "numerator " ++ (number_text place ++ codes " is out of its range")

-- the fault that stopped the evaluation of rows
abbrev pub row_fault_text : RowFault → List ℕ
row_fault_text row.Range = codes "no range of the rows"
row_fault_text row.Short = codes "the array is too short"
row_fault_text (row.Row n) = codes "row " ++ (number_text n ++ codes " is not within the arrays")
row_fault_text (row.Overflow n) = codes "row " ++ (number_text n ++ codes " has a sum that does not fit")
