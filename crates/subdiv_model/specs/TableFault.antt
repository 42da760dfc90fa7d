-- The faults of the text of a table.
-- Source: Drillolive.
use Rattle.std.specs.Prelude.{ℕ}

-- the cause of a bad line of a table
pub data TableCause : Type 0 where
  -- the line is missing, is not closed by LF, or does not have the form of its line
  Form : TableCause
  -- a number passes its limit, a denominator or a numerator is 0, or control points do not ascend or do not exist
  Range : TableCause
  -- the numerators of a row do not sum to its denominator
  Sum : TableCause
  -- the entries up to this line are more than the first line says, or fewer at the last line
  Count : TableCause

-- a line, from 1, and the cause of its fault
pub record TableFault : Type 0 where
  pub line : ℕ
  pub cause : TableCause
