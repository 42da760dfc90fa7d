-- The results of this crate as records of the definitions.
use Rattle.std.specs.Prelude.{ℤ, List}
use Rattle.subdiv_model.specs.Channel.{Asked, Values, Tables}
use Rattle.ratio128.specs.declared.valued.Valued.{Valued}
use Rattle.primvar_refine.specs.View.{rows_of}
use Rattle.channel_refine.specs.Composed.{ComposedTable}
use Rattle.channel_refine.specs.Refined.{RefinedRows}
use Rattle.channel_refine.specs.declared.compose.ComposedChannel.{ComposedChannel}
use Rattle.channel_refine.specs.declared.refine.RefinedChannel.{RefinedChannel}
use Rattle.channel_refine.specs.declared.path.Path.{Path}
use Rattle.channel_refine.specs.declared.path.Path.TheVariants.{Table, Levels}

-- a refined channel as a level with rows
abbrev pub refined_of : {P : Type 0} → (P → List ℤ) → RefinedChannel P → RefinedRows
refined_of numbers refined = record { level = refined.level; rows = rows_of numbers refined.values.items }

-- a composed channel as a level with a table
abbrev pub composed_of : ComposedChannel → ComposedTable
composed_of composed = record { level = composed.level; table = composed.table }

-- the numbers that a path of refinement bounds
abbrev pub asked_of_path : Path → Asked
asked_of_path Table = Tables
asked_of_path Levels = Values

-- numbers as the value of a control
abbrev pub control_of : {P : Type 0} → P → Valued P
control_of p = record { value = p; den = 1 }
