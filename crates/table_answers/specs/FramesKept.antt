-- The facts about the numbers of a posed mesh that every line keeps, and about its table at the start.
use Rattle.std.specs.Prelude.{ℕ, ◌≡◌, ◌*◌, ◌^◌, ◌<◌, ◌≤◌}
use Rattle.std.specs.List.{All}
use Rattle.subdiv_model.specs.Channel.{number_bound}
use Rattle.subdiv_model.specs.ObjMesh.{ObjMesh}
use Rattle.far_model.specs.Frames.{numbers_of}
use Rattle.ratio128.specs.Numbers.{greatest_amount}
use Rattle.stencil_apply.specs.Table.{Table, IsTable, entries_of, greatest_of}
use Rattle.table_answers.specs.Posed.{IsTableOf}
use Rattle.table_answers.specs.FrameStepCounts.{start_least}

-- the rows of the table can be written over the common denominator
pub record CanStandOver (common : ℕ) (table : Table) : Type 0 where
  pub some : 0 < common
  pub short : common ≤ 10 ^ 37
  pub fits : greatest_of table * common ≤ number_bound

-- the table of a mesh, within the bounds over the mesh's points and over their common denominator
pub record IsTableWithin (mesh : ObjMesh) (depth : ℕ) (table : Table) : Type 0 where
  pub table_is : IsTableOf mesh depth table
  pub made : IsTable table
  pub points : All (λ p. greatest_of table * greatest_amount (numbers_of p) ≤ number_bound) mesh.points
  pub common : greatest_of table * mesh.common ≤ number_bound
  pub entries : entries_of table.rows ≡ start_least depth mesh
