-- The results of calls for a mesh: its table, its points and its level at a depth.
use Rattle.std.specs.Prelude.{ℕ, ◌≡◌, ◌<◌, ◌*◌, ◌&&◌, Bool, false, nat_le, List, length, map, take}
use Rattle.subdiv_model.specs.Table.{Table}
use Rattle.subdiv_model.specs.Channel.{denominators_after}
use Rattle.far_model.specs.Answer.{positions_of, table_faults}
use Rattle.level_topology.specs.Topology.{Topology}
use Rattle.flat_arrays.specs.Words.{integer_of, natural_of}
use Rattle.flat_arrays.specs.declared.wide.Wide.{Wide}
use Rattle.nearest_float.specs.Binary.{Format}
use Rattle.nearest_float.specs.NearestArrays.{AreNearest}
use Rattle.mesh_arrays.specs.Arrays.{mesh_of_arrays}
use Rattle.mesh_arrays.specs.declared.arrays.MeshArrays.{MeshArrays}
use Rattle.array_answers.specs.declared.record.FaultRecord.{FaultRecord}
use Rattle.table_arrays.specs.Places as table
use Rattle.table_arrays.specs.declared.places.TableCounts.{TableCounts}
use Rattle.mesh_arrays.specs.Places as level
use Rattle.mesh_arrays.specs.declared.level_counts.LevelCounts.{LevelCounts}
use Rattle.mesh_arrays.specs.declared.level_places.LevelPlaces.{LevelPlaces}
use Rattle.mesh_arrays.specs.Points.{coordinates, all_numerators, all_denominators}
use Rattle.array_answers.specs.Asked.{rows_asked}
use Rattle.array_answers.specs.Rows.{AreRowsAsked, IsRequestRefused}
use Rattle.array_answers.specs.Refused.{IsRefusal}
use Rattle.array_answers.specs.Composed.{IsRefinedOf, ArePointsOf}
use Rattle.array_answers.specs.declared.compose.RefinedArrays.{RefinedArrays}
use Rattle.array_answers.specs.declared.points.RefinedPoints.{RefinedPoints}
use Rattle.array_answers.specs.declared.request.RowRequest.{RowRequest}
use Rattle.far_c.specs.Status.{IsStatus}

-- the mesh is refused at the depth, as the command `stencils` refuses it
abbrev pub IsRefusedAt : MeshArrays → ℕ → FaultRecord → Type 0
IsRefusedAt mesh depth found = IsRefusal depth (table_faults depth (mesh_of_arrays mesh)) mesh found

-- the mesh has a level at the depth with a table, and `Holds` is true of both
pub record HasLevel (mesh : MeshArrays) (depth : ℕ) (Holds : Topology → Table → Type 0) : Type 0 where
  pub refined : RefinedArrays
  pub is : IsRefinedOf mesh depth refined
  pub holds : Holds refined.composed.level refined.composed.table

-- the mesh has the requested rows, and `Holds` is true of their table
pub record HasRows (mesh : MeshArrays) (request : RowRequest) (Holds : Table → Type 0) : Type 0 where
  pub table : Table
  pub are : AreRowsAsked request mesh table
  pub holds : Holds table

-- the table of the rows is written, or only its counts if an array is too short
abbrev pub AnswersTable : {P : Type 0} → (TableCounts → P → Bool) → (Table → P → Type 0) → MeshArrays → RowRequest → ℕ → TableCounts → P → P → FaultRecord → Type 0
AnswersTable long_enough Written mesh request status counts old new fault =
    IsStatus status
    (HasRows mesh request (λ t. (counts ≡ table.counts_of t) × Written t new))
    (HasRows mesh request (λ t. (counts ≡ table.counts_of t) × (long_enough (table.counts_of t) old ≡ false) × (new ≡ old)))
    (λ found. IsRequestRefused (rows_asked request) mesh found × (new ≡ old)) fault

-- the faces and the edges of the level are written, or only its counts if an array is too short
abbrev pub AnswersLevel : MeshArrays → ℕ → ℕ → LevelCounts → LevelPlaces → LevelPlaces → FaultRecord → Type 0
AnswersLevel mesh depth status counts old new fault =
    IsStatus status
    (HasLevel mesh depth (λ l t. (counts ≡ level.counts_of l) × level.IsWritten l.level new))
    (HasLevel mesh depth (λ l t. (counts ≡ level.counts_of l) × (level.are_long_enough (level.counts_of l) old ≡ false) × (new ≡ old)))
    (λ found. IsRefusedAt mesh depth found × (new ≡ old)) fault

-- the mesh has this number of points at the depth, and `Holds` is true of them
pub record HasPoints (mesh : MeshArrays) (depth count : ℕ) (Holds : RefinedPoints → Type 0) : Type 0 where
  pub refined : RefinedPoints
  pub are : ArePointsOf mesh depth refined
  pub counted : count ≡ length refined.points.items
  pub holds : Holds refined

-- the numbers of a format nearest to the coordinates are written, or only the number of points
abbrev pub AnswersPoints : Format → MeshArrays → ℕ → ℕ → ℕ → List ℕ → List ℕ → FaultRecord → Type 0
AnswersPoints f mesh depth status count old new fault =
    IsStatus status
    (HasPoints mesh depth count (λ p. AreNearest f (coordinates p.common p.points.items) (take (3 * count) new)))
    (HasPoints mesh depth count (λ p. (length old < 3 * count) × (new ≡ old)))
    (λ found. IsRefusedAt mesh depth found × (new ≡ old)) fault

-- the arrays have places for three numerators and a denominator of each point
abbrev pub are_exact_long_enough : ℕ → List Wide → List Wide → Bool
are_exact_long_enough count numerators denominators = nat_le (3 * count) (length numerators) && nat_le count (length denominators)

-- the numerators and the denominators of the points
pub record AreExactPoints (count : ℕ) (numerators denominators : List Wide) (refined : RefinedPoints) : Type 0 where
  pub nums : map integer_of (take (3 * count) numerators) ≡ all_numerators refined.points.items
  pub dens : map natural_of (take count denominators) ≡ all_denominators refined.common refined.points.items

-- the denominators of the points of the mesh at the depth: those of the rows of its table, times the common denominator of the mesh
abbrev pub point_denominators : MeshArrays → ℕ → List ℕ
point_denominators mesh depth =
    map (λ den. den * (mesh_of_arrays mesh).common) (denominators_after (positions_of (mesh_of_arrays mesh)) depth)

-- the numerators of the points are written over the denominators that the definitions give
pub record AreExactPointsOf (mesh : MeshArrays) (depth count : ℕ) (numerators denominators : List Wide) (refined : RefinedPoints) : Type 0 where
  pub written : AreExactPoints count numerators denominators refined
  pub defined : map natural_of (take count denominators) ≡ point_denominators mesh depth

-- the exact points are written, or only their number
abbrev pub AnswersExactPoints : MeshArrays → ℕ → ℕ → ℕ → List Wide → List Wide → List Wide → List Wide → FaultRecord → Type 0
AnswersExactPoints mesh depth status count old_nums nums old_dens dens fault =
    IsStatus status
    (HasPoints mesh depth count (AreExactPointsOf mesh depth count nums dens))
    (HasPoints mesh depth count (λ p. (are_exact_long_enough count old_nums old_dens ≡ false) × (nums ≡ old_nums) × (dens ≡ old_dens)))
    (λ found. IsRefusedAt mesh depth found × (nums ≡ old_nums) × (dens ≡ old_dens)) fault
