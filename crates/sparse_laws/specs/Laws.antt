-- Sparse levels, their inner faces and their tests, for the laws of sparse levels.
use Rattle.std.specs.Prelude.{ℕ, suc, ◌≡◌, ◌<◌, Bool, true, false, List, length, get_or, IsTrue}
use Rattle.std.specs.List.{list_all, list_any}
use Rattle.subdiv_model.specs.Polygons.{is_over, has_distinct_sides}
use Rattle.subdiv_model.specs.Edges.{all_sides, edges_of, has_end, is_boundary}
use Rattle.subdiv_model.specs.Manifold.{is_simple}
use Rattle.subdiv_model.specs.Level.{Level}
use Rattle.subdiv_model.specs.Child.{refined_level}
use Rattle.subdiv_model.specs.Channel.{chaikin_overflows_at}
use Rattle.subdiv_model.specs.SparseFaults.{points_with_child, present_faces}
use Rattle.subdiv_model.specs.Feature.{FaceFacts, facts_of}
use Rattle.subdiv_model.specs.Sparse.{FacePredicate, present_points, selected}
use Rattle.subdiv_model.specs.SparseText.{WrittenLevel, written_level}
use Rattle.mask_laws.specs.SharpBoundary.{has_sharp_boundary}
use Rattle.part_laws.specs.Parts.{IsWholeAt}
use Rattle.part_laws.specs.LevelParts.{LevelPart}
use Rattle.sparse_laws.specs.SparseLevels.{SparseLevel, IsSparse, name_in}
use Rattle.sparse_laws.specs.NextSparse.{IsNextSparse}
use Rattle.sparse_laws.specs.Selected.{selected_in, Agrees, OverflowsOn}

-- a sparse level of a base whose corners are points
pub record SparseRefinement : Type 0 where
  pub base : Level
  pub predicate : FacePredicate
  pub sparse : SparseLevel
  pub over : IsTrue (is_over base.point_count base.polygons)
  pub is : IsSparse base predicate sparse

-- a level of simple faces in which each directed edge occurs once, with an infinitely sharp boundary
pub record HasSharpBoundary (level : Level) : Type 0 where
  pub simple : IsTrue (list_all is_simple level.polygons)
  pub distinct : IsTrue (has_distinct_sides (all_sides level.polygons))
  pub sharp : IsTrue (has_sharp_boundary level)

-- the sparse level as a part of the uniform level
abbrev pub part_of : SparseRefinement → LevelPart
part_of refinement = record {
  name = name_in (present_points refinement.base refinement.predicate refinement.sparse.depth);
  faces = refinement.sparse.numbers;
  level = refinement.sparse.level;
  whole = refined_level refinement.base refinement.sparse.depth;
  is_part = refinement.is.part;
}

-- the sparse level has all faces of the uniform level at point p
abbrev pub IsWholePoint : SparseRefinement → ℕ → Type 0
IsWholePoint refinement p =
    IsWholeAt refinement.sparse.numbers (refined_level refinement.base refinement.sparse.depth).polygons
    (name_in (present_points refinement.base refinement.predicate refinement.sparse.depth) p)

-- an edge of one face of the sparse level that ends at a complete point
pub record BoundaryEdge (refinement : SparseRefinement) : Type 0 where
  pub e : ℕ
  pub v : ℕ
  pub exists : e < length (edges_of refinement.sparse.level.polygons)
  pub ends : IsTrue (has_end v (get_or (edges_of refinement.sparse.level.polygons) e (0, 0)))
  pub complete : get_or refinement.sparse.complete v false ≡ true
  pub on_boundary : is_boundary refinement.sparse.level.polygons (get_or (edges_of refinement.sparse.level.polygons) e (0, 0)) ≡ true

-- halves of edges overflow at a point of the uniform level that has a present child
abbrev pub uniform_halves_overflow : SparseRefinement → Bool
uniform_halves_overflow refinement =
    list_any (chaikin_overflows_at (refined_level refinement.base refinement.sparse.depth))
    (points_with_child refinement.base refinement.predicate (refined_level refinement.base refinement.sparse.depth).point_count refinement.sparse.depth)

-- an inner face of the sparse level
pub record InnerFace (refinement : SparseRefinement) : Type 0 where
  pub face : ℕ
  pub exists : face < length refinement.sparse.level.polygons
  pub inner : get_or refinement.sparse.inner face false ≡ true

-- the facts of the face in the uniform level
abbrev pub uniform_facts : {refinement : SparseRefinement} → InnerFace refinement → FaceFacts
uniform_facts {refinement} at =
    facts_of (refined_level refinement.base refinement.sparse.depth) refinement.sparse.depth (get_or refinement.sparse.numbers at.face 0)

-- the faces that the predicate selects at the depth of the sparse level
abbrev pub selected_at : SparseRefinement → List ℕ
selected_at refinement = selected refinement.base refinement.predicate refinement.sparse.depth

-- the number of present faces one step after the sparse level
abbrev pub present_after : SparseRefinement → ℕ
present_after refinement = present_faces refinement.base refinement.predicate (suc refinement.sparse.depth)

-- the output of the definitions at the depth of the sparse level
abbrev pub defined_output : SparseRefinement → WrittenLevel
defined_output refinement = written_level refinement.base refinement.predicate refinement.sparse.depth

-- a test of facts that selects the faces of the predicate at the depth of the level
pub record AgreeingTest (refinement : SparseRefinement) : Type 0 where
  pub test : FaceFacts → Bool
  pub agrees : Agrees test refinement.base refinement.predicate refinement.sparse.depth

-- the faces that the test selects
abbrev pub chosen_by : {refinement : SparseRefinement} → AgreeingTest refinement → List ℕ
chosen_by {refinement} by = selected_in by.test refinement.sparse

-- a sparse level, with a test that selects the faces of its predicate
pub record TestedRefinement : Type 0 where
  pub refinement : SparseRefinement
  pub by : AgreeingTest refinement

-- the halves of edges overflow at vertex v, which is on a face that the test selects
abbrev pub OverflowsOnChosen : TestedRefinement → ℕ → Type 0
OverflowsOnChosen tested v = OverflowsOn tested.refinement.sparse.level (chosen_by tested.by) v

-- the next sparse level by the test
pub record NextRefinement (refinement : SparseRefinement) : Type 0 where
  pub by : AgreeingTest refinement
  pub next : SparseLevel
  pub is_next : IsNextSparse refinement.sparse (chosen_by by) next
