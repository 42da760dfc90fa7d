-- The parts of the next sparse level, for some selected faces.
use Rattle.std.specs.Prelude.{ℕ, ◌≡◌, ◌^◌, ◌<◌, ◌≤◌, Bool, true, false, List, length, map, get_or}
use Rattle.subdiv_model.specs.Polygons.{is_among}
use Rattle.subdiv_model.specs.Child.{child_level}
use Rattle.subdiv_model.specs.Channel.{chaikin_overflows_at}
use Rattle.subdiv_model.specs.Sparse.{is_on}
use Rattle.part_laws.specs.LevelParts.{IsLevelPart}
use Rattle.level_topology.specs.Topology.{Topology}
use Rattle.level_topology.specs.Child.{PointOrigin, child_of}
use Rattle.level_topology.specs.ChildTables.{numbered_origin, place_of}
use Rattle.child_slots.specs.HalfTable.{IsFirstOverflow}
use Rattle.sparse_laws.specs.SparseLevels.{name_in}
use Rattle.sparse_laws.specs.NextSparse.{IsNextSparse, has_all_faces, next_children, next_places, next_points}
use Rattle.sparse_laws.specs.Selected.{OverflowsOn}
use Rattle.sparse_level.specs.View.{SparseTopology, SparseChild, level_of, next_of}
use Rattle.sparse_level.specs.Places.{marked, marks_on}
use Rattle.uniform_refiner.specs.declared.fault.RefineFault.{RefineFault}
use Rattle.uniform_refiner.specs.declared.fault.RefineFault.TheVariants.{TooLarge, Chaikin, Memory}
use Rattle.sparse_refiner.specs.declared.places.PresentPlaces.{PresentPlaces}

-- marks of the faces of a sparse level; each marked face is inner
pub record AreInnerMarks (t : SparseTopology) (marks : List Bool) : Type 0 where
  pub count : length marks ≡ length t.topology.level.polygons
  pub inner : (f : ℕ) → get_or marks f false ≡ true → get_or t.inner f false ≡ true

-- the places and points of the next level for these selected faces, and the origins of the points
abbrev pub places_in : Topology → List ℕ → List (ℕ × ℕ)
places_in t selected = next_places t.level.polygons selected

abbrev pub points_in : Topology → List ℕ → List ℕ
points_in t selected = next_points t.level selected

abbrev pub origins_in : Topology → List ℕ → List PointOrigin
origins_in t selected = map (numbered_origin t.level.point_count (length t.level.polygons)) (points_in t selected)

-- the selected faces
abbrev pub selected_by : PresentPlaces → List ℕ
selected_by present = marked present.selected.items

-- the selected faces are inner, and the marks and places are those of the vertices on them
pub record ArePresent (t : SparseTopology) (present : PresentPlaces) : Type 0 where
  pub inner : AreInnerMarks t present.selected.items
  pub on : present.on.items ≡ marks_on t.topology.level (selected_by present)
  pub places : map place_of present.places.items ≡ places_in t.topology (selected_by present)
  pub few : length (places_in t.topology (selected_by present)) ≤ 2 ^ 22

-- this is the first vertex, of those with a child point, at which halves overflow
abbrev pub IsHalvesFault : Topology → List ℕ → RefineFault → Type 0
IsHalvesFault t points (TooLarge count) = ⊥
IsHalvesFault t points (Chaikin v) = IsFirstOverflow t (is_among points) v
IsHalvesFault t points Memory = Unit {0}

-- the next level, without its tables
pub record IsNextLevel (t : Topology) (selected : List ℕ) (next : Topology) : Type 0 where
  pub part : IsLevelPart (name_in (points_in t selected)) (next_children t.level.polygons selected) next.level (child_level t.level)
  pub points : next.level.point_count ≡ length (points_in t selected)
  pub complete : next.complete ≡ map (has_all_faces t.level selected) (points_in t selected)

-- at no vertex on a selected face halves overflow
abbrev pub AreFine : Topology → List ℕ → Type 0
AreFine t selected = (v : ℕ) → v < t.level.point_count → is_on t.level.polygons selected v ≡ true → chaikin_overflows_at t.level v ≡ false

-- the step has the next sparse level as a child
pub record IsNextStep (t : SparseTopology) (selected : List ℕ) (step : SparseChild) : Type 0 where
  pub next : IsNextSparse (level_of t) selected (level_of (next_of step))
  pub of : step.child ≡ child_of t.topology step.child.topology (origins_in t.topology selected) (places_in t.topology selected)

-- the next level is within the bound of faces, and at no vertex on a selected face halves overflow
pub record IsMade (t : SparseTopology) (selected : List ℕ) (step : SparseChild) : Type 0 where
  pub is_next : IsNextStep t selected step
  pub few : length (places_in t.topology selected) ≤ 2 ^ 22
  pub fine : AreFine t.topology selected

-- the next level is within the bound of faces, and this is the first vertex on a selected face at which halves overflow
pub record IsFirstOn (t : Topology) (selected : List ℕ) (v : ℕ) : Type 0 where
  pub few : length (places_in t selected) ≤ 2 ^ 22
  pub overflows : OverflowsOn t.level selected v
  pub first : (u : ℕ) → u < v → is_on t.level.polygons selected u ≡ true → chaikin_overflows_at t.level u ≡ false

-- the fault of a refinement with these selected faces
abbrev pub IsMadeRefusal : Topology → List ℕ → RefineFault → Type 0
IsMadeRefusal t selected (TooLarge count) = (count ≡ length (places_in t selected)) × (2 ^ 22 < count)
IsMadeRefusal t selected (Chaikin v) = IsFirstOn t selected v
IsMadeRefusal t selected Memory = Unit {0}
