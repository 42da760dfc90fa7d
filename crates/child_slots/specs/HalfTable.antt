-- The table of the sharpness of halves, while points are visited one by one.
use Rattle.std.specs.Prelude.{ℕ, ◌≡◌, ◌*◌, ◌<◌, Bool, true, false, List, [], length, map, get_or}
use Rattle.subdiv_model.specs.Edges.{edges_of, has_end}
use Rattle.subdiv_model.specs.Sharpness.{Sharpness, Smooth}
use Rattle.subdiv_model.specs.Level.{Level}
use Rattle.subdiv_model.specs.Child.{half_sharpness}
use Rattle.subdiv_model.specs.Channel.{chaikin_overflows_at}
use Rattle.sharpness_rules.specs.declared.child.Method.{Method}
use Rattle.sharpness_rules.specs.declared.sharpness.Sharpness as code
use Rattle.sharpness_rules.specs.declared.halves.Halves.{Halves}
use Rattle.sharpness_rules.specs.View.{sharpness_of}
use Rattle.sharpness_rules.specs.Halves.{AreHalves, halves_overflow, half_in}
use Rattle.level_topology.specs.Topology.{Topology, edge_at}
use Rattle.child_slots.specs.Slots.{half_slot}
use Rattle.child_slots.specs.declared.fault.HalfFault.{HalfFault}
use Rattle.child_slots.specs.declared.fault.HalfFault.TheVariants.{Chaikin, Memory}

-- the half of an edge at an end has its sharpness in the table
abbrev pub IsHalfPut : Level → List Sharpness → ℕ → ℕ → Type 0
IsHalfPut level halves v e = get_or halves (half_slot level.polygons v e) Smooth ≡ half_sharpness level (edge_at level.polygons e) v

-- each half at a point of a part has its sharpness at its slot
pub record HasHalves (level : Level) (has : ℕ → Bool) (halves : List Sharpness) : Type 0 where
  pub count : length halves ≡ 2 * length (edges_of level.polygons)
  pub each : (e v : ℕ) → e < length (edges_of level.polygons) → has v ≡ true → has_end v (edge_at level.polygons e) ≡ true → IsHalfPut level halves v e

-- the sharpness of the edges at a point, in the order of its list
abbrev pub ring_listed : Topology → ℕ → List Sharpness
ring_listed t v = map (λ e. get_or t.level.edge_sharpness e Smooth) (get_or t.edges_at v [])

-- at the part's points before this one all halves are written and none overflows; at this one those of the first edges are
-- written
pub record AreHalvesPut (t : Topology) (has : ℕ → Bool) (v i : ℕ) (halves : List Sharpness) : Type 0 where
  pub count : length halves ≡ 2 * length (edges_of t.level.polygons)
  pub fine : (u : ℕ) → u < v → has u ≡ true → chaikin_overflows_at t.level u ≡ false
  pub points : (u e : ℕ) → u < v → has u ≡ true → e < length (edges_of t.level.polygons) → has_end u (edge_at t.level.polygons e) ≡ true → IsHalfPut t.level halves u e
  pub places : (k : ℕ) → k < i → k < length (get_or t.edges_at v []) → IsHalfPut t.level halves v (get_or (get_or t.edges_at v []) k 0)

-- at the part's points before this one all halves are written and none overflows
abbrev pub AreHalvesBefore : Topology → (ℕ → Bool) → ℕ → List code.Sharpness → Type 0
AreHalvesBefore t has v halves = AreHalvesPut t has v 0 (map sharpness_of halves)

-- the half of a sharpness in each ring that has it and whose halves do not overflow
abbrev pub IsHalfInRing : Halves → code.Sharpness → code.Sharpness → Type 0
IsHalfInRing around s half =
    (method : Method) (ring : List code.Sharpness) (at : ℕ) → AreHalves method ring around → halves_overflow method ring ≡ false → at < length ring
    → s ≡ get_or ring at s → sharpness_of half ≡ half_in method ring s

-- all halves at the points of a part are written, and none overflows
pub record AreAllHalves (t : Topology) (has : ℕ → Bool) (halves : List Sharpness) : Type 0 where
  pub put : HasHalves t.level has halves
  pub fine : (v : ℕ) → v < t.level.point_count → has v ≡ true → chaikin_overflows_at t.level v ≡ false

-- halves overflow at this point of a part, and at none of its points before
pub record IsFirstOverflow (t : Topology) (has : ℕ → Bool) (v : ℕ) : Type 0 where
  pub exists : v < t.level.point_count
  pub there : has v ≡ true
  pub overflows : chaikin_overflows_at t.level v ≡ true
  pub first : (u : ℕ) → u < v → has u ≡ true → chaikin_overflows_at t.level u ≡ false

-- the fault names the first point of a part at which halves overflow; memory may run out at any level
abbrev pub IsHalfRefusal : Topology → (ℕ → Bool) → HalfFault → Type 0
IsHalfRefusal t has (Chaikin v) = IsFirstOverflow t has v
IsHalfRefusal t has Memory = Unit {0}
