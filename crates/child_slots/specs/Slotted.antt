-- Edges numbered by first appearance, each with its slot.
use Rattle.std.specs.Prelude.{ℕ, ◌≡◌, ◌^◌, ◌≤◌, nat_eq, List, [], ◌∷◌, ◌++◌, length, get_or, if◌then◌else◌}
use Rattle.std.specs.List.{position_or_len}
use Rattle.subdiv_model.specs.Polygons.{is_among}
use Rattle.level_topology.specs.Numbering.{with_last_face}
use Rattle.level_topology.specs.ChildTables.{IsInverse}

-- the number of slots; for each edge its slot, its ends in the direction of its first appearance, and its first and last face
pub record Slotted : Type 0 where
  pub count : ℕ
  pub slots : List ℕ
  pub ends : List (ℕ × ℕ)
  pub faces : List (ℕ × ℕ)

abbrev pub slotted : ℕ → List ℕ → List (ℕ × ℕ) → List (ℕ × ℕ) → Slotted
slotted count slots ends faces = record { count = count; slots = slots; ends = ends; faces = faces }

abbrev pub no_slots : ℕ → Slotted
no_slots count = slotted count [] [] []

-- the number of the edge with a slot, or the number of edges where the slot has none
abbrev pub number_at : List ℕ → ℕ → ℕ
number_at slots a = position_or_len (nat_eq a) slots

-- the edges after one more side, at its slot
abbrev pub with_slot : ℕ → Slotted → ℕ × (ℕ × ℕ) → Slotted
with_slot face n s =
    if is_among n.slots s.0
    then record { count = n.count; slots = n.slots; ends = n.ends; faces = with_last_face (number_at n.slots s.0) face n.faces }
    else record { count = n.count; slots = n.slots ++ s.0 ∷ []; ends = n.ends ++ s.1 ∷ []; faces = n.faces ++ (face, face) ∷ [] }

-- the sides of a quad, each with its slot
abbrev pub quad_sides : List ℕ → List ℕ → List (ℕ × (ℕ × ℕ))
quad_sides slots corners =
    (get_or slots 0 0, (get_or corners 0 0, get_or corners 1 0))
    ∷ (get_or slots 1 0, (get_or corners 1 0, get_or corners 2 0))
    ∷ (get_or slots 2 0, (get_or corners 2 0, get_or corners 3 0))
    ∷ (get_or slots 3 0, (get_or corners 3 0, get_or corners 0 0))
    ∷ []

-- the edges after all sides of one more face
abbrev pub with_slots : ℕ → Slotted → List (ℕ × (ℕ × ℕ)) → Slotted
with_slots face n [] = n
with_slots face n (s ∷ sides) = with_slots face (with_slot face n s) sides

-- the table has the number of the edge of each slot
pub record IsSlotTable (table : List ℕ) (n : Slotted) : Type 0 where
  pub inverse : IsInverse n.slots table
  pub end_count : length n.ends ≡ length n.slots
  pub face_count : length n.faces ≡ length n.slots
  pub few : length n.slots ≤ 2 ^ 31

-- 0 where a point is the first end of an edge, and 1 elsewhere
abbrev pub end_in : List (ℕ × ℕ) → ℕ → ℕ → ℕ
end_in ends point e = if nat_eq point (get_or ends e (0, 0)).0 then 0 else 1
