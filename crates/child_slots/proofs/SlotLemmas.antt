-- The numbers of child faces, and the slots of their edges.
use Rattle.std.proofs.Common.{◌≡◌, ℕ, zero, suc, ◌+◌, ◌-◌, ◌<◌, ◌≤◌, ◌^◌, Bool, true, false, nat_eq, List, [], ◌∷◌, length, map, take, get_or, arith, refl, ap, ◌∙◌}
use Rattle.std.specs.List.{sum_by}
use Rattle.std.proofs.lemmas.List.{take_all}
use Rattle.std.proofs.lemmas.List.Sums.{sum_by-cons}
use Rattle.subdiv_model.specs.Polygons.{Polygon, polygon_at, is_over}
use Rattle.subdiv_model.specs.Edges.{edges_of}
use Rattle.level_laws.proofs.WellFormedLemmas.{first-of-six}
use Rattle.level_topology.specs.Packed.{Ascend, gaps}
use Rattle.level_topology.specs.Topology.{Topology, IsTopology, edge_at, corner_before, face_edges_of, end_of}
use Rattle.level_topology.proofs.ChildLemmas.{edges-corners}
use Rattle.level_topology.proofs.FanWalkLemmas.{before-after}
use Rattle.level_topology.proofs.LawLemmas.{edge-exists, edges-as-many}
use Rattle.child_slots.specs.Slots.{first_child, before_in}

-- places that ascend by the lengths of lists end after all of them
starts-end : (starts : List ℕ) (polygons : List Polygon) (end : ℕ) → gaps starts ≡ map length polygons → Ascend starts end → end ≡ get_or starts 0 0 + sum_by length polygons
starts-end [] polygons end g asc = absurd asc
starts-end (a ∷ []) [] end g asc = omega (arith, asc)
starts-end (a ∷ []) (p ∷ polygons) end g asc = absurd (cc)
starts-end (a ∷ (b ∷ starts)) [] end g asc = absurd (cc)
starts-end (a ∷ (b ∷ starts)) (p ∷ polygons) end g asc =
    let size : b - a ≡ length p = cc in
    let rest : gaps (b ∷ starts) ≡ map length polygons = cc in
    omega (arith, asc.0, size, starts-end (b ∷ starts) polygons end rest asc.1, sum_by-cons length p polygons)

-- each list begins after those before it
starts-rise : (starts : List ℕ) (polygons : List Polygon) (end f : ℕ) → gaps starts ≡ map length polygons → Ascend starts end → f ≤ length polygons → (f < length starts) × (get_or starts f 0 ≡ get_or starts 0 0 + sum_by length (take f polygons))
starts-rise [] polygons end f g asc h = absurd asc
starts-rise (a ∷ starts) polygons end zero g asc h = (omega arith, omega arith)
starts-rise (a ∷ []) [] end (suc f) g asc h = absurd (omega arith)
starts-rise (a ∷ []) (p ∷ polygons) end (suc f) g asc h = absurd (cc)
starts-rise (a ∷ (b ∷ starts)) [] end (suc f) g asc h = absurd (omega arith)
starts-rise (a ∷ (b ∷ starts)) (p ∷ polygons) end (suc f) g asc h =
    let size : b - a ≡ length p = cc in
    let rest : gaps (b ∷ starts) ≡ map length polygons = cc in
    let behind = starts-rise (b ∷ starts) polygons end f rest asc.1 (omega arith) in
    (omega (arith, behind.0), omega (arith, asc.0, size, behind.1, sum_by-cons length p (take f polygons)))

-- the places of corners are the numbers of first child faces
pub start-is : (starts : List ℕ) (polygons : List Polygon) (f : ℕ) → gaps starts ≡ map length polygons → Ascend starts (sum_by length polygons) → f ≤ length polygons → (f < length starts) × (get_or starts f 0 ≡ first_child polygons f)
start-is starts polygons f g asc h =
    let rise = starts-rise starts polygons (sum_by length polygons) f g asc h in
    (rise.0, omega (arith, rise.1, starts-end starts polygons (sum_by length polygons) g asc))

-- the last of them is the number of all
pub start-last : (starts : List ℕ) (polygons : List Polygon) → gaps starts ≡ map length polygons → Ascend starts (sum_by length polygons) → (length polygons < length starts) × (get_or starts (length polygons) 0 ≡ sum_by length polygons)
start-last starts polygons g asc =
    let is = start-is starts polygons (length polygons) g asc (omega arith) in
    (is.0, is.1 ∙ ap (sum_by length) (take_all (length polygons) polygons (omega arith)))

-- a face's child faces come before those that follow it
pub first-below : (polygons : List Polygon) (f c : ℕ) → c < length (polygon_at polygons f) → first_child polygons f + c < sum_by length polygons
first-below [] f c h = absurd (omega arith)
first-below (p ∷ polygons) zero c h = omega (arith, sum_by-cons length p polygons)
first-below (p ∷ polygons) (suc f) c h =
    let behind = first-below polygons f c h in
    omega (arith, behind, sum_by-cons length p polygons, sum_by-cons length p (take f polygons))

-- the corner before a corner is one of the face
pub before-within : (polygons : List Polygon) (f c : ℕ) → c < length (polygon_at polygons f) → before_in polygons f c < length (polygon_at polygons f)
before-within polygons f c h = (before-after (length (polygon_at polygons f)) c h).0

pub end-low : (polygons : List Polygon) (v e : ℕ) → end_of polygons v e ≤ 1
end-low polygons v e = go (nat_eq v (edge_at polygons e).0) refl
  where
    go : (b : Bool) → nat_eq v (edge_at polygons e).0 ≡ b → end_of polygons v e ≤ 1
    go true h = rw h (omega arith)
    go false h = rw h (omega arith)

-- the edge after a corner is there
pub edge-there : (polygons : List Polygon) (f c : ℕ) (edges : List ℕ) → edges ≡ face_edges_of polygons (polygon_at polygons f) → c < length (polygon_at polygons f) → (c < length edges) × (get_or edges c 0 < length (edges_of polygons))
edge-there polygons f c edges e h =
    let exists = edge-exists polygons f c h in
    (omega (arith, ap length e, edges-as-many polygons f, h), omega (arith, exists, ap (λ ns. get_or ns c 0) e))

-- the edge before a corner is there too
pub edge-there-before : (polygons : List Polygon) (f c b size : ℕ) (edges : List ℕ) → edges ≡ face_edges_of polygons (polygon_at polygons f) → size ≡ length (polygon_at polygons f) → b ≡ corner_before size c → c < length (polygon_at polygons f) → (b < length edges) × (get_or edges b 0 < length (edges_of polygons))
edge-there-before polygons f c b size edges e s is h =
    let same : b ≡ before_in polygons f c = is ∙ ap (λ n. corner_before n c) s in
    edge-there polygons f b edges e (omega (arith, same, before-within polygons f c h))

-- a level has few edges
pub few-edges : (t : Topology) → IsTopology t → length (edges_of t.level.polygons) < 2 ^ 28
few-edges t is = omega (arith, edges-corners t.level.polygons, is.small.corners)

-- the child faces of all faces are all
pub first-all : (polygons : List Polygon) → first_child polygons (length polygons) ≡ sum_by length polygons
first-all polygons = ap (sum_by length) (take_all (length polygons) polygons (omega arith))

-- the corners of a level's faces are points
pub over-of : (t : Topology) → IsTopology t → is_over t.level.point_count t.level.polygons ≡ true
over-of t is = first-of-six _ _ _ _ _ _ is.formed
