-- A face all of whose corners are whole points of a part has the facts of its face in the whole.
use Rattle.std.proofs.Common.{◌≡◌, ℕ, ◌+◌, ◌<◌, Bool, true, false, not, ◌&&◌, ◌||◌, nat_eq, List, [], ◌∷◌, length, map, arith, refl, ap, sym, ◌∙◌}
use Rattle.std.specs.List.{filter, list_any, list_all, count_by}
use Rattle.std.proofs.lemmas.Bool.{and_parts, or_right, eq-eqb, eqb-true}
use Rattle.std.proofs.lemmas.Bool.Decides.{nat_tests}
use Rattle.std.proofs.lemmas.List.{length-map}
use Rattle.subdiv_model.specs.Polygons.{Polygon, same_edge, sides_of, has_corner, has_side, is_among, polygon_at}
use Rattle.subdiv_model.specs.Edges.{edges_of, edges_of_point, has_end, is_boundary}
use Rattle.subdiv_model.specs.Sharpness.{Sharpness, is_sharp}
use Rattle.subdiv_model.specs.Level.{Level, edge_sharpness_of, vertex_sharpness_of, edges_at, faces_at}
use Rattle.subdiv_model.specs.Feature.{FaceFacts, facts_of, is_infinite, is_at_boundary, is_sharp_inside, is_smooth_at, is_regular}
use Rattle.number_laws.proofs.CountLemmas.{count-cons, one_if}
use Rattle.mesh_laws.proofs.FanLemmas.{side-start}
use Rattle.mesh_laws.proofs.ChildCornerLemmas.{side-named}
use Rattle.mesh_laws.proofs.ChildFaceLemmas.{both-all}
use Rattle.mesh_laws.proofs.ChildPlaceLemmas.{own-sides}
use Rattle.part_laws.specs.Parts.{IsWholeAt, IsWholeAlong, is_corner, renamed, face_in}
use Rattle.part_laws.specs.LevelParts.{IsLevelPart}
use Rattle.part_laws.proofs.ListLemmas.{any-mapped, all-filtered}
use Rattle.part_laws.proofs.RenamedLemmas.{sides-renamed}
use Rattle.part_laws.proofs.PartLemmas.{edge-ends, polygon-in, same-boundary, same-edges, same-faces, whole-along}
use Rattle.part_laws.proofs.LevelLemmas.{all-listed}
use Rattle.part_laws.proofs.JoinLemmas.{corner-in}
use Rattle.sparse_laws.proofs.CornerLemmas.{all-among}

-- tests that agree count the same
count-mapped : {X Y : Type 0} (keep : X → Bool) (f : X → Y) (test : X → Bool) (other : Y → Bool) → ((x : X) → keep x ≡ true → other (f x) ≡ test x) → (xs : List X) → list_all keep xs ≡ true → count_by other (map f xs) ≡ count_by test xs
count-mapped keep f test other same [] h = refl
count-mapped keep f test other same (x ∷ xs) h =
    let parts = and_parts (keep x) (list_all keep xs) h in
    count-cons other (f x) (map f xs)
    ∙ ap (λ b. one_if b + count_by other (map f xs)) (same x parts.0)
    ∙ ap (λ n. one_if (test x) + n) (count-mapped keep f test other same xs parts.1)
    ∙ sym (count-cons test x xs)

-- kept items pass the test
pub kept-pass : {X : Type 0} (test : X → Bool) (xs : List X) → list_all test (filter test xs) ≡ true
kept-pass test [] = refl
kept-pass test (x ∷ xs) = go (test x) refl (kept-pass test xs)
  where
    go : (b : Bool) → test x ≡ b → list_all test (filter test xs) ≡ true → list_all test (filter test (x ∷ xs)) ≡ true
    go true e rest = rw e (rw e rest)
    go false e rest = rw e rest

-- a list contains each of its numbers
pub all-own : (ns : List ℕ) → list_all (is_among ns) ns ≡ true
all-own ns = all-among (is_among ns) ns (λ n h. h)

-- an edge of these polygons that ends at the point
abbrev ends_there : List Polygon → ℕ → ℕ × ℕ → Bool
ends_there polygons p edge = has_end p edge && list_any (same_edge edge) (edges_of polygons)

all-there : (polygons : List Polygon) (p : ℕ) → list_all (ends_there polygons p) (edges_of_point polygons p) ≡ true
all-there polygons p =
    let listed : ℕ × ℕ → Bool = λ e. list_any (same_edge e) (edges_of polygons) in
    both-all (has_end p) listed (edges_of_point polygons p) (kept-pass (has_end p) (edges_of polygons))
    (all-filtered (has_end p) listed (edges_of polygons) (all-listed (edges_of polygons)))

-- the names of an edge's ends are the ends of its name
pub end-named : (name : ℕ → ℕ) (p : ℕ) (edge : ℕ × ℕ) → has_end p edge ≡ true → has_end (name p) (renamed name edge) ≡ true
end-named name p edge h = go (nat_eq p edge.0) refl
  where
    go : (b : Bool) → nat_eq p edge.0 ≡ b → has_end (name p) (renamed name edge) ≡ true
    go true e = let here = eq-eqb (name p) (name edge.0) (ap name (eqb-true p edge.0 e)) in rw here refl
    go false e =
        let other : nat_eq p edge.1 ≡ true = grind (arith, nat_tests) in
        or_right (nat_eq (name p) (name edge.0)) (nat_eq (name p) (name edge.1)) (eq-eqb (name p) (name edge.1) (ap name (eqb-true p edge.1 other)))

-- the first corner of a side is an end of it
start-end : (s : ℕ × ℕ) → has_end s.0 s ≡ true
start-end s = let here = eq-eqb s.0 s.0 refl in rw here refl

-- whether a point is regular, by its boundary, its numbers of edges and faces, and its sharpness
abbrev regular_by : Bool → Bool → ℕ → ℕ → Sharpness → Bool
regular_by boundary smooth edges faces sharpness =
    (not boundary && nat_eq edges 4 && smooth) || (boundary && nat_eq faces 2 && smooth) || (boundary && nat_eq faces 1 && is_infinite sharpness)

regular-alike : (a b c d : Bool) (i j m n : ℕ) (s t : Sharpness) → a ≡ b → c ≡ d → i ≡ j → m ≡ n → s ≡ t → regular_by a c i m s ≡ regular_by b d j n t
regular-alike a b c d i j m n s t one two three four five = rw (one, two, three, four, five) refl

-- the facts of a face from their parts
abbrev facts_by : ℕ → ℕ → ℕ → Bool → ℕ → ℕ → FaceFacts
facts_by depth number size hole irregular sharp = record { level = depth; number = number; size = size; hole = hole; irregular = irregular; sharp = sharp }

facts-alike : (depth number : ℕ) (a b : ℕ) (c d : Bool) (i j m n : ℕ) → a ≡ b → c ≡ d → i ≡ j → m ≡ n → facts_by depth number a c i m ≡ facts_by depth number b d j n
facts-alike depth number a b c d i j m n one two three four = rw (one, two, three, four) refl

module _ (name : ℕ → ℕ) (faces : List ℕ) (part whole : Level) (is : IsLevelPart name faces part whole) where
  -- an edge of the part along which it has all faces
  same-boundary-along : (edge : ℕ × ℕ) → list_any (same_edge edge) (edges_of part.polygons) ≡ true → IsWholeAlong faces whole.polygons (renamed name edge) → is_boundary whole.polygons (renamed name edge) ≡ is_boundary part.polygons edge
  same-boundary-along edge listed along =
      sym (same-boundary name faces part.polygons whole.polygons is.polygons edge (edge-ends name faces part.polygons whole.polygons is.polygons edge listed) along)

  same-sharp-along : (edge : ℕ × ℕ) → list_any (same_edge edge) (edges_of part.polygons) ≡ true → IsWholeAlong faces whole.polygons (renamed name edge) → is_sharp_inside whole (renamed name edge) ≡ is_sharp_inside part edge
  same-sharp-along edge listed along =
      ap (λ b. not b && is_sharp (edge_sharpness_of whole (renamed name edge))) (same-boundary-along edge listed along)
      ∙ ap (λ s. not (is_boundary part.polygons edge) && is_sharp s) (sym (is.edges edge listed))

  module _ (p : ℕ) (there : is_corner part.polygons p ≡ true) (all : IsWholeAt faces whole.polygons (name p)) where
    whole-edge : (edge : ℕ × ℕ) → has_end p edge ≡ true → IsWholeAlong faces whole.polygons (renamed name edge)
    whole-edge edge ends = whole-along faces whole.polygons (name p) (renamed name edge) (end-named name p edge ends) all

    -- a test that agrees along whole edges passes at an edge there in both
    any-there : (test other : ℕ × ℕ → Bool) → ((edge : ℕ × ℕ) → list_any (same_edge edge) (edges_of part.polygons) ≡ true → IsWholeAlong faces whole.polygons (renamed name edge) → other (renamed name edge) ≡ test edge) → list_any other (edges_at whole (name p)) ≡ list_any test (edges_at part p)
    any-there test other same =
        ap (list_any other) (sym (same-edges name faces part.polygons whole.polygons is.polygons p there all))
        ∙ any-mapped (ends_there part.polygons p) (renamed name) test other
        (λ edge h. let parts = and_parts (has_end p edge) (list_any (same_edge edge) (edges_of part.polygons)) h in same edge parts.1 (whole-edge edge parts.0))
        (edges_at part p) (all-there part.polygons p)

    same-at-boundary : is_at_boundary whole (name p) ≡ is_at_boundary part p
    same-at-boundary = any-there (is_boundary part.polygons) (is_boundary whole.polygons) same-boundary-along

    same-smooth : is_smooth_at whole (name p) ≡ is_smooth_at part p
    same-smooth =
        ap (λ s. not (is_sharp s) && not (list_any (is_sharp_inside whole) (edges_at whole (name p)))) (sym (is.vertices p there))
        ∙ ap (λ b. not (is_sharp (vertex_sharpness_of part p)) && not b) (any-there (is_sharp_inside part) (is_sharp_inside whole) same-sharp-along)

    -- a point is regular in both levels or in neither
    same-regular : is_regular whole (name p) ≡ is_regular part p
    same-regular =
        let edges = ap length (sym (same-edges name faces part.polygons whole.polygons is.polygons p there all)) ∙ length-map (edges_at part p) (renamed name) in
        let some = ap length (sym (same-faces name faces part.polygons whole.polygons is.polygons p there all)) ∙ length-map (faces_at part p) (face_in faces) in
        regular-alike (is_at_boundary whole (name p)) (is_at_boundary part p) (is_smooth_at whole (name p)) (is_smooth_at part p) (length (edges_at whole (name p))) (length (edges_at part p)) (length (faces_at whole (name p))) (length (faces_at part p)) (vertex_sharpness_of whole (name p)) (vertex_sharpness_of part p) same-at-boundary same-smooth edges some (sym (is.vertices p there))

  module _ (k : ℕ) (inside : k < length part.polygons) (all : (p : ℕ) → has_corner p (polygon_at part.polygons k) ≡ true → IsWholeAt faces whole.polygons (name p)) where
    same-irregular : count_by (λ v. not (is_regular whole v)) (polygon_at whole.polygons (face_in faces k)) ≡ count_by (λ v. not (is_regular part v)) (polygon_at part.polygons k)
    same-irregular =
        let polygon = polygon_at part.polygons k in
        ap (count_by (λ v. not (is_regular whole v))) (sym (polygon-in name faces part.polygons whole.polygons is.polygons k inside))
        ∙ count-mapped (is_among polygon) name (λ v. not (is_regular part v)) (λ v. not (is_regular whole v)) (λ p h. ap not (same-regular p (corner-in part.polygons p k h) (all p h))) polygon (all-own polygon)

    same-sharp-sides : count_by (is_sharp_inside whole) (sides_of (polygon_at whole.polygons (face_in faces k))) ≡ count_by (is_sharp_inside part) (sides_of (polygon_at part.polygons k))
    same-sharp-sides =
        let polygon = polygon_at part.polygons k in
        ap (λ q. count_by (is_sharp_inside whole) (sides_of q)) (sym (polygon-in name faces part.polygons whole.polygons is.polygons k inside))
        ∙ ap (count_by (is_sharp_inside whole)) (sides-renamed name polygon)
        ∙ count-mapped (λ s. has_side s polygon) (renamed name) (is_sharp_inside part) (is_sharp_inside whole) (λ s h.
        let start = side-start polygon s h in
        same-sharp-along s (side-named part.polygons k s h) (whole-edge s.0 (corner-in part.polygons s.0 k start) (all s.0 start) s (start-end s)))
        (sides_of polygon) (own-sides (sides_of polygon))

    pub same-facts : (depth : ℕ) → record (facts_of part depth k) { number = face_in faces k } ≡ facts_of whole depth (face_in faces k)
    same-facts depth =
        let size = sym (length-map (polygon_at part.polygons k) name) ∙ ap length (polygon-in name faces part.polygons whole.polygons is.polygons k inside) in
        facts-alike depth (face_in faces k) _ _ _ _ _ _ _ _ size (is.holes k inside) (sym same-irregular) (sym same-sharp-sides)
