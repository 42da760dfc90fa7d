-- The cut mesh put together: its faces among the numbers of all corners, and the sharpness of its sides.
use Rattle.std.proofs.Common.{◌≡◌, ℕ, zero, suc, ◌+◌, ◌-◌, ◌<◌, ◌≤◌, Bool, true, false, List, [], ◌∷◌, ◌++◌, length, map, get_or, slice_range, append-nil, arith, refl, ap, sym, ◌∙◌}
use Rattle.std.specs.List.{All, list_any, list_all, flat_map, range_with_len, sum_by}
use Rattle.std.proofs.lemmas.Grind.{common_steps, flat_map-append}
use Rattle.std.proofs.lemmas.List.{get_or-map}
use Rattle.std.proofs.lemmas.List.FromFn.{map-range_with_len_more, get_or-map-range_with_len, length-map-range_with_len}
use Rattle.std.proofs.lemmas.List.Sums.{sum_by_more_le}
use Rattle.subdiv_model.specs.Polygons.{Polygon, same_edge, sides_of, polygon_at}
use Rattle.subdiv_model.specs.Edges.{all_sides, edges_of}
use Rattle.subdiv_model.specs.Sharpness.{Sharpness, is_sharp}
use Rattle.subdiv_model.specs.Level.{Level}
use Rattle.number_laws.proofs.CountLemmas.{all-flat_map}
use Rattle.level_laws.proofs.FaceLemmas.{sides_of-length}
use Rattle.mesh_laws.proofs.ClosedLemmas.{all-at}
use Rattle.mesh_laws.proofs.EdgeLemmas.{all-named}
use Rattle.level_topology.specs.Packed.{gaps, Ascend}
use Rattle.level_topology.specs.Topology.{face_edges_of, side_at}
use Rattle.point_fans.specs.Built.{Built}
use Rattle.level_topology.proofs.LawLemmas.{edge-exists, edges-as-many}
use Rattle.level_topology.proofs.PlaceLemmas.{side-there}
use Rattle.face_varying.specs.Built.{cut_face, cut_by, side_sharpness, first_sides, face_sides, sides_at, sides_before, with_side, with_sides}
use Rattle.face_varying.specs.CornerPlaces.{start_of}
use Rattle.face_varying.proofs.CornerLemmas.{start-at, start-next}

-- the corners of a face are among all corners
pub start-within : (faces : List Polygon) (f : ℕ) → f < length faces → start_of faces f + length (polygon_at faces f) ≤ sum_by length faces
start-within faces f h = sum_by_more_le length faces f [] h

-- the length of a part of a list
pub part-length : (xs : List ℕ) (a b : ℕ) → a ≤ b → b ≤ length xs → length (slice_range xs a b) ≡ b - a
part-length xs a b h k = grind (arith, common_steps)

-- a face of the cut mesh has as many corners as the face of the mesh
pub cut-length : (faces : List Polygon) (numbers : List ℕ) (f : ℕ) → f < length faces → length numbers ≡ sum_by length faces → length (cut_face faces numbers f) ≡ length (polygon_at faces f)
cut-length faces numbers f h all =
    let next = start-next faces f h in
    omega (arith, next, part-length numbers (start_of faces f) (start_of faces (f + 1)) (omega (arith, next)) (omega (arith, next, start-within faces f h, all)))

-- a face of the cut mesh by its number
pub cut-there : (faces : List Polygon) (numbers : List ℕ) (f : ℕ) → f < length faces → polygon_at (cut_by faces numbers) f ≡ cut_face faces numbers f
cut-there faces numbers f h = get_or-map-range_with_len (cut_face faces numbers) 0 (length faces) f f [] h (omega arith)

-- the part of the numbers between the starts of a face and of the next
pub cut-part : (faces : List Polygon) (numbers starts : List ℕ) (f : ℕ) → gaps starts ≡ map length faces → Ascend starts (sum_by length faces) → f < length faces → slice_range numbers (get_or starts f 0) (get_or starts (f + 1) 0) ≡ cut_face faces numbers f
cut-part faces numbers starts f same ascend h =
    let at = start-at starts faces same ascend in
    ap (λ (a : ℕ). slice_range numbers a (get_or starts (f + 1) 0)) (at.1 f (omega (arith, h))) ∙ ap (λ (b : ℕ). slice_range numbers (start_of faces f) b) (at.1 (f + 1) (omega (arith, h)))

-- one number more
pub range-more : (a n j : ℕ) → a + n ≡ j → range_with_len a (n + 1) ≡ range_with_len a n ++ j ∷ []
range-more a zero j e = let same : a ≡ j = omega (arith, e) in ap (λ k. k ∷ []) same
range-more a (suc n) j e =
    let count : suc n + 1 ≡ suc (n + 1) = omega arith in
    ap (range_with_len a) count ∙ ap (λ (ns : List ℕ). a ∷ ns) (range-more (a + 1) n j (omega (arith, e)))

-- sides change no face
with-polygons : (sides : List ((ℕ × ℕ) × Sharpness)) (built : Built) → (with_sides sides built).level.polygons ≡ built.level.polygons
with-polygons [] built = refl
with-polygons (side ∷ sides) built = with-polygons sides (with_side side built) ∙ one (is_sharp side.1) refl
  where
    one : (b : Bool) → is_sharp side.1 ≡ b → (with_side side built).level.polygons ≡ built.level.polygons
    one true e = rw e refl
    one false e = rw e refl

-- sides change no face
pub faces-stay : (sides : List ((ℕ × ℕ) × Sharpness)) (old new : Built) → new ≡ with_sides sides old → new.level.polygons ≡ old.level.polygons
faces-stay sides old new is = ap (λ (b : Built). b.level.polygons) is ∙ with-polygons sides old

-- sides after sides
pub with-append : (some more : List ((ℕ × ℕ) × Sharpness)) (built : Built) → with_sides (some ++ more) built ≡ with_sides more (with_sides some built)
with-append [] more built = refl
with-append (side ∷ some) more built = with-append some more (with_side side built)

-- one side more of a face
pub side-more : (level : Level) (apart : List Bool) (corners edges : List ℕ) (c b : ℕ) (s : Sharpness) (old now new : Built) → b ≡ (side_at corners c).1 → s ≡ side_sharpness level apart (get_or edges c 0)
    → now ≡ with_sides (first_sides level apart corners edges c) old → new ≡ with_side ((get_or corners c 0, b), s) now
    → new ≡ with_sides (first_sides level apart corners edges (c + 1)) old
side-more level apart corners edges c b s old now new is_end is_sharpness before after =
    let side : ℕ → (ℕ × ℕ) × Sharpness = λ k. (side_at corners k, side_sharpness level apart (get_or edges k 0)) in
    after
    ∙ ap (λ (k : ℕ). with_side ((get_or corners c 0, k), s) now) is_end
    ∙ ap (λ (x : Sharpness). with_side (side_at corners c, x) now) is_sharpness
    ∙ ap (with_side (side c)) before
    ∙ sym (with-append (map side (range_with_len 0 c)) (side c ∷ []) old)
    ∙ ap (λ (sides : List ((ℕ × ℕ) × Sharpness)). with_sides sides old) (sym (map-range_with_len_more side 0 c c (omega arith)))

-- the sides of one face more
pub sides-more : (level : Level) (apart : List Bool) (numbers : List ℕ) (f : ℕ) (corners edges : List ℕ) (old now new : Built) → corners ≡ cut_face level.polygons numbers f → edges ≡ face_edges_of level.polygons (polygon_at level.polygons f)
    → now ≡ with_sides (sides_before level apart numbers f) old → new ≡ with_sides (face_sides level apart corners edges) now → new ≡ with_sides (sides_before level apart numbers (f + 1)) old
sides-more level apart numbers f corners edges old now new are_corners are_edges before after =
    let more : sides_before level apart numbers (f + 1) ≡ sides_before level apart numbers f ++ sides_at level apart numbers f =
    ap (flat_map (sides_at level apart numbers)) (range-more 0 f f (omega arith)) ∙ flat_map-append (sides_at level apart numbers) (range_with_len 0 f) (f ∷ []) ∙ ap (λ (sides : List ((ℕ × ℕ) × Sharpness)). sides_before level apart numbers f ++ sides) (append-nil (sides_at level apart numbers f)) in
    after
    ∙ ap (λ (xs : List ℕ). with_sides (face_sides level apart xs edges) now) are_corners
    ∙ ap (λ (xs : List ℕ). with_sides (face_sides level apart (cut_face level.polygons numbers f) xs) now) are_edges
    ∙ ap (with_sides (sides_at level apart numbers f)) before
    ∙ sym (with-append (sides_before level apart numbers f) (sides_at level apart numbers f) old)
    ∙ ap (λ (sides : List ((ℕ × ℕ) × Sharpness)). with_sides sides old) (sym more)

-- the sides of a face are edges of the faces
pub face-named : (polygons : List Polygon) (f : ℕ) → f < length polygons → list_all (λ side. list_any (same_edge side) (edges_of polygons)) (sides_of (polygon_at polygons f)) ≡ true
face-named polygons f h =
    all-at (λ polygon. list_all (λ side. list_any (same_edge side) (edges_of polygons)) (sides_of polygon)) polygons f [] h (sym (all-flat_map (λ side. list_any (same_edge side) (edges_of polygons)) sides_of polygons) ∙ all-named (all_sides polygons))

-- each side of a face is among the edges
pub side-named : (edges : List (ℕ × ℕ)) (corners : Polygon) (c b : ℕ) → c < length corners → b ≡ (side_at corners c).1 → list_all (λ side. list_any (same_edge side) edges) (sides_of corners) ≡ true → list_any (same_edge (get_or corners c 0, b)) edges ≡ true
side-named edges corners c b h is all =
    ap (λ (k : ℕ). list_any (same_edge (get_or corners c 0, k)) edges) is ∙ ap (λ (side : ℕ × ℕ). list_any (same_edge side) edges) (sym (side-there corners c h))
    ∙ all-at (λ side. list_any (same_edge side) edges) (sides_of corners) c (0, 0) (omega (arith, h, sides_of-length corners)) all

-- the conditions on a face of the cut mesh, before its sides get their sharpness
pub cut-named : (faces : List Polygon) (numbers : List ℕ) (f : ℕ) (polygons : List Polygon) (corners : Polygon) → f < length faces → polygons ≡ cut_by faces numbers → corners ≡ cut_face faces numbers f → list_all (λ side. list_any (same_edge side) (edges_of polygons)) (sides_of corners) ≡ true
cut-named faces numbers f polygons corners h are is =
    ap (λ (ps : List Polygon). list_all (λ side. list_any (same_edge side) (edges_of ps)) (sides_of corners)) are
    ∙ ap (λ (p : Polygon). list_all (λ side. list_any (same_edge side) (edges_of (cut_by faces numbers))) (sides_of p)) (is ∙ sym (cut-there faces numbers f h))
    ∙ face-named (cut_by faces numbers) f (omega (arith, h, length-map-range_with_len (cut_face faces numbers) 0 (length faces)))

-- the edges of a face are edges of the faces
pub edges-within : (polygons : List Polygon) (f : ℕ) (edges : List ℕ) → edges ≡ face_edges_of polygons (polygon_at polygons f) → All (λ e. e < length (edges_of polygons)) edges
edges-within polygons f edges are k d h =
    let same : length edges ≡ length (polygon_at polygons f) = ap length are ∙ edges-as-many polygons f in
    let inside : k < length (sides_of (polygon_at polygons f)) = omega (arith, h, same, sides_of-length (polygon_at polygons f)) in
    let either : get_or edges k d ≡ get_or (face_edges_of polygons (polygon_at polygons f)) k 0 =
    ap (λ (xs : List ℕ). get_or xs k d) are ∙ get_or-map _ (sides_of (polygon_at polygons f)) k (0, 0) d inside ∙ sym (get_or-map _ (sides_of (polygon_at polygons f)) k (0, 0) 0 inside) in
    omega (arith, either, edge-exists polygons f k (omega (arith, h, same)))
