-- The points, the quads and the creases of a sheet.
use Rattle.std.proofs.Common.{◌≡◌, ℕ, zero, suc, ◌+◌, ◌-◌, ◌*◌, ◌%◌, ◌/◌, ◌^◌, ◌<◌, ◌≤◌, List, [], ◌∷◌, ◌++◌, length, map, drop, get_or, arith, refl, ap, sym, ◌∙◌}
use Rattle.std.specs.Prelude.{zip, Result, IfOk}
use Rattle.std.proofs.lemmas.Result.{IfOk-weaker}
use Rattle.std.specs.List.{All, flat_map, range_with_len}
use Rattle.std.proofs.lemmas.List.{append_assoc, append-nil, map-append, length-map}
use Rattle.std.proofs.lemmas.List.Elements.{All-nil, All-cons, All-same}
use Rattle.std.proofs.lemmas.List.FromFn.{length-map-range_with_len, map-range_with_len_more}
use Rattle.std.proofs.lemmas.Nat.{mul-le, mod-mul-add}
use Rattle.std.proofs.Math.Nat.{mod-lt, mul_assoc}
use Rattle.ratio128.specs.declared.point.Point3.{Point3}
use Rattle.raw_mesh.specs.declared.tags.Crease.{Crease}
use Rattle.raw_mesh.specs.Made.{quads_of, mesh_of_quads}
use Rattle.raw_mesh.specs.View.{point_of, crease_of}
use Rattle.subdiv_model.specs.Short.{IsShortPoint}
use Rattle.subdiv_model.specs.ObjMesh.{ObjMesh}
use Rattle.subdiv_model.specs.Sharpness.{Sharpness}
use Rattle.subdiv_model.specs.Generator.{drawn_next, drawn_value, draws_from, draws_of, sheet_point, sheet_points, sheet_quad, sheet_faces, row_creases, sheet_creases, generated_mesh}
use Rattle.sheet_maker.specs.Rows.{point_count, place_of, row_points, row_corners, sheet_corners, drawn_sharpness, drawn_creases, HasEnds}
use Rattle.sheet_maker.proofs.RangeLemmas.{all-map, all-flat, length-flat, flat-more, flat-zip-more}

-- a point in the rows and the columns of the sheet has a number below their count
point-inside : (size i j : ℕ) → i ≤ size → j ≤ size → sheet_point size i j < point_count size
point-inside size i j row column =
    let least = mul-le i (size + 1) size (size + 1) row (omega arith) in
    let whole : (size + 1) * (size + 1) ≡ size * (size + 1) + (size + 1) = omega arith in
    omega (arith, least, whole, column)

length-points : (size : ℕ) (draws : List ℕ) → length (sheet_points size draws) ≡ point_count size
length-points size draws = length-flat (row_points size draws) (size + 1) 0 (size + 1) (λ i. length-map-range_with_len (place_of size draws i) 0 (size + 1))

-- four corners for each quad
length-row : (size i : ℕ) (a n : ℕ) → length (flat_map (sheet_quad size i) (range_with_len a n)) ≡ n * 4
length-row size i a n = length-flat (sheet_quad size i) 4 a n (λ j. refl)

length-corners : (size : ℕ) → length (sheet_corners size) ≡ size * (size * 4)
length-corners size = length-flat (row_corners size) (size * 4) 0 size (λ i. length-row size i 0 size)

-- the corners of a row are its quads, for any text after them
quads-row : (size i a n : ℕ) (rest : List ℕ)
    → quads_of (flat_map (sheet_quad size i) (range_with_len a n) ++ rest) ≡ map (sheet_quad size i) (range_with_len a n) ++ quads_of rest
quads-row size i a zero rest = refl
quads-row size i a (suc n) rest =
    ap (λ quads. sheet_quad size i a ∷ quads) (quads-row size i (a + 1) n rest)

quads-rows : (size a n : ℕ)
    → quads_of (flat_map (row_corners size) (range_with_len a n)) ≡ flat_map (λ i. map (sheet_quad size i) (range_with_len 0 size)) (range_with_len a n)
quads-rows size a zero = refl
quads-rows size a (suc n) =
    quads-row size a 0 size (flat_map (row_corners size) (range_with_len (a + 1) n))
    ∙ ap (λ quads. map (sheet_quad size a) (range_with_len 0 size) ++ quads) (quads-rows size (a + 1) n)

-- the corners are those of the faces
quads-sheet : (size : ℕ) → quads_of (sheet_corners size) ≡ sheet_faces size
quads-sheet size = quads-rows size 0 size

-- each corner is a point
pub quad-inside : (size i j : ℕ) → i < size → j < size → All (λ v. v < point_count size) (sheet_quad size i j)
quad-inside size i j row column =
    let below : ℕ → Type 0 = λ v. v < point_count size in
    let last = sheet_point size (i + 1) j in
    let third = sheet_point size (i + 1) (j + 1) in
    let second = sheet_point size i (j + 1) in
    All-cons below (sheet_point size i j) (second ∷ third ∷ last ∷ []) (point-inside size i j (omega (arith, row)) (omega (arith, column)))
    (All-cons below second (third ∷ last ∷ []) (point-inside size i (j + 1) (omega (arith, row)) (omega (arith, column)))
    (All-cons below third (last ∷ []) (point-inside size (i + 1) (j + 1) (omega (arith, row)) (omega (arith, column)))
    (All-cons below last [] (point-inside size (i + 1) j (omega (arith, row)) (omega (arith, column))) (All-nil below))))

corners-inside : (size : ℕ) → All (λ v. v < point_count size) (sheet_corners size)
corners-inside size =
    all-flat (λ v. v < point_count size) (row_corners size) 0 size
    (λ i row. all-flat (λ v. v < point_count size) (sheet_quad size i) 0 size (λ j column. quad-inside size i j (omega (arith, row)) (omega (arith, column))))

-- each draw is at most 6
draw-low : (count x k : ℕ) → get_or (draws_from count x) k 0 < 7
draw-low zero x k = omega arith
draw-low (suc count) x zero = mod-lt (drawn_next x / 65536) (omega arith)
draw-low (suc count) x (suc k) = draw-low count (drawn_next x) k

length-draws : (count x : ℕ) → length (draws_from count x) ≡ count
length-draws zero x = refl
length-draws (suc count) x = ap suc (length-draws count (drawn_next x))

-- each coordinate of a sheet is short
points-short : (size count x : ℕ) → size ≤ 256 → All IsShortPoint (sheet_points size (draws_from count x))
points-short size count x few =
    let draws = draws_from count x in
    all-flat IsShortPoint (row_points size draws) 0 (size + 1)
    (λ i row. all-map IsShortPoint (place_of size draws i) 0 (size + 1) (λ j column. (omega (arith, column, few), omega (arith, row, few), omega (arith, draw-low count x (sheet_point size i j)))))

-- the rows inside the sheet
inner-rows : (size : ℕ) → drop 1 (range_with_len 0 size) ≡ range_with_len 1 (size - 1)
inner-rows zero = refl
inner-rows (suc size) = let less : size ≡ suc size - 1 = omega arith in ap (range_with_len 1) less

-- one more draw
pub draws-step : (start old new : List ℕ) (count k x y v : ℕ) → k < count → new ≡ old ++ v ∷ [] → v ≡ drawn_value y → y ≡ drawn_next x
    → old ++ draws_from (count - k) x ≡ start → new ++ draws_from (count - (k + 1)) y ≡ start
draws-step start old new count k x y v less e_new e_v e_y h =
    let left = count - (k + 1) in
    let one : count - k ≡ suc left = omega (arith, less) in
    ap (λ xs. xs ++ draws_from left y) e_new
    ∙ append_assoc old (v ∷ []) (draws_from left y)
    ∙ ap (λ d. old ++ d ∷ draws_from left y) e_v
    ∙ ap (λ z. old ++ drawn_value z ∷ draws_from left z) e_y
    ∙ ap (λ n. old ++ draws_from n x) (sym one)
    ∙ h

-- all rows are there
pub draws-all : (start old : List ℕ) (count k x : ℕ) → count ≤ k → old ++ draws_from (count - k) x ≡ start → old ≡ start
draws-all start old count k x all h =
    let none : count - k ≡ 0 = omega (arith, all) in
    sym (append-nil old) ∙ ap (λ n. old ++ draws_from n x) (sym none) ∙ h

-- one more element of a row
pub row-more : {X Y : Type 0} (view : X → Y) (f : ℕ → Y) (start : List Y) (old new : List X) (x : X) (j : ℕ) → new ≡ old ++ x ∷ [] → view x ≡ f j
    → map view old ≡ start ++ map f (range_with_len 0 j) → map view new ≡ start ++ map f (range_with_len 0 (j + 1))
row-more view f start old new x j e_new e_x h =
    let before = map f (range_with_len 0 j) in
    ap (map view) e_new
    ∙ map-append view old (x ∷ [])
    ∙ ap (λ ys. ys ++ view x ∷ []) h
    ∙ append_assoc start before (view x ∷ [])
    ∙ ap (λ y. start ++ (before ++ y ∷ [])) e_x
    ∙ ap (λ ys. start ++ ys) (sym (map-range_with_len_more f 0 j j (omega arith)))

-- one more row, or one more quad of it
pub flat-row-more : {X : Type 0} (f : ℕ → List X) (start old new : List X) (j : ℕ) → new ≡ old ++ f j
    → old ≡ start ++ flat_map f (range_with_len 0 j) → new ≡ start ++ flat_map f (range_with_len 0 (j + 1))
flat-row-more f start old new j e h =
    e ∙ ap (λ xs. xs ++ f j) h ∙ append_assoc start (flat_map f (range_with_len 0 j)) (f j) ∙ ap (λ xs. start ++ xs) (sym (flat-more f 0 j j (omega arith)))

-- one more row of creases
pub creases-more : (size k : ℕ) (s : Sharpness) (draws : List ℕ) (old new : List ((ℕ × ℕ) × Sharpness)) → k < length draws → s ≡ drawn_sharpness (get_or draws k 0)
    → new ≡ old ++ row_creases size (k + 1) s → old ≡ flat_map (drawn_creases size) (zip (range_with_len 1 k) draws)
    → new ≡ flat_map (drawn_creases size) (zip (range_with_len 1 (k + 1)) draws)
creases-more size k s draws old new inside e_s e_new h =
    e_new
    ∙ ap (λ xs. xs ++ row_creases size (k + 1) s) h
    ∙ ap (λ t. flat_map (drawn_creases size) (zip (range_with_len 1 k) draws) ++ row_creases size (k + 1) t) e_s
    ∙ sym (flat-zip-more (drawn_creases size) 1 k (k + 1) draws inside (omega arith))

-- the creases of all rows inside the sheet
pub creases-all : (size k : ℕ) (draws : List ℕ) (creases : List ((ℕ × ℕ) × Sharpness)) → k ≡ size - 1
    → creases ≡ flat_map (drawn_creases size) (zip (range_with_len 1 k) draws) → creases ≡ sheet_creases size draws
creases-all size k draws creases e h =
    h
    ∙ ap (λ n. flat_map (drawn_creases size) (zip (range_with_len 1 n) draws)) e
    ∙ ap (λ rows. flat_map (drawn_creases size) (zip rows draws)) (sym (inner-rows size))

-- the mesh of a sheet
pub sheet-mesh : (seed size : ℕ) (draws others : List ℕ) (points : List Point3) (corners : List ℕ) (creases : List Crease) → draws ≡ draws_of seed size
    → others ≡ draws_of seed size → map point_of points ≡ sheet_points size draws → corners ≡ sheet_corners size
    → map crease_of creases ≡ sheet_creases size (drop (point_count size) others) → mesh_of_quads points corners creases ≡ generated_mesh seed size
sheet-mesh seed size draws others points corners creases e_draws e_others e_points e_corners e_creases =
    rw (e_points, e_corners, quads-sheet size, e_creases, e_draws, e_others) refl

-- the mesh of a sheet, if memory is enough
pub sheet-made : {E : Type 0} (result : Result ObjMesh E) (made : ObjMesh) (seed size : ℕ) → made ≡ generated_mesh seed size → IfOk result (λ mesh. mesh ≡ made)
    → IfOk result (λ mesh. mesh ≡ generated_mesh seed size)
sheet-made result made seed size e h = IfOk-weaker result (λ mesh. mesh ≡ made) (λ mesh. mesh ≡ generated_mesh seed size) (λ mesh is. is ∙ e) h

-- the number of points made is that of the sheet
pub points-made : (size : ℕ) (draws : List ℕ) (points : List Point3) → map point_of points ≡ sheet_points size draws → length points ≡ point_count size
points-made size draws points e = sym (length-map points point_of) ∙ ap length e ∙ length-points size draws

-- there are enough draws
pub draws-made : (seed size : ℕ) (draws : List ℕ) → draws ≡ draws_of seed size → point_count size + size ≤ length draws
draws-made seed size draws e = omega (arith, ap length e, length-draws (point_count size + size) (seed % 2 ^ 31))

-- a number of quads have four corners each, and they are few
pub corners-fours : (size : ℕ) (corners : List ℕ) → corners ≡ sheet_corners size → length corners % 4 ≡ 0
corners-fours size corners e =
    let count : length corners ≡ size * size * 4 + 0 = omega (arith, ap length e, length-corners size, mul_assoc size size 4) in
    ap (λ n. n % 4) count ∙ mod-mul-add (size * size) 4 0 (omega arith)

pub corners-few : (size : ℕ) (corners : List ℕ) → size ≤ 256 → corners ≡ sheet_corners size → length corners < 2 ^ 27
corners-few size corners few e =
    let most : size * size ≤ 65536 = mul-le size size 256 256 few few in
    omega (arith, ap length e, length-corners size, most)

pub corners-made : (size points : ℕ) (corners : List ℕ) → points ≡ point_count size → corners ≡ sheet_corners size → All (λ v. v < points) corners
corners-made size points corners e_points e_corners = rw (e_points, e_corners) (corners-inside size)

pub ends-made : (size points : ℕ) (creases : List Crease) → points ≡ point_count size → All (HasEnds size) creases
    → All (λ c. (c.a < points) × (c.b < points)) creases
ends-made size points creases e ends = rw e ends

-- the numerators of the made points are short
pub short-made : (seed size : ℕ) (draws : List ℕ) (points : List Point3) → size ≤ 256 → draws ≡ draws_of seed size
    → map point_of points ≡ sheet_points size draws → All IsShortPoint (map point_of points)
short-made seed size draws points few e_draws e_points =
    All-same IsShortPoint (map point_of points) (sheet_points size (draws_of seed size)) (e_points ∙ ap (sheet_points size) e_draws)
    (points-short size (point_count size + size) (seed % 2 ^ 31) few)
