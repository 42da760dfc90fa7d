-- The faces of a sheet by row and column, and its numbers of faces and points.
use Rattle.std.proofs.Common.{◌≡◌, ℕ, zero, suc, ◌+◌, ◌*◌, ◌/◌, ◌%◌, ◌<◌, ℤ, pos, List, length, map, get_or, arith, ap, sym, ◌∙◌, subst, All}
use Rattle.std.specs.List.{range_with_len}
use Rattle.std.proofs.lemmas.Nat.{div-add-mod', div_below, mod_below}
use Rattle.std.proofs.lemmas.List.FromFn.{length-range_with_len, length-map-range_with_len, get_or-range_with_len, get_or-map-range_with_len}
use Rattle.subdiv_model.specs.Polygons.{Polygon}
use Rattle.subdiv_model.specs.Generator.{sheet_point, sheet_points, sheet_quad, sheet_faces}
use Rattle.sheet_maker.proofs.PieceLemmas.{pieces-length, piece-at}

-- the number of the face in row i and column j
abbrev pub face_number : ℕ → ℕ → ℕ → ℕ
face_number size i j = i * size + j

-- the face with that number is the quad of the row and the column
pub face-at : (size i j : ℕ) (d : Polygon) → i < size → j < size → get_or (sheet_faces size) (face_number size i j) d ≡ sheet_quad size i j
face-at size i j d h k =
    let rows : List ℕ = range_with_len 0 size in
    let quads : ℕ → List Polygon = λ i. map (sheet_quad size i) (range_with_len 0 size) in
    let row : get_or rows i 0 ≡ i = get_or-range_with_len 0 size i 0 h ∙ omega arith in
    piece-at quads size (λ i. length-map-range_with_len (sheet_quad size i) 0 size) rows i j 0 d (omega (arith, h, length-range_with_len 0 size)) k ∙ get_or-map-range_with_len (sheet_quad size (get_or rows i 0)) 0 size j j d k (omega arith) ∙ ap (λ (n : ℕ). sheet_quad size n j) row

-- the number of quads along a side of a sheet
pub faces-length : (size : ℕ) → length (sheet_faces size) ≡ size * size
faces-length size =
    let each = pieces-length (λ i. map (sheet_quad size i) (range_with_len 0 size)) size (λ i. length-map-range_with_len (sheet_quad size i) 0 size) (range_with_len 0 size) in
    each ∙ ap (λ (n : ℕ). n * size) (length-range_with_len 0 size)

-- a side has one point more than quads
pub points-length : (size : ℕ) (draws : List ℕ) → length (sheet_points size draws) ≡ (size + 1) * (size + 1)
points-length size draws =
    let point : ℕ → ℕ → ℤ × ℤ × ℤ = λ i j. (pos (10 * j), pos (10 * i), pos (get_or draws (sheet_point size i j) 0)) in
    let each = pieces-length (λ i. map (point i) (range_with_len 0 (size + 1))) (size + 1) (λ i. length-map-range_with_len (point i) 0 (size + 1)) (range_with_len 0 (size + 1)) in
    each ∙ ap (λ (n : ℕ). n * (size + 1)) (length-range_with_len 0 (size + 1))

-- the row and the column of a face, and its quad
pub record IsCell (size face : ℕ) : Type 0 where
  pub row : ℕ
  pub column : ℕ
  pub row_inside : row < size
  pub column_inside : column < size
  pub is : face_number size row column ≡ face
  pub quad : (d : Polygon) → get_or (sheet_faces size) face d ≡ sheet_quad size row column

-- each face has a row and a column
pub cell-of : (size face : ℕ) → face < length (sheet_faces size) → IsCell size face
cell-of size face h =
    let many = faces-length size in
    let inside : face < size * size = omega arith in
    let some : 0 < size = positive size inside in
    let low : face / size < size = div_below face size size some inside in
    let left : face % size < size = mod_below face size some in
    let is : face_number size (face / size) (face % size) ≡ face = div-add-mod' face size in
    record {
      row = face / size;
      column = face % size;
      row_inside = low;
      column_inside = left;
      is = is;
      quad = λ d. ap (λ (n : ℕ). get_or (sheet_faces size) n d) (sym is) ∙ face-at size (face / size) (face % size) d low left;
    }
  where
    positive : (n : ℕ) → face < n * n → 0 < n
    positive zero k = absurd (omega arith)
    positive (suc n) k = omega arith

-- a fact about each quad is one about all faces
pub each-face : (P : Polygon → Type 0) (size : ℕ) → ((i j : ℕ) → i < size → j < size → P (sheet_quad size i j)) → All P (sheet_faces size)
each-face P size each face d h =
    let cell = cell-of size face h in
    subst P (sym (cell.quad d)) (each cell.row cell.column cell.row_inside cell.column_inside)
