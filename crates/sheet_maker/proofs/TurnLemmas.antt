-- The faces at a point of a sheet, and their order around it.
use Rattle.std.proofs.Common.{◌≡◌, ℕ, ◌+◌, ◌<◌, true, nat_eq, List, [], arith, ap, sym, ◌∙◌}
use Rattle.std.specs.List.{list_all}
use Rattle.std.proofs.lemmas.Bool.{eqb-true}
use Rattle.subdiv_model.specs.Polygons.{has_side, has_corner, is_among, is_distinct, polygon_at}
use Rattle.subdiv_model.specs.Manifold.{IsSuccessor, IsPath, HasOneFan}
use Rattle.subdiv_model.specs.Generator.{sheet_point, sheet_quad, sheet_faces}
use Rattle.mesh_laws.proofs.FanLemmas.{side-start}
use Rattle.mesh_laws.proofs.ClosedLemmas.{any-all}
use Rattle.mesh_laws.proofs.ChildCornerLemmas.{corner-place}
use Rattle.sheet_maker.proofs.GridLemmas.{face_number, face-at, cell-of}
use Rattle.sheet_maker.proofs.QuadLemmas.{quad-sides, Touches, corner-touches}

module _ (size : ℕ) where
  -- the face has a corner at the point
  abbrev pub meets : ℕ → ℕ → ℕ → ℕ → Type 0
  meets r c i j = has_corner (sheet_point size r c) (polygon_at (sheet_faces size) (face_number size i j)) ≡ true

  -- the corner at which a side of its quad starts is one of the face
  meets-start : (s : ℕ × ℕ) (i j : ℕ) → i < size → j < size → has_side s (sheet_quad size i j) ≡ true → has_corner s.0 (polygon_at (sheet_faces size) (face_number size i j)) ≡ true
  meets-start s i j p q h = ap (has_corner s.0) (face-at size i j [] p q) ∙ side-start (sheet_quad size i j) s h

  -- the four corners of a face, in their order
  pub meets-first : (i j : ℕ) → i < size → j < size → meets i j i j
  meets-first i j p q = meets-start (sheet_point size i j, sheet_point size i (j + 1)) i j p q (quad-sides size i j).0

  pub meets-second : (i j : ℕ) → i < size → j < size → meets i (j + 1) i j
  meets-second i j p q = meets-start (sheet_point size i (j + 1), sheet_point size (i + 1) (j + 1)) i j p q (quad-sides size i j).1

  pub meets-third : (i j : ℕ) → i < size → j < size → meets (i + 1) (j + 1) i j
  meets-third i j p q = meets-start (sheet_point size (i + 1) (j + 1), sheet_point size (i + 1) j) i j p q (quad-sides size i j).2

  pub meets-fourth : (i j : ℕ) → i < size → j < size → meets (i + 1) j i j
  meets-fourth i j p q = meets-start (sheet_point size (i + 1) j, sheet_point size i j) i j p q (quad-sides size i j).3

  -- around the point one face is the successor of the other
  abbrev pub Follows : ℕ → ℕ → ℕ → ℕ → ℕ → ℕ → Type 0
  Follows r c i j k l = IsSuccessor (sheet_faces size) (sheet_point size r c) (face_number size i j) (face_number size k l)

  -- a quad follows another if a side of it comes back by a side of the other
  follows-quad : (v corner i j k l : ℕ) → i < size → j < size → k < size → l < size → has_side (v, corner) (sheet_quad size i j) ≡ true → has_side (corner, v) (sheet_quad size k l) ≡ true → IsSuccessor (sheet_faces size) v (face_number size i j) (face_number size k l)
  follows-quad v corner i j k l p q m n out back = record {
    corner = corner;
    follows = ap (has_side (v, corner)) (face-at size i j [] p q) ∙ out;
    leads_back = ap (has_side (corner, v)) (face-at size k l [] m n) ∙ back;
  }

  -- in the column after the point the face of the row before it follows
  pub follows-up : (i j : ℕ) → i + 1 < size → j < size → Follows (i + 1) j (i + 1) j i j
  follows-up i j p q = follows-quad (sheet_point size (i + 1) j) (sheet_point size (i + 1) (j + 1)) (i + 1) j i j p q (omega arith) q (quad-sides size (i + 1) j).0 (quad-sides size i j).2

  -- in the row before the point the face of the column before it follows
  pub follows-back : (i j : ℕ) → i < size → j + 1 < size → Follows (i + 1) (j + 1) i (j + 1) i j
  follows-back i j p q = follows-quad (sheet_point size (i + 1) (j + 1)) (sheet_point size i (j + 1)) i (j + 1) i j p q p (omega arith) (quad-sides size i (j + 1)).3 (quad-sides size i j).1

  -- in the column before the point the face of the row after it follows
  pub follows-down : (i j : ℕ) → i + 1 < size → j < size → Follows (i + 1) (j + 1) i j (i + 1) j
  follows-down i j p q = follows-quad (sheet_point size (i + 1) (j + 1)) (sheet_point size (i + 1) j) i j (i + 1) j (omega arith) q p q (quad-sides size i j).2 (quad-sides size (i + 1) j).0

  -- in the row after the point the face of the column after it follows
  pub follows-on : (i j : ℕ) → i < size → j + 1 < size → Follows i (j + 1) i j i (j + 1)
  follows-on i j p q = follows-quad (sheet_point size i (j + 1)) (sheet_point size (i + 1) (j + 1)) i j i (j + 1) p (omega arith) p q (quad-sides size i j).1 (quad-sides size i (j + 1)).3

  -- a path of faces at the point that contains each face there is its fan
  pub fan-of : (r c : ℕ) (fan : List ℕ) → c < size + 1 → is_distinct fan ≡ true → list_all (λ face. has_corner (sheet_point size r c) (polygon_at (sheet_faces size) face)) fan ≡ true → ((i j : ℕ) → i < size → j < size → Touches r c i j → is_among fan (face_number size i j) ≡ true) → IsPath (sheet_faces size) (sheet_point size r c) fan → HasOneFan (sheet_faces size) (sheet_point size r c)
  fan-of r c fan inside once predicate complete path = record { fan = fan; once = once; all = λ face. (there face, back face); path = path }
    where
      there : (face : ℕ) → is_among fan face ≡ true → has_corner (sheet_point size r c) (polygon_at (sheet_faces size) face) ≡ true
      there face h =
          let found = any-all (nat_eq face) (λ n. has_corner (sheet_point size r c) (polygon_at (sheet_faces size) n)) fan h predicate in
          ap (λ (n : ℕ). has_corner (sheet_point size r c) (polygon_at (sheet_faces size) n)) (eqb-true face found.0 found.1) ∙ found.2

      back : (face : ℕ) → has_corner (sheet_point size r c) (polygon_at (sheet_faces size) face) ≡ true → is_among fan face ≡ true
      back face h =
          let cell = cell-of size face (corner-place (sheet_faces size) face (sheet_point size r c) h) in
          let touch = corner-touches size r c cell.row cell.column inside cell.column_inside (ap (has_corner (sheet_point size r c)) (sym (cell.quad [])) ∙ h) in
          ap (is_among fan) (sym cell.is) ∙ complete cell.row cell.column cell.row_inside cell.column_inside touch
