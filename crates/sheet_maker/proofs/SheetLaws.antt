-- A sheet is a manifold, so the mesh checks find no fault in it.
use Rattle.std.proofs.Common.{◌≡◌, ℕ, ◌+◌, ◌*◌, ◌<◌, true, nat_lt, [], None, length, arith, ap, sym, ◌∙◌, subst, IsTrue}
use Rattle.std.specs.List.{list_all}
use Rattle.std.proofs.lemmas.Bool.Decides.{nat_tests}
use Rattle.std.proofs.lemmas.List.Sums.{list_all-from_AllPass}
use Rattle.subdiv_model.specs.Polygons.{has_side, is_over, polygon_at}
use Rattle.subdiv_model.specs.Edges.{all_sides}
use Rattle.subdiv_model.specs.Manifold.{IsManifold, is_simple}
use Rattle.subdiv_model.specs.MeshFault.{first_mesh_fault}
use Rattle.subdiv_model.specs.Generator.{sheet_faces, sheet_quad, generated_mesh, draws_of}
use Rattle.mesh_laws.proofs.SideLemmas.{distinct-from_count}
use Rattle.mesh_laws.proofs.ChildCornerLemmas.{corner-place}
use Rattle.mesh_laws.proofs.FanLemmas.{side-start}
use Rattle.mesh_laws.proofs.WalkLemmas.{manifold-decides}
use Rattle.mesh_laws.proofs.FaultLemmas.{fault-decides}
use Rattle.sheet_maker.specs.Rows.{point_count}
use Rattle.sheet_maker.proofs.SheetLemmas.{quad-inside}
use Rattle.sheet_maker.proofs.GridLemmas.{cell-of, each-face, points-length}
use Rattle.sheet_maker.proofs.QuadLemmas.{quad-simple, side-owner}
use Rattle.sheet_maker.proofs.OnceLemmas.{HasOneOwner, owner-count}
use Rattle.sheet_maker.proofs.SheetFanLemmas.{sheet-fans}

-- no two faces share a side: the side gives the row and the column
one-owner : (size : ℕ) (s : ℕ × ℕ) → 0 < size → HasOneOwner (sheet_faces size) s
one-owner size s some f g h k =
    let at_f = cell-of size f (corner-place (sheet_faces size) f s.0 (side-start (polygon_at (sheet_faces size) f) s h)) in
    let at_g = cell-of size g (corner-place (sheet_faces size) g s.0 (side-start (polygon_at (sheet_faces size) g) s k)) in
    let same = side-owner size at_f.row at_f.column at_g.row at_g.column s some at_f.column_inside at_g.column_inside (ap (has_side s) (sym (at_f.quad [])) ∙ h) (ap (has_side s) (sym (at_g.quad [])) ∙ k) in
    sym at_f.is ∙ ap (λ (n : ℕ). n * size + at_f.column) same.0 ∙ ap (λ (n : ℕ). at_g.row * size + n) same.1 ∙ at_g.is

-- the sheet is a manifold over its points
pub sheet-manifold : (size : ℕ) → 0 < size → IsManifold ((size + 1) * (size + 1)) (sheet_faces size)
sheet-manifold size some =
    let simple = each-face (λ polygon. IsTrue (is_simple polygon)) size (λ i j _ _. quad-simple size i j some) in
    record {
      simple = simple;
      sides_once = distinct-from_count (all_sides (sheet_faces size)) (λ s. owner-count s (sheet_faces size) (list_all-from_AllPass is_simple (sheet_faces size) simple) (one-owner size s some));
      fans = λ v h. sheet-fans size v some h;
    }

-- the mesh made from a seed is a manifold
pub generated-manifold : (seed size : ℕ) → 0 < size → IsManifold (length (generated_mesh seed size).points) (generated_mesh seed size).faces
generated-manifold seed size some = subst (λ (n : ℕ). IsManifold n (sheet_faces size)) (sym (points-length size (draws_of seed size))) (sheet-manifold size some)

-- the mesh checks find no fault in it
pub generated-fine : (seed size : ℕ) → 0 < size → first_mesh_fault (length (generated_mesh seed size).points) (generated_mesh seed size).faces ≡ None
generated-fine seed size some =
    let points : ℕ = length (generated_mesh seed size).points in
    (fault-decides points (sheet_faces size)).1 ((manifold-decides points (sheet_faces size)).1 (generated-manifold seed size some))

-- its faces have their corners at its points
below : (v n : ℕ) → v < n → nat_lt v n ≡ true
below v n h = grind (arith, nat_tests)

sheet-over : (size : ℕ) → is_over (point_count size) (sheet_faces size) ≡ true
sheet-over size =
    list_all-from_AllPass (list_all (λ v. nat_lt v (point_count size))) (sheet_faces size)
    (each-face (λ face. IsTrue (list_all (λ v. nat_lt v (point_count size)) face)) size
    (λ i j row column. list_all-from_AllPass (λ v. nat_lt v (point_count size)) (sheet_quad size i j) (λ k d h. below _ (point_count size) (quad-inside size i j row column k d h))))

pub generated-over : (seed size : ℕ) → is_over (length (generated_mesh seed size).points) (generated_mesh seed size).faces ≡ true
generated-over seed size = subst (λ (n : ℕ). is_over n (sheet_faces size) ≡ true) (sym (points-length size (draws_of seed size))) (sheet-over size)
