-- A face is a hole by the marks of faces and of points.
use Rattle.std.proofs.Common.{◌≡◌, ℕ, suc, ◌+◌, ◌<◌, ◌≤◌, Bool, true, false, ◌&&◌, ◌||◌, nat_eq, List, [], ◌∷◌, ◌++◌, length, map, drop, get_or, arith, refl, ap, sym, subst, ◌∙◌, Some, append_assoc, append-nil}
use Rattle.std.specs.List.{All, filter, find, list_any, slice_get, enumerate_from}
use Rattle.std.specs.Option.{is_some}
use Rattle.std.proofs.lemmas.Bool.Decides.{nat_tests}
use Rattle.std.proofs.lemmas.List.Folds.{list_any_none}
use Rattle.std.proofs.lemmas.Option.{get_or_from_slice_get, slice_get_within}
use Rattle.subdiv_model.specs.Lists.{first_of}
use Rattle.subdiv_model.specs.Polygons.{Polygon, same_edge, sides_of, has_edge, is_among}
use Rattle.subdiv_model.specs.Edges.{all_sides, first_named, is_boundary, has_end}
use Rattle.subdiv_model.specs.Boundary.{Boundary, Hidden, EdgeOnly, EdgeAndCorner}
use Rattle.subdiv_model.specs.Base.{is_at_boundary, is_hidden, is_base_hole}
use Rattle.subdiv_model.specs.ObjMesh.{ObjMesh}
use Rattle.raw_mesh.specs.Laws.{IsWithin}
use Rattle.number_laws.proofs.CountLemmas.{count-agree}
use Rattle.number_laws.proofs.ListLemmas.{any-both, places-from-length}
use Rattle.mesh_laws.proofs.SideLemmas.{same_edge-alike}
use Rattle.mesh_check.specs.Holes.{is_hiding}
use Rattle.mesh_check.proofs.PlaceLemmas.{drop-here, drop-all}
use Rattle.mesh_check.proofs.EdgeFaultLemmas.{first-edge}

-- tests that agree at each of a list pass it alike
any-agree : {X : Type 0} (p q : X → Bool) (xs : List X) → All (λ x. p x ≡ q x) xs → list_any p xs ≡ list_any q xs
any-agree p q [] agree = refl
any-agree p q (x ∷ xs) agree =
    let here : p x ≡ q x = agree 0 x (omega arith) in
    rw (here, any-agree p q xs (λ k d h. agree (suc k) d (omega (arith, h)))) refl

some-kept : {X : Type 0} (test : X → Bool) (xs : List X) → is_some (first_of (filter test xs)) ≡ list_any test xs
some-kept test [] = refl
some-kept test (x ∷ xs) = go (test x) refl (some-kept test xs)
  where
    go : (b : Bool) → test x ≡ b → is_some (first_of (filter test xs)) ≡ list_any test xs → is_some (first_of (filter test (x ∷ xs))) ≡ list_any test (x ∷ xs)
    go true e behind = rw e refl
    go false e behind = rw e behind

some-found : {X : Type 0} (test : X → Bool) (xs : List X) → is_some (find test xs) ≡ list_any test xs
some-found test [] = refl
some-found test (x ∷ xs) = go (test x) refl (some-found test xs)
  where
    go : (b : Bool) → test x ≡ b → is_some (find test xs) ≡ list_any test xs → is_some (find test (x ∷ xs)) ≡ list_any test (x ∷ xs)
    go true e behind = rw e refl
    go false e behind = rw e behind

-- an edge passes exactly where a side does
any-named : (test : ℕ × ℕ → Bool) → ((s t : ℕ × ℕ) → same_edge s t ≡ true → test s ≡ test t) → (sides : List (ℕ × ℕ)) → list_any test (first_named sides) ≡ list_any test sides
any-named test alike sides = sym (some-kept test (first_named sides)) ∙ ap is_some (first-edge test alike sides) ∙ some-found test sides

-- in either direction an edge is of as many faces
boundary-same : (polygons : List Polygon) (s t : ℕ × ℕ) → same_edge s t ≡ true → is_boundary polygons s ≡ is_boundary polygons t
boundary-same polygons s t h =
    ap (λ n. nat_eq n 1)
    (places-from-length (has_edge s) 0 polygons
    ∙ count-agree (has_edge s) (has_edge t) (λ polygon. any-agree (same_edge s) (same_edge t) (sides_of polygon) (λ k d i. same_edge-alike s t (get_or (sides_of polygon) k d) h)) polygons
    ∙ sym (places-from-length (has_edge t) 0 polygons))

end-same : (v : ℕ) (s t : ℕ × ℕ) → same_edge s t ≡ true → has_end v s ≡ has_end v t
end-same v s t h = grind (arith, nat_tests)

-- a point is at the boundary exactly where a side there ends at it
at-boundary : (polygons : List Polygon) (v : ℕ) → list_any (has_end v) (filter (is_boundary polygons) (all_sides polygons)) ≡ is_at_boundary polygons v
at-boundary polygons v =
    any-both (is_boundary polygons) (has_end v) (all_sides polygons)
    ∙ sym (any-named (λ edge. is_boundary polygons edge && has_end v edge) (λ s t h. both s t (boundary-same polygons s t h) (end-same v s t h)) (all_sides polygons))
  where
    both : (s t : ℕ × ℕ) → is_boundary polygons s ≡ is_boundary polygons t → has_end v s ≡ has_end v t → (is_boundary polygons s && has_end v s) ≡ (is_boundary polygons t && has_end v t)
    both s t e f = rw (e, f) refl

-- a face is hidden exactly where a corner of it hides
hidden-by : (mode : Boundary) (polygons : List Polygon) (sides : List (ℕ × ℕ)) (face : Polygon) → sides ≡ filter (is_boundary polygons) (all_sides polygons) → list_any (is_hiding mode sides) face ≡ is_hidden mode polygons face
hidden-by Hidden polygons sides face is = any-agree (is_hiding Hidden sides) (is_at_boundary polygons) face (λ k d h. ap (list_any (has_end (get_or face k d))) is ∙ at-boundary polygons (get_or face k d))
hidden-by EdgeOnly polygons sides face is = list_any_none (is_hiding EdgeOnly sides) face (λ k d h. refl)
hidden-by EdgeAndCorner polygons sides face is = list_any_none (is_hiding EdgeAndCorner sides) face (λ k d h. refl)

-- a face is a hole by the marks of faces and of points
pub hole-is : (mesh : ObjMesh) (sides : List (ℕ × ℕ)) (named hiding tags : List ℕ) (f : ℕ) (face : Polygon) → IsWithin mesh → sides ≡ filter (is_boundary mesh.faces) (all_sides mesh.faces) → tags ≡ mesh.holes → ((j : ℕ) → j < length mesh.faces → nat_eq (get_or named j 0) 1 ≡ is_among tags j) → ((v : ℕ) → v < length mesh.points → nat_eq (get_or hiding v 0) 1 ≡ is_hiding mesh.boundary sides v) → slice_get mesh.faces f ≡ Some face → (nat_eq (get_or named f 0) 1 || list_any (λ v. nat_eq (get_or hiding v 0) 1) face) ≡ is_base_hole mesh (f, face)
hole-is mesh sides named hiding tags f face within is tagged names hides at =
    let inside : f < length mesh.faces = slice_get_within mesh.faces f face at in
    let corners : All (λ v. v < length mesh.points) face = subst (All (λ v. v < length mesh.points)) (get_or_from_slice_get mesh.faces f face face at) (within.faces f face inside) in
    let first : nat_eq (get_or named f 0) 1 ≡ is_among mesh.holes f = names f inside ∙ ap (λ ts. is_among ts f) tagged in
    let second : list_any (λ v. nat_eq (get_or hiding v 0) 1) face ≡ is_hidden mesh.boundary mesh.faces face =
    any-agree (λ v. nat_eq (get_or hiding v 0) 1) (is_hiding mesh.boundary sides) face (λ k d h. hides (get_or face k d) (corners k d h)) ∙ hidden-by mesh.boundary mesh.faces sides face is in
    rw (first, second) refl

abbrev holes_from : ObjMesh → ℕ → List Bool
holes_from mesh f = map (is_base_hole mesh) (enumerate_from f (drop f mesh.faces))

-- one face more
pub hole-next : (mesh : ObjMesh) (f : ℕ) (face : Polygon) (hole : Bool) (before after whole : List Bool) → slice_get mesh.faces f ≡ Some face → hole ≡ is_base_hole mesh (f, face) → after ≡ before ++ hole ∷ [] → before ++ holes_from mesh f ≡ whole → after ++ holes_from mesh (f + 1) ≡ whole
hole-next mesh f face hole before after whole at is pushed so_far =
    ap (λ hs. hs ++ holes_from mesh (f + 1)) pushed
    ∙ append_assoc before (hole ∷ []) (holes_from mesh (f + 1))
    ∙ ap (λ h. before ++ h ∷ holes_from mesh (f + 1)) is
    ∙ sym (ap (λ fs. before ++ map (is_base_hole mesh) (enumerate_from f fs)) (drop-here mesh.faces f face at))
    ∙ so_far

pub hole-end : (mesh : ObjMesh) (f : ℕ) (holes whole : List Bool) → length mesh.faces ≤ f → holes ++ holes_from mesh f ≡ whole → holes ≡ whole
hole-end mesh f holes whole h so_far = sym (append-nil holes) ∙ sym (ap (λ fs. holes ++ map (is_base_hole mesh) (enumerate_from f fs)) (drop-all mesh.faces f h)) ∙ so_far
