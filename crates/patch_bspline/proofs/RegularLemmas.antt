-- Regular points, edges and faces, from the elements around a point.
use Rattle.std.proofs.Common.{◌≡◌, ℕ, ◌<◌, ◌≤◌, Bool, true, false, not, ◌&&◌, ◌||◌, nat_eq, List, [], ◌∷◌, length, take, get_or, arith, refl, ap, sym, ◌∙◌}
use Rattle.std.specs.List.{list_all, list_any}
use Rattle.std.specs.List.Sorted.{IsPermutation}
use Rattle.std.proofs.lemmas.Bool.Decides.{nat_tests}
use Rattle.std.proofs.lemmas.List.{take_all}
use Rattle.std.proofs.lemmas.List.Folds.{list_all_at}
use Rattle.std.proofs.lemmas.List.Sums.{list_all-from_AllPass}
use Rattle.std.proofs.lemmas.List.Sorted.{All-permutation, IsPermutation-sym}
use Rattle.subdiv_model.specs.Level.{Level, edges_at, faces_at, vertex_sharpness_of}
use Rattle.subdiv_model.specs.Edges.{is_boundary}
use Rattle.subdiv_model.specs.Sharpness.{is_sharp}
use Rattle.subdiv_model.specs.Feature.{is_at_boundary, is_sharp_inside}
use Rattle.subdiv_model.specs.Patch.{is_quad, is_regular_in_quads}
use Rattle.mesh_laws.proofs.ClosedLemmas.{all-at}
use Rattle.mesh_laws.proofs.WalkLemmas.{same-tests}
use Rattle.level_topology.specs.Topology.{Topology, IsTopology}
use Rattle.level_topology.proofs.FactLemmas.{faces-listed}
use Rattle.level_topology.proofs.LawLemmas.{faces-each}
use Rattle.patch_bspline.specs.Around.{is_marked}

-- an item passes one of two tests exactly if it passes the first or the second
any-either : {X : Type 0} (one other : X → Bool) (xs : List X) → list_any (λ x. one x || other x) xs ≡ (list_any one xs || list_any other xs)
any-either one other [] = refl
any-either one other (x ∷ xs) = let behind = any-either one other xs in grind (arith, nat_tests)

all-permuted : {X : Type 0} (test : X → Bool) (xs ys : List X) → IsPermutation xs ys → list_all test xs ≡ list_all test ys
all-permuted test xs ys moved =
    same-tests _ _
    (λ h. list_all-from_AllPass test ys (All-permutation (λ x. test x ≡ true) xs ys moved (λ k d inside. all-at test xs k d inside h)))
    (λ h. list_all-from_AllPass test xs (All-permutation (λ x. test x ≡ true) ys xs (IsPermutation-sym xs ys moved) (λ k d inside. all-at test ys k d inside h)))

-- regular by its sharpness, its edges and its faces
module _ (level : Level) (v : ℕ) where
  abbrev has-quads : Bool
  has-quads = nat_eq (length (faces_at level v)) 4 && list_all (is_quad level) (faces_at level v)

  parts : (boundary four all sharp crease marked : Bool) → marked ≡ (boundary || crease)
      → (not boundary && four && all && (not sharp && not crease)) ≡ (not sharp && (not marked && (four && all)))
  parts boundary four all sharp crease marked m = grind (arith, nat_tests)

  by-parts : is_regular_in_quads level v ≡ (not (is_sharp (vertex_sharpness_of level v)) && (not (list_any (is_marked level) (edges_at level v)) && has-quads))
  by-parts =
      parts (is_at_boundary level v) (nat_eq (length (faces_at level v)) 4) (list_all (is_quad level) (faces_at level v))
      (is_sharp (vertex_sharpness_of level v)) (list_any (is_sharp_inside level) (edges_at level v)) (list_any (is_marked level) (edges_at level v))
      (any-either (is_boundary level.polygons) (is_sharp_inside level) (edges_at level v))

  pub not-where-sharp : is_sharp (vertex_sharpness_of level v) ≡ true → false ≡ is_regular_in_quads level v
  not-where-sharp h = sym (by-parts ∙ ap (λ b. not b && (not (list_any (is_marked level) (edges_at level v)) && has-quads)) h)

  pub not-where-marked : list_any (is_marked level) (edges_at level v) ≡ true → false ≡ is_regular_in_quads level v
  not-where-marked h =
      sym (by-parts ∙ ap (λ b. not (is_sharp (vertex_sharpness_of level v)) && (not b && has-quads)) h ∙ never (not (is_sharp (vertex_sharpness_of level v))))
    where
      never : (b : Bool) → (b && false) ≡ false
      never true = refl
      never false = refl

  pub regular-elsewhere : is_sharp (vertex_sharpness_of level v) ≡ false → list_any (is_marked level) (edges_at level v) ≡ false
      → has-quads ≡ is_regular_in_quads level v
  regular-elsewhere s m =
      sym (by-parts ∙ ap (λ b. not b && (not (list_any (is_marked level) (edges_at level v)) && has-quads)) s ∙ ap (λ b. not b && has-quads) m)

module _ (t : Topology) (v : ℕ) (is : IsTopology t) (inside : v < t.level.point_count) (faces : List ℕ) (e : faces ≡ get_or t.faces_at v []) (i : ℕ) where
  pub face-exists : i < length faces → get_or faces i 0 < length t.level.polygons
  face-exists h = rw e (faces-each t v i is inside (omega (arith, ap length e))).exists

  listed-quads : list_all (is_quad t.level) faces ≡ list_all (is_quad t.level) (faces_at t.level v)
  listed-quads =
      ap (list_all (is_quad t.level)) e
      ∙ sym (all-permuted (is_quad t.level) (faces_at t.level v) (get_or t.faces_at v []) (is.listed v inside).faces)

  -- a face that is not a quad
  pub no-quad : i < length faces → is_quad t.level (get_or faces i 0) ≡ false
      → false ≡ (nat_eq (length (faces_at t.level v)) 4 && list_all (is_quad t.level) (faces_at t.level v))
  no-quad h other =
      let none : list_all (is_quad t.level) (faces_at t.level v) ≡ false = sym listed-quads ∙ list_all_at (is_quad t.level) faces i 0 h other in
      nowhere _ _ none
    where
      nowhere : (four all : Bool) → all ≡ false → false ≡ (four && all)
      nowhere four all h = grind (arith, nat_tests)

  -- all faces are quads
  pub all-quads : length faces ≤ i → list_all (is_quad t.level) (take i faces) ≡ true
      → nat_eq (length faces) 4 ≡ (nat_eq (length (faces_at t.level v)) 4 && list_all (is_quad t.level) (faces_at t.level v))
  all-quads past so-far =
      let all : list_all (is_quad t.level) (faces_at t.level v) ≡ true =
      sym listed-quads ∙ ap (list_all (is_quad t.level)) (sym (take_all i faces past)) ∙ so-far in
      ap (λ n. nat_eq n 4) (ap length e ∙ faces-listed t is v inside) ∙ with-all _ _ all
    where
      with-all : (four all : Bool) → all ≡ true → four ≡ (four && all)
      with-all four all h = grind (arith, nat_tests)
