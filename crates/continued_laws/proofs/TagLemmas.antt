-- Level 0 of a mesh that has the tags of a level is the level.
use Rattle.std.proofs.Common.{◌≡◌, ℕ, zero, suc, ◌<◌, ◌≤◌, Bool, true, false, not, ◌&&◌, ◌||◌, nat_eq, List, [], ◌∷◌, length, map, get_or, arith, refl, ap, sym, ◌∙◌, if◌then◌else◌}
use Rattle.std.proofs.Math.Bool.{or-false}
use Rattle.std.specs.List.{filter, list_any, count_by, position_or_len, range_with_len, enumerate_from}
use Rattle.std.proofs.lemmas.Bool.Decides.{nat_tests}
use Rattle.std.proofs.lemmas.Bool.{and_parts, eq-eqb, eqb-true, false≢true, false_from_ne_true}
use Rattle.std.proofs.lemmas.List.{ext_get_or, get_or-map, length-map}
use Rattle.std.proofs.lemmas.List.Folds.{list_any_at}
use Rattle.std.proofs.lemmas.List.FromFn.{get_or-range_with_len, get_or-map-range_with_len, length-range_with_len, length-map-range_with_len}
use Rattle.std.proofs.lemmas.List.Sums.{position_or_len_is}
use Rattle.subdiv_model.specs.Lists.{last_of}
use Rattle.subdiv_model.specs.Polygons.{Polygon, same_edge, is_among}
use Rattle.subdiv_model.specs.Edges.{all_sides, edges_of, first_named, faces_of_edge, is_boundary}
use Rattle.subdiv_model.specs.Sharpness.{Sharpness, Smooth, Semi, Infinite, Method, is_sharp}
use Rattle.subdiv_model.specs.ObjMesh.{ObjMesh}
use Rattle.subdiv_model.specs.Level.{Level, edge_sharpness_of, vertex_sharpness_of, is_hole}
use Rattle.subdiv_model.specs.Base.{tagged_edge, base_edge_sharpness, base_vertex_sharpness, is_base_hole, base_level}
use Rattle.subdiv_model.specs.Text.{is_written_crease}
use Rattle.number_laws.proofs.CountLemmas.{count-cons, count-some, one-yes}
use Rattle.number_laws.proofs.ListLemmas.{any-both}
use Rattle.mesh_laws.proofs.ClosedLemmas.{all-at}
use Rattle.mesh_laws.proofs.ChildClosedLemmas.{numbered-length}
use Rattle.mesh_laws.proofs.EdgeLemmas.{first_named-once, position-alike}
use Rattle.mesh_laws.proofs.Laws.{manifold-edges}
use Rattle.mesh_laws.proofs.SideLemmas.{same_edge-refl}
use Rattle.level_laws.proofs.NumberedLemmas.{numbered-at}
use Rattle.subdiv_model.specs.Feature.{is_infinite}
use Rattle.mask_laws.specs.Laws.{IsManifoldWithSharpBoundary}
use Rattle.mask_laws.proofs.BoundaryLemmas.{is-infinite}
use Rattle.continued_laws.specs.Laws.{written_creases, HasTagsOf}

-- The last tag that names an item, where each tag gives one sharpness.

module _ {X : Type 0} (names keep : X → Bool) (value : X → Sharpness) (s : Sharpness) (same : (x : X) → names x ≡ true → value x ≡ s) where
  abbrev last-tag : Sharpness → List X → Sharpness
  last-tag d xs =
      last_of d (map (λ (tag : X × Sharpness). tag.1) (filter (λ (tag : X × Sharpness). names tag.0) (map (λ x. (x, value x)) (filter keep xs))))

  -- the last is s where s is given
  stays : (d : Sharpness) → d ≡ s → (xs : List X) → last-tag d xs ≡ s
  stays d is [] = is
  stays d is (x ∷ xs) = here (keep x) (names x) refl refl (stays d is xs) (λ (yes : value x ≡ s). stays (value x) yes xs)
    where
      here : (k n : Bool) → keep x ≡ k → names x ≡ n → last-tag d xs ≡ s → (value x ≡ s → last-tag (value x) xs ≡ s)
          → last-tag d (x ∷ xs) ≡ s
      here false n kept named after from = rw kept after
      here true false kept named after from = rw (kept, named) after
      here true true kept named after from = rw (kept, named) (from (same x named))

  -- the last is s where a tag of the list names the item
  found : (d : Sharpness) (xs : List X) → list_any (λ x. keep x && names x) xs ≡ true → last-tag d xs ≡ s
  found d [] h = absurd (false≢true h)
  found d (x ∷ xs) h = here (keep x) (names x) refl refl (λ more. found d xs more) (λ (yes : value x ≡ s). stays (value x) yes xs)
    where
      here : (k n : Bool) → keep x ≡ k → names x ≡ n → (list_any (λ y. keep y && names y) xs ≡ true → last-tag d xs ≡ s)
          → (value x ≡ s → last-tag (value x) xs ≡ s) → last-tag d (x ∷ xs) ≡ s
      here false n kept named after from =
          let more : list_any (λ y. keep y && names y) xs ≡ true = grind (arith, nat_tests) in rw kept (after more)
      here true false kept named after from =
          let more : list_any (λ y. keep y && names y) xs ≡ true = grind (arith, nat_tests) in rw (kept, named) (after more)
      here true true kept named after from = rw (kept, named) (from (same x named))

  -- the last is s where an item of the list has s, names itself, and is kept if s is sharp
  pub last-own : (xs : List X) (i : ℕ) (d : X) → i < length xs → names (get_or xs i d) ≡ true → value (get_or xs i d) ≡ s
      → (is_sharp s ≡ true → keep (get_or xs i d) ≡ true) → last-tag Smooth xs ≡ s
  last-own xs i d inside named own kept = here s refl
    where
      there : keep (get_or xs i d) ≡ true → list_any (λ x. keep x && names x) xs ≡ true
      there k = list_any_at (λ x. keep x && names x) xs i d inside (rw (k, named) refl)

      here : (t : Sharpness) → s ≡ t → last-tag Smooth xs ≡ s
      here Smooth is = stays Smooth (sym is) xs
      here (Semi num den) is = found Smooth xs (there (kept (ap is_sharp is)))
      here Infinite is = found Smooth xs (there (kept (ap is_sharp is)))

-- The items of a list, read by number.

-- where at most one item passes, no item before it does
only-one : {X : Type 0} (test : X → Bool) (xs : List X) (k i : ℕ) (d : X) → count_by test xs ≤ 1 → k < i → i < length xs
    → test (get_or xs i d) ≡ true → test (get_or xs k d) ≡ false
only-one test [] k i d few before inside at = absurd (omega arith)
only-one test (x ∷ xs) k zero d few before inside at = absurd (omega arith)
only-one test (x ∷ xs) zero (suc i) d few before inside at =
    let some = count-some test xs (list_any_at test xs i d (omega arith) at) in
    false_from_ne_true (test x) (λ yes. absurd (omega (arith, few, some, count-cons test x xs, one-yes (test x) yes)))
only-one test (x ∷ xs) (suc k) (suc i) d few before inside at =
    only-one test xs k i d (omega (arith, few, count-cons test x xs)) (omega arith) (omega arith) at

-- the edge at a place has it as its number
edge-number : (sides : List (ℕ × ℕ)) (i : ℕ) (d : ℕ × ℕ) → i < length (first_named sides)
    → position_or_len (same_edge (get_or (first_named sides) i d)) (first_named sides) ≡ i
edge-number sides i d inside =
    let edges = first_named sides in
    let edge = get_or edges i d in
    position_or_len_is (same_edge edge) edges i d (omega arith)
    (λ k before. only-one (same_edge edge) edges k i d (first_named-once edge sides) before inside (same_edge-refl edge))
    (λ _. same_edge-refl edge)

-- a number is among those that are kept exactly where it is kept
among-kept : (keep : ℕ → Bool) (n v : ℕ) → v < n → is_among (filter keep (range_with_len 0 n)) v ≡ keep v
among-kept keep n v inside = any-both keep (nat_eq v) numbers ∙ here (keep v) refl
  where
    numbers : List ℕ
    numbers = range_with_len 0 n

    none : keep v ≡ false → (x : ℕ) → (keep x && nat_eq v x) ≡ false
    none unkept x = false_from_ne_true _ (λ yes.
        let parts = and_parts (keep x) (nat_eq v x) yes in
        false≢true (sym unkept ∙ ap keep (eqb-true v x parts.1) ∙ parts.0))

    here : (k : Bool) → keep v ≡ k → list_any (λ x. keep x && nat_eq v x) numbers ≡ keep v
    here true is =
        let at : get_or numbers v 0 ≡ v = get_or-range_with_len 0 n v 0 inside ∙ omega arith in
        list_any_at (λ x. keep x && nat_eq v x) numbers v 0 (rw (length-range_with_len 0 n) inside)
        (rw at (rw (is, eq-eqb v v refl) refl))
        ∙ sym is
    here false is = nothing numbers ∙ sym is
      where
        nothing : (xs : List ℕ) → list_any (λ x. keep x && nat_eq v x) xs ≡ false
        nothing [] = refl
        nothing (x ∷ xs) = rw (none is x) (nothing xs)

-- Level 0, list by list.

abbrev level_of_parts : ℕ → List Polygon → List Bool → List Sharpness → List Sharpness → Method → Level
level_of_parts points polygons holes edges vertices method = record {
  point_count = points;
  polygons = polygons;
  holes = holes;
  edge_sharpness = edges;
  vertex_sharpness = vertices;
  method = method;
}

same-parts : {n m : ℕ} {fs gs : List Polygon} {hs is : List Bool} {es ds vs ws : List Sharpness} {a b : Method}
    → n ≡ m → fs ≡ gs → hs ≡ is → es ≡ ds → vs ≡ ws → a ≡ b → level_of_parts n fs hs es vs a ≡ level_of_parts m gs is ds ws b
same-parts one two three four five six = rw (one, two, three, four, five, six) refl

six-parts : (a b c d e f : Bool) → (a && b && c && d && e && f) ≡ true → (b ≡ true) × (c ≡ true) × (d ≡ true)
six-parts a b c d e f h = (grind (arith, nat_tests), grind (arith, nat_tests), grind (arith, nat_tests))

module _ (level : Level) (mesh : ObjMesh) (is : IsManifoldWithSharpBoundary level) (has : HasTagsOf level mesh) where
  abbrev edges : List (ℕ × ℕ)
  edges = edges_of level.polygons

  counts : (nat_eq (length level.holes) (length level.polygons) ≡ true)
      × (nat_eq (length level.edge_sharpness) (length edges) ≡ true) × (nat_eq (length level.vertex_sharpness) level.point_count ≡ true)
  counts = six-parts _ _ _ _ _ _ is.formed

  hole-marks : length level.holes ≡ length level.polygons
  hole-marks = eqb-true _ _ counts.0

  edge-marks : length level.edge_sharpness ≡ length edges
  edge-marks = eqb-true _ _ counts.1

  vertex-marks : length level.vertex_sharpness ≡ level.point_count
  vertex-marks = eqb-true _ _ counts.2

  hole-again : (f : ℕ) → f < length level.polygons → is_base_hole mesh (f, get_or level.polygons f []) ≡ is_hole level f
  hole-again f inside =
      rw (has.boundary, has.holes) (ap (λ b. b || false) (among-kept (is_hole level) (length level.polygons) f inside) ∙ or-false (is_hole level f))

  holes-again : map (is_base_hole mesh) (enumerate_from 0 mesh.faces) ≡ level.holes
  holes-again =
      ap (λ faces. map (is_base_hole mesh) (enumerate_from 0 faces)) has.faces
      ∙ ext_get_or false _ level.holes (count ∙ sym hole-marks) (λ f below.
      let inside : f < length level.polygons = omega (arith, below, count) in
      get_or-map (is_base_hole mesh) (enumerate_from 0 level.polygons) f (0, []) false (omega (arith, inside, numbered-length 0 level.polygons))
      ∙ ap (is_base_hole mesh) (numbered-at level.polygons f inside)
      ∙ hole-again f inside)
    where
      count : length (map (is_base_hole mesh) (enumerate_from 0 level.polygons)) ≡ length level.polygons
      count = length-map (enumerate_from 0 level.polygons) (is_base_hole mesh) ∙ numbered-length 0 level.polygons

  -- an edge of one face is infinitely sharp, and any other has two faces
  edge-again : (i : ℕ) → i < length edges → base_edge_sharpness mesh (get_or edges i (0, 0)) ≡ edge_sharpness_of level (get_or edges i (0, 0))
  edge-again i inside = rw (has.faces, has.creases) (here (is_boundary level.polygons edge) refl)
    where
      edge : ℕ × ℕ
      edge = get_or edges i (0, 0)

      two : is_boundary level.polygons edge ≡ false → nat_eq (length (faces_of_edge level.polygons edge)) 2 ≡ true
      two inner =
          let some = manifold-edges level.point_count level.polygons is.manifold i (0, 0) inside in
          let low = some.0 in
          let high = some.1 in
          grind (arith, nat_tests)

      here : (b : Bool) → is_boundary level.polygons edge ≡ b
          → (if is_boundary level.polygons edge then Infinite else tagged_edge (written_creases level) edge) ≡ edge_sharpness_of level edge
      here true on_boundary =
          let sharp =
          all-at (λ e. not (is_boundary level.polygons e) || is_infinite (edge_sharpness_of level e)) edges i (0, 0) inside is.sharp_boundary in
          rw on_boundary (sym (is-infinite (edge_sharpness_of level edge) (taken (is_boundary level.polygons edge) _ on_boundary sharp)))
        where
          taken : (b c : Bool) → b ≡ true → (not b || c) ≡ true → c ≡ true
          taken b c h k = grind (arith, nat_tests)
      here false inner =
          rw inner (last-own (same_edge edge) (is_written_crease level) (edge_sharpness_of level) (edge_sharpness_of level edge)
          (λ other same. ap (λ n. get_or level.edge_sharpness n Smooth) (sym (position-alike edge other edges same)))
          edges i (0, 0) inside (same_edge-refl edge) refl
          (λ sharp. rw (two inner, sharp) refl))

  edges-again : map (base_edge_sharpness mesh) (edges_of mesh.faces) ≡ level.edge_sharpness
  edges-again =
      ap (λ faces. map (base_edge_sharpness mesh) (edges_of faces)) has.faces
      ∙ ext_get_or Smooth _ level.edge_sharpness (count ∙ sym edge-marks) (λ i below.
      let inside : i < length edges = omega (arith, below, count) in
      get_or-map (base_edge_sharpness mesh) edges i (0, 0) Smooth inside
      ∙ edge-again i inside
      ∙ ap (λ n. get_or level.edge_sharpness n Smooth) (edge-number (all_sides level.polygons) i (0, 0) inside))
    where
      count : length (map (base_edge_sharpness mesh) edges) ≡ length edges
      count = length-map edges (base_edge_sharpness mesh)

  vertex-again : (v : ℕ) → v < level.point_count → base_vertex_sharpness mesh v ≡ vertex_sharpness_of level v
  vertex-again v inside =
      let numbers = range_with_len 0 level.point_count in
      let at : get_or numbers v 0 ≡ v = get_or-range_with_len 0 level.point_count v 0 inside ∙ omega arith in
      rw (has.boundary, has.corner_tags) (last-own (nat_eq v) (λ w. is_sharp (vertex_sharpness_of level w)) (vertex_sharpness_of level) (vertex_sharpness_of level v)
      (λ w same. ap (vertex_sharpness_of level) (sym (eqb-true v w same)))
      numbers v 0 (rw (length-range_with_len 0 level.point_count) inside) (rw at (eq-eqb v v refl)) (ap (vertex_sharpness_of level) at)
      (λ sharp. rw at sharp))

  vertices-again : map (base_vertex_sharpness mesh) (range_with_len 0 (length mesh.points)) ≡ level.vertex_sharpness
  vertices-again =
      ap (λ n. map (base_vertex_sharpness mesh) (range_with_len 0 n)) has.points
      ∙ ext_get_or Smooth _ level.vertex_sharpness (count ∙ sym vertex-marks) (λ v below.
      let inside : v < level.point_count = omega (arith, below, count) in
      get_or-map-range_with_len (base_vertex_sharpness mesh) 0 level.point_count v v Smooth inside (omega arith) ∙ vertex-again v inside)
    where
      count : length (map (base_vertex_sharpness mesh) (range_with_len 0 level.point_count)) ≡ level.point_count
      count = length-map-range_with_len (base_vertex_sharpness mesh) 0 level.point_count

  pub base-again : base_level mesh ≡ level
  base-again = same-parts has.points has.faces holes-again edges-again vertices-again has.method
