-- The next level of a cut level is a cut of the next level of the base.
use Rattle.std.proofs.Common.{◌≡◌, ℕ, zero, suc, ◌+◌, ◌-◌, ◌<◌, ◌≤◌, true, false, nat_lt, List, [], ◌∷◌, ◌++◌, length, map, get_or, arith, refl, ap, sym, ◌∙◌, if◌then◌else◌}
use Rattle.std.specs.List.{list_all, list_any}
use Rattle.std.proofs.lemmas.Bool.{and_parts, lt-ltb, le-ltb}
use Rattle.std.proofs.lemmas.List.{length-map, map-append}
use Rattle.std.proofs.lemmas.List.Folds.{list_all-append}
use Rattle.subdiv_model.specs.Lists.{last_of}
use Rattle.subdiv_model.specs.Polygons.{Polygon, same_edge, sides_back_to, sides_of}
use Rattle.subdiv_model.specs.Edges.{all_sides, edges_of, edge_number}
use Rattle.subdiv_model.specs.Level.{Level}
use Rattle.subdiv_model.specs.ObjMesh.{ObjMesh}
use Rattle.subdiv_model.specs.Base.{base_level}
use Rattle.subdiv_model.specs.Child.{face_point, edge_point, child_face, child_faces, child_faces_along, child_level, refined_level}
use Rattle.subdiv_model.specs.Cut.{SeamMode, cut_level}
use Rattle.mesh_laws.proofs.EdgeLemmas.{position-alike}
use Rattle.mesh_laws.proofs.ChildLemmas.{children_from}
use Rattle.mesh_laws.proofs.ChildCountLemmas.{is_inside, is_named}
use Rattle.mesh_laws.proofs.ChildFaceLemmas.{is_sound, sound-sides, last-all}
use Rattle.mesh_laws.proofs.ChildOverLemmas.{child-over-points}
use Rattle.texture_laws.specs.CutMesh.{vertex_of}
use Rattle.texture_laws.proofs.ChannelLemmas.{cut-over, cut-whole}
use Rattle.part_laws.specs.Parts.{renamed}
use Rattle.part_laws.specs.Children.{edge_at}
use Rattle.part_laws.proofs.RenamedLemmas.{sides-renamed}
use Rattle.part_laws.proofs.NameLemmas.{edge-there, same-renamed}
use Rattle.sparse_texture_laws.specs.Cut.{HaveSameFaces, IsCutOf}
use Rattle.sparse_texture_laws.proofs.FaceLemmas.{next-same}

last-mapped : {X Y : Type 0} (f : X → Y) (x : X) (xs : List X) → last_of (f x) (map f xs) ≡ f (last_of x xs)
last-mapped f x [] = refl
last-mapped f x (y ∷ xs) = last-mapped f y xs

sizes-named : (name : ℕ → ℕ) (polygons : List Polygon) → map length polygons ≡ map length (map (map name) polygons)
sizes-named name [] = refl
sizes-named name (polygon ∷ polygons) =
    ap (λ n. n ∷ map length polygons) (sym (length-map polygon name)) ∙ ap (λ l. length (map name polygon) ∷ l) (sizes-named name polygons)

-- a cut level has the same faces
pub cut-faces : (name : ℕ → ℕ) (base cut : Level) → IsCutOf name base cut → HaveSameFaces base cut
cut-faces name base cut is = record {
  sizes = sizes-named name cut.polygons ∙ ap (map length) is.faces;
  holes = is.holes;
}

-- the name of a point of the next level: that of the point, or the new point of its face or of its edge
abbrev pub next_name : (ℕ → ℕ) → Level → Level → ℕ → ℕ
next_name name base cut n =
    if nat_lt n cut.point_count then name n
    else if nat_lt n (cut.point_count + length cut.polygons) then face_point base.point_count (n - cut.point_count)
    else edge_point base.point_count base.polygons (renamed name (edge_at cut.polygons (n - (cut.point_count + length cut.polygons))))

module _ (name : ℕ → ℕ) (base cut : Level) where
  name-old : (n : ℕ) → nat_lt n cut.point_count ≡ true → next_name name base cut n ≡ name n
  name-old n below = rw below refl

  name-face : (k : ℕ) → k < length cut.polygons → next_name name base cut (face_point cut.point_count k) ≡ face_point base.point_count k
  name-face k h =
      let one : nat_lt (cut.point_count + k) cut.point_count ≡ false = le-ltb _ _ (omega arith) in
      let two : nat_lt (cut.point_count + k) (cut.point_count + length cut.polygons) ≡ true = lt-ltb _ _ (omega (arith, h)) in
      let back : cut.point_count + k - cut.point_count ≡ k = omega arith in
      rw (one, two, back) refl

  name-edge : (edge : ℕ × ℕ) → list_any (same_edge edge) (edges_of cut.polygons) ≡ true → next_name name base cut (edge_point cut.point_count cut.polygons edge) ≡ edge_point base.point_count base.polygons (renamed name edge)
  name-edge edge h =
      let n = edge_number cut.polygons edge in
      let all = cut.point_count + length cut.polygons in
      let one : nat_lt (all + n) cut.point_count ≡ false = le-ltb _ _ (omega arith) in
      let two : nat_lt (all + n) all ≡ false = le-ltb _ _ (omega arith) in
      let back : all + n - all ≡ n = omega arith in
      let same = same-renamed name edge (edge_at cut.polygons n) (edge-there cut.polygons edge h) in
      rw (one, two) (ap (λ m. edge_point base.point_count base.polygons (renamed name (edge_at cut.polygons m))) back
      ∙ ap (λ m. base.point_count + length base.polygons + m) (sym (position-alike (renamed name edge) (renamed name (edge_at cut.polygons n)) (edges_of base.polygons) same)))

  quad-named : (k : ℕ) (before after : ℕ × ℕ) → k < length cut.polygons → is_sound cut.point_count cut.polygons before ≡ true → is_sound cut.point_count cut.polygons after ≡ true → map (next_name name base cut) (child_face cut.point_count cut.polygons k before after) ≡ child_face base.point_count base.polygons k (renamed name before) (renamed name after)
  quad-named k before after inside b a =
      let bs = and_parts (is_named cut.point_count cut.polygons before) (is_inside cut.point_count before) b in
      let sides = and_parts (is_named cut.point_count cut.polygons after) (is_inside cut.point_count after) a in
      let one = name-old after.0 (and_parts (nat_lt after.0 cut.point_count) (nat_lt after.1 cut.point_count) sides.1).0 in
      let two = name-edge after sides.0 in
      let three = name-face k inside in
      let four = name-edge before bs.0 in
      rw (one, two, three, four) refl

  along-named : (k : ℕ) (before : ℕ × ℕ) (sides : List (ℕ × ℕ)) → k < length cut.polygons → is_sound cut.point_count cut.polygons before ≡ true → list_all (is_sound cut.point_count cut.polygons) sides ≡ true → map (map (next_name name base cut)) (child_faces_along cut.point_count cut.polygons k before sides) ≡ child_faces_along base.point_count base.polygons k (renamed name before) (map (renamed name) sides)
  along-named k before [] inside b all = refl
  along-named k before (side ∷ sides) inside b all =
      let parts = and_parts (is_sound cut.point_count cut.polygons side) (list_all (is_sound cut.point_count cut.polygons) sides) all in
      let here = quad-named k before side inside b parts.0 in
      let rest = along-named k side sides inside parts.0 parts.1 in
      rw (here, rest) refl

  face-named : (k : ℕ) (polygon : Polygon) → k < length cut.polygons → list_all (is_sound cut.point_count cut.polygons) (sides_of polygon) ≡ true → map (map (next_name name base cut)) (child_faces cut.point_count cut.polygons k polygon) ≡ child_faces base.point_count base.polygons k (map name polygon)
  face-named k [] inside all = refl
  face-named k (v ∷ rest) inside all =
      let sides = sides_of (v ∷ rest) in
      let first : ℕ × ℕ = (v, get_or rest 0 v) in
      let more = sides_back_to v rest in
      let along : List (ℕ × ℕ) → List Polygon = λ some. child_faces_along base.point_count base.polygons k (last_of (0, 0) some) some in
      along-named k (last_of (0, 0) sides) sides inside (last-all (is_sound cut.point_count cut.polygons) first more all) all
      ∙ ap (λ s. child_faces_along base.point_count base.polygons k s (map (renamed name) sides)) (sym (last-mapped (renamed name) first more))
      ∙ ap along (sym (sides-renamed name (v ∷ rest)))

  children-named : (place : ℕ) (some : List Polygon) → place + length some ≤ length cut.polygons → list_all (is_sound cut.point_count cut.polygons) (all_sides some) ≡ true → map (map (next_name name base cut)) (children_from cut.point_count cut.polygons place some) ≡ children_from base.point_count base.polygons place (map (map name) some)
  children-named place [] within all = refl
  children-named place (polygon ∷ some) within all =
      let sound = is_sound cut.point_count cut.polygons in
      let parts = and_parts (list_all sound (sides_of polygon)) (list_all sound (all_sides some)) (sym (list_all-append sound (sides_of polygon) (all_sides some)) ∙ all) in
      map-append (map (next_name name base cut)) (child_faces cut.point_count cut.polygons place polygon) (children_from cut.point_count cut.polygons (place + 1) some)
      ∙ ap (λ l. l ++ map (map (next_name name base cut)) (children_from cut.point_count cut.polygons (place + 1) some)) (face-named place polygon (omega arith) parts.0)
      ∙ ap (λ l. child_faces base.point_count base.polygons place (map name polygon) ++ l) (children-named (place + 1) some (omega arith) parts.1)

-- the next level of a cut level is a cut of the next level of the base
pub cut-next : (name : ℕ → ℕ) (base cut : Level) → IsCutOf name base cut → IsCutOf (next_name name base cut) (child_level base) (child_level cut)
cut-next name base cut is = record {
  over = child-over-points cut.point_count cut.polygons is.over;
  faces =
      children-named name base cut 0 cut.polygons (omega arith) (sound-sides cut.point_count cut.polygons is.over)
      ∙ ap (children_from base.point_count base.polygons 0) is.faces;
  holes = (next-same base cut (cut-faces name base cut is)).holes;
}

-- each level after a cut is a cut
pub cut-after : (name : ℕ → ℕ) (base cut : Level) → IsCutOf name base cut → (k : ℕ) → (names : ℕ → ℕ) × IsCutOf names (refined_level base k) (refined_level cut k)
cut-after name base cut is zero = (name, is)
cut-after name base cut is (suc k) =
    let before = cut-after name base cut is k in
    (next_name before.0 (refined_level base k) (refined_level cut k), cut-next before.0 (refined_level base k) (refined_level cut k) before.1)

-- the cut mesh of a mesh is a cut of the mesh
pub mesh-cut : (mode : SeamMode) (mesh : ObjMesh) → IsCutOf (vertex_of mesh) (base_level mesh) (cut_level mode mesh)
mesh-cut mode mesh = record { over = cut-over mesh; faces = cut-whole mesh; holes = refl }

pub mesh-same : (mode : SeamMode) (mesh : ObjMesh) → HaveSameFaces (base_level mesh) (cut_level mode mesh)
mesh-same mode mesh = cut-faces (vertex_of mesh) (base_level mesh) (cut_level mode mesh) (mesh-cut mode mesh)
