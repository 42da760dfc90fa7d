-- The sides of the child faces, counted: each side of a face gives four.
use Rattle.std.proofs.Common.{◌≡◌, ℕ, zero, suc, ◌+◌, ◌<◌, Bool, true, false, cond, nat_eq, List, [], ◌∷◌, length, get_or, arith, refl, ap, sym, ◌∙◌}
use Rattle.std.specs.List.{list_all, flat_map, sum_by, count_by, enumerate_from}
use Rattle.std.proofs.lemmas.Bool.Decides.{nat_tests}
use Rattle.std.proofs.lemmas.Bool.{and_parts}
use Rattle.std.proofs.lemmas.List.Sums.{sum_by-cons, sum_by-append}
use Rattle.std.proofs.lemmas.List.Concat.{flat_map-append}
use Rattle.std.proofs.lemmas.List.Folds.{list_all-append}
use Rattle.subdiv_model.specs.Polygons.{Polygon, sides_of, sides_back_to, polygon_at}
use Rattle.subdiv_model.specs.Edges.{all_sides}
use Rattle.subdiv_model.specs.Child.{edge_point, face_point, child_face, child_faces_along, child_faces}
use Rattle.subdiv_model.specs.Lists.{last_of}
use Rattle.number_laws.proofs.CountLemmas.{count-cons, count-append, one_if, sum-agree, sum-zero}

-- the sides of a child before the face point: from the start of a side of the face to its own point, and on
abbrev pub count_toward : ℕ → List Polygon → (ℕ × ℕ → Bool) → ℕ → ℕ × ℕ → ℕ
count_toward points polygons test face s =
    one_if (test (s.0, edge_point points polygons s)) + one_if (test (edge_point points polygons s, face_point points face))

-- the sides of a child after the face point: back to its own point, and on to the end of that side
abbrev pub count_away : ℕ → List Polygon → (ℕ × ℕ → Bool) → ℕ → ℕ × ℕ → ℕ
count_away points polygons test face s =
    one_if (test (face_point points face, edge_point points polygons s)) + one_if (test (edge_point points polygons s, s.1))

abbrev pub count_four : ℕ → List Polygon → (ℕ × ℕ → Bool) → ℕ → ℕ × ℕ → ℕ
count_four points polygons test face s = count_toward points polygons test face s + count_away points polygons test face s

-- the child faces of some faces, if the first has the number `place`
abbrev pub children_from : ℕ → List Polygon → ℕ → List Polygon → List Polygon
children_from points polygons place some = flat_map (λ face. child_faces points polygons face.0 face.1) (enumerate_from place some)

-- a sum over the sides of each face
abbrev pub nested_sum : (ℕ → ℕ × ℕ → ℕ) → ℕ → List Polygon → ℕ
nested_sum g place some = sum_by (λ face. sum_by (g face.0) (sides_of face.1)) (enumerate_from place some)

module _ (points : ℕ) (polygons : List Polygon) (test : ℕ × ℕ → Bool) where
  one-face : (face : ℕ) (before after : ℕ × ℕ) → before.1 ≡ after.0 → count_by test (sides_of (child_face points polygons face before after)) ≡ count_toward points polygons test face after + count_away points polygons test face before
  one-face face before after e =
      let e' : after.0 ≡ before.1 = sym e in
      let last : one_if (test (edge_point points polygons before, after.0)) ≡ one_if (test (edge_point points polygons before, before.1)) = ap (λ k. one_if (test (edge_point points polygons before, k))) e' in
      let c1 = count-cons test (after.0, edge_point points polygons after) ((edge_point points polygons after, face_point points face) ∷ (face_point points face, edge_point points polygons before) ∷ (edge_point points polygons before, after.0) ∷ []) in
      let c2 = count-cons test (edge_point points polygons after, face_point points face) ((face_point points face, edge_point points polygons before) ∷ (edge_point points polygons before, after.0) ∷ []) in
      let c3 = count-cons test (face_point points face, edge_point points polygons before) ((edge_point points polygons before, after.0) ∷ []) in
      let c4 = count-cons test (edge_point points polygons before, after.0) [] in
      let c5 : count_by test [] ≡ 0 = refl in
      omega (arith, last, c1, c2, c3, c4, c5)

  along-count : (face first : ℕ) (path : Polygon) (before : ℕ × ℕ) → before.1 ≡ get_or path 0 first → count_by test (all_sides (child_faces_along points polygons face before (sides_back_to first path))) + count_away points polygons test face (last_of before (sides_back_to first path)) ≡ sum_by (count_four points polygons test face) (sides_back_to first path) + count_away points polygons test face before
  along-count face first [] before e = refl
  along-count face first (v ∷ rest) before e =
      let side : ℕ × ℕ = (v, get_or rest 0 first) in
      let sides = sides_back_to first rest in
      let behind = along-count face first rest side refl in
      let here = one-face face before side e in
      let both = count-append test (sides_of (child_face points polygons face before side)) (all_sides (child_faces_along points polygons face side sides)) in
      let sums = sum_by-cons (count_four points polygons test face) side sides in
      omega (arith, behind, here, both, sums)

-- the last side of a polygon leads back to its first corner
pub last-end : (first v : ℕ) (rest : Polygon) (s : ℕ × ℕ) → (last_of s (sides_back_to first (v ∷ rest))).1 ≡ first
last-end first v [] s = refl
last-end first v (w ∷ rest) s = last-end first w rest (v, w)

module _ (points : ℕ) (polygons : List Polygon) (test : ℕ × ℕ → Bool) where
  face-count : (face : ℕ) (polygon : Polygon) → count_by test (all_sides (child_faces points polygons face polygon)) ≡ sum_by (count_four points polygons test face) (sides_of polygon)
  face-count face [] = refl
  face-count face (v ∷ rest) =
      omega (arith, along-count points polygons test face v (v ∷ rest) (last_of (0, 0) (sides_of (v ∷ rest))) (last-end v v rest (0, 0)))

  pub child-count-from : (place : ℕ) (some : List Polygon) → count_by test (all_sides (children_from points polygons place some)) ≡ nested_sum (count_four points polygons test) place some
  child-count-from place [] = refl
  child-count-from place (polygon ∷ some) =
      let behind = child-count-from (place + 1) some in
      let here = face-count place polygon in
      let mine = child_faces points polygons place polygon in
      let others = children_from points polygons (place + 1) some in
      let both = count-append test (all_sides mine) (all_sides others) in
      let sums = sum_by-cons (λ (face : ℕ × Polygon). sum_by (count_four points polygons test face.0) (sides_of face.1)) (place, polygon) (enumerate_from (place + 1) some) in
      ap (count_by test) (flat_map-append sides_of mine others) ∙ both ∙ omega (arith, behind, here, sums)

-- a sum over the sides of each face, where the number of the face does not matter
pub nested-plain : (keep : ℕ × ℕ → Bool) (g : ℕ → ℕ × ℕ → ℕ) (c : ℕ × ℕ → ℕ) → ((face : ℕ) (s : ℕ × ℕ) → keep s ≡ true → g face s ≡ c s) → (place : ℕ) (some : List Polygon) → list_all keep (all_sides some) ≡ true → nested_sum g place some ≡ sum_by c (all_sides some)
nested-plain keep g c same place [] h = refl
nested-plain keep g c same place (polygon ∷ some) h =
    let parts = and_parts (list_all keep (sides_of polygon)) (list_all keep (all_sides some)) (sym (list_all-append keep (sides_of polygon) (all_sides some)) ∙ h) in
    let here = sum-agree keep (g place) c (same place) (sides_of polygon) parts.0 in
    let behind = nested-plain keep g c same (place + 1) some parts.1 in
    let sums = sum_by-cons (λ (face : ℕ × Polygon). sum_by (g face.0) (sides_of face.1)) (place, polygon) (enumerate_from (place + 1) some) in
    let both = sum_by-append c (sides_of polygon) (all_sides some) in
    omega (arith, here, behind, sums, both)

-- if only the face `at` counts and comes before the first, nothing counts
nested-none : (keep : ℕ × ℕ → Bool) (g : ℕ → ℕ × ℕ → ℕ) (c : ℕ × ℕ → ℕ) (at : ℕ) → ((face : ℕ) (s : ℕ × ℕ) → keep s ≡ true → g face s ≡ cond (nat_eq at face) (c s) 0) → (place : ℕ) (some : List Polygon) → list_all keep (all_sides some) ≡ true → at < place → nested_sum g place some ≡ 0
nested-none keep g c at same place [] h before = refl
nested-none keep g c at same place (polygon ∷ some) h before =
    let parts = and_parts (list_all keep (sides_of polygon)) (list_all keep (all_sides some)) (sym (list_all-append keep (sides_of polygon) (all_sides some)) ∙ h) in
    let other : nat_eq at place ≡ false = grind (arith, nat_tests) in
    let here = sum-agree keep (g place) (λ s. 0) (λ s k. same place s k ∙ ap (λ b. cond b (c s) 0) other) (sides_of polygon) parts.0 in
    let none = sum-zero (λ (s : ℕ × ℕ). 0) (λ s. refl) (sides_of polygon) in
    let behind = nested-none keep g c at same (place + 1) some parts.1 (omega arith) in
    let sums = sum_by-cons (λ (face : ℕ × Polygon). sum_by (g face.0) (sides_of face.1)) (place, polygon) (enumerate_from (place + 1) some) in
    omega (arith, here, none, behind, sums)

-- where only one face counts, the sum is that face's
pub nested-at : (keep : ℕ × ℕ → Bool) (g : ℕ → ℕ × ℕ → ℕ) (c : ℕ × ℕ → ℕ) (at : ℕ) → ((face : ℕ) (s : ℕ × ℕ) → keep s ≡ true → g face s ≡ cond (nat_eq at face) (c s) 0) → (place k : ℕ) (some : List Polygon) → list_all keep (all_sides some) ≡ true → at ≡ place + k → k < length some → nested_sum g place some ≡ sum_by c (sides_of (polygon_at some k))
nested-at keep g c at same place k [] h e inside = absurd (omega arith)
nested-at keep g c at same place zero (polygon ∷ some) h e inside =
    let parts = and_parts (list_all keep (sides_of polygon)) (list_all keep (all_sides some)) (sym (list_all-append keep (sides_of polygon) (all_sides some)) ∙ h) in
    let this : nat_eq at place ≡ true = grind (arith, nat_tests) in
    let here = sum-agree keep (g place) c (λ s k. same place s k ∙ ap (λ b. cond b (c s) 0) this) (sides_of polygon) parts.0 in
    let behind = nested-none keep g c at same (place + 1) some parts.1 (omega arith) in
    let sums = sum_by-cons (λ (face : ℕ × Polygon). sum_by (g face.0) (sides_of face.1)) (place, polygon) (enumerate_from (place + 1) some) in
    omega (arith, here, behind, sums)
nested-at keep g c at same place (suc k) (polygon ∷ some) h e inside =
    let parts = and_parts (list_all keep (sides_of polygon)) (list_all keep (all_sides some)) (sym (list_all-append keep (sides_of polygon) (all_sides some)) ∙ h) in
    let other : nat_eq at place ≡ false = grind (arith, nat_tests) in
    let here = sum-agree keep (g place) (λ s. 0) (λ s k. same place s k ∙ ap (λ b. cond b (c s) 0) other) (sides_of polygon) parts.0 in
    let none = sum-zero (λ (s : ℕ × ℕ). 0) (λ s. refl) (sides_of polygon) in
    let behind = nested-at keep g c at same (place + 1) k some parts.1 (omega arith) (omega arith) in
    let sums = sum_by-cons (λ (face : ℕ × Polygon). sum_by (g face.0) (sides_of face.1)) (place, polygon) (enumerate_from (place + 1) some) in
    omega (arith, here, none, behind, sums)
