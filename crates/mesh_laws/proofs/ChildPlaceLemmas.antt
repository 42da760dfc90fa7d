-- The child faces of the next level, each named by its face and corner.
use Rattle.std.proofs.Common.{◌≡◌, ℕ, zero, suc, ◌+◌, ◌<◌, Bool, true, false, ◌&&◌, nat_eq, List, [], ◌∷◌, length, get_or, arith, refl, ap, sym, ◌∙◌, subst, All}
use Rattle.std.specs.List.{list_any, list_all, flat_map, position_or_len, enumerate_from}
use Rattle.std.proofs.lemmas.Bool.Decides.{nat_tests}
use Rattle.std.proofs.lemmas.Bool.{and_parts, eqb-true, eq-eqb}
use Rattle.std.proofs.lemmas.List.Elements.{All-nil, All-cons, All-append}
use Rattle.std.proofs.lemmas.List.Sums.{list_all-from_AllPass, passes_at_first}
use Rattle.std.proofs.lemmas.List.Folds.{list_any-append, list_any_at}
use Rattle.subdiv_model.specs.Polygons.{Polygon, same_side, sides_of, sides_back_to, has_side, has_corner, is_among, polygon_at}
use Rattle.subdiv_model.specs.Child.{face_point, child_face, child_faces_along, child_faces, child_polygons}
use Rattle.subdiv_model.specs.Lists.{last_of}
use Rattle.mesh_laws.proofs.SideLemmas.{same_side-refl}
use Rattle.mesh_laws.proofs.ChildLemmas.{last-end}
use Rattle.mesh_laws.proofs.ChildFaceLemmas.{last-all}
use Rattle.mesh_laws.proofs.ChildClosedLemmas.{numbered, numbered-length}

-- if an item passes, the first place of one is within the list
pub first-within : {X : Type 0} (test : X → Bool) (xs : List X) → list_any test xs ≡ true → position_or_len test xs < length xs
first-within test [] h = absurd (cc)
first-within test (x ∷ xs) h = here (test x) refl (λ k. first-within test xs k)
  where
    here : (b : Bool) → test x ≡ b → (list_any test xs ≡ true → position_or_len test xs < length xs) → position_or_len test (x ∷ xs) < length (x ∷ xs)
    here true e behind = rw e (omega arith)
    here false e behind =
        let more : list_any test xs ≡ true = grind (arith, nat_tests) in
        let within = behind more in
        rw e (omega arith)

-- what holds of each element of each part holds of all parts in a row
all-parts : {X Y : Type 0} (P : Y → Type 0) (parts : X → List Y) (d : X) (xs : List X) → ((i : ℕ) → i < length xs → All P (parts (get_or xs i d))) → All P (flat_map parts xs)
all-parts P parts d [] each = All-nil P
all-parts P parts d (x ∷ xs) each = All-append P (parts x) (flat_map parts xs) (each 0 (omega arith)) (all-parts P parts d xs (λ i h. each (suc i) (omega arith)))

-- what passes in one part passes in all parts in a row
any-part : {X Y : Type 0} (test : Y → Bool) (parts : X → List Y) (d : X) (xs : List X) (i : ℕ) → i < length xs → list_any test (parts (get_or xs i d)) ≡ true → list_any test (flat_map parts xs) ≡ true
any-part test parts d [] i h there = absurd (omega arith)
any-part test parts d (x ∷ xs) zero h there = list_any-append test (parts x) (flat_map parts xs) ∙ grind (arith, nat_tests)
any-part test parts d (x ∷ xs) (suc i) h there =
    let behind = any-part test parts d xs i (omega arith) there in
    list_any-append test (parts x) (flat_map parts xs) ∙ grind (arith, nat_tests)

-- each side is among its own
pub own-sides : (sides : List (ℕ × ℕ)) → list_all (λ s. list_any (same_side s) sides) sides ≡ true
own-sides sides = list_all-from_AllPass (λ s. list_any (same_side s) sides) sides (λ k d h. list_any_at (same_side (get_or sides k d)) sides k d h (same_side-refl (get_or sides k d)))

module _ (points : ℕ) (polygons : List Polygon) where
  -- the quad is the child of the face k at its corner v, between u and w
  pub record IsChildOf (k v : ℕ) (quad : Polygon) : Type 0 where
    pub u : ℕ
    pub w : ℕ
    pub before : has_side (u, v) (polygon_at polygons k) ≡ true
    pub after : has_side (v, w) (polygon_at polygons k) ≡ true
    pub is : quad ≡ child_face points polygons k (u, v) (v, w)

  -- the quad is a child of the face k
  abbrev pub IsOf : ℕ → Polygon → Type 0
  IsOf k quad = (v : ℕ) × IsChildOf k v quad

  -- the children along a path of a face's sides are children of the face
  along-of : (k first : ℕ) (path : Polygon) (before : ℕ × ℕ) → has_side before (polygon_at polygons k) ≡ true → before.1 ≡ get_or path 0 first → list_all (λ s. has_side s (polygon_at polygons k)) (sides_back_to first path) ≡ true → All (IsOf k) (child_faces_along points polygons k before (sides_back_to first path))
  along-of k first [] before b e all = All-nil (IsOf k)
  along-of k first (v ∷ rest) before b e all =
      let side : ℕ × ℕ = (v, get_or rest 0 first) in
      let parts = and_parts (has_side side (polygon_at polygons k)) (list_all (λ s. has_side s (polygon_at polygons k)) (sides_back_to first rest)) all in
      let same : before ≡ (before.0, v) = ap (λ (n : ℕ). (before.0, n)) e in
      let child : IsChildOf k v (child_face points polygons k before side) = record {
        u = before.0;
        w = get_or rest 0 first;
        before = ap (λ s. has_side s (polygon_at polygons k)) (sym same) ∙ b;
        after = parts.0;
        is = ap (λ s. child_face points polygons k s side) same;
      } in
      All-cons (IsOf k) (child_face points polygons k before side) (child_faces_along points polygons k side (sides_back_to first rest)) (v, child) (along-of k first rest side parts.0 refl parts.1)

  -- all child faces of a face are of that face
  face-of : (k : ℕ) → All (IsOf k) (child_faces points polygons k (polygon_at polygons k))
  face-of k = go (polygon_at polygons k) refl
    where
      go : (polygon : Polygon) → polygon_at polygons k ≡ polygon → All (IsOf k) (child_faces points polygons k polygon)
      go [] e = All-nil (IsOf k)
      go (v ∷ rest) e =
          let sides = sides_of (v ∷ rest) in
          let own : list_all (λ s. has_side s (polygon_at polygons k)) sides ≡ true = ap (λ p. list_all (λ s. has_side s p) sides) e ∙ own-sides sides in
          let last : has_side (last_of (0, 0) sides) (polygon_at polygons k) ≡ true = last-all (λ s. has_side s (polygon_at polygons k)) (v, get_or rest 0 v) (sides_back_to v rest) own in
          along-of k v (v ∷ rest) (last_of (0, 0) sides) last (last-end v v rest (0, 0)) own

  -- each quad of the next level is the child of a face at a corner
  pub all-of : All (λ quad. (k : ℕ) × (v : ℕ) × IsChildOf k v quad) (child_polygons points polygons)
  all-of = all-parts (λ quad. (k : ℕ) × (v : ℕ) × IsChildOf k v quad) (λ face. child_faces points polygons face.0 face.1) (0, []) (enumerate_from 0 polygons) (λ i h.
      let inside : i < length polygons = omega (arith, h, numbered-length 0 polygons) in
      let number : 0 + i ≡ i = omega arith in
      let same : get_or (enumerate_from 0 polygons) i (0, []) ≡ (i, polygon_at polygons i) = numbered 0 i [] polygons inside ∙ ap (λ (n : ℕ). (n, polygon_at polygons i)) number in
      let P : ℕ × Polygon → Type 0 = λ face. All (λ quad. (k : ℕ) × (v : ℕ) × IsChildOf k v quad) (child_faces points polygons face.0 face.1) in
      subst P (sym same) (λ j d inner. let one = face-of i j d inner in (i, one.0, one.1)))

  -- the quad begins at the corner, and has the point of the face
  abbrev pub names : ℕ → ℕ → Polygon → Bool
  names k v quad = nat_eq v (get_or quad 0 0) && nat_eq (face_point points k) (get_or quad 2 0)

  -- a quad that begins at a corner of the path is among the children along it
  along-names : (k v first : ℕ) (path : Polygon) (before : ℕ × ℕ) → is_among path v ≡ true → list_any (names k v) (child_faces_along points polygons k before (sides_back_to first path)) ≡ true
  along-names k v first [] before h = absurd (cc)
  along-names k v first (n ∷ rest) before h = here (nat_eq v n) refl (λ m. along-names k v first rest (n, get_or rest 0 first) m)
    where
      here : (b : Bool) → nat_eq v n ≡ b → (is_among rest v ≡ true → list_any (names k v) (child_faces_along points polygons k (n, get_or rest 0 first) (sides_back_to first rest)) ≡ true) → list_any (names k v) (child_faces_along points polygons k before (sides_back_to first (n ∷ rest))) ≡ true
      here true e behind = let self : nat_eq (face_point points k) (face_point points k) ≡ true = eq-eqb _ _ refl in rw (e, self) refl
      here false e behind =
          let more : is_among rest v ≡ true = grind (arith, nat_tests) in
          let found = behind more in
          rw e found

  -- a corner of a face has a child among all children of the face
  face-names : (k v : ℕ) (polygon : Polygon) → is_among polygon v ≡ true → list_any (names k v) (child_faces points polygons k polygon) ≡ true
  face-names k v [] h = absurd (cc)
  face-names k v (first ∷ rest) h = along-names k v first (first ∷ rest) (last_of (0, 0) (sides_of (first ∷ rest))) h

  -- the place of the child of the face k at its corner v
  abbrev pub child_at : ℕ → ℕ → ℕ
  child_at k v = position_or_len (names k v) (child_polygons points polygons)

  -- the child is at its place
  pub child-at : (k v : ℕ) → k < length polygons → has_corner v (polygon_at polygons k) ≡ true → IsChildOf k v (polygon_at (child_polygons points polygons) (child_at k v))
  child-at k v inside h =
      let number : 0 + k ≡ k = omega arith in
      let same : get_or (enumerate_from 0 polygons) k (0, []) ≡ (k, polygon_at polygons k) = numbered 0 k [] polygons inside ∙ ap (λ (n : ℕ). (n, polygon_at polygons k)) number in
      let P : ℕ × Polygon → Type 0 = λ face. list_any (names k v) (child_faces points polygons face.0 face.1) ≡ true in
      let there : list_any (names k v) (child_polygons points polygons) ≡ true = any-part (names k v) (λ face. child_faces points polygons face.0 face.1) (0, []) (enumerate_from 0 polygons) k (omega (arith, inside, numbered-length 0 polygons)) (subst P (sym same) (face-names k v (polygon_at polygons k) h)) in
      let within : child_at k v < length (child_polygons points polygons) = first-within (names k v) (child_polygons points polygons) there in
      let named : names k v (polygon_at (child_polygons points polygons) (child_at k v)) ≡ true = passes_at_first (names k v) (child_polygons points polygons) [] within in
      let found = all-of (child_at k v) [] within in
      at found.0 found.1 found.2 named
    where
      at : (k' v' : ℕ) → IsChildOf k' v' (polygon_at (child_polygons points polygons) (child_at k v)) → names k v (polygon_at (child_polygons points polygons) (child_at k v)) ≡ true → IsChildOf k v (polygon_at (child_polygons points polygons) (child_at k v))
      at k' v' c named =
          let parts : names k v (child_face points polygons k' (c.u, v') (v', c.w)) ≡ true = ap (names k v) (sym c.is) ∙ named in
          let both = and_parts (nat_eq v v') (nat_eq (face_point points k) (face_point points k')) parts in
          let e : v ≡ v' = eqb-true v v' both.0 in
          let f : face_point points k ≡ face_point points k' = eqb-true _ _ both.1 in
          let g : k ≡ k' = omega arith in
          let P : ℕ → ℕ → Type 0 = λ m n. IsChildOf m n (polygon_at (child_polygons points polygons) (child_at k v)) in
          subst (λ n. P k n) (sym e) (subst (λ m. P m v') (sym g) c)
