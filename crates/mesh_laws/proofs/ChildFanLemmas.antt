-- The children at a point of a level form one fan where its faces did, and so do the children at the point of a face.
use Rattle.std.proofs.Common.{◌≡◌, ℕ, ◌<◌, Bool, true, false, not, ◌||◌, nat_eq, nat_lt, List, [], ◌∷◌, map, length, get_or, arith, refl, ap, sym, ◌∙◌, ◌⊎◌, inl, inr}
use Rattle.std.specs.List.{list_all}
use Rattle.std.proofs.lemmas.Bool.Decides.{nat_tests}
use Rattle.std.proofs.lemmas.Bool.{and_parts, eqb-true, eq-eqb}
use Rattle.subdiv_model.specs.Polygons.{Polygon, sides_of, sides_back_to, has_side, has_corner, is_among, is_distinct, polygon_at, is_over, has_distinct_sides}
use Rattle.subdiv_model.specs.Edges.{all_sides}
use Rattle.subdiv_model.specs.Manifold.{IsSuccessor, IsPath, HasOneFan, is_simple}
use Rattle.subdiv_model.specs.Child.{edge_point, face_point, child_polygons}
use Rattle.mesh_laws.proofs.ClosedLemmas.{all-at}
use Rattle.mesh_laws.proofs.TurnedLemmas.{among-map, map-among, map-distinct, onto, onto-among, onto-distinct}
use Rattle.mesh_laws.proofs.ChildPlaceLemmas.{IsChildOf, child_at, all-of, own-sides}
use Rattle.mesh_laws.proofs.FanLemmas.{distinct-at, side-start, side-end}
use Rattle.mesh_laws.proofs.ChildCountLemmas.{corner-edge, corner-face, face-edge}
use Rattle.mesh_laws.proofs.ChildClosedLemmas.{back-point}
use Rattle.mesh_laws.proofs.ChildCornerLemmas.{corner-place, corner-point, corner-cases, corner-self, corner-center, out, toward, away, into, at-corner, one-place, places-tell}

module _ (points : ℕ) (polygons : List Polygon) (simple : list_all is_simple polygons ≡ true) (over : is_over points polygons ≡ true) (distinct : has_distinct_sides (all_sides polygons) ≡ true) where
  -- about a point of the level the children of successors are successors
  vertex-step : (v f g : ℕ) → IsSuccessor polygons v f g → IsSuccessor (child_polygons points polygons) v (child_at points polygons f v) (child_at points polygons g v)
  vertex-step v f g is =
      let at_f = at-corner points polygons simple over distinct f v (side-start (polygon_at polygons f) (v, is.corner) is.follows) in
      let at_g = at-corner points polygons simple over distinct g v (side-end (polygon_at polygons g) (is.corner, v) is.leads_back) in
      let back : has_side (edge_point points polygons (is.corner, v), v) (polygon_at (child_polygons points polygons) (child_at points polygons g v)) ≡ true = into points polygons simple g is.corner v _ at_g is.leads_back in
      record {
        corner = edge_point points polygons (v, is.corner);
        follows = out points polygons simple f v is.corner _ at_f is.follows;
        leads_back = ap (λ (n : ℕ). has_side (n, v) (polygon_at (child_polygons points polygons) (child_at points polygons g v))) (sym (back-point points polygons over simple (v, is.corner))) ∙ back;
      }

  -- the children of a path at its vertex are a path
  vertex-path : (v : ℕ) (fan : List ℕ) → IsPath polygons v fan → IsPath (child_polygons points polygons) v (map (λ k. child_at points polygons k v) fan)
  vertex-path v [] path = tt
  vertex-path v (face ∷ []) path = tt
  vertex-path v (face ∷ (next ∷ rest)) path = (vertex-step v face next path.0, vertex-path v (next ∷ rest) path.1)

  -- the quads at a point of the level are the children there of its faces
  vertex-quad : (v place : ℕ) → nat_lt v points ≡ true → has_corner v (polygon_at (child_polygons points polygons) place) ≡ true → (k : ℕ) × (has_corner v (polygon_at polygons k) ≡ true) × (child_at points polygons k v ≡ place)
  vertex-quad v place low h =
      let found = all-of points polygons place [] (corner-place (child_polygons points polygons) place v h) in
      go found.0 found.1 found.2 (corner-cases points polygons found.0 found.1 v _ found.2 h)
    where
      go : (k n : ℕ) (c : IsChildOf points polygons k n (polygon_at (child_polygons points polygons) place)) → (v ≡ n) ⊎ ((v ≡ edge_point points polygons (n, c.w)) ⊎ ((v ≡ face_point points k) ⊎ (v ≡ edge_point points polygons (c.u, n)))) → (m : ℕ) × (has_corner v (polygon_at polygons m) ≡ true) × (child_at points polygons m v ≡ place)
      go k n c (inl e) = (k, ap (λ m. has_corner m (polygon_at polygons k)) e ∙ side-start (polygon_at polygons k) (n, c.w) c.after, ap (child_at points polygons k) e ∙ one-place points polygons simple over distinct k n place c)
      go k n c (inr (inl e)) = let no = corner-edge points polygons v (n, c.w) low in let yes = eq-eqb _ _ e in absurd (cc)
      go k n c (inr (inr (inl e))) = let no = corner-face points polygons v k low in let yes = eq-eqb _ _ e in absurd (cc)
      go k n c (inr (inr (inr e))) = let no = corner-edge points polygons v (c.u, n) low in let yes = eq-eqb _ _ e in absurd (cc)

  -- a point of the level has one fan at the next level too
  pub vertex-fan : (v : ℕ) → nat_lt v points ≡ true → HasOneFan polygons v → HasOneFan (child_polygons points polygons) v
  vertex-fan v low is = record {
    fan = map (λ k. child_at points polygons k v) is.fan;
    once = map-distinct (λ k. child_at points polygons k v) is.fan (λ m n h g e. (places-tell points polygons simple over distinct m v n v ((is.all m).0 h) ((is.all n).0 g) e).0) is.once;
    all = λ place. (
      (λ h.
          let found = among-map (λ k. child_at points polygons k v) is.fan place h in
          let c = at-corner points polygons simple over distinct found.0 v ((is.all found.0).0 found.1) in
          ap (λ p. has_corner v (polygon_at (child_polygons points polygons) p)) (sym found.2) ∙ corner-self points polygons found.0 v _ c),
      (λ h.
          let found = vertex-quad v place low h in
          map-among (λ k. child_at points polygons k v) is.fan found.0 place ((is.all found.0).1 found.1) found.2),
    );
    path = vertex-path v is.fan is.path;
  }

  -- about the point of a face the child at a corner is succeeded by the child at the corner before it
  face-step : (k v w : ℕ) → has_side (w, v) (polygon_at polygons k) ≡ true → IsSuccessor (child_polygons points polygons) (face_point points k) (child_at points polygons k v) (child_at points polygons k w)
  face-step k v w side =
      let at_v = at-corner points polygons simple over distinct k v (side-end (polygon_at polygons k) (w, v) side) in
      let at_w = at-corner points polygons simple over distinct k w (side-start (polygon_at polygons k) (w, v) side) in
      record {
        corner = edge_point points polygons (w, v);
        follows = away points polygons simple k w v _ at_v side;
        leads_back = toward points polygons simple k w v _ at_w side;
      }

  -- the children of a face at its corners, last first, are a path around the face point
  face-path : (k first w : ℕ) (acc : List ℕ) (path : Polygon) → has_side (w, get_or path 0 first) (polygon_at polygons k) ≡ true → list_all (λ s. has_side s (polygon_at polygons k)) (sides_back_to first path) ≡ true → IsPath (child_polygons points polygons) (face_point points k) (map (child_at points polygons k) (w ∷ acc)) → IsPath (child_polygons points polygons) (face_point points k) (map (child_at points polygons k) (onto (w ∷ acc) path))
  face-path k first w acc [] link all done = done
  face-path k first w acc (v ∷ rest) link all done =
      let parts = and_parts (has_side (v, get_or rest 0 first) (polygon_at polygons k)) (list_all (λ s. has_side s (polygon_at polygons k)) (sides_back_to first rest)) all in
      face-path k first v (w ∷ acc) rest parts.0 parts.1 (face-step k v w link, done)

  -- the quads at the point of a face are its children
  face-quad : (k place : ℕ) → k < length polygons → has_corner (face_point points k) (polygon_at (child_polygons points polygons) place) ≡ true → (v : ℕ) × (has_corner v (polygon_at polygons k) ≡ true) × (child_at points polygons k v ≡ place)
  face-quad k place inside h =
      let found = all-of points polygons place [] (corner-place (child_polygons points polygons) place (face_point points k) h) in
      go found.0 found.1 found.2 (corner-cases points polygons found.0 found.1 (face_point points k) _ found.2 h)
    where
      go : (m n : ℕ) (c : IsChildOf points polygons m n (polygon_at (child_polygons points polygons) place)) → (face_point points k ≡ n) ⊎ ((face_point points k ≡ edge_point points polygons (n, c.w)) ⊎ ((face_point points k ≡ face_point points m) ⊎ (face_point points k ≡ edge_point points polygons (c.u, n)))) → (v : ℕ) × (has_corner v (polygon_at polygons k) ≡ true) × (child_at points polygons k v ≡ place)
      go m n c (inl e) =
          let low = corner-point points polygons m n over (side-start (polygon_at polygons m) (n, c.w) c.after) in
          let no = corner-face points polygons n k low in
          let yes = eq-eqb _ _ (sym e) in absurd (cc)
      go m n c (inr (inl e)) = let no = face-edge points polygons k (n, c.w) inside in let yes = eq-eqb _ _ e in absurd (cc)
      go m n c (inr (inr (inl e))) =
          let same : k ≡ m = omega (arith, e) in
          let corner = side-start (polygon_at polygons m) (n, c.w) c.after in
          (n, ap (λ f. has_corner n (polygon_at polygons f)) same ∙ corner, ap (λ f. child_at points polygons f n) same ∙ one-place points polygons simple over distinct m n place c)
      go m n c (inr (inr (inr e))) = let no = face-edge points polygons k (c.u, n) inside in let yes = eq-eqb _ _ e in absurd (cc)

  -- the point of a face has one fan: the face's children by its corners, last first
  pub face-fan : (k : ℕ) → k < length polygons → HasOneFan (child_polygons points polygons) (face_point points k)
  face-fan k inside = go (polygon_at polygons k) refl
    where
      go : (polygon : Polygon) → polygon_at polygons k ≡ polygon → HasOneFan (child_polygons points polygons) (face_point points k)
      go [] e = let one : is_simple [] ≡ true = ap is_simple (sym e) ∙ all-at is_simple polygons k [] inside simple in absurd (cc)
      go (first ∷ rest) e =
          let corner : (v : ℕ) → has_corner v (polygon_at polygons k) ≡ is_among (onto (first ∷ []) rest) v = λ v. ap (has_corner v) e ∙ first-before v ∙ sym (onto-among (first ∷ []) rest v) in
          let own : list_all (λ s. has_side s (polygon_at polygons k)) (sides_of (first ∷ rest)) ≡ true = ap (λ p. list_all (λ s. has_side s p) (sides_of (first ∷ rest))) e ∙ own-sides (sides_of (first ∷ rest)) in
          let parts = and_parts (has_side (first, get_or rest 0 first) (polygon_at polygons k)) (list_all (λ s. has_side s (polygon_at polygons k)) (sides_back_to first rest)) own in
          let each : is_distinct (first ∷ rest) ≡ true = ap is_distinct (sym e) ∙ distinct-at polygons k simple in
          record {
            fan = map (child_at points polygons k) (onto (first ∷ []) rest);
            once = map-distinct (child_at points polygons k) (onto (first ∷ []) rest) (λ m n h g same. (places-tell points polygons simple over distinct k m k n (corner m ∙ h) (corner n ∙ g) same).1) (turned each);
            all = λ place. (
              (λ h.
                  let found = among-map (child_at points polygons k) (onto (first ∷ []) rest) place h in
                  let c = at-corner points polygons simple over distinct k found.0 (corner found.0 ∙ found.1) in
                  ap (λ p. has_corner (face_point points k) (polygon_at (child_polygons points polygons) p)) (sym found.2) ∙ corner-center points polygons k found.0 _ c),
              (λ h.
                  let found = face-quad k place inside h in
                  map-among (child_at points polygons k) (onto (first ∷ []) rest) found.0 place (sym (corner found.0) ∙ found.1) found.2),
            );
            path = face-path k first first [] rest parts.0 parts.1 tt;
          }
        where
          first-before : (v : ℕ) → is_among (first ∷ rest) v ≡ (is_among (first ∷ []) v || is_among rest v)
          first-before v = grind (arith, nat_tests)

          turned : is_distinct (first ∷ rest) ≡ true → is_distinct (onto (first ∷ []) rest) ≡ true
          turned each =
              let halves = and_parts (not (is_among rest first)) (is_distinct rest) each in
              onto-distinct (first ∷ []) rest refl halves.1 (λ n h. apart n h halves.0 (nat_eq n first) refl)
            where
              apart : (n : ℕ) → is_among rest n ≡ true → not (is_among rest first) ≡ true → (b : Bool) → nat_eq n first ≡ b → is_among (first ∷ []) n ≡ false
              apart n h gone true same = let self : is_among rest first ≡ true = ap (is_among rest) (sym (eqb-true n first same)) ∙ h in absurd (grind (arith, nat_tests))
              apart n h gone false same = grind (arith, nat_tests)
