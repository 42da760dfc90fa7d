-- A part of a part is a part.
use Rattle.std.proofs.Common.{◌≡◌, ℕ, suc, ◌+◌, ◌<◌, Bool, true, false, nat_eq, nat_lt, List, [], ◌∷◌, length, map, get_or, arith, refl, ap, sym, ◌∙◌}
use Rattle.std.specs.List.{list_all}
use Rattle.std.proofs.lemmas.Bool.{or_right, eq-eqb, eqb-true, lt-ltb, ltb-true}
use Rattle.std.proofs.lemmas.List.{length-map, get_or-map}
use Rattle.std.proofs.lemmas.List.Folds.{list_any_at}
use Rattle.std.proofs.lemmas.List.Kept.{AllPairs-from_increasing}
use Rattle.std.proofs.lemmas.List.Sums.{list_all-from_AllPass}
use Rattle.subdiv_model.specs.Polygons.{Polygon, has_corner, is_among, polygon_at}
use Rattle.mesh_laws.proofs.ClosedLemmas.{all-at}
use Rattle.mesh_laws.proofs.ChildCornerLemmas.{corner-place}
use Rattle.part_laws.specs.Parts.{IsPart, is_corner, face_in}
use Rattle.part_laws.proofs.ListLemmas.{map-agree, map-twice}
use Rattle.part_laws.proofs.PartLemmas.{as-many, polygon-in, own-all}
use Rattle.part_laws.proofs.RenamedLemmas.{corner-renamed}
use Rattle.part_laws.proofs.TermLemmas.{all-true}

-- a corner of the polygons is one of a polygon
pub corner-of : (polygons : List Polygon) (p : ℕ) → is_corner polygons p ≡ true → (k : ℕ) × (k < length polygons) × (has_corner p (polygon_at polygons k) ≡ true)
corner-of [] p h = absurd (cc)
corner-of (polygon ∷ polygons) p h = go (has_corner p polygon) refl h (λ more. corner-of polygons p more)
  where
    go : (b : Bool) → has_corner p polygon ≡ b → is_corner (polygon ∷ polygons) p ≡ true → (is_corner polygons p ≡ true → (k : ℕ) × (k < length polygons) × (has_corner p (polygon_at polygons k) ≡ true)) → (k : ℕ) × (k < length (polygon ∷ polygons)) × (has_corner p (polygon_at (polygon ∷ polygons) k) ≡ true)
    go true e h behind = (0, omega arith, e)
    go false e h behind = let found = behind (rw e at h) in (suc found.0, omega (arith, found.1), found.2)

pub corner-in : (polygons : List Polygon) (p k : ℕ) → has_corner p (polygon_at polygons k) ≡ true → is_corner polygons p ≡ true
corner-in polygons p k h = list_any_at (has_corner p) polygons k [] (corner-place polygons k p h) h

pub map-among : (f : ℕ → ℕ) (n : ℕ) (ns : List ℕ) → is_among ns n ≡ true → is_among (map f ns) (f n) ≡ true
map-among f n [] h = h
map-among f n (m ∷ ns) h = go (nat_eq n m) refl (λ more. map-among f n ns more)
  where
    go : (b : Bool) → nat_eq n m ≡ b → (is_among ns n ≡ true → is_among (map f ns) (f n) ≡ true) → is_among (map f (m ∷ ns)) (f n) ≡ true
    go true e behind = let same = eq-eqb (f n) (f m) (ap f (eqb-true n m e)) in rw same refl
    go false e behind = let rest = behind (rw e at h) in or_right (nat_eq (f n) (f m)) (is_among (map f ns) (f n)) rest

module _ (name : ℕ → ℕ) (faces : List ℕ) (part whole : List Polygon) (is : IsPart name faces part whole) where
  -- the name of a corner is a corner of the whole, in the same face
  pub corner-named : (p k : ℕ) → has_corner p (polygon_at part k) ≡ true → has_corner (name p) (polygon_at whole (face_in faces k)) ≡ true
  corner-named p k h =
      let inside = corner-place part k p h in
      let own = all-at (list_all (is_corner part)) part k [] inside (own-all name faces part whole is) in
      ap (has_corner (name p)) (sym (polygon-in name faces part whole is k inside))
      ∙ corner-renamed name (is_corner part) is.apart p (polygon_at part k) (corner-in part p k h) own ∙ h

  pub corner-unnamed : (p k : ℕ) → is_corner part p ≡ true → k < length part → has_corner (name p) (polygon_at whole (face_in faces k)) ≡ true → has_corner p (polygon_at part k) ≡ true
  corner-unnamed p k there inside h =
      let own = all-at (list_all (is_corner part)) part k [] inside (own-all name faces part whole is) in
      sym (corner-renamed name (is_corner part) is.apart p (polygon_at part k) there own)
      ∙ ap (has_corner (name p)) (polygon-in name faces part whole is k inside) ∙ h

  pub corners-named : (p : ℕ) → is_corner part p ≡ true → is_corner whole (name p) ≡ true
  corners-named p h =
      let found = corner-of part p h in
      corner-in whole (name p) (face_in faces found.0) (corner-named p found.0 found.2)

module _ (name other : ℕ → ℕ) (faces others : List ℕ) (part middle whole : List Polygon) (is : IsPart name faces part middle) (in_whole : IsPart other others middle whole) where
  many : length middle ≡ length others
  many = as-many other others middle whole in_whole

  pub joined : IsPart (λ p. other (name p)) (map (face_in others) faces) part whole
  joined = record {
    ascending = λ k h.
        let below : k + 1 < length faces = omega (arith, h, length-map faces (face_in others)) in
        let less = is.ascending k below in
        let inside = is.inside (k + 1) 0 below in
        let up = AllPairs-from_increasing others in_whole.ascending (get_or faces k 0) (get_or faces (k + 1) 0) 0 less (omega (arith, inside, many)) in
        omega (arith, up, get_or-map (face_in others) faces k 0 0 (omega (arith, below)), get_or-map (face_in others) faces (k + 1) 0 0 below);
    inside = λ k d h.
        let below : k < length faces = omega (arith, h, length-map faces (face_in others)) in
        let inside = is.inside k 0 below in
        let in_range = in_whole.inside (get_or faces k 0) 0 (omega (arith, inside, many)) in
        omega (arith, in_range, get_or-map (face_in others) faces k 0 d below);
    same =
        sym (map-twice (map name) (map other) part ∙ map-agree (λ polygon. true) (λ polygon. map other (map name polygon)) (map (λ p. other (name p))) (λ polygon on. map-twice name other polygon) part (all-true part))
        ∙ ap (map (map other)) is.same
        ∙ map-twice (polygon_at middle) (map other) faces
        ∙ map-agree (λ f. nat_lt f (length middle)) (λ f. map other (polygon_at middle f)) (λ f. polygon_at whole (face_in others f)) (λ f h. polygon-in other others middle whole in_whole f (ltb-true f (length middle) h)) faces (list_all-from_AllPass (λ f. nat_lt f (length middle)) faces (λ k d h. lt-ltb _ _ (is.inside k d h)))
        ∙ sym (map-twice (face_in others) (polygon_at whole) faces);
    apart = λ p q h k e. is.apart p q h k (in_whole.apart (name p) (name q) (corners-named name faces part middle is p h) (corners-named name faces part middle is q k) e);
  }
