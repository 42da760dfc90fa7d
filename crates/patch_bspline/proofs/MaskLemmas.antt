-- The weights put for a place are those of its mask.
use Rattle.std.proofs.Common.{◌≡◌, ℕ, zero, suc, ◌+◌, ◌*◌, ◌^◌, ◌/◌, ◌%◌, ◌<◌, ◌≤◌, Bool, true, false, nat_eq, nat_lt, List, [], ◌∷◌, ◌++◌, length, map, zip, get_or, Result, Ok, Err, OnOk, arith, refl, ap, sym, subst, ◌∙◌, length-append}
use Rattle.std.specs.List.{All, flat_map, list_all, range_with_len, sum_by}
use Rattle.std.proofs.lemmas.Bool.{and_from, and_parts, eqb-true, lt-ltb, ltb-true, false≢true}
use Rattle.std.proofs.lemmas.List.{get_or-append-add, get_or-map, get_or_append_left, length-map}
use Rattle.std.proofs.lemmas.List.FromFn.{get_or-map-range_with_len, length-map-range_with_len}
use Rattle.std.proofs.lemmas.List.Sums.{sum_by-cons}
use Rattle.std.proofs.lemmas.Nat.{div_below}
use Rattle.subdiv_model.specs.Polygons.{Polygon, polygon_at}
use Rattle.subdiv_model.specs.Level.{Level}
use Rattle.subdiv_model.specs.Mask.{SourcePoint, OfPoint, OfFace, Term, Mask, mask_of, weigh, total_weight}
use Rattle.subdiv_model.specs.Patch.{grid_of_quad, is_quad, is_regular_in_quads, patch_mask, patch_masks, patch_places, patch_points, row_terms, spline_weights}
use Rattle.sharpness_laws.specs.SameWeights.{HaveSameWeights}
use Rattle.sharpness_laws.proofs.JoinedWeightLemmas.{weight_in-mask_of}
use Rattle.sharpness_laws.proofs.MaskValueLemmas.{joined-mask_of}
use Rattle.sharpness_laws.proofs.ProperLemmas.{all-get_or}
use Rattle.ratio128.specs.declared.memory.Memory.{Memory}
use Rattle.mesh_laws.proofs.ClosedLemmas.{all-at}
use Rattle.mask_laws.proofs.ListLemmas.{all-append}
use Rattle.mask_laws.proofs.MaskLemmas.{total-cons, total-append}
use Rattle.level_topology.specs.Topology.{Topology, IsTopology}
use Rattle.level_topology.proofs.FactLemmas.{corners-exist}
use Rattle.child_masks.proofs.OriginLemmas.{is-over}
use Rattle.stencil_factory.specs.MaskRows.{IsPointAmong, AreWeightsOf, mask_at, no_mask}
use Rattle.patch_bspline.specs.Masks.{PatchGrid, HasPoints}
use Rattle.patch_bspline.specs.Patches.{HasPatch}
use Rattle.patch_bspline.proofs.PutLemmas.{grid_weights}
use Rattle.patch_bspline.proofs.SplineLemmas.{cube-is, sixth-is, weights-total}

-- Sums.

abbrev total : List ℕ → ℕ
total weights = sum_by (λ w. w) weights

row-total : (along row : List ℕ) (across : ℕ) → length along ≡ length row → total_weight (row_terms along (across, row)) ≡ total along * across
row-total [] [] across e = omega arith
row-total [] (p ∷ row) across e = absurd (omega (arith, e))
row-total (a ∷ along) [] across e = absurd (omega (arith, e))
row-total (a ∷ along) (p ∷ row) across e =
    let behind = row-total along row across (omega (arith, e)) in
    let sum : total (a ∷ along) * across ≡ a * across + total along * across = ap (λ n. n * across) (sum_by-cons (λ (w : ℕ). w) a along) ∙ apart a (total along) across in
    total-cons (weigh (a * across) (OfPoint p)) (row_terms along (across, row)) ∙ ap (λ n. a * across + n) behind ∙ sym sum
  where
    apart : (a b c : ℕ) → (a + b) * c ≡ a * c + b * c
    apart a b c = omega arith

rows-total : (along across : List ℕ) (points : List (List ℕ)) → length across ≡ length points → list_all (λ row. nat_eq (length row) (length along)) points ≡ true
    → total_weight (flat_map (row_terms along) (zip across points)) ≡ total along * total across
rows-total along [] [] e all = omega arith
rows-total along [] (row ∷ points) e all = absurd (omega (arith, e))
rows-total along (a ∷ across) [] e all = absurd (omega (arith, e))
rows-total along (a ∷ across) (row ∷ points) e all =
    let parts = and_parts (nat_eq (length row) (length along)) (list_all (λ r. nat_eq (length r) (length along)) points) all in
    let behind = rows-total along across points (omega (arith, e)) parts.1 in
    let here = row-total along row a (sym (eqb-true _ _ parts.0)) in
    let sum : total along * total (a ∷ across) ≡ total along * a + total along * total across =
    ap (λ n. total along * n) (sum_by-cons (λ (w : ℕ). w) a across) ∙ apart (total along) a (total across) in
    total-append (row_terms along (a, row)) (flat_map (row_terms along) (zip across points))
    ∙ ap (λ n. n + total_weight (flat_map (row_terms along) (zip across points))) here ∙ ap (λ n. total along * a + n) behind ∙ sym sum
  where
    apart : (a b c : ℕ) → a * (b + c) ≡ a * b + a * c
    apart a b c = omega arith

spline-total : (m i j : ℕ) (points : List (List ℕ)) → i ≤ m → j ≤ m → length points ≡ 4 → list_all (λ row. nat_eq (length row) 4) points ≡ true
    → total_weight (flat_map (row_terms (spline_weights m i)) (zip (spline_weights m j) points)) ≡ 36 * m ^ 6
spline-total m i j points h k four all =
    rows-total (spline_weights m i) (spline_weights m j) points (sym four) all
    ∙ ap (λ n. n * total (spline_weights m j)) (weights-total m i h) ∙ ap (λ n. 6 * m ^ 3 * n) (weights-total m j k)
    ∙ regroup (m ^ 3) ∙ ap (λ n. 36 * n) (sym (sixth-is m))
  where
    regroup : (n : ℕ) → 6 * n * (6 * n) ≡ 36 * (n * n)
    regroup n = omega arith

-- Points.

module _ (points : ℕ) where
  abbrev is_point : SourcePoint → Bool
  is_point (OfPoint v) = nat_lt v points
  is_point (OfFace f) = false

  abbrev below : ℕ → Bool
  below v = nat_lt v points

  abbrev from : Term → Bool
  from t = is_point t.source

  among : (source : SourcePoint) → is_point source ≡ true → IsPointAmong points source
  among (OfPoint v) h = ltb-true v points h
  among (OfFace f) h = absurd (false≢true h)

  all-among : (terms : List Term) → list_all from terms ≡ true → All (λ t. IsPointAmong points t.source) terms
  all-among terms h k d inside = among (get_or terms k d).source (all-at from terms k d inside h)

  row-from : (along row : List ℕ) (across : ℕ) → list_all below row ≡ true → list_all from (row_terms along (across, row)) ≡ true
  row-from [] row across h = refl
  row-from (a ∷ along) [] across h = refl
  row-from (a ∷ along) (p ∷ row) across h =
      let parts = and_parts (below p) (list_all below row) h in and_from _ _ parts.0 (row-from along row across parts.1)

  rows-from : (along across : List ℕ) (rows : List (List ℕ)) → list_all (list_all below) rows ≡ true
      → list_all from (flat_map (row_terms along) (zip across rows)) ≡ true
  rows-from along [] rows h = refl
  rows-from along (a ∷ across) [] h = refl
  rows-from along (a ∷ across) (row ∷ rows) h =
      let parts = and_parts (list_all below row) (list_all (list_all below) rows) h in
      all-append from (row_terms along (a, row)) (flat_map (row_terms along) (zip across rows)) (row-from along row a parts.0) (rows-from along across rows parts.1)

  four-below : (a b c d : ℕ) → below a ≡ true → below b ≡ true → below c ≡ true → below d ≡ true → list_all below (a ∷ b ∷ c ∷ d ∷ []) ≡ true
  four-below a b c d ha hb hc hd = and_from _ _ ha (and_from _ _ hb (and_from _ _ hc (and_from _ _ hd refl)))

  module _ (polygons : List Polygon) (over : list_all (list_all below) polygons ≡ true) (some : below 0 ≡ true) where
    corner-below : (f place : ℕ) → below (get_or (polygon_at polygons f) place 0) ≡ true
    corner-below f place = all-get_or below (polygon_at polygons f) place 0 (all-get_or (list_all below) polygons f [] over refl) some

    grid-below : (a b c d : ℕ) → below a ≡ true → below b ≡ true → below c ≡ true → below d ≡ true
        → list_all (list_all below) (grid_of_quad polygons a b c d) ≡ true
    grid-below a b c d ha hb hc hd =
        and_from _ _ (four-below _ _ _ _ (corner-below _ _) (corner-below _ _) (corner-below _ _) (corner-below _ _))
        (and_from _ _ (four-below _ _ _ _ (corner-below _ _) ha hb (corner-below _ _))
        (and_from _ _ (four-below _ _ _ _ (corner-below _ _) hd hc (corner-below _ _))
        (and_from _ _ (four-below _ _ _ _ (corner-below _ _) (corner-below _ _) (corner-below _ _) (corner-below _ _)) refl)))

points-below : (t : Topology) (face : ℕ) → IsTopology t → HasPatch t.level face → 0 < length (polygon_at t.level.polygons face)
    → list_all (list_all (λ v. nat_lt v t.level.point_count)) (patch_points t.level face) ≡ true
points-below t face is has corner =
    let over = is-over t is in
    let some : nat_lt 0 t.level.point_count ≡ true = lt-ltb 0 t.level.point_count (omega (arith, corners-exist t is face has.inside 0 0 corner)) in
    let at = corner-below t.level.point_count t.level.polygons over some face in
    grid-below t.level.point_count t.level.polygons over some _ _ _ _ (at 0) (at 1) (at 2) (at 3)

-- Places.

flat-at : {X : Type 0} (n : ℕ) (f : ℕ → List X) (d : X) → ((j : ℕ) → length (f j) ≡ n) → (start count j i : ℕ) → j < count → i < n
    → get_or (flat_map f (range_with_len start count)) (n * j + i) d ≡ get_or (f (start + j)) i d
flat-at n f d each start zero j i h k = absurd (omega (arith, h))
flat-at n f d each start (suc count) zero i h k =
    let first : n * 0 + i ≡ i = omega arith in
    let own : start ≡ start + 0 = omega arith in
    ap (λ p. get_or (f start ++ flat_map f (range_with_len (start + 1) count)) p d) first
    ∙ get_or_append_left (f start) (flat_map f (range_with_len (start + 1) count)) d i (omega (arith, k, each start)) ∙ ap (λ s. get_or (f s) i d) own
flat-at n f d each start (suc count) (suc j) i h k =
    let further : n * suc j + i ≡ length (f start) + (n * j + i) = more n j i (length (f start)) (each start) in
    let next : start + 1 + j ≡ start + suc j = omega arith in
    ap (λ p. get_or (f start ++ flat_map f (range_with_len (start + 1) count)) p d) further
    ∙ get_or-append-add (f start) (flat_map f (range_with_len (start + 1) count)) (n * j + i) d
    ∙ flat-at n f d each (start + 1) count j i (omega (arith, h)) k ∙ ap (λ s. get_or (f s) i d) next
  where
    more : (n j i m : ℕ) → m ≡ n → n * suc j + i ≡ m + (n * j + i)
    more n j i m e = omega (arith, e)

flat-length : {X : Type 0} (n : ℕ) (f : ℕ → List X) → ((j : ℕ) → length (f j) ≡ n) → (start count : ℕ)
    → length (flat_map f (range_with_len start count)) ≡ count * n
flat-length n f each start zero = omega arith
flat-length n f each start (suc count) =
    let behind = flat-length n f each (start + 1) count in
    length-append (f start) (flat_map f (range_with_len (start + 1) count)) ∙ ap (λ k. k + length (flat_map f (range_with_len (start + 1) count))) (each start)
    ∙ ap (λ k. n + k) behind ∙ more n count
  where
    more : (n count : ℕ) → n + count * n ≡ suc count * n
    more n count = omega arith

module _ (m : ℕ) where
  abbrev places-in : ℕ → List (ℕ × ℕ)
  places-in j = map (λ i. (i, j)) (range_with_len 0 (m + 1))

  each-width : (j : ℕ) → length (places-in j) ≡ m + 1
  each-width j = length-map-range_with_len (λ i. (i, j)) 0 (m + 1)

  places-count : length (patch_places m) ≡ (m + 1) * (m + 1)
  places-count = flat-length (m + 1) places-in each-width 0 (m + 1)

  row-within : (row : ℕ) → row < (m + 1) * (m + 1) → row / (m + 1) < m + 1
  row-within row h = div_below row (m + 1) (m + 1) (omega arith) h

  place-there : (row : ℕ) → row < (m + 1) * (m + 1) → get_or (patch_places m) row (0, 0) ≡ (row % (m + 1), row / (m + 1))
  place-there row h =
      let j = row / (m + 1) in
      let i = row % (m + 1) in
      let whole : row ≡ (m + 1) * j + i = omega arith in
      let within : i < m + 1 = omega arith in
      let own : 0 + i ≡ i = omega arith in
      let first : 0 + j ≡ j = omega arith in
      ap (λ p. get_or (patch_places m) p (0, 0)) whole
      ∙ flat-at (m + 1) places-in (0, 0) each-width 0 (m + 1) j i (row-within row h) within
      ∙ ap (λ r. get_or (places-in r) i (0, 0)) first
      ∙ get_or-map-range_with_len (λ n. (n, j)) 0 (m + 1) i i (0, 0) within own

  pub masks-count : (level : Level) (face : ℕ) → length (patch_masks level face m) ≡ (m + 1) * (m + 1)
  masks-count level face = length-map (patch_places m) (patch_mask level face m) ∙ places-count

  mask-there : (level : Level) (face row : ℕ) → row < (m + 1) * (m + 1)
      → mask_at (patch_masks level face m) row ≡ patch_mask level face m (row % (m + 1), row / (m + 1))
  mask-there level face row h =
      get_or-map (patch_mask level face m) (patch_places m) row (0, 0) no_mask (omega (arith, h, places-count)) ∙ ap (patch_mask level face m) (place-there row h)

joining : (terms : List Term) (denominator : ℕ) → HaveSameWeights (record { terms = terms; denominator = denominator }) (mask_of terms denominator)
joining terms denominator = record { denominator = refl; weights = λ source. sym (weight_in-mask_of terms denominator source) }

above-zero : (m : ℕ) → 0 < m → 0 < 36 * m ^ 6
above-zero m h = subst (λ n. 0 < 36 * n) (sym (sixth-is m ∙ ap (λ n. n * n) (cube-is m))) (product m h)
  where
    product : (m : ℕ) → 0 < m → 0 < 36 * (m * m * m * (m * m * m))
    product zero h = absurd (omega (arith, h))
    product (suc m) h = omega arith

-- the weights put for a place are its mask
are-weights : (t : Topology) (face m i j : ℕ) (points : List (List ℕ)) → HasPoints t face m points → i ≤ m → j ≤ m
    → AreWeightsOf t.level.point_count (patch_mask t.level face m (i, j)) (grid_weights points (spline_weights m i) (spline_weights m j) (36 * m ^ 6))
are-weights t face m i j points has h k =
    let terms = flat_map (row_terms (spline_weights m i)) (zip (spline_weights m j) (patch_points t.level face)) in
    let quad = and_parts (is_quad t.level face) (list_all (is_regular_in_quads t.level) (polygon_at t.level.polygons face)) has.patch.regular in
    let four : length (polygon_at t.level.polygons face) ≡ 4 = eqb-true _ 4 quad.0 in
    subst (λ ps. AreWeightsOf t.level.point_count (patch_mask t.level face m (i, j)) (grid_weights ps (spline_weights m i) (spline_weights m j) (36 * m ^ 6)))
    (sym has.points_are)
    (record {
      same = joining terms (36 * m ^ 6);
      joined = joined-mask_of terms (36 * m ^ 6);
      points = all-among t.level.point_count terms
          (rows-from t.level.point_count (spline_weights m i) (spline_weights m j) (patch_points t.level face)
          (points-below t face has.topology has.patch (omega (arith, four))));
      total = spline-total m i j (patch_points t.level face) h k refl refl;
      positive = above-zero m has.some;
    })

-- The masks of a patch as the trait sees them.
module _ (t : Topology) (face m : ℕ) (seen : PatchGrid) (e : record { level = t.level; face = face; grid = m } ≡ seen) where
  pub seen-count : length (patch_masks seen.level seen.face seen.grid) ≡ (m + 1) * (m + 1)
  seen-count = ap (λ (s : PatchGrid). length (patch_masks s.level s.face s.grid)) (sym e) ∙ masks-count m t.level face

  -- the place of a row
  module _ (row : ℕ) (place : ℕ × ℕ) (found : place ≡ (row % (m + 1), row / (m + 1))) (inside : row < length (patch_masks seen.level seen.face seen.grid)) where
    within : row < (m + 1) * (m + 1)
    within = omega (arith, inside, seen-count)

    pub along-within : place.0 ≤ m
    along-within = let e : place.0 ≡ row % (m + 1) = ap (λ (p : ℕ × ℕ). p.0) found in omega (arith, e)

    pub across-within : place.1 ≤ m
    across-within = let e : place.1 ≡ row / (m + 1) = ap (λ (p : ℕ × ℕ). p.1) found in omega (arith, e, row-within m row within)

    -- the weights were put, or memory ran out
    pub puts-place : (points : List (List ℕ)) (put : Mask) (result : Result (Unit {0}) Memory) → HasPoints t face m points
        → OnOk result (put ≡ grid_weights points (spline_weights m place.0) (spline_weights m place.1) (36 * m ^ 6))
        → OnOk result (AreWeightsOf seen.level.point_count (mask_at (patch_masks seen.level seen.face seen.grid) row) put)
    puts-place points put result has made =
        subst (λ (s : PatchGrid). OnOk result (AreWeightsOf s.level.point_count (mask_at (patch_masks s.level s.face s.grid) row) put)) e (here result made)
      where
        here : (result : Result (Unit {0}) Memory)
            → OnOk result (put ≡ grid_weights points (spline_weights m place.0) (spline_weights m place.1) (36 * m ^ 6))
            → OnOk result (AreWeightsOf t.level.point_count (mask_at (patch_masks t.level face m) row) put)
        here (Ok _) made =
            let mask : patch_mask t.level face m place ≡ mask_at (patch_masks t.level face m) row =
            ap (patch_mask t.level face m) found ∙ sym (mask-there m t.level face row within) in
            subst (λ n. AreWeightsOf t.level.point_count n put) mask
            (subst (AreWeightsOf t.level.point_count (patch_mask t.level face m place)) (sym made)
            (are-weights t face m place.0 place.1 points has along-within across-within))
        here (Err _) made = tt
