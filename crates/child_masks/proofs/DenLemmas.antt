-- The denominators of all new values. They are above 0, and that of a face that some mask uses divides the mask's.
use Rattle.std.proofs.Common.{◌≡◌, inl, inr, ◌⊎◌, ℕ, zero, suc, ◌*◌, ◌<◌, ◌≤◌, Bool, true, false, nat_lt, nat_le, List, [], ◌∷◌, length, map, get_or, arith, refl, ap, sym, ◌∙◌, subst}
use Rattle.std.specs.List.{All, AllByRecursion, list_any}
use Rattle.std.specs.Int.{◌∣◌}
use Rattle.std.proofs.lemmas.Bool.{cases_lt, cond_both}
use Rattle.std.proofs.lemmas.Bool.Decides.{nat_tests}
use Rattle.std.proofs.lemmas.Nat.Gcd.{le_of_dvd}
use Rattle.std.proofs.lemmas.List.{get_or-map, get_or_past, length-map}
use Rattle.subdiv_model.specs.Polygons.{polygon_at}
use Rattle.subdiv_model.specs.Edges.{edges_of, faces_of_edge}
use Rattle.subdiv_model.specs.Sharpness.{Sharpness, Smooth, Semi, Infinite}
use Rattle.subdiv_model.specs.Level.{Level, edge_sharpness_of}
use Rattle.subdiv_model.specs.Multiples.{lcm_of_all}
use Rattle.subdiv_model.specs.Mask.{Scheme, CatmullClark, Linear, SourcePoint, OfPoint, OfFace, Term, same_source, has_source, is_source_of, face_mask, edge_mask, vertex_mask, mask_of_edge, sharp_edge_mask, blended_edge_mask}
use Rattle.subdiv_model.specs.Refined.{mask_denominator, source_denominator}
use Rattle.number_laws.proofs.MultipleLemmas.{lcm_of_all-positive, each-divides, product-positive}
use Rattle.sharpness_laws.proofs.JoinedWeightLemmas.{source-eq}
use Rattle.mask_laws.proofs.ListLemmas.{each-passes}
use Rattle.mask_rules.specs.Around.{HasSharpBoundaryAt}
use Rattle.mask_rules.proofs.SharpLemmas.{vertex-mean}
use Rattle.level_topology.specs.Topology.{Topology, IsTopology, edge_at}
use Rattle.level_topology.specs.Child.{PointOrigin, FromVertex, FromFace, FromEdge, IsOriginWithin, ChildTopology, HasParent, same_origin}
use Rattle.level_topology.proofs.ChildLemmas.{same_origin-refl}
use Rattle.child_masks.specs.Masks.{mask_from, has_origin, CanRefine, origin_at}
use Rattle.child_masks.proofs.MeanLemmas.{mean-positive}
use Rattle.child_masks.proofs.SourceLemmas.{mask-inside, corners-only, corner-dens}
use Rattle.child_masks.proofs.OriginLemmas.{any-at, some-corners, is-over, origin-within}

-- all denominators are at least 1
pub dens-positive : (dens : List ℕ) → All (λ den. 0 < den) dens → (v : ℕ) → 0 < get_or dens v 1
dens-positive dens each v = at (cases_lt v (length dens))
  where
    at : (v < length dens) ⊎ (length dens ≤ v) → 0 < get_or dens v 1
    at (inl inside) = each v 1 inside
    at (inr past) = let gone : get_or dens v 1 ≡ 1 = get_or_past dens v 1 past in omega (arith, gone)

-- the denominator of a face is above 0
pub face-positive : (level : Level) (dens : List ℕ) (f : ℕ) → All (λ den. 0 < den) dens → 0 < length (polygon_at level.polygons f)
    → 0 < mask_denominator (source_denominator level dens) (face_mask level f)
face-positive level dens f each some =
    product-positive (length (polygon_at level.polygons f)) _ some
    (lcm_of_all-positive _ (of-terms (face_mask level f).terms
    (corners-only level f (λ s. 0 < source_denominator level dens s) (λ v. dens-positive dens each v))))
  where
    of-terms : (terms : List Term) → AllByRecursion (λ t. 0 < source_denominator level dens t.source) terms
        → AllByRecursion (λ a. 0 < a) (map (λ t. source_denominator level dens t.source) terms)
    of-terms [] h = tt
    of-terms (t ∷ terms) h = (h.0, of-terms terms h.1)

-- an item that passes a test has a place in the list
pub record Place {X : Type 0} (test : X → Bool) (xs : List X) (d : X) : Type 0 where
  pub at : ℕ
  pub inside : at < length xs
  pub passes : test (get_or xs at d) ≡ true

pub some-place : {X : Type 0} (test : X → Bool) (xs : List X) (d : X) → list_any test xs ≡ true → Place test xs d
some-place test [] d h = absurd (cc)
some-place test (x ∷ xs) d h = here (λ k. some-place test xs d k) (test x) refl
  where
    rest : (b : Bool) → test x ≡ b → b ≡ false → list_any test xs ≡ true
    rest b e f = grind (arith, nat_tests, e, f, h)

    here : (list_any test xs ≡ true → Place test xs d) → (b : Bool) → test x ≡ b → Place test (x ∷ xs) d
    here after true e = record { at = 0; inside = omega arith; passes = e }
    here after false e =
        let more = after (rest false e refl) in
        record { at = suc more.at; inside = (let below = more.inside in omega (arith, below)); passes = more.passes }

-- the denominators of masks are above 0
vertex-positive : (parent : Topology) (scheme : Scheme) (v : ℕ) → IsTopology parent → (scheme ≡ CatmullClark → HasSharpBoundaryAt parent.level v)
    → 0 < (vertex_mask parent.level scheme v).denominator
vertex-positive parent CatmullClark v is h = mean-positive (vertex_mask parent.level CatmullClark v) (vertex-mean parent v is (h refl))
vertex-positive parent Linear v is h = omega arith

-- the denominator of an edge's mask is above 0, whatever its sharpness
mask-of-edge-positive : (s : Sharpness) (edge : ℕ × ℕ) (faces : List ℕ) → 0 < (mask_of_edge s edge faces).denominator
mask-of-edge-positive Smooth edge faces = omega arith
mask-of-edge-positive (Semi x y) edge faces =
    cond_both (nat_le y x) (sharp_edge_mask edge) (blended_edge_mask x y edge faces) (λ m. 0 < m.denominator) (λ _. omega arith) (λ h. above x y h)
  where
    above : (x y : ℕ) → nat_le y x ≡ false → 0 < 4 * y
    above x zero h = grind (arith, nat_tests, h)
    above x (suc y) h = omega arith
mask-of-edge-positive Infinite edge faces = omega arith

-- the denominator of an edge's mask is above 0 under either scheme
edge-positive : (level : Level) (scheme : Scheme) (edge : ℕ × ℕ) → 0 < (edge_mask level scheme edge).denominator
edge-positive level CatmullClark edge = mask-of-edge-positive (edge_sharpness_of level edge) edge (faces_of_edge level.polygons edge)
edge-positive level Linear edge = omega arith

module _ (parent : Topology) (child : ChildTopology) (scheme : Scheme) (dens : List ℕ) (is : IsTopology parent) (has : HasParent child)
    (can : CanRefine parent child scheme) (each : All (λ den. 0 < den) dens) where
  abbrev den_of : PointOrigin → ℕ
  den_of origin = mask_denominator (source_denominator parent.level dens) (mask_from parent.level scheme origin)

  abbrev Within : PointOrigin → Type 0
  Within = IsOriginWithin parent.level.point_count (length parent.level.polygons) (length (edges_of parent.level.polygons))

  -- the denominator of the mask of each origin is above 0
  mask-positive : (origin : PointOrigin) → has_origin child.origins origin ≡ true → Within origin → 0 < (mask_from parent.level scheme origin).denominator
  mask-positive (FromVertex v) there within = vertex-positive parent scheme v is (λ e. can.boundary e v there)
  mask-positive (FromFace f) there within = some-corners parent is f within
  mask-positive (FromEdge e) there within = edge-positive parent.level scheme (edge_at parent.level.polygons e)

  -- a point comes from its origin
  there-at : (p : ℕ) → p < length child.origins → has_origin child.origins (origin_at child.origins p) ≡ true
  there-at p inside = any-at (same_origin (origin_at child.origins p)) child.origins p (FromVertex 0) inside (same_origin-refl (origin_at child.origins p))

  -- the denominators of sources are above 0
  source-positive : (s : SourcePoint) → is_source_of parent.level s ≡ true → 0 < source_denominator parent.level dens s
  source-positive (OfPoint v) h = dens-positive dens each v
  source-positive (OfFace f) h =
      let below : f < length parent.level.polygons = lower f (length parent.level.polygons) h in
      let same = corner-dens parent.level f dens in
      let positive = face-positive parent.level dens f each (some-corners parent is f below) in
      subst (λ n. 0 < n) (sym same) positive
    where
      lower : (a b : ℕ) → nat_lt a b ≡ true → a < b
      lower a b e = grind (arith, nat_tests, e)

  -- the denominators of the sources of all terms are above 0
  positive-terms : (terms : List Term) → AllByRecursion (λ t. is_source_of parent.level t.source ≡ true) terms
      → AllByRecursion (λ a. 0 < a) (map (λ t. source_denominator parent.level dens t.source) terms)
  positive-terms [] h = tt
  positive-terms (t ∷ terms) h = (source-positive t.source h.0, positive-terms terms h.1)

  -- the denominator of a face is at most that of a mask that uses the face
  pub named-den : (p f : ℕ) → p < length child.origins → has_source (mask_from parent.level scheme (origin_at child.origins p)).terms (OfFace f) ≡ true
      → source_denominator parent.level dens (OfFace f) ≤ den_of (origin_at child.origins p)
  named-den p f inside named =
      let origin = origin_at child.origins p in
      let within : Within origin = origin-within parent child scheme has can p inside in
      let mask = mask_from parent.level scheme origin in
      let none : Term = record { source = OfPoint 0; weight = 0 } in
      let den : Term → ℕ = λ t. source_denominator parent.level dens t.source in
      let place = some-place (λ (t : Term). same_source (OfFace f) t.source) mask.terms none named in
      let source : OfFace f ≡ (get_or mask.terms place.at none).source = source-eq (OfFace f) (get_or mask.terms place.at none).source place.passes in
      let common = lcm_of_all (map den mask.terms) in
      let inside-map : place.at < length (map den mask.terms) = rw length-map (place.inside) in
      let divides : get_or (map den mask.terms) place.at 1 ∣ common = each-divides (map den mask.terms) place.at 1 inside-map in
      let here : get_or (map den mask.terms) place.at 1 ≡ source_denominator parent.level dens (OfFace f) =
      get_or-map den mask.terms place.at none 1 place.inside ∙ ap (source_denominator parent.level dens) (sym source) in
      let passed = each-passes (λ (t : Term). is_source_of parent.level t.source) mask.terms (mask-inside parent.level (is-over parent is) scheme origin within) in
      let positive : 0 < common = lcm_of_all-positive (map den mask.terms) (positive-terms mask.terms passed) in
      let less : get_or (map den mask.terms) place.at 1 ≤ common = le_of_dvd positive divides in
      let some : 0 < mask.denominator = mask-positive origin (there-at p inside) within in
      bound _ _ common mask.denominator here less some
    where
      grown : (a q : ℕ) → a ≤ suc q * a
      grown a q = omega arith

      bound : (a b c q : ℕ) → a ≡ b → a ≤ c → 0 < q → b ≤ q * c
      bound a b c zero e h k = absurd (omega (arith, k))
      bound a b c (suc q) e h k = omega (arith, e, h, grown c q)

  -- the denominator of each child point is above 0
  pub den-positive : (p : ℕ) → p < length child.origins → 0 < den_of (origin_at child.origins p)
  den-positive p inside =
      let origin = origin_at child.origins p in
      let within : Within origin = origin-within parent child scheme has can p inside in
      let mask = mask_from parent.level scheme origin in
      let passed = each-passes (λ (t : Term). is_source_of parent.level t.source) mask.terms (mask-inside parent.level (is-over parent is) scheme origin within) in
      product-positive mask.denominator (lcm_of_all (map (λ t. source_denominator parent.level dens t.source) mask.terms)) (mask-positive origin (there-at p inside) within)
      (lcm_of_all-positive (map (λ t. source_denominator parent.level dens t.source) mask.terms) (positive-terms mask.terms passed))
