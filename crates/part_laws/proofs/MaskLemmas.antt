-- Masks of faces, of whole edges and of whole points are those of the whole.
use Rattle.std.proofs.Common.{◌≡◌, ℕ, ◌+◌, ◌*◌, ◌-◌, ◌<◌, Bool, true, false, ◌&&◌, ◌||◌, nat_eq, nat_lt, nat_le, if◌then◌else◌, List, [], ◌∷◌, ◌++◌, length, map, get_or, arith, refl, ap, sym, ◌∙◌, subst, inl, inr, IsTrue}
use Rattle.std.specs.List.{list_all, list_any}
use Rattle.std.proofs.lemmas.Bool.{and_parts, cases_lt, cases_eq, ltb-true}
use Rattle.std.proofs.lemmas.List.{length-map, get_or-map}
use Rattle.std.proofs.lemmas.List.Kept.{AllPairs-from_increasing}
use Rattle.subdiv_model.specs.Lists.{places}
use Rattle.subdiv_model.specs.Polygons.{Polygon, same_edge, has_edge, has_corner, polygon_at}
use Rattle.subdiv_model.specs.Edges.{edges_of, faces_of_edge}
use Rattle.subdiv_model.specs.Sharpness.{Sharpness, Smooth, Semi, Infinite, is_sharp, uniform_child, half_child}
use Rattle.subdiv_model.specs.Rule.{Rule, SmoothRule, DartRule, CreaseRule, CornerRule, rule_of_sharp_edges, vertex_rule, same_mask, child_ring, transition_weight}
use Rattle.subdiv_model.specs.Level.{Level, edge_sharpness_of, vertex_sharpness_of, edges_at, faces_at, ring_at}
use Rattle.subdiv_model.specs.Mask.{Scheme, CatmullClark, Linear, SourcePoint, OfPoint, OfFace, Term, Mask, same_source, weigh, weigh_points, weigh_faces, mask_of, mask_of_corners, sharp_edge_mask, mask_of_edge, smooth_vertex_mask, crease_mask, corner_mask, mask_of_rule, mask_of_vertex, transition_mask, other_end, ends_at, face_mask, edge_mask, vertex_mask}
use Rattle.mesh_laws.proofs.ClosedLemmas.{all-at}
use Rattle.mask_laws.proofs.ListLemmas.{places-below}
use Rattle.part_laws.specs.Parts.{IsPart, IsWholeAt, IsWholeAlong, HasEnds, is_corner, renamed, face_in}
use Rattle.part_laws.specs.LevelParts.{IsLevelPart}
use Rattle.part_laws.specs.Masks.{source_in, mask_in}
use Rattle.part_laws.proofs.RenamedLemmas.{number-renamed}
use Rattle.part_laws.proofs.PartLemmas.{as-many, polygon-in, own-corners, own-ends, edge-ends, same-faces, same-faces-along, same-ends}
use Rattle.part_laws.proofs.LevelLemmas.{same-ring, same-child-ring, same-vertex}
use Rattle.part_laws.proofs.TermLemmas.{is_own, AreTermsIn, IsMaskIn, no-terms, point-terms, face-terms, both-terms, more-terms, mask-of-terms, transition-in}

-- the numbers of two faces differ
pub faces-apart : (name : ℕ → ℕ) (faces : List ℕ) (part whole : List Polygon) → IsPart name faces part whole → (k j : ℕ) → nat_lt k (length part) ≡ true → nat_lt j (length part) ≡ true → face_in faces k ≡ face_in faces j → k ≡ j
faces-apart name faces part whole is k j h g e =
    let up = AllPairs-from_increasing faces is.ascending in
    let below = ltb-true k (length part) h in
    let within = ltb-true j (length part) g in
    let many = as-many name faces part whole is in
    elim (cases_eq k j) [
      | inl same ↦ same
      | inr other ↦ elim (cases_lt k j) [
        | inl less ↦ let more = up k j 0 less (omega (arith, within, many)) in absurd (omega (arith, more, e))
        | inr least ↦ let more = up j k 0 (omega (arith, least, other)) (omega (arith, below, many)) in absurd (omega (arith, more, e))
      ]
    ]

-- the places of a rule's edges
abbrev IsWithin : ℕ → Rule → Type 0
IsWithin n SmoothRule = Unit {0}
IsWithin n DartRule = Unit {0}
IsWithin n (CreaseRule a b) = (a < n) × (b < n)
IsWithin n CornerRule = Unit {0}

within-edges : (n : ℕ) (some : List ℕ) → list_all (λ f. nat_lt f n) some ≡ true → IsWithin n (rule_of_sharp_edges some)
within-edges n [] h = tt
within-edges n (a ∷ []) h = tt
within-edges n (a ∷ (b ∷ [])) h =
    let one = and_parts (nat_lt a n) (nat_lt b n && true) h in
    let two = and_parts (nat_lt b n) true one.1 in
    (ltb-true a n one.0, ltb-true b n two.0)
within-edges n (a ∷ (b ∷ (c ∷ more))) h = tt

within-rule : (vertex : Sharpness) (ring : List Sharpness) → IsWithin (length ring) (vertex_rule vertex ring)
within-rule vertex ring = go (is_sharp vertex || nat_eq (length ring) 0)
  where
    go : (b : Bool) → IsWithin (length ring) (if b then CornerRule else rule_of_sharp_edges (places is_sharp ring))
    go true = tt
    go false = within-edges (length ring) (places is_sharp ring) (places-below is_sharp 0 (length ring) ring (omega arith))

module _ (name : ℕ → ℕ) (faces : List ℕ) (part whole : List Polygon) (is : IsPart name faces part whole) where
  abbrev point : ℕ → Bool
  point p = is_corner part p

  abbrev face : ℕ → Bool
  face k = nat_lt k (length part)

  abbrev InWhole : Mask → Mask → Type 0
  InWhole mask other = IsMaskIn name faces (λ p. is_corner part p) (λ k. nat_lt k (length part)) mask other

  tells : (s u : SourcePoint) → is_own point face s ≡ true → is_own point face u ≡ true → same_source (source_in name faces s) (source_in name faces u) ≡ same_source s u
  tells (OfPoint p) (OfPoint q) h k = number-renamed name point is.apart p q h k
  tells (OfPoint p) (OfFace g) h k = refl
  tells (OfFace f) (OfPoint q) h k = refl
  tells (OfFace f) (OfFace g) h k = number-renamed (face_in faces) face (faces-apart name faces part whole is) f g h k

  made : (terms others : List Term) (q : ℕ) → AreTermsIn name faces point face terms others → InWhole (mask_of terms q) (mask_of others q)
  made terms others q h = mask-of-terms name faces point face tells terms others q h

  points : (weight : ℕ) (some : List ℕ) → list_all point some ≡ true → AreTermsIn name faces point face (weigh_points weight some) (weigh_points weight (map name some))
  points weight some all = point-terms name faces point face weight some all

  corners-in : (corners : Polygon) → list_all point corners ≡ true → InWhole (mask_of_corners corners) (mask_of_corners (map name corners))
  corners-in corners all =
      subst (λ n. InWhole (mask_of_corners corners) (mask_of (weigh_points 1 (map name corners)) n)) (sym (length-map corners name))
      (made (weigh_points 1 corners) (weigh_points 1 (map name corners)) (length corners) (points 1 corners all))

  both-points : (edge : ℕ × ℕ) → HasEnds part edge → list_all point (edge.0 ∷ edge.1 ∷ []) ≡ true
  both-points edge ends = let one = ends.first in let two = ends.second in rw (one, two) refl

  -- the ends, and the faces
  ends-and-faces : (a b : ℕ) (some more : List ℕ) → list_all point some ≡ true → list_all face more ≡ true → AreTermsIn name faces point face (weigh_points a some ++ weigh_faces b more) (weigh_points a (map name some) ++ weigh_faces b (map (face_in faces) more))
  ends-and-faces a b some more h k =
      both-terms name faces point face (weigh_points a some) (weigh_faces b more) (weigh_points a (map name some)) (weigh_faces b (map (face_in faces) more)) (points a some h) (face-terms name faces point face b more k)

  edge-in : (s : Sharpness) (edge : ℕ × ℕ) (some : List ℕ) → HasEnds part edge → list_all face some ≡ true → InWhole (mask_of_edge s edge some) (mask_of_edge s (renamed name edge) (map (face_in faces) some))
  edge-in s edge some ends all = go s
    where
      sharp : InWhole (sharp_edge_mask edge) (sharp_edge_mask (renamed name edge))
      sharp = made (weigh_points 1 (edge.0 ∷ edge.1 ∷ [])) (weigh_points 1 (name edge.0 ∷ name edge.1 ∷ [])) 2 (points 1 (edge.0 ∷ edge.1 ∷ []) (both-points edge ends))

      mixed : (a b q : ℕ) → InWhole (mask_of (weigh_points a (edge.0 ∷ edge.1 ∷ []) ++ weigh_faces b some) q) (mask_of (weigh_points a (name edge.0 ∷ name edge.1 ∷ []) ++ weigh_faces b (map (face_in faces) some)) q)
      mixed a b q = made _ _ q (ends-and-faces a b (edge.0 ∷ edge.1 ∷ []) some (both-points edge ends) all)

      either : (x y : ℕ) (b : Bool) → InWhole (if b then sharp_edge_mask edge else mask_of (weigh_points (y + x) (edge.0 ∷ edge.1 ∷ []) ++ weigh_faces (y - x) some) (4 * y)) (if b then sharp_edge_mask (renamed name edge) else mask_of (weigh_points (y + x) (name edge.0 ∷ name edge.1 ∷ []) ++ weigh_faces (y - x) (map (face_in faces) some)) (4 * y))
      either x y true = sharp
      either x y false = mixed (y + x) (y - x) (4 * y)

      go : (t : Sharpness) → InWhole (mask_of_edge t edge some) (mask_of_edge t (renamed name edge) (map (face_in faces) some))
      go Smooth = mixed 1 1 4
      go (Semi x y) = either x y (nat_le y x)
      go Infinite = sharp

  pub sharp-in : (edge : ℕ × ℕ) → HasEnds part edge → InWhole (sharp_edge_mask edge) (sharp_edge_mask (renamed name edge))
  sharp-in edge ends = edge-in Infinite edge [] ends refl

  corner-in : (p : ℕ) → point p ≡ true → InWhole (corner_mask p) (corner_mask (name p))
  corner-in p h = made _ _ 1 (more-terms name faces point face 1 p [] [] h (no-terms name faces point face))

  module _ (p : ℕ) (there : point p ≡ true) (ends some : List ℕ) (own : list_all point ends ≡ true) (all : list_all face some ≡ true) where
    smooth-in : InWhole (smooth_vertex_mask p ends some) (smooth_vertex_mask (name p) (map name ends) (map (face_in faces) some))
    smooth-in =
        let rest = weigh_points 1 ends ++ weigh_faces 1 some in
        let others = weigh_points 1 (map name ends) ++ weigh_faces 1 (map (face_in faces) some) in
        subst (λ n. InWhole (smooth_vertex_mask p ends some) (mask_of (weigh (n * (n - 2)) (OfPoint (name p)) ∷ others) (n * n))) (sym (length-map ends name))
        (made _ _ (length ends * length ends) (more-terms name faces point face (length ends * (length ends - 2)) p rest others there (ends-and-faces 1 1 ends some own all)))

    crease-in : (a b : ℕ) → a < length ends → b < length ends → InWhole (crease_mask p (get_or ends a 0) (get_or ends b 0)) (crease_mask (name p) (get_or (map name ends) a 0) (get_or (map name ends) b 0))
    crease-in a b h k =
        let x = get_or ends a 0 in
        let y = get_or ends b 0 in
        let one = all-at point ends a 0 h own in
        let two = all-at point ends b 0 k own in
        subst (λ n. InWhole (crease_mask p x y) (crease_mask (name p) n (get_or (map name ends) b 0))) (sym (get_or-map name ends a 0 0 h))
        (subst (λ n. InWhole (crease_mask p x y) (crease_mask (name p) (name x) n)) (sym (get_or-map name ends b 0 0 k))
        (made _ _ 8 (more-terms name faces point face 6 p (weigh_points 1 (x ∷ y ∷ [])) (weigh_points 1 (name x ∷ name y ∷ [])) there (points 1 (x ∷ y ∷ []) (rw (one, two) refl)))))

    rule-in : (rule : Rule) → IsWithin (length ends) rule → InWhole (mask_of_rule p ends some rule) (mask_of_rule (name p) (map name ends) (map (face_in faces) some) rule)
    rule-in SmoothRule h = smooth-in
    rule-in DartRule h = smooth-in
    rule-in (CreaseRule a b) h = crease-in a b h.0 h.1
    rule-in CornerRule h = corner-in p there

    vertex-in : (vertex next : Sharpness) (ring ring_next : List Sharpness) → length ring ≡ length ends → length ring_next ≡ length ends → InWhole (mask_of_vertex vertex next ring ring_next p ends some) (mask_of_vertex vertex next ring ring_next (name p) (map name ends) (map (face_in faces) some))
    vertex-in vertex next ring ring_next h k =
        let parent = rule-in (vertex_rule vertex ring) (subst (λ n. IsWithin n (vertex_rule vertex ring)) h (within-rule vertex ring)) in
        let child = rule-in (vertex_rule next ring_next) (subst (λ n. IsWithin n (vertex_rule next ring_next)) k (within-rule next ring_next)) in
        go (same_mask (vertex_rule vertex ring) (vertex_rule next ring_next)) (transition_weight vertex next ring ring_next) _ _ _ _ parent child
      where
        go : (b : Bool) (w : ℕ × ℕ) (m n in_m in_n : Mask) → InWhole m in_m → InWhole n in_n → InWhole (if b then m else transition_mask w m n) (if b then in_m else transition_mask w in_m in_n)
        go true w m n in_m in_n h k = h
        go false w m n in_m in_n h k = transition-in name faces point face tells w m n in_m in_n h k

module _ (name : ℕ → ℕ) (faces : List ℕ) (part whole : Level) (is : IsLevelPart name faces part whole) where
  -- a face has the mask of its face in the whole
  pub same-face-mask : (k : ℕ) → k < length part.polygons → face_mask whole (face_in faces k) ≡ mask_in name faces (face_mask part k)
  same-face-mask k h =
      let corners = polygon_at part.polygons k in
      let own = all-at (list_all (is_corner part.polygons)) part.polygons k [] h (own-corners part.polygons) in
      ap mask_of_corners (sym (polygon-in name faces part.polygons whole.polygons is.polygons k h))
      ∙ (corners-in name faces part.polygons whole.polygons is.polygons corners own).in_whole

  -- the mask of an edge, if the part has all faces along it
  pub same-edge-mask : (scheme : Scheme) (edge : ℕ × ℕ) → IsTrue (list_any (same_edge edge) (edges_of part.polygons)) → IsWholeAlong faces whole.polygons (renamed name edge) → edge_mask whole scheme (renamed name edge) ≡ mask_in name faces (edge_mask part scheme edge)
  same-edge-mask CatmullClark edge listed all =
      let ends = edge-ends name faces part.polygons whole.polygons is.polygons edge listed in
      let some = faces_of_edge part.polygons edge in
      let below : list_all (λ k. nat_lt k (length part.polygons)) some ≡ true = places-below (has_edge edge) 0 (length part.polygons) part.polygons (omega arith) in
      ap (λ s. mask_of_edge s (renamed name edge) (faces_of_edge whole.polygons (renamed name edge))) (sym (is.edges edge listed))
      ∙ ap (mask_of_edge (edge_sharpness_of part edge) (renamed name edge)) (sym (same-faces-along name faces part.polygons whole.polygons is.polygons edge ends all))
      ∙ (edge-in name faces part.polygons whole.polygons is.polygons (edge_sharpness_of part edge) edge some ends below).in_whole
  same-edge-mask Linear edge listed all =
      (sharp-in name faces part.polygons whole.polygons is.polygons edge (edge-ends name faces part.polygons whole.polygons is.polygons edge listed)).in_whole

  -- the mask of a point with the names of its ends and the numbers of its faces
  vertex-made : (p : ℕ) → is_corner part.polygons p ≡ true → IsMaskIn name faces (λ q. is_corner part.polygons q) (λ k. nat_lt k (length part.polygons)) (vertex_mask part CatmullClark p) (mask_of_vertex (vertex_sharpness_of part p) (uniform_child (vertex_sharpness_of part p)) (ring_at part p) (child_ring part.method (ring_at part p)) (name p) (map name (ends_at part p)) (map (face_in faces) (faces_at part p)))
  vertex-made p there =
      let below : list_all (λ k. nat_lt k (length part.polygons)) (faces_at part p) ≡ true = places-below (has_corner p) 0 (length part.polygons) part.polygons (omega arith) in
      let s = vertex_sharpness_of part p in
      let ring = ring_at part p in
      let long : length ring ≡ length (ends_at part p) = length-map (edges_at part p) (edge_sharpness_of part) ∙ sym (length-map (edges_at part p) (other_end p)) in
      vertex-in name faces part.polygons whole.polygons is.polygons p there (ends_at part p) (faces_at part p) (own-ends name faces part.polygons whole.polygons is.polygons p) below s (uniform_child s) ring (child_ring part.method ring) long (length-map ring (half_child part.method ring) ∙ long)

  -- the mask of a point, if the part has all faces there
  pub same-vertex-mask : (scheme : Scheme) (p : ℕ) → IsTrue (is_corner part.polygons p) → IsWholeAt faces whole.polygons (name p) → vertex_mask whole scheme (name p) ≡ mask_in name faces (vertex_mask part scheme p)
  same-vertex-mask CatmullClark p there all =
      let v = name p in
      let ends = ends_at part p in
      let s = vertex_sharpness_of part p in
      let ring = ring_at part p in
      let next = child_ring part.method ring in
      ap (λ t. mask_of_vertex t (uniform_child t) (ring_at whole v) (child_ring whole.method (ring_at whole v)) v (ends_at whole v) (faces_at whole v)) (sym (same-vertex name faces part whole is p there all))
      ∙ ap (λ r. mask_of_vertex s (uniform_child s) r (child_ring whole.method (ring_at whole v)) v (ends_at whole v) (faces_at whole v)) (sym (same-ring name faces part whole is p there all))
      ∙ ap (λ r. mask_of_vertex s (uniform_child s) ring r v (ends_at whole v) (faces_at whole v)) (sym (same-child-ring name faces part whole is p there all))
      ∙ ap (λ l. mask_of_vertex s (uniform_child s) ring next v l (faces_at whole v)) (sym (same-ends name faces part.polygons whole.polygons is.polygons p there all))
      ∙ ap (mask_of_vertex s (uniform_child s) ring next v (map name ends)) (sym (same-faces name faces part.polygons whole.polygons is.polygons p there all))
      ∙ (vertex-made p there).in_whole
  same-vertex-mask Linear p there all = (corner-in name faces part.polygons whole.polygons is.polygons p there).in_whole

  -- the masks are the same, and name only corners and faces of the part
  abbrev pub IsLevelMaskIn : Mask → Mask → Type 0
  IsLevelMaskIn mask other = IsMaskIn name faces (λ p. is_corner part.polygons p) (λ k. nat_lt k (length part.polygons)) mask other

  pub face-mask-in : (k : ℕ) → k < length part.polygons → IsLevelMaskIn (face_mask part k) (face_mask whole (face_in faces k))
  face-mask-in k h =
      let own = all-at (list_all (is_corner part.polygons)) part.polygons k [] h (own-corners part.polygons) in
      record { own_sources = (corners-in name faces part.polygons whole.polygons is.polygons (polygon_at part.polygons k) own).own_sources; in_whole = same-face-mask k h }

  pub edge-mask-in : (scheme : Scheme) (edge : ℕ × ℕ) → IsTrue (list_any (same_edge edge) (edges_of part.polygons)) → IsWholeAlong faces whole.polygons (renamed name edge) → IsLevelMaskIn (edge_mask part scheme edge) (edge_mask whole scheme (renamed name edge))
  edge-mask-in CatmullClark edge listed all =
      let ends = edge-ends name faces part.polygons whole.polygons is.polygons edge listed in
      let below : list_all (λ k. nat_lt k (length part.polygons)) (faces_of_edge part.polygons edge) ≡ true = places-below (has_edge edge) 0 (length part.polygons) part.polygons (omega arith) in
      record {
        own_sources = (edge-in name faces part.polygons whole.polygons is.polygons (edge_sharpness_of part edge) edge (faces_of_edge part.polygons edge) ends below).own_sources;
        in_whole = same-edge-mask CatmullClark edge listed all;
      }
  edge-mask-in Linear edge listed all = sharp-in name faces part.polygons whole.polygons is.polygons edge (edge-ends name faces part.polygons whole.polygons is.polygons edge listed)

  pub vertex-mask-in : (scheme : Scheme) (p : ℕ) → IsTrue (is_corner part.polygons p) → IsWholeAt faces whole.polygons (name p) → IsLevelMaskIn (vertex_mask part scheme p) (vertex_mask whole scheme (name p))
  vertex-mask-in CatmullClark p there all = record { own_sources = (vertex-made p there).own_sources; in_whole = same-vertex-mask CatmullClark p there all }
  vertex-mask-in Linear p there all = corner-in name faces part.polygons whole.polygons is.polygons p there
