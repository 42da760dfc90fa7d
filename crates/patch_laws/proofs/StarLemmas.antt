-- The faces, the edges and the opposite corners at a regular point, by its four quads.
use Rattle.std.proofs.Common.{◌≡◌, ℕ, ◌+◌, ◌%◌, Bool, true, false, ◌&&◌, ◌||◌, not, nat_eq, ℤ, ◌+ℤ◌, List, [], ◌∷◌, length, get_or, Ok, arith, refl, ap, sym, ◌∙◌, ◌⊎◌, inl, inr}
use Rattle.std.specs.List.{list_all, list_any, count_by, position_or_len}
use Rattle.std.proofs.lemmas.Bool.Decides.{nat_tests}
use Rattle.std.proofs.lemmas.Bool.{and_parts, and_from, eqb-true, eq-eqb}
use Rattle.std.proofs.lemmas.List.{length-map, get_or_default}
use Rattle.std.proofs.lemmas.List.Folds.{list_all-map}
use Rattle.subdiv_model.specs.Polygons.{polygon_at, same_edge, same_side, has_side, has_corner, is_among, has_distinct_sides}
use Rattle.subdiv_model.specs.Edges.{all_sides, edges_of, has_end, is_boundary}
use Rattle.subdiv_model.specs.Base.{is_at_boundary as is_at_boundary_of}
use Rattle.subdiv_model.specs.Manifold.{is_simple}
use Rattle.subdiv_model.specs.Sharpness.{Sharpness, Smooth, Semi, Infinite, is_sharp, is_semi_sharp}
use Rattle.subdiv_model.specs.Level.{Level, edge_sharpness_of, vertex_sharpness_of, edges_at, faces_at, ring_at}
use Rattle.subdiv_model.specs.Feature.{is_infinite}
use Rattle.subdiv_model.specs.Mask.{CatmullClark, vertex_mask, smooth_vertex_mask, other_end, ends_at}
use Rattle.subdiv_model.specs.Limit.{limit_of, smooth_limit_mask, opposite_corner, opposites_at}
use Rattle.subdiv_model.specs.Patch.{is_quad}
use Rattle.number_laws.proofs.CountLemmas.{count-cons, count-some, count-agree, all-weaker}
use Rattle.number_laws.proofs.ListLemmas.{any-both}
use Rattle.mesh_laws.proofs.SideLemmas.{distinct-number-count}
use Rattle.mesh_laws.proofs.EdgeLemmas.{any-first_named, first_named-once}
use Rattle.mesh_laws.proofs.ClosedLemmas.{any-here, any-side-edge}
use Rattle.mesh_laws.proofs.FanLemmas.{faces-among}
use Rattle.mesh_laws.proofs.PointLemmas.{interior-faces}
use Rattle.mask_laws.specs.Laws.{IsManifoldWithSharpBoundary}
use Rattle.mask_laws.proofs.SumLemmas.{sum_ℤ}
use Rattle.limit_laws.proofs.PlaceLemmas.{count-kept}
use Rattle.limit_laws.proofs.SumExchangeLemmas.{is_once, sum-map}
use Rattle.limit_laws.proofs.EdgeStarLemmas.{kept-both, other-alike, ends-there, sides-listed}
use Rattle.limit_laws.proofs.RingRuleLemmas.{IsPlain}
use Rattle.limit_laws.proofs.LimitMaskLemmas.{smooth-limit, smooth-vertex}
use Rattle.grid_laws.specs.Grids.{HasQuad, IsStar}
use Rattle.grid_laws.proofs.QuadLemmas.{quad-corner, quad-face, quad-third}
use Rattle.grid_laws.proofs.StarLemmas.{places-distinct, HasStar, side-owner, out-side, same-quad, star-all}
use Rattle.grid_laws.proofs.GridLemmas.{IsRegular, regular-parts, level-simple, level-distinct, quad-fan, regular-star}
use Rattle.grid_laws.proofs.RegularLemmas.{all-from-among, regular-vertex, spoke}
use Rattle.patch_laws.proofs.PartnerLemmas.{all-among, partner-sums}
use Rattle.patch_laws.proofs.QuadEdgeLemmas.{sum-of-four}

-- Where nothing is sharp.

smooth-ring : (ring : List Sharpness) → list_all (λ s. not (is_sharp s)) ring ≡ true → (list_any is_semi_sharp ring ≡ false) × (count_by is_infinite ring ≡ 0)
smooth-ring [] h = (refl, refl)
smooth-ring (Smooth ∷ ring) h = let behind = smooth-ring ring h in (behind.0, omega (arith, behind.1, count-cons is_infinite Smooth ring))
smooth-ring (Semi num den ∷ ring) h = absurd (cc)
smooth-ring (Infinite ∷ ring) h = absurd (cc)

-- an edge that is neither at the boundary nor sharp inside is not sharp
none-sharp : {X : Type 0} (edge sharp : X → Bool) (xs : List X) → list_any edge xs ≡ false → list_any (λ x. not (edge x) && sharp x) xs ≡ false
    → list_all (λ x. not (sharp x)) xs ≡ true
none-sharp edge sharp [] h k = refl
none-sharp edge sharp (x ∷ xs) h k = here (edge x) (sharp x) (list_any edge xs) (list_any (λ y. not (edge y) && sharp y) xs) h k (none-sharp edge sharp xs)
  where
    here : (p q r s : Bool) → (p || r) ≡ false → ((not p && q) || s) ≡ false → (r ≡ false → s ≡ false → list_all (λ y. not (sharp y)) xs ≡ true)
        → (not q && list_all (λ y. not (sharp y)) xs) ≡ true
    here true q r s i j behind = absurd (cc)
    here false true r s i j behind = absurd (cc)
    here false false r s i j behind = behind i j

module _ (level : Level) (well : IsManifoldWithSharpBoundary level) where
  simple : list_all is_simple level.polygons ≡ true
  simple = level-simple level well

  distinct : has_distinct_sides (all_sides level.polygons) ≡ true
  distinct = level-distinct level well

  module _ (v a b c d w x y z : ℕ) (star : IsStar level v a b c d w x y z) where
    -- the four faces
    abbrev star_faces : List ℕ
    star_faces = star.first.face ∷ star.second.face ∷ star.third.face ∷ star.fourth.face ∷ []

    regular : IsRegular level v
    regular = regular-parts level v star.regular

    -- two quads that begin with one side end at one corner
    same-end : (n p q r s t : ℕ) → (one : HasQuad level.polygons v p q r) → (other : HasQuad level.polygons v n s t) → p ≡ n → r ≡ t
    same-end n p q r s t one other same =
        let side = ap (λ (k : ℕ). has_side (v, k) (polygon_at level.polygons other.face)) same ∙ out-side other in
        (same-quad level.polygons simple distinct one other
        (side-owner level.polygons simple distinct (v, p) one.face other.face (out-side one) side)).2

    -- opposite ends are apart, since the point has four quads from the first on
    star-is : HasStar level.polygons v a b c d w x y z
    star-is =
        let from = regular-star level well star.regular star.first in
        let third = same-end b b x c from.x from.c star.second from.is.second refl in
        let fourth = same-end from.c c y d from.y from.d star.third from.is.third third in
        record {
          first = star.first;
          second = star.second;
          third = star.third;
          fourth = star.fourth;
          ac = ap (nat_eq a) third ∙ from.is.ac;
          bd = ap (nat_eq b) fourth ∙ from.is.bd;
        }

    at-face : (p q r : ℕ) → (quad : HasQuad level.polygons v p q r) → has_corner v (polygon_at level.polygons quad.face) ≡ true
    at-face p q r quad = quad-corner level.polygons quad.face v p q r quad.is

    -- each face at the point is a face of the star
    star-face : (f : ℕ) → has_corner v (polygon_at level.polygons f) ≡ true → is_among star_faces f ≡ true
    unfolding star-is
    star-face f at = star-all level.polygons simple distinct star-is (quad-fan level well star.first) f at

    face-listed : (f : ℕ) → has_corner v (polygon_at level.polygons f) ≡ true → is_among (faces_at level v) f ≡ true
    face-listed f at = faces-among level.polygons v f ∙ at

    once-listed : (f : ℕ) → has_corner v (polygon_at level.polygons f) ≡ true → is_once (nat_eq f) (faces_at level v) ≡ true
    once-listed f at =
        let some = count-some (nat_eq f) (faces_at level v) (face-listed f at) in
        let most = distinct-number-count f (faces_at level v) (places-distinct (has_corner v) 0 level.polygons) in
        let one : count_by (nat_eq f) (faces_at level v) ≡ 1 = omega (arith, some, most) in
        eq-eqb (count_by (nat_eq f) (faces_at level v)) 1 one

    at-four : (test : ℕ → Bool) → ((f : ℕ) → has_corner v (polygon_at level.polygons f) ≡ true → test f ≡ true) → list_all test star_faces ≡ true
    at-four test each =
        and_from _ _ (each star.first.face (at-face a w b star.first))
        (and_from _ _ (each star.second.face (at-face b x c star.second))
        (and_from _ _ (each star.third.face (at-face c y d star.third)) (and_from _ _ (each star.fourth.face (at-face d z a star.fourth)) refl)))

    some-four : list_all (λ f. list_any (λ g. nat_eq g f) star_faces) (faces_at level v) ≡ true
    some-four =
        all-from-among (λ f. list_any (λ g. nat_eq g f) star_faces) (faces_at level v)
        (λ f among. swapped star_faces f (star-face f (sym (faces-among level.polygons v f) ∙ among)))
      where
        swapped : (numbers : List ℕ) (f : ℕ) → is_among numbers f ≡ true → list_any (λ g. nat_eq g f) numbers ≡ true
        swapped numbers f h = (λ i. list_any (λ g. turn g f i) numbers) ∙ h
          where
            turn : (g f : ℕ) → nat_eq g f ≡ nat_eq f g
            turn g f = grind (arith, nat_tests)

    -- the sum over the faces at the point is that over the four
    pub sum-faces : (g : ℕ → ℤ) → sum_ℤ g (faces_at level v) ≡ (g star.first.face +ℤ g star.second.face) +ℤ (g star.third.face +ℤ g star.fourth.face)
    sum-faces g =
        partner-sums (λ f h. nat_eq h f) star_faces (faces_at level v) regular.four some-four
        (at-four (λ h. is_once (nat_eq h) (faces_at level v)) once-listed) g g (λ f h same. ap g (sym (eqb-true h f same)))
        ∙ sum-of-four (g star.first.face) (g star.second.face) (g star.third.face) (g star.fourth.face)

    -- The edges.

    abbrev star_ends : List ℕ
    star_ends = a ∷ b ∷ c ∷ d ∷ []

    away : is_at_boundary_of level.polygons v ≡ false
    away =
        (λ i. list_any (λ e. swapped e i) (edges_of level.polygons)) ∙ sym (any-both (has_end v) (is_boundary level.polygons) (edges_of level.polygons)) ∙ regular.inside
      where
        swap : (p q : Bool) → (p && q) ≡ (q && p)
        swap true true = refl
        swap true false = refl
        swap false true = refl
        swap false false = refl

        swapped : (e : ℕ × ℕ) → (is_boundary level.polygons e && has_end v e) ≡ (has_end v e && is_boundary level.polygons e)
        swapped e = swap (is_boundary level.polygons e) (has_end v e)

    four-edges : length (edges_at level v) ≡ 4
    four-edges = sym (interior-faces level.polygons simple distinct v away) ∙ regular.four

    pub four-ends : length (ends_at level v) ≡ 4
    four-ends = length-map (edges_at level v) (other_end v) ∙ four-edges

    -- a side from the point is listed as one of the edges there
    once-edge : (p f : ℕ) → has_side (v, p) (polygon_at level.polygons f) ≡ true → is_once (λ e. same_edge e (v, p)) (edges_at level v) ≡ true
    once-edge p f h =
        let sides = all_sides level.polygons in
        let edges = edges_of level.polygons in
        let side : ℕ × ℕ = (v, p) in
        let named : list_any (same_edge side) edges ≡ true = any-first_named side sides ∙ any-side-edge side sides (any-here (same_side side) level.polygons f h) in
        let same : count_by (λ e. same_edge e side) (edges_at level v) ≡ count_by (same_edge side) edges =
        count-kept (has_end v) (λ e. same_edge e side) edges ∙ count-agree (λ e. has_end v e && same_edge e side) (same_edge side) (ends-there v p) edges in
        let one : count_by (λ e. same_edge e side) (edges_at level v) ≡ 1 = omega (arith, same, first_named-once side sides, count-some (same_edge side) edges named) in
        eq-eqb (count_by (λ e. same_edge e side) (edges_at level v)) 1 one

    once-ends : list_all (λ p. is_once (λ e. same_edge e (v, p)) (edges_at level v)) star_ends ≡ true
    once-ends =
        and_from _ _ (once-edge a star.first.face (out-side star.first))
        (and_from _ _ (once-edge b star.second.face (out-side star.second))
        (and_from _ _ (once-edge c star.third.face (out-side star.third))
        (and_from _ _ (once-edge d star.fourth.face (out-side star.fourth)) refl)))

    some-end : (e : ℕ × ℕ) → (has_end v e && list_any (same_side e) (all_sides level.polygons)) ≡ true → list_any (λ p. same_edge e (v, p)) star_ends ≡ true
    some-end e h =
        let parts = and_parts (has_end v e) (list_any (same_side e) (all_sides level.polygons)) h in
        one (same_edge e (v, a)) (same_edge e (v, b)) (same_edge e (v, c)) (same_edge e (v, d)) (spoke level well star-is e parts.0 parts.1)
      where
        one : (p q r s : Bool) → (p ≡ true) ⊎ ((q ≡ true) ⊎ ((r ≡ true) ⊎ (s ≡ true))) → (p || (q || (r || (s || false)))) ≡ true
        one p q r s (inl h) = grind (arith, nat_tests)
        one p q r s (inr (inl h)) = grind (arith, nat_tests)
        one p q r s (inr (inr (inl h))) = grind (arith, nat_tests)
        one p q r s (inr (inr (inr h))) = grind (arith, nat_tests)

    some-ends : list_all (λ e. list_any (λ p. same_edge e (v, p)) star_ends) (edges_at level v) ≡ true
    some-ends =
        all-weaker (λ e. has_end v e && list_any (same_side e) (all_sides level.polygons)) (λ e. list_any (λ p. same_edge e (v, p)) star_ends) some-end (edges_at level v)
        (kept-both (has_end v) (λ e. list_any (same_side e) (all_sides level.polygons)) (edges_of level.polygons) (sides-listed level.polygons))

    -- the sum over the other ends of the edges is that over the four corners beside the point
    pub sum-ends : (g : ℕ → ℤ) → sum_ℤ g (ends_at level v) ≡ (g a +ℤ g b) +ℤ (g c +ℤ g d)
    sum-ends g =
        sum-map g (other_end v) (edges_at level v)
        ∙ partner-sums (λ e p. same_edge e (v, p)) star_ends (edges_at level v) four-edges some-ends once-ends (λ e. g (other_end v e)) g
        (λ e p same. ap g (other-alike v p e same))
        ∙ sum-of-four (g a) (g b) (g c) (g d)

    -- The opposite corners.

    opposite : (p q r : ℕ) → (quad : HasQuad level.polygons v p q r) → opposite_corner v (polygon_at level.polygons quad.face) ≡ q
    opposite p q r quad =
        let polygon = polygon_at level.polygons quad.face in
        let place = (position_or_len (nat_eq v) polygon + 2) % 4 in
        let four = eqb-true (length polygon) 4 (all-among (is_quad level) (faces_at level v) quad.face regular.quads (face-listed quad.face (at-face p q r quad))) in
        get_or_default polygon place v 0 (omega (arith, four))
        ∙ ap (λ f. get_or (polygon_at level.polygons f) ((position_or_len (nat_eq v) (polygon_at level.polygons f) + 2) % 4) 0) (sym (quad-face level.polygons simple distinct quad))
        ∙ quad-third level.polygons simple distinct quad

    -- the sum over the opposite corners of the faces is that over the four beyond the point
    pub sum-opposites : (g : ℕ → ℤ) → sum_ℤ g (opposites_at level v) ≡ (g w +ℤ g x) +ℤ (g y +ℤ g z)
    sum-opposites g =
        let across = λ (f : ℕ). opposite_corner v (polygon_at level.polygons f) in
        sum-map g across (faces_at level v) ∙ sum-faces (λ f. g (across f))
        ∙ ap (λ n. (g n +ℤ g (across star.second.face)) +ℤ (g (across star.third.face) +ℤ g (across star.fourth.face))) (opposite a w b star.first)
        ∙ ap (λ n. (g w +ℤ g n) +ℤ (g (across star.third.face) +ℤ g (across star.fourth.face))) (opposite b x c star.second)
        ∙ ap (λ n. (g w +ℤ g x) +ℤ (g n +ℤ g (across star.fourth.face))) (opposite c y d star.third)
        ∙ ap (λ n. (g w +ℤ g x) +ℤ (g y +ℤ g n)) (opposite d z a star.fourth)

    -- The masks.

    ring-smooth : (list_any is_semi_sharp (ring_at level v) ≡ false) × (count_by is_infinite (ring_at level v) ≡ 0)
    ring-smooth =
        smooth-ring (ring_at level v)
        (list_all-map (λ s. not (is_sharp s)) (edge_sharpness_of level) (edges_at level v)
        ∙ none-sharp (is_boundary level.polygons) (λ e. is_sharp (edge_sharpness_of level e)) (edges_at level v) regular.inside regular.smooth_edges)

    plain : IsPlain (vertex_sharpness_of level v) (ring_at level v)
    plain = record {
      smooth = regular-vertex level well v star.regular;
      semi = ring-smooth.0;
      some = ap (λ n. nat_eq n 0) (length-map (edges_at level v) (edge_sharpness_of level) ∙ four-edges);
    }

    pub star-vertex : vertex_mask level CatmullClark v ≡ smooth_vertex_mask v (ends_at level v) (faces_at level v)
    star-vertex = smooth-vertex level v plain ring-smooth.1

    pub star-limit : limit_of level v ≡ Ok (smooth_limit_mask v (ends_at level v) (opposites_at level v))
    star-limit = smooth-limit level v plain ring-smooth.1
