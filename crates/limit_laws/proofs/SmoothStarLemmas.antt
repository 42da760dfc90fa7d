-- Facts of the edges at a smooth point of a level whose boundary is infinitely sharp.
use Rattle.std.proofs.Common.{◌≡◌, ℕ, suc, ◌+◌, ◌<◌, ◌≤◌, Bool, true, false, not, ◌&&◌, ◌||◌, nat_eq, nat_lt, ℤ, pos, ◌+ℤ◌, ◌*ℤ◌, List, [], ◌∷◌, length, get_or, arith, refl, ap, sym, ◌∙◌}
use Rattle.std.specs.List.{AllByRecursion, filter, list_all, list_any, count_by, position_or_len}
use Rattle.std.proofs.lemmas.Bool.Decides.{nat_tests}
use Rattle.std.proofs.lemmas.Bool.{and_parts, and_from, eqb-true, ltb-true, cond_both, false≢true, false_from_ne_true, eq-eqb}
use Rattle.std.proofs.lemmas.Int.{ints}
use Rattle.std.proofs.lemmas.List.{length-map, get_or_default}
use Rattle.std.proofs.lemmas.List.Folds.{list_all-map}
use Rattle.std.proofs.lemmas.List.Sums.{list_all-from_AllPass, AllPass-from_list_all, position_or_len_is}
use Rattle.subdiv_model.specs.Polygons.{same_side, same_edge, has_corner, polygon_at, sides_of}
use Rattle.subdiv_model.specs.Edges.{all_sides, edges_of, faces_of_edge, edge_number, has_end, is_boundary}
use Rattle.subdiv_model.specs.Base.{is_at_boundary}
use Rattle.subdiv_model.specs.Sharpness.{Sharpness, Smooth, Semi, Infinite, is_semi_sharp}
use Rattle.subdiv_model.specs.Level.{Level, edge_sharpness_of, vertex_sharpness_of, edges_at, faces_at, ring_at}
use Rattle.subdiv_model.specs.Feature.{is_infinite}
use Rattle.subdiv_model.specs.Mask.{other_end}
use Rattle.subdiv_model.specs.Limit.{has_quads, opposite_corner, opposites_at}
use Rattle.subdiv_model.specs.Manifold.{is_simple}
use Rattle.number_laws.proofs.CountLemmas.{count-cons, one_if, all-flat_map, all-weaker}
use Rattle.mesh_laws.proofs.SideLemmas.{same_side-refl, same_edge-refl}
use Rattle.mesh_laws.proofs.EdgeLemmas.{first_named-once}
use Rattle.mesh_laws.proofs.PointLemmas.{interior-faces, two-edges, one-or-two}
use Rattle.mesh_laws.proofs.Laws.{named-once}
use Rattle.mask_laws.proofs.BoundaryLemmas.{IsSharpAtBoundary, sharp-at}
use Rattle.mask_laws.proofs.ListLemmas.{places-below}
use Rattle.mask_laws.proofs.SumLemmas.{sum_ℤ}
use Rattle.limit_laws.proofs.PlaceLemmas.{kept-pass, two-count}
use Rattle.limit_laws.proofs.ChildValueLemmas.{listed}
use Rattle.limit_laws.proofs.SumExchangeLemmas.{is_once, sum-map}
use Rattle.limit_laws.proofs.FaceStarLemmas.{is_plain_quad, faces-by-edges, corners-by-faces}
use Rattle.limit_laws.proofs.EdgeStarLemmas.{kept-both}
use Rattle.limit_laws.proofs.RingRuleLemmas.{IsPlain}
use Rattle.limit_laws.proofs.StarRecords.{IsSmoothStar}
use Rattle.std.proofs.Math.IntN.{zero-*ℤ}
use Rattle.number_laws.proofs.WholeNumberLemmas.{pos-sum}

-- Lists.

pub all-by : {X : Type 0} (p : X → Bool) (P : X → Type 0) → ((x : X) → p x ≡ true → P x) → (xs : List X) → list_all p xs ≡ true → AllByRecursion P xs
all-by p P is [] h = tt
all-by p P is (x ∷ xs) h = let parts = and_parts (p x) (list_all p xs) h in (is x parts.0, all-by p P is xs parts.1)

pub both-pass : {X : Type 0} (p q : X → Bool) (xs : List X) → list_all p xs ≡ true → list_all q xs ≡ true → list_all (λ x. p x && q x) xs ≡ true
both-pass p q [] h k = refl
both-pass p q (x ∷ xs) h k =
    let ps = and_parts (p x) (list_all p xs) h in
    let qs = and_parts (q x) (list_all q xs) k in
    and_from _ _ (and_from _ _ ps.0 qs.0) (both-pass p q xs ps.1 qs.1)

-- if no kept item passes, no item passes and is kept
none-kept : {X : Type 0} (keep test : X → Bool) (xs : List X) → list_all (λ x. not (test x)) (filter keep xs) ≡ true → list_any (λ x. test x && keep x) xs ≡ false
none-kept keep test [] h = refl
none-kept keep test (x ∷ xs) h =
    cond_both (keep x) (x ∷ filter keep xs) (filter keep xs) (λ l. list_all (λ y. not (test y)) l ≡ true → list_any (λ y. test y && keep y) (x ∷ xs) ≡ false)
    (λ yes k.
    let parts = and_parts (not (test x)) (list_all (λ y. not (test y)) (filter keep xs)) k in
    first (test x) (keep x) (list_any (λ y. test y && keep y) xs) parts.0 (none-kept keep test xs parts.1))
    (λ no k. second (test x) (keep x) (list_any (λ y. test y && keep y) xs) no (none-kept keep test xs k)) h
  where
    first : (a b c : Bool) → not a ≡ true → c ≡ false → ((a && b) || c) ≡ false
    first true b c n e = absurd (false≢true n)
    first false b c n e = e

    second : (a b c : Bool) → b ≡ false → c ≡ false → ((a && b) || c) ≡ false
    second true true c n e = absurd (false≢true (sym n))
    second true false c n e = e
    second false b c n e = e

-- Edges.

-- an edge listed once has its place as its number
own-place : (edges : List (ℕ × ℕ)) (k : ℕ) → k < length edges → count_by (same_edge (get_or edges k (0, 0))) edges ≤ 1
    → position_or_len (same_edge (get_or edges k (0, 0))) edges ≡ k
own-place edges k h once =
    let item : ℕ × ℕ = get_or edges k (0, 0) in
    position_or_len_is (same_edge item) edges k (0, 0) (omega arith)
    (λ j before. false_from_ne_true _ (λ same.
    let twice = two-count (same_edge item) (0, 0) edges j k before h same (same_edge-refl item) in omega (arith, twice, once)))
    (λ _. same_edge-refl item)

pub listed-own : (level : Level) → list_all (λ e. same_side e (listed level e)) (edges_of level.polygons) ≡ true
listed-own level =
    list_all-from_AllPass (λ e. same_side e (listed level e)) (edges_of level.polygons) (λ k d h.
    let edges = edges_of level.polygons in
    at k d h (own-place edges k h (first_named-once (get_or edges k (0, 0)) (all_sides level.polygons))))
  where
    at : (k : ℕ) (d : ℕ × ℕ) → k < length (edges_of level.polygons) → edge_number level.polygons (get_or (edges_of level.polygons) k (0, 0)) ≡ k
        → same_side (get_or (edges_of level.polygons) k d) (listed level (get_or (edges_of level.polygons) k d)) ≡ true
    at k d h place =
        let edges = edges_of level.polygons in
        let e : ℕ × ℕ = get_or edges k (0, 0) in
        let same : get_or edges k d ≡ e = get_or_default edges k d (0, 0) h in
        ap (λ (s : ℕ × ℕ). same_side s (listed level s)) same
        ∙ ap (λ n. same_side e (get_or edges n (0, 0))) place ∙ same_side-refl e

-- the two ends of an edge are the point and the other end
pub both-ends : (v : ℕ) (e : ℕ × ℕ) → has_end v e ≡ true → (g : ℕ → ℤ) → g e.0 +ℤ g e.1 ≡ g v +ℤ g (other_end v e)
both-ends v e at g = here (nat_eq v e.0) refl
  where
    here : (b : Bool) → nat_eq v e.0 ≡ b → g e.0 +ℤ g e.1 ≡ g v +ℤ g (other_end v e)
    here true h = let same = ap g (eqb-true v e.0 h) in rw h (omega (arith, ints, same))
    here false h =
        let second : nat_eq v e.1 ≡ true = grind (arith, nat_tests) in
        let same = ap g (eqb-true v e.1 second) in
        rw h (omega (arith, ints, same))

-- A smooth ring.

abbrev pub is_smooth : Sharpness → Bool
is_smooth s = not (is_infinite s) && not (is_semi_sharp s)

pub smooth-is : (s : Sharpness) → is_smooth s ≡ true → s ≡ Smooth
smooth-is Smooth h = refl
smooth-is (Semi num den) h = absurd (false≢true h)
smooth-is Infinite h = absurd (false≢true h)

smooth-ring : (ring : List Sharpness) → list_any is_semi_sharp ring ≡ false → count_by is_infinite ring ≡ 0 → list_all is_smooth ring ≡ true
smooth-ring [] h k = refl
smooth-ring (Smooth ∷ ring) h k = smooth-ring ring h (omega (arith, k, count-cons is_infinite Smooth ring))
smooth-ring (Semi num den ∷ ring) h k = absurd (false≢true (sym h))
smooth-ring (Infinite ∷ ring) h k =
    let one : one_if (is_infinite Infinite) ≡ 1 = refl in absurd (omega (arith, k, one, count-cons is_infinite Infinite ring))

module _ (level : Level) (is : IsSharpAtBoundary level) (quads : has_quads level ≡ true) where
  -- each polygon is a quad whose sides are listed once
  pub all-plain : list_all (is_plain_quad (edges_of level.polygons)) level.polygons ≡ true
  all-plain =
      both-pass (λ p. nat_eq (length p) 4) (λ p. is_simple p && list_all (λ s. is_once (same_edge s) (edges_of level.polygons)) (sides_of p)) level.polygons quads
      (both-pass is_simple (λ p. list_all (λ s. is_once (same_edge s) (edges_of level.polygons)) (sides_of p)) level.polygons is.simple
      (sym (all-flat_map (λ s. is_once (same_edge s) (edges_of level.polygons)) sides_of level.polygons) ∙ all-once))
    where
      all-once : list_all (λ s. is_once (same_edge s) (edges_of level.polygons)) (all_sides level.polygons) ≡ true
      all-once =
          list_all-from_AllPass (λ s. is_once (same_edge s) (edges_of level.polygons)) (all_sides level.polygons)
          (λ k d h. eq-eqb _ 1 (named-once level.polygons k d h))

  -- A smooth point.

  module _ (v : ℕ) (below : nat_lt v level.point_count ≡ true) (plain : IsPlain (vertex_sharpness_of level v) (ring_at level v)) (none : count_by is_infinite (ring_at level v) ≡ 0) where
    -- each edge there is smooth
    pub smooth-edges : list_all (λ e. is_smooth (edge_sharpness_of level e)) (edges_at level v) ≡ true
    smooth-edges =
        sym (list_all-map is_smooth (edge_sharpness_of level) (edges_at level v)) ∙ smooth-ring (ring_at level v) plain.semi none

    -- no smooth edge has one face
    not-boundary : (e : ℕ × ℕ) → is_smooth (edge_sharpness_of level e) ≡ true → is_boundary level.polygons e ≡ false
    not-boundary e smooth =
        false_from_ne_true (is_boundary level.polygons e) (λ on_boundary.
        let sharp = sharp-at level is.simple is.sharp e on_boundary in
        false≢true (ap is_infinite (sym (smooth-is (edge_sharpness_of level e) smooth)) ∙ sharp))

    away : is_at_boundary level.polygons v ≡ false
    away =
        none-kept (has_end v) (is_boundary level.polygons) (edges_of level.polygons)
        (all-weaker (λ e. is_smooth (edge_sharpness_of level e)) (λ e. not (is_boundary level.polygons e)) (λ e smooth. ap not (not-boundary e smooth)) (edges_at level v) smooth-edges)

    -- each edge at the point has two faces
    two-faces : list_all (λ e. nat_eq (length (faces_of_edge level.polygons e)) 2) (edges_at level v) ≡ true
    two-faces =
        all-weaker (λ e. is_smooth (edge_sharpness_of level e) && (has_end v e && (is_boundary level.polygons e || nat_eq (length (faces_of_edge level.polygons e)) 2)))
        (λ e. nat_eq (length (faces_of_edge level.polygons e)) 2) (λ e h.
        let parts = and_parts (is_smooth (edge_sharpness_of level e)) (has_end v e && (is_boundary level.polygons e || nat_eq (length (faces_of_edge level.polygons e)) 2)) h in
        let more = and_parts (has_end v e) (is_boundary level.polygons e || nat_eq (length (faces_of_edge level.polygons e)) 2) parts.1 in
        or_else (is_boundary level.polygons e) (nat_eq (length (faces_of_edge level.polygons e)) 2) more.1 (not-boundary e parts.0))
        (edges_at level v)
        (both-pass (λ e. is_smooth (edge_sharpness_of level e)) (λ e. has_end v e && (is_boundary level.polygons e || nat_eq (length (faces_of_edge level.polygons e)) 2)) (edges_at level v) smooth-edges
        (kept-both (has_end v) (λ e. is_boundary level.polygons e || nat_eq (length (faces_of_edge level.polygons e)) 2) (edges_of level.polygons) (one-or-two level.polygons is.simple is.distinct)))
      where
        or_else : (a b : Bool) → (a || b) ≡ true → a ≡ false → b ≡ true
        or_else true b h k = absurd (false≢true (sym k))
        or_else false b h k = h

    some-edge : 1 ≤ length (edges_at level v)
    some-edge = above (length (edges_at level v)) (length (ring_at level v)) (length-map (edges_at level v) (edge_sharpness_of level)) plain.some
      where
        above : (m n : ℕ) → n ≡ m → nat_eq n 0 ≡ false → 1 ≤ m
        above m n h k = grind (arith, nat_tests)

    -- all that is known of its edges and faces
    pub smooth-star : IsSmoothStar v (edges_at level v) (faces_at level v) (opposites_at level v) (polygon_at level.polygons) (faces_of_edge level.polygons)
    smooth-star =
        let polygons = level.polygons in
        let as_many = interior-faces polygons is.simple is.distinct v away in
        record {
          some = two-edges polygons is.simple v some-edge;
          as_many = as_many;
          quads = all-by (λ f. nat_lt f (length polygons)) (λ f. length (polygon_at polygons f) ≡ 4)
              (λ f inside. eqb-true (length (polygon_at polygons f)) 4 (AllPass-from_list_all (λ p. nat_eq (length p) 4) polygons quads f [] (ltb-true f (length polygons) inside)))
              (faces_at level v) (places-below (has_corner v) 0 (length polygons) polygons (omega arith));
          ends = all-by (has_end v) (λ e. (g : ℕ → ℤ) → g e.0 +ℤ g e.1 ≡ g v +ℤ g (other_end v e)) (λ e at. both-ends v e at) (edges_at level v) (kept-pass (has_end v) (edges_of polygons));
          by_edges = λ g. faces-by-edges polygons v all-plain g;
          by_corners = λ g.
              corners-by-faces polygons v all-plain g is.simple
              (list_all-from_AllPass (λ s. is_once (same_edge s) (edges_of polygons)) (all_sides polygons) (λ k d h. eq-eqb _ 1 (named-once polygons k d h)))
              two-faces
              ∙ ap (λ n. (n +ℤ pos 2 *ℤ sum_ℤ (λ e. g (other_end v e)) (edges_at level v)) +ℤ sum_ℤ (λ f. g (opposite_corner v (polygon_at polygons f))) (faces_at level v))
              (each-once (g v) (faces_at level v) ∙ ap (λ n. pos n *ℤ g v) as_many)
              ∙ ap (λ n. (pos (length (edges_at level v)) *ℤ g v +ℤ pos 2 *ℤ sum_ℤ (λ e. g (other_end v e)) (edges_at level v)) +ℤ n)
              (sym (sum-map g (λ f. opposite_corner v (polygon_at polygons f)) (faces_at level v)));
        }
      where
        each-once : (n : ℤ) (faces : List ℕ) → sum_ℤ (λ f. n) faces ≡ pos (length faces) *ℤ n
        each-once n [] = sym (zero-*ℤ n)
        each-once n (f ∷ faces) =
            let more : length faces + 1 ≡ suc (length faces) = omega arith in
            let one : n ≡ pos 1 *ℤ n = omega (arith, ints) in
            let order : 1 + length faces ≡ suc (length faces) = omega arith in
            ap (λ k. n +ℤ k) (each-once n faces) ∙ ap (λ k. k +ℤ pos (length faces) *ℤ n) one ∙ pos-sum 1 (length faces) n ∙ ap (λ k. pos k *ℤ n) order
