-- The children at the point of an edge form one fan, and so do those at each point of the next level.
use Rattle.std.proofs.Common.{◌≡◌, ℕ, ◌+◌, ◌-◌, ◌<◌, ◌≤◌, Bool, true, false, ◌&&◌, nat_eq, List, [], ◌∷◌, length, arith, refl, ap, sym, ◌∙◌, subst, ◌⊎◌, inl, inr}
use Rattle.std.specs.List.{list_any, list_all}
use Rattle.std.proofs.lemmas.Bool.Decides.{nat_tests}
use Rattle.std.proofs.lemmas.Bool.{and_parts, eqb-true, eq-eqb, false_from_ne_true, cases_lt}
use Rattle.subdiv_model.specs.Polygons.{Polygon, same_side, same_edge, sides_of, has_side, has_corner, is_among, polygon_at, is_over, has_distinct_sides}
use Rattle.subdiv_model.specs.Edges.{all_sides}
use Rattle.subdiv_model.specs.Manifold.{IsSuccessor, HasOneFan, is_simple}
use Rattle.subdiv_model.specs.Child.{edge_point, face_point, child_polygons}
use Rattle.mesh_laws.proofs.SideLemmas.{no-side-back, distinct-count}
use Rattle.mesh_laws.proofs.ClosedLemmas.{all-at, any-here, any-place}
use Rattle.number_laws.proofs.CountLemmas.{any-weaker}
use Rattle.mesh_laws.proofs.FanLemmas.{any-side, owner-unique, side-start, side-end}
use Rattle.mesh_laws.proofs.ChildCountLemmas.{same-edge-point, corner-edge, face-edge}
use Rattle.mesh_laws.proofs.ChildClosedLemmas.{back-point, same-pair}
use Rattle.mesh_laws.proofs.ChildPlaceLemmas.{IsChildOf, child_at, all-of}
use Rattle.mesh_laws.proofs.ChildCornerLemmas.{corner-place, corner-point, side-named, corner-cases, out, toward, away, into, at-corner, one-place, places-tell}
use Rattle.mesh_laws.proofs.ChildFanLemmas.{vertex-fan, face-fan}

-- one edge goes one way or the other
same-ways : (a b m n : ℕ) → same_edge (a, b) (m, n) ≡ true → ((a ≡ m) × (b ≡ n)) ⊎ ((a ≡ n) × (b ≡ m))
same-ways a b m n h = go (nat_eq a m && nat_eq b n) refl
  where
    go : (p : Bool) → (nat_eq a m && nat_eq b n) ≡ p → ((a ≡ m) × (b ≡ n)) ⊎ ((a ≡ n) × (b ≡ m))
    go true e = let parts = and_parts (nat_eq a m) (nat_eq b n) e in inl (eqb-true a m parts.0, eqb-true b n parts.1)
    go false e =
        let back : (nat_eq a n && nat_eq b m) ≡ true = grind (arith, nat_tests) in
        let parts = and_parts (nat_eq a n) (nat_eq b m) back in
        inr (eqb-true a n parts.0, eqb-true b m parts.1)

-- the cases of a number among two, and among four
pair-cases : (a b n : ℕ) → is_among (a ∷ b ∷ []) n ≡ true → (a ≡ n) ⊎ (b ≡ n)
pair-cases a b n h = go (nat_eq n a) refl
  where
    go : (p : Bool) → nat_eq n a ≡ p → (a ≡ n) ⊎ (b ≡ n)
    go true e = inl (sym (eqb-true n a e))
    go false e = inr (let last : nat_eq n b ≡ true = grind (arith, nat_tests) in sym (eqb-true n b last))

four-cases : (a b c d n : ℕ) → is_among (a ∷ b ∷ c ∷ d ∷ []) n ≡ true → ((a ≡ n) ⊎ (b ≡ n)) ⊎ ((c ≡ n) ⊎ (d ≡ n))
four-cases a b c d n h = go (is_among (a ∷ b ∷ []) n) refl
  where
    go : (p : Bool) → is_among (a ∷ b ∷ []) n ≡ p → ((a ≡ n) ⊎ (b ≡ n)) ⊎ ((c ≡ n) ⊎ (d ≡ n))
    go true e = inl (pair-cases a b n e)
    go false e = inr (pair-cases c d n (grind (arith, nat_tests)))

-- each of two numbers is among them
pair-among : (a b n : ℕ) → (a ≡ n) ⊎ (b ≡ n) → is_among (a ∷ b ∷ []) n ≡ true
pair-among a b n (inl e) = let same = eq-eqb n a (sym e) in grind (arith, nat_tests)
pair-among a b n (inr e) = let same = eq-eqb n b (sym e) in grind (arith, nat_tests)

four-among : (a b c d n : ℕ) → ((a ≡ n) ⊎ (b ≡ n)) ⊎ ((c ≡ n) ⊎ (d ≡ n)) → is_among (a ∷ b ∷ c ∷ d ∷ []) n ≡ true
four-among a b c d n (inl h) = let there = pair-among a b n h in grind (arith, nat_tests)
four-among a b c d n (inr h) = let there = pair-among c d n h in grind (arith, nat_tests)

module _ (points : ℕ) (polygons : List Polygon) (simple : list_all is_simple polygons ≡ true) (over : is_over points polygons ≡ true) (distinct : has_distinct_sides (all_sides polygons) ≡ true) where
  -- the quad at the place of the child of the face k at v
  abbrev Child : ℕ → ℕ → Polygon
  Child k v = polygon_at (child_polygons points polygons) (child_at points polygons k v)

  -- the two children of a face at the ends of one of its sides
  start-child : (k a b : ℕ) → has_side (a, b) (polygon_at polygons k) ≡ true → IsChildOf points polygons k a (Child k a)
  start-child k a b side = at-corner points polygons simple over distinct k a (side-start (polygon_at polygons k) (a, b) side)

  end-child : (k a b : ℕ) → has_side (a, b) (polygon_at polygons k) ≡ true → IsChildOf points polygons k b (Child k b)
  end-child k a b side = at-corner points polygons simple over distinct k b (side-end (polygon_at polygons k) (a, b) side)

  -- an edge has one point, whichever way it goes
  back-edge-point : (a b : ℕ) → edge_point points polygons (b, a) ≡ edge_point points polygons (a, b)
  back-edge-point a b = back-point points polygons over simple (a, b)

  -- about the point of an edge the child at the end of the side succeeds the one at its start
  edge-half : (k a b : ℕ) → has_side (a, b) (polygon_at polygons k) ≡ true → IsSuccessor (child_polygons points polygons) (edge_point points polygons (a, b)) (child_at points polygons k a) (child_at points polygons k b)
  edge-half k a b side = record {
    corner = face_point points k;
    follows = toward points polygons simple k a b _ (start-child k a b side) side;
    leads_back = away points polygons simple k a b _ (end-child k a b side) side;
  }

  -- a child is followed by the child at the same end in the face across the edge
  edge-across : (f g a b : ℕ) → has_side (a, b) (polygon_at polygons f) ≡ true → has_side (b, a) (polygon_at polygons g) ≡ true → IsSuccessor (child_polygons points polygons) (edge_point points polygons (a, b)) (child_at points polygons f b) (child_at points polygons g b)
  edge-across f g a b side back = record {
    corner = b;
    follows = into points polygons simple f a b _ (end-child f a b side) side;
    leads_back = ap (λ (n : ℕ). has_side (b, n) (Child g b)) (sym (back-edge-point a b)) ∙ out points polygons simple g b a _ (start-child g b a back) back;
  }

  -- the children at both ends of a side have the point of its edge
  both-ends : (k a b place : ℕ) → has_side (a, b) (polygon_at polygons k) ≡ true → (child_at points polygons k a ≡ place) ⊎ (child_at points polygons k b ≡ place) → has_corner (edge_point points polygons (a, b)) (polygon_at (child_polygons points polygons) place) ≡ true
  both-ends k a b place side (inl e) = ap (λ p. has_corner (edge_point points polygons (a, b)) (polygon_at (child_polygons points polygons) p)) (sym e) ∙ side-end (Child k a) (a, edge_point points polygons (a, b)) (out points polygons simple k a b _ (start-child k a b side) side)
  both-ends k a b place side (inr e) = ap (λ p. has_corner (edge_point points polygons (a, b)) (polygon_at (child_polygons points polygons) p)) (sym e) ∙ side-start (Child k b) (edge_point points polygons (a, b), b) (into points polygons simple k a b _ (end-child k a b side) side)

  -- the children at both ends of a side are two
  two-apart : (k a b : ℕ) → has_side (a, b) (polygon_at polygons k) ≡ true → nat_eq (child_at points polygons k a) (child_at points polygons k b) ≡ false
  two-apart k a b side = false_from_ne_true _ (λ same.
      let e = (places-tell points polygons simple over distinct k a k b (side-start (polygon_at polygons k) (a, b) side) (side-end (polygon_at polygons k) (a, b) side) (eqb-true _ _ same)).1 in
      let back : has_side (b, a) (polygon_at polygons k) ≡ true = ap (λ (n : ℕ). has_side (n, a) (polygon_at polygons k)) (sym e) ∙ ap (λ (n : ℕ). has_side (a, n) (polygon_at polygons k)) e ∙ side in
      no-side-back (polygon_at polygons k) a b (all-at is_simple polygons k [] (corner-place polygons k a (side-start (polygon_at polygons k) (a, b) side)) simple) side back)

  -- the children of the faces on both sides of an edge are two
  faces-apart : (f g a b m n : ℕ) → has_side (a, b) (polygon_at polygons f) ≡ true → has_side (b, a) (polygon_at polygons g) ≡ true → has_corner m (polygon_at polygons f) ≡ true → has_corner n (polygon_at polygons g) ≡ true → nat_eq (child_at points polygons f m) (child_at points polygons g n) ≡ false
  faces-apart f g a b m n side back h k = false_from_ne_true _ (λ same.
      let e = (places-tell points polygons simple over distinct f m g n h k (eqb-true _ _ same)).0 in
      let there : has_side (b, a) (polygon_at polygons f) ≡ true = ap (λ p. has_side (b, a) (polygon_at polygons p)) e ∙ back in
      no-side-back (polygon_at polygons f) a b (all-at is_simple polygons f [] (corner-place polygons f m h) simple) side there)

  -- the child at an end of the edge, of a face that has it in one direction or the other
  abbrev AtEdge : ℕ → ℕ → ℕ → Type 0
  AtEdge a b place = (k : ℕ) × ((has_side (a, b) (polygon_at polygons k) ≡ true) ⊎ (has_side (b, a) (polygon_at polygons k) ≡ true)) × ((child_at points polygons k a ≡ place) ⊎ (child_at points polygons k b ≡ place))

  -- the quads at the point of an edge are such children
  edge-quad : (f a b place : ℕ) → has_side (a, b) (polygon_at polygons f) ≡ true → has_corner (edge_point points polygons (a, b)) (polygon_at (child_polygons points polygons) place) ≡ true → AtEdge a b place
  edge-quad f a b place side h =
      let found = all-of points polygons place [] (corner-place (child_polygons points polygons) place (edge_point points polygons (a, b)) h) in
      go found.0 found.1 found.2 (corner-cases points polygons found.0 found.1 (edge_point points polygons (a, b)) _ found.2 h)
    where
      same : (s : ℕ × ℕ) → edge_point points polygons (a, b) ≡ edge_point points polygons s → same_edge (a, b) s ≡ true
      same s e = sym (same-edge-point points polygons (a, b) s (side-named polygons f (a, b) side)) ∙ eq-eqb _ _ e

      at-end : (k n : ℕ) → child_at points polygons k n ≡ place → (m : ℕ) → has_side (n, m) (polygon_at polygons k) ≡ true → ((a ≡ n) × (b ≡ m)) ⊎ ((a ≡ m) × (b ≡ n)) → AtEdge a b place
      at-end k n e m there (inl s) = (k, inl (ap (λ (p : ℕ). has_side (p, b) (polygon_at polygons k)) s.0 ∙ ap (λ (p : ℕ). has_side (n, p) (polygon_at polygons k)) s.1 ∙ there), inl (ap (child_at points polygons k) s.0 ∙ e))
      at-end k n e m there (inr s) = (k, inr (ap (λ (p : ℕ). has_side (p, a) (polygon_at polygons k)) s.1 ∙ ap (λ (p : ℕ). has_side (n, p) (polygon_at polygons k)) s.0 ∙ there), inr (ap (child_at points polygons k) s.1 ∙ e))

      at-start : (k n : ℕ) → child_at points polygons k n ≡ place → (m : ℕ) → has_side (m, n) (polygon_at polygons k) ≡ true → ((a ≡ m) × (b ≡ n)) ⊎ ((a ≡ n) × (b ≡ m)) → AtEdge a b place
      at-start k n e m there (inl s) = (k, inl (ap (λ (p : ℕ). has_side (p, b) (polygon_at polygons k)) s.0 ∙ ap (λ (p : ℕ). has_side (m, p) (polygon_at polygons k)) s.1 ∙ there), inr (ap (child_at points polygons k) s.1 ∙ e))
      at-start k n e m there (inr s) = (k, inr (ap (λ (p : ℕ). has_side (p, a) (polygon_at polygons k)) s.1 ∙ ap (λ (p : ℕ). has_side (m, p) (polygon_at polygons k)) s.0 ∙ there), inl (ap (child_at points polygons k) s.0 ∙ e))

      go : (k n : ℕ) (c : IsChildOf points polygons k n (polygon_at (child_polygons points polygons) place)) → (edge_point points polygons (a, b) ≡ n) ⊎ ((edge_point points polygons (a, b) ≡ edge_point points polygons (n, c.w)) ⊎ ((edge_point points polygons (a, b) ≡ face_point points k) ⊎ (edge_point points polygons (a, b) ≡ edge_point points polygons (c.u, n)))) → AtEdge a b place
      go k n c (inl e) =
          let low = corner-point points polygons k n over (side-start (polygon_at polygons k) (n, c.w) c.after) in
          let no = corner-edge points polygons n (a, b) low in
          let yes = eq-eqb _ _ (sym e) in absurd (cc)
      go k n c (inr (inl e)) = at-end k n (one-place points polygons simple over distinct k n place c) c.w c.after (same-ways a b n c.w (same (n, c.w) e))
      go k n c (inr (inr (inl e))) =
          let no = face-edge points polygons k (a, b) (corner-place polygons k n (side-start (polygon_at polygons k) (n, c.w) c.after)) in
          let yes = eq-eqb _ _ (sym e) in absurd (cc)
      go k n c (inr (inr (inr e))) = at-start k n (one-place points polygons simple over distinct k n place c) c.u c.before (same-ways a b c.u n (same (c.u, n) e))

  -- one face has a side, so a child at its ends is a child of that face
  owner : (f k a b : ℕ) → has_side (a, b) (polygon_at polygons f) ≡ true → has_side (a, b) (polygon_at polygons k) ≡ true → k ≡ f
  owner f k a b side there = owner-unique polygons (a, b) k f (distinct-count (a, b) (all_sides polygons) distinct) there side

  at-face : (f k a b place : ℕ) → k ≡ f → (child_at points polygons k a ≡ place) ⊎ (child_at points polygons k b ≡ place) → (child_at points polygons f a ≡ place) ⊎ (child_at points polygons f b ≡ place)
  at-face f k a b place e (inl h) = inl (ap (λ p. child_at points polygons p a) (sym e) ∙ h)
  at-face f k a b place e (inr h) = inr (ap (λ p. child_at points polygons p b) (sym e) ∙ h)

  swap : (p q : Type 0) → p ⊎ q → q ⊎ p
  swap p q (inl h) = inr h
  swap p q (inr h) = inl h

  -- the point of an edge of one face has the fan of that face's two children
  open-fan : (f a b : ℕ) → has_side (a, b) (polygon_at polygons f) ≡ true → list_any (same_side (b, a)) (all_sides polygons) ≡ false → HasOneFan (child_polygons points polygons) (edge_point points polygons (a, b))
  open-fan f a b side none =
      let apart = two-apart f a b side in
      record {
        fan = child_at points polygons f a ∷ child_at points polygons f b ∷ [];
        once = grind (arith, nat_tests);
        all = λ place. (
          (λ h. both-ends f a b place side (pair-cases _ _ place h)),
          (λ h. let found = edge-quad f a b place side h in pair-among _ _ place (at found.0 found.2 found.1)),
        );
        path = (edge-half f a b side, tt);
      }
    where
      at : (k : ℕ) {place : ℕ} → (child_at points polygons k a ≡ place) ⊎ (child_at points polygons k b ≡ place) → (has_side (a, b) (polygon_at polygons k) ≡ true) ⊎ (has_side (b, a) (polygon_at polygons k) ≡ true) → (child_at points polygons f a ≡ place) ⊎ (child_at points polygons f b ≡ place)
      at k {place} h (inl there) = at-face f k a b place (owner f k a b side there) h
      at k {place} h (inr there) = let some = any-here (same_side (b, a)) polygons k there in absurd (cc)

  -- the point of an edge of two faces has the fan of the two children of one, and then those of the other
  two-fan : (f g a b : ℕ) → has_side (a, b) (polygon_at polygons f) ≡ true → has_side (b, a) (polygon_at polygons g) ≡ true → HasOneFan (child_polygons points polygons) (edge_point points polygons (a, b))
  two-fan f g a b side back =
      let fa = side-start (polygon_at polygons f) (a, b) side in
      let fb = side-end (polygon_at polygons f) (a, b) side in
      let gb = side-start (polygon_at polygons g) (b, a) back in
      let ga = side-end (polygon_at polygons g) (b, a) back in
      let d1 = two-apart f a b side in
      let d2 = two-apart g b a back in
      let d3 = faces-apart f g a b a b side back fa gb in
      let d4 = faces-apart f g a b a a side back fa ga in
      let d5 = faces-apart f g a b b b side back fb gb in
      let d6 = faces-apart f g a b b a side back fb ga in
      let half : IsSuccessor (child_polygons points polygons) (edge_point points polygons (a, b)) (child_at points polygons g b) (child_at points polygons g a) = subst (λ p. IsSuccessor (child_polygons points polygons) p (child_at points polygons g b) (child_at points polygons g a)) (back-edge-point a b) (edge-half g b a back) in
      record {
        fan = child_at points polygons f a ∷ child_at points polygons f b ∷ child_at points polygons g b ∷ child_at points polygons g a ∷ [];
        once = rw (d1, d2, d3, d4, d5, d6) refl;
        all = λ place. (
          (λ h. there place (four-cases _ _ _ _ place h)),
          (λ h. let found = edge-quad f a b place side h in four-among _ _ _ _ place (at found.0 place found.2 found.1)),
        );
        path = (edge-half f a b side, (edge-across f g a b side back, (half, tt)));
      }
    where
      there : (place : ℕ) → ((child_at points polygons f a ≡ place) ⊎ (child_at points polygons f b ≡ place)) ⊎ ((child_at points polygons g b ≡ place) ⊎ (child_at points polygons g a ≡ place)) → has_corner (edge_point points polygons (a, b)) (polygon_at (child_polygons points polygons) place) ≡ true
      there place (inl h) = both-ends f a b place side h
      there place (inr h) = ap (λ (n : ℕ). has_corner n (polygon_at (child_polygons points polygons) place)) (sym (back-edge-point a b)) ∙ both-ends g b a place back h

      at : (k place : ℕ) → (child_at points polygons k a ≡ place) ⊎ (child_at points polygons k b ≡ place) → (has_side (a, b) (polygon_at polygons k) ≡ true) ⊎ (has_side (b, a) (polygon_at polygons k) ≡ true) → ((child_at points polygons f a ≡ place) ⊎ (child_at points polygons f b ≡ place)) ⊎ ((child_at points polygons g b ≡ place) ⊎ (child_at points polygons g a ≡ place))
      at k place h (inl s) = inl (at-face f k a b place (owner f k a b side s) h)
      at k place h (inr s) = inr (at-face g k b a place (owner g k b a back s) (swap _ _ h))

  -- the point of an edge has one fan
  pub edge-fan : (f a b : ℕ) → has_side (a, b) (polygon_at polygons f) ≡ true → HasOneFan (child_polygons points polygons) (edge_point points polygons (a, b))
  edge-fan f a b side = go (list_any (same_side (b, a)) (all_sides polygons)) refl
    where
      go : (p : Bool) → list_any (same_side (b, a)) (all_sides polygons) ≡ p → HasOneFan (child_polygons points polygons) (edge_point points polygons (a, b))
      go false e = open-fan f a b side e
      go true e = let found = any-place (same_side (b, a)) polygons e in two-fan f found.0 a b side found.2

  -- a number that is no point of the level, of a face or of an edge has no quad
  no-fan : (x : ℕ) → points + length polygons ≤ x → list_any (λ s. nat_eq x (edge_point points polygons s)) (all_sides polygons) ≡ false → HasOneFan (child_polygons points polygons) x
  no-fan x high none = record {
    fan = [];
    once = refl;
    all = λ place. (
      (λ h. absurd (cc)),
      (λ h.
          let found = all-of points polygons place [] (corner-place (child_polygons points polygons) place x h) in
          go found.0 found.1 found.2 (corner-cases points polygons found.0 found.1 x _ found.2 h)),
    );
    path = tt;
  }
    where
      no-edge : (k m n : ℕ) → has_side (m, n) (polygon_at polygons k) ≡ true → x ≡ edge_point points polygons (m, n) → ⊥
      no-edge k m n side e =
          let test : ℕ × ℕ → Bool = λ s. nat_eq x (edge_point points polygons s) in
          let there = any-weaker (same_side (m, n)) test (λ t h. eq-eqb _ _ (e ∙ ap (edge_point points polygons) (same-pair (m, n) t h))) (all_sides polygons) (any-here (same_side (m, n)) polygons k side) in
          cc

      go : (k n : ℕ) {quad : Polygon} (c : IsChildOf points polygons k n quad) → (x ≡ n) ⊎ ((x ≡ edge_point points polygons (n, c.w)) ⊎ ((x ≡ face_point points k) ⊎ (x ≡ edge_point points polygons (c.u, n)))) → {b : Bool} → b ≡ true
      go k n c (inl e) =
          let low = corner-point points polygons k n over (side-start (polygon_at polygons k) (n, c.w) c.after) in
          absurd (grind (arith, nat_tests))
      go k n c (inr (inl e)) = absurd (no-edge k n c.w c.after e)
      go k n c (inr (inr (inl e))) =
          let inside = corner-place polygons k n (side-start (polygon_at polygons k) (n, c.w) c.after) in
          absurd (omega (arith, e, inside, high))
      go k n c (inr (inr (inr e))) = absurd (no-edge k c.u n c.before e)

  -- where each point of the level has one fan, so has each of the next level
  pub child-fans : ((v : ℕ) → v < points → HasOneFan polygons v) → (x : ℕ) → HasOneFan (child_polygons points polygons) x
  child-fans fans x = by-point (cases_lt x points)
    where
      by-edge : points + length polygons ≤ x → (p : Bool) → list_any (λ s. nat_eq x (edge_point points polygons s)) (all_sides polygons) ≡ p → HasOneFan (child_polygons points polygons) x
      by-edge high false e = no-fan x high e
      by-edge high true e =
          let place = any-place (λ s. nat_eq x (edge_point points polygons s)) polygons e in
          let found = any-side (λ s. nat_eq x (edge_point points polygons s)) (sides_of (polygon_at polygons place.0)) place.2 in
          let s : ℕ × ℕ = found.0 in
          subst (HasOneFan (child_polygons points polygons)) (sym (eqb-true _ _ found.1)) (edge-fan place.0 s.0 s.1 found.2)

      by-face : points ≤ x → (x < points + length polygons) ⊎ (points + length polygons ≤ x) → HasOneFan (child_polygons points polygons) x
      by-face high (inl h) =
          let e : face_point points (x - points) ≡ x = omega arith in
          subst (HasOneFan (child_polygons points polygons)) e (face-fan points polygons simple over distinct (x - points) (omega arith))
      by-face high (inr h) = by-edge h (list_any (λ s. nat_eq x (edge_point points polygons s)) (all_sides polygons)) refl

      by-point : (x < points) ⊎ (points ≤ x) → HasOneFan (child_polygons points polygons) x
      by-point (inl h) = vertex-fan points polygons simple over distinct x (grind (arith, nat_tests)) (fans x h)
      by-point (inr h) = by-face h (cases_lt x (points + length polygons))
