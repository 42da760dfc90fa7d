-- A point inside with four faces, all quads: the quads follow each other around it, from each quad on.
use Rattle.std.proofs.Common.{◌≡◌, ℕ, ◌<◌, Bool, true, false, ◌&&◌, nat_eq, List, [], ◌∷◌, length, arith, refl, ap, sym, ◌∙◌, subst, ◌⊎◌, inl, inr}
use Rattle.std.specs.List.{filter, list_all, list_any}
use Rattle.std.proofs.lemmas.Bool.Decides.{nat_tests}
use Rattle.std.proofs.lemmas.Bool.{and_from, eqb-true, eq-eqb, false_from_ne_true, false≢true}
use Rattle.subdiv_model.specs.Polygons.{Polygon, same_side, same_edge, has_side, has_corner, is_among, is_distinct, polygon_at, has_distinct_sides}
use Rattle.subdiv_model.specs.Edges.{all_sides, edges_of, edges_of_point, faces_of_point, has_end, is_boundary}
use Rattle.subdiv_model.specs.Manifold.{IsPath, HasOneFan, is_simple}
use Rattle.number_laws.proofs.CountLemmas.{one-no, any-weaker, any-from_count}
use Rattle.number_laws.proofs.ListLemmas.{any-both}
use Rattle.mesh_laws.proofs.SideLemmas.{no-side-back}
use Rattle.mesh_laws.proofs.EdgeLemmas.{any-first_named}
use Rattle.mesh_laws.proofs.ClosedLemmas.{all-at, any-all, any-here, any-place, any-side-edge}
use Rattle.mesh_laws.proofs.PointLemmas.{boundary-alike, boundary-back}
use Rattle.mesh_laws.proofs.FanLemmas.{faces-among, leader-unique, distinct-at, side-end}
use Rattle.mesh_laws.proofs.ChildCornerLemmas.{corner-place}
use Rattle.limit_laws.proofs.CreaseLemmas.{first-end}
use Rattle.limit_laws.proofs.EdgeStarLemmas.{end-alike}
use Rattle.grid_laws.specs.Grids.{IsQuad, HasQuad}
use Rattle.grid_laws.proofs.QuadLemmas.{quad-corner, apart-listed}
use Rattle.grid_laws.proofs.StarLemmas.{HasStar, quad-at, same-quad, turned-star, star-all, as-many-faces, four-ways, in-side, out-side, successor-side, side-owner}

-- an item that passes and is kept passes among the kept ones
pub kept-any : {X : Type 0} (keep p q : X → Bool) → ((x : X) → q x ≡ true → (keep x ≡ true) × (p x ≡ true)) → (xs : List X) → list_any q xs ≡ true
    → list_any p (filter keep xs) ≡ true
kept-any keep p q is xs h =
    any-both keep p xs ∙ any-weaker q (λ x. keep x && p x) (λ x found. and_from (keep x) (p x) (is x found).0 (is x found).1) xs h

module _ (polygons : List Polygon) (simple : list_all is_simple polygons ≡ true) (distinct : has_distinct_sides (all_sides polygons) ≡ true) (v : ℕ) where
  -- the edge of a side that ends at the point is one of those there
  pub boundary-at_point : (s : ℕ × ℕ) → list_any (same_side s) (all_sides polygons) ≡ true → has_end v s ≡ true → is_boundary polygons s ≡ true
      → list_any (is_boundary polygons) (edges_of_point polygons v) ≡ true
  boundary-at_point s there end boundary =
      kept-any (has_end v) (is_boundary polygons) (same_edge s)
      (λ e h. (end-alike v s e end h, sym (boundary-alike polygons simple s e h) ∙ boundary)) (edges_of polygons)
      (any-first_named s (all_sides polygons) ∙ any-side-edge s (all_sides polygons) there)

  -- where no edge at the point is of one face, each side there has a side back
  pub side-back : list_any (is_boundary polygons) (edges_of_point polygons v) ≡ false → (f a : ℕ) → has_side (v, a) (polygon_at polygons f) ≡ true
      → (g : ℕ) × (g < length polygons) × (has_side (a, v) (polygon_at polygons g) ≡ true)
  side-back inside f a h =
      let there = any-here (same_side (v, a)) polygons f h in
      let two : is_boundary polygons (v, a) ≡ false = false_from_ne_true _ (λ boundary. false≢true (sym inside ∙ boundary-at_point (v, a) there (first-end (v, a)) boundary)) in
      let times = boundary-back polygons simple distinct (v, a) there in
      let none = one-no (is_boundary polygons (v, a)) two in
      any-place (same_side (a, v)) polygons (any-from_count (same_side (a, v)) (all_sides polygons) (omega (arith, times, none)))

  -- Four faces, each succeeded by the next one.

  record IsChain (f0 f1 f2 f3 : ℕ) : Type 0 where
    once : is_distinct (f0 ∷ f1 ∷ f2 ∷ f3 ∷ []) ≡ true
    all : (face : ℕ) → has_corner v (polygon_at polygons face) ≡ true → is_among (f0 ∷ f1 ∷ f2 ∷ f3 ∷ []) face ≡ true
    back : (f a : ℕ) → has_side (v, a) (polygon_at polygons f) ≡ true → (g : ℕ) × (g < length polygons) × (has_side (a, v) (polygon_at polygons g) ≡ true)

  apart-from : (f0 f1 f2 f3 : ℕ) → is_distinct (f0 ∷ f1 ∷ f2 ∷ f3 ∷ []) ≡ true
      → (nat_eq f0 f2 ≡ false) × (nat_eq f0 f3 ≡ false) × (nat_eq f1 f3 ≡ false)
  apart-from f0 f1 f2 f3 h =
      let one = apart-listed f0 f1 f2 f3 h in (one.pr, one.ps, one.qs)

  -- two quads with one first side are of one face
  one-face : {a w b c x d : ℕ} → (quad : HasQuad polygons v a w b) → (other : HasQuad polygons v c x d) → a ≡ c → nat_eq quad.face other.face ≡ true
  one-face {a} {w} {b} {c} {x} {d} quad other same =
      eq-eqb _ _ (side-owner polygons simple distinct (v, a) quad.face other.face (out-side quad)
      (ap (λ (n : ℕ). has_side (v, n) (polygon_at polygons other.face)) same ∙ out-side other))

  module _ {a0 w0 b0 a1 w1 b1 a2 w2 b2 a3 w3 b3 : ℕ} (q0 : HasQuad polygons v a0 w0 b0) (q1 : HasQuad polygons v a1 w1 b1) (q2 : HasQuad polygons v a2 w2 b2) (q3 : HasQuad polygons v a3 w3 b3)
      (chain : IsChain q0.face q1.face q2.face q3.face) (e0 : a0 ≡ b1) (e1 : a1 ≡ b2) (e2 : a2 ≡ b3) where
    -- the last is succeeded by the first
    closes : a3 ≡ b0
    closes =
        let found = chain.back q3.face a3 (out-side q3) in
        go found.0 found.2 (four-ways q0.face q1.face q2.face q3.face found.0 (chain.all found.0 (side-end (polygon_at polygons found.0) (a3, v) found.2)))
      where
        apart : (nat_eq q0.face q2.face ≡ false) × (nat_eq q0.face q3.face ≡ false) × (nat_eq q1.face q3.face ≡ false)
        apart = apart-from q0.face q1.face q2.face q3.face chain.once

        led : {a w b : ℕ} → (quad : HasQuad polygons v a w b) → (g : ℕ) → has_side (a3, v) (polygon_at polygons g) ≡ true → g ≡ quad.face → a3 ≡ b
        led {a} {w} {b} quad g h e =
            leader-unique (polygon_at polygons quad.face) v a3 b (distinct-at polygons quad.face simple)
            (ap (λ f. has_side (a3, v) (polygon_at polygons f)) (sym e) ∙ h) (in-side quad)

        go : (g : ℕ) → has_side (a3, v) (polygon_at polygons g) ≡ true → (g ≡ q0.face) ⊎ ((g ≡ q1.face) ⊎ ((g ≡ q2.face) ⊎ (g ≡ q3.face))) → a3 ≡ b0
        go g h (inl e) = led q0 g h e
        go g h (inr (inl e)) = absurd (false≢true (sym apart.1 ∙ one-face q0 q3 (e0 ∙ sym (led q1 g h e))))
        go g h (inr (inr (inl e))) = absurd (false≢true (sym apart.2 ∙ one-face q1 q3 (e1 ∙ sym (led q2 g h e))))
        go g h (inr (inr (inr e))) =
            absurd (no-side-back (polygon_at polygons q3.face) v a3 (all-at is_simple polygons q3.face [] q3.inside simple) (out-side q3)
            (ap (λ f. has_side (a3, v) (polygon_at polygons f)) (sym e) ∙ h))

    chain-star : HasStar polygons v a3 b3 b2 b1 w3 w2 w1 w0
    chain-star =
        let apart = apart-from q0.face q1.face q2.face q3.face chain.once in
        let one : HasQuad polygons v b1 w0 b0 = subst (λ n. HasQuad polygons v n w0 b0) e0 q0 in
        record {
          first = q3;
          second = subst (λ n. HasQuad polygons v n w2 b2) e2 q2;
          third = subst (λ n. HasQuad polygons v n w1 b1) e1 q1;
          fourth = subst (λ n. HasQuad polygons v b1 w0 n) (sym closes) one;
          ac = false_from_ne_true _ (λ same. false≢true (sym apart.2 ∙ one-face q1 q3 (e1 ∙ sym (eqb-true a3 b2 same))));
          bd = false_from_ne_true _ (λ same. false≢true (sym apart.0 ∙ one-face q0 q2 (e0 ∙ sym (eqb-true b3 b1 same) ∙ sym e2)));
        }

  -- Four quads around the point, from each quad on.

  -- c and d are the other ends of the two other edges, and x to z the opposite corners of the other quads
  pub record HasStarFrom (p q s : ℕ) : Type 0 where
    pub c : ℕ
    pub d : ℕ
    pub x : ℕ
    pub y : ℕ
    pub z : ℕ
    pub is : HasStar polygons v p s c d q x y z

  first-from : {p q s a b c d w x y z : ℕ} → (quad : HasQuad polygons v p q s) → (star : HasStar polygons v a b c d w x y z) → quad.face ≡ star.first.face
      → HasStarFrom p q s
  first-from {p} {q} {s} {a} {b} {c} {d} {w} {x} {y} {z} quad star e =
      let same = same-quad polygons simple distinct quad star.first e in
      record {
        c = c;
        d = d;
        x = x;
        y = y;
        z = z;
        is =
            subst (λ n. HasStar polygons v n s c d q x y z) (sym same.0)
            (subst (λ n. HasStar polygons v a n c d q x y z) (sym same.2) (subst (λ n. HasStar polygons v a b c d n x y z) (sym same.1) star));
      }

  star-from : {p q s a b c d w x y z : ℕ} → HasQuad polygons v p q s → HasStar polygons v a b c d w x y z → HasOneFan polygons v → HasStarFrom p q s
  star-from {p} {q} {s} {a} {b} {c} {d} {w} {x} {y} {z} quad star fan =
      go (four-ways star.first.face star.second.face star.third.face star.fourth.face quad.face
      (star-all polygons simple distinct star fan quad.face (quad-corner polygons quad.face v p q s quad.is)))
    where
      go : (quad.face ≡ star.first.face) ⊎ ((quad.face ≡ star.second.face) ⊎ ((quad.face ≡ star.third.face) ⊎ (quad.face ≡ star.fourth.face))) → HasStarFrom p q s
      go (inl e) = first-from quad star e
      go (inr (inl e)) = first-from quad (turned-star star) e
      go (inr (inr (inl e))) = first-from quad (turned-star (turned-star star)) e
      go (inr (inr (inr e))) = first-from quad (turned-star (turned-star (turned-star star))) e

  -- A point inside with four faces, all quads.

  module _ (fan : HasOneFan polygons v) (inside : list_any (is_boundary polygons) (edges_of_point polygons v) ≡ false)
      (four : length (faces_of_point polygons v) ≡ 4) (quads : list_all (λ f. nat_eq (length (polygon_at polygons f)) 4) (faces_of_point polygons v) ≡ true) where
    -- each face there is a quad from the point on
    each-quad : (face : ℕ) → has_corner v (polygon_at polygons face) ≡ true → (a : ℕ) × (w : ℕ) × (b : ℕ) × IsQuad polygons face v a w b
    each-quad face h =
        let found = any-all (nat_eq face) (λ f. nat_eq (length (polygon_at polygons f)) 4) (faces_of_point polygons v) (faces-among polygons v face ∙ h) quads in
        let long : length (polygon_at polygons face) ≡ 4 = ap (λ f. length (polygon_at polygons f)) (eqb-true face found.0 found.1) ∙ eqb-true _ 4 found.2 in
        let at = quad-at polygons simple distinct face v long h in
        (at.a, at.w, at.b, at.is)

    fan-four : length fan.fan ≡ 4
    fan-four = sym (as-many-faces polygons v fan.fan fan.once (λ f h. (fan.all f).0 h) (λ f h. (fan.all f).1 h)) ∙ four

    -- the fan as four quads
    from-fan : (faces : List ℕ) → length faces ≡ 4 → is_distinct faces ≡ true
        → ((face : ℕ) → is_among faces face ≡ true → has_corner v (polygon_at polygons face) ≡ true)
        → ((face : ℕ) → has_corner v (polygon_at polygons face) ≡ true → is_among faces face ≡ true)
        → IsPath polygons v faces → {p q s : ℕ} → HasQuad polygons v p q s → HasStarFrom p q s
    from-fan (f0 ∷ f1 ∷ f2 ∷ f3 ∷ []) long once there all path {p} {q} {s} quad =
        let i0 : is_among (f0 ∷ f1 ∷ f2 ∷ f3 ∷ []) f0 ≡ true = let self : nat_eq f0 f0 ≡ true = eq-eqb f0 f0 refl in grind (arith, nat_tests) in
        let i1 : is_among (f0 ∷ f1 ∷ f2 ∷ f3 ∷ []) f1 ≡ true = let self : nat_eq f1 f1 ≡ true = eq-eqb f1 f1 refl in grind (arith, nat_tests) in
        let i2 : is_among (f0 ∷ f1 ∷ f2 ∷ f3 ∷ []) f2 ≡ true = let self : nat_eq f2 f2 ≡ true = eq-eqb f2 f2 refl in grind (arith, nat_tests) in
        let i3 : is_among (f0 ∷ f1 ∷ f2 ∷ f3 ∷ []) f3 ≡ true = let self : nat_eq f3 f3 ≡ true = eq-eqb f3 f3 refl in grind (arith, nat_tests) in
        let k0 = each-quad f0 (there f0 i0) in
        let k1 = each-quad f1 (there f1 i1) in
        let k2 = each-quad f2 (there f2 i2) in
        let k3 = each-quad f3 (there f3 i3) in
        let q0 : HasQuad polygons v k0.0 k0.1 k0.2 = record { face = f0; inside = corner-place polygons f0 v (there f0 i0); is = k0.3 } in
        let q1 : HasQuad polygons v k1.0 k1.1 k1.2 = record { face = f1; inside = corner-place polygons f1 v (there f1 i1); is = k1.3 } in
        let q2 : HasQuad polygons v k2.0 k2.1 k2.2 = record { face = f2; inside = corner-place polygons f2 v (there f2 i2); is = k2.3 } in
        let q3 : HasQuad polygons v k3.0 k3.1 k3.2 = record { face = f3; inside = corner-place polygons f3 v (there f3 i3); is = k3.3 } in
        let chain : IsChain f0 f1 f2 f3 = record { once = once; all = all; back = side-back inside } in
        star-from quad
        (chain-star q0 q1 q2 q3 chain (successor-side polygons simple distinct q0 q1 path.0) (successor-side polygons simple distinct q1 q2 path.1.0)
        (successor-side polygons simple distinct q2 q3 path.1.1.0))
        fan
    from-fan [] long once there all path quad = absurd (omega (arith, long))
    from-fan (f0 ∷ []) long once there all path quad = absurd (omega (arith, long))
    from-fan (f0 ∷ f1 ∷ []) long once there all path quad = absurd (omega (arith, long))
    from-fan (f0 ∷ f1 ∷ f2 ∷ []) long once there all path quad = absurd (omega (arith, long))
    from-fan (f0 ∷ f1 ∷ f2 ∷ f3 ∷ f4 ∷ rest) long once there all path quad = absurd (omega (arith, long))

    -- from each of its quads on the point has four
    pub star-of : {p q s : ℕ} → HasQuad polygons v p q s → HasStarFrom p q s
    star-of {p} {q} {s} quad = from-fan fan.fan fan-four fan.once (λ f h. (fan.all f).0 h) (λ f h. (fan.all f).1 h) fan.path quad
