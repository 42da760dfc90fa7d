-- Four quads around a point are all its faces, if these form one fan. A point of four quads has four quads around it.
use Rattle.std.proofs.Common.{◌≡◌, ℕ, ◌+◌, Bool, true, false, not, nat_eq, List, [], ◌∷◌, length, arith, refl, ap, sym, ◌∙◌, subst, ◌⊎◌, inl, inr}
use Rattle.std.specs.List.{list_all}
use Rattle.std.proofs.lemmas.Bool.Decides.{nat_tests}
use Rattle.std.proofs.lemmas.Bool.{and_from, cond_both, eqb-true, eq-eqb, false_from_ne_true, false≢true}
use Rattle.subdiv_model.specs.Polygons.{Polygon, has_side, has_corner, is_among, is_distinct, polygon_at, has_distinct_sides}
use Rattle.subdiv_model.specs.Lists.{places_from}
use Rattle.subdiv_model.specs.Edges.{all_sides, faces_of_point}
use Rattle.subdiv_model.specs.Manifold.{IsSuccessor, IsPath, HasOneFan, is_simple}
use Rattle.subdiv_model.specs.Patch.{corner_from}
use Rattle.mesh_laws.proofs.SideLemmas.{distinct-count}
use Rattle.mesh_laws.proofs.FanLemmas.{places-before, faces-among, follower-unique, leader-unique, owner-unique, distinct-at}
use Rattle.mesh_laws.proofs.WalkLemmas.{distinct-le, same-tests}
use Rattle.grid_laws.specs.Grids.{IsQuad, from_first, from_second, from_third, from_fourth, HasQuad}
use Rattle.grid_laws.proofs.QuadLemmas.{turned-quad, four-listed, apart-swapped, quad-side, quad-corner, faces-apart, quad-third, quad-fourth}

-- Lists.

-- no place is listed twice
pub places-distinct : {X : Type 0} (test : X → Bool) (place : ℕ) (xs : List X) → is_distinct (places_from place test xs) ≡ true
places-distinct test place [] = refl
places-distinct test place (x ∷ xs) =
    let behind = places-distinct test (place + 1) xs in
    cond_both (test x) (place ∷ places_from (place + 1) test xs) (places_from (place + 1) test xs) (λ l. is_distinct l ≡ true)
    (λ yes. and_from _ _ (ap not (places-before test (place + 1) place xs (omega arith))) behind) (λ no. behind)

-- a distinct list of the faces at a point is as long as they are many
pub as-many-faces : (polygons : List Polygon) (v : ℕ) (faces : List ℕ) → is_distinct faces ≡ true
    → ((face : ℕ) → is_among faces face ≡ true → has_corner v (polygon_at polygons face) ≡ true)
    → ((face : ℕ) → has_corner v (polygon_at polygons face) ≡ true → is_among faces face ≡ true)
    → length (faces_of_point polygons v) ≡ length faces
as-many-faces polygons v faces once there all =
    let less = distinct-le faces (faces_of_point polygons v) once (λ n h. faces-among polygons v n ∙ there n h) in
    let more =
    distinct-le (faces_of_point polygons v) faces (places-distinct (has_corner v) 0 polygons) (λ n h. all n (sym (faces-among polygons v n) ∙ h)) in
    omega arith

-- the cases of a number among four
pub four-ways : (a b c d n : ℕ) → is_among (a ∷ b ∷ c ∷ d ∷ []) n ≡ true → (n ≡ a) ⊎ ((n ≡ b) ⊎ ((n ≡ c) ⊎ (n ≡ d)))
four-ways a b c d n h = go (nat_eq n a) (nat_eq n b) (nat_eq n c) refl refl refl
  where
    go : (x y z : Bool) → nat_eq n a ≡ x → nat_eq n b ≡ y → nat_eq n c ≡ z → (n ≡ a) ⊎ ((n ≡ b) ⊎ ((n ≡ c) ⊎ (n ≡ d)))
    go true y z e f g = inl (eqb-true n a e)
    go false true z e f g = inr (inl (eqb-true n b f))
    go false false true e f g = inr (inr (inl (eqb-true n c g)))
    go false false false e f g = inr (inr (inr (let last : nat_eq n d ≡ true = grind (arith, nat_tests) in eqb-true n d last)))

-- four that are apart
four-distinct : (a b c d : ℕ) → nat_eq a b ≡ false → nat_eq a c ≡ false → nat_eq a d ≡ false → nat_eq b c ≡ false → nat_eq b d ≡ false → nat_eq c d ≡ false
    → is_distinct (a ∷ b ∷ c ∷ d ∷ []) ≡ true
four-distinct a b c d ab ac ad bc bd cd = rw (ab, ac, ad, bc, bd, cd) refl

-- Four quads about v, one after another: a to d are the other ends of its edges, and w to z opposite corners.
pub record HasStar (polygons : List Polygon) (v a b c d w x y z : ℕ) : Type 0 where
  pub first : HasQuad polygons v a w b
  pub second : HasQuad polygons v b x c
  pub third : HasQuad polygons v c y d
  pub fourth : HasQuad polygons v d z a
  pub ac : nat_eq a c ≡ false
  pub bd : nat_eq b d ≡ false

abbrev pub turned-star : {polygons : List Polygon} {v a b c d w x y z : ℕ} → HasStar polygons v a b c d w x y z → HasStar polygons v b c d a x y z w
turned-star {polygons} {v} {a} {b} {c} {d} {w} {x} {y} {z} star = record {
  first = star.second;
  second = star.third;
  third = star.fourth;
  fourth = star.first;
  ac = star.bd;
  bd = apart-swapped a c star.ac;
}

-- the sides of a quad at its first corner
pub out-side : {polygons : List Polygon} {p q r s : ℕ} → (quad : HasQuad polygons p q r s) → has_side (p, q) (polygon_at polygons quad.face) ≡ true
out-side {polygons} {p} {q} {r} {s} quad = quad-side polygons quad.face p q r s quad.is

pub in-side : {polygons : List Polygon} {p q r s : ℕ} → (quad : HasQuad polygons p q r s) → has_side (s, p) (polygon_at polygons quad.face) ≡ true
in-side quad = out-side (turned-quad (turned-quad (turned-quad quad)))

module _ (polygons : List Polygon) (simple : list_all is_simple polygons ≡ true) (distinct : has_distinct_sides (all_sides polygons) ≡ true) where
  -- one face has a side
  pub side-owner : (s : ℕ × ℕ) (f g : ℕ) → has_side s (polygon_at polygons f) ≡ true → has_side s (polygon_at polygons g) ≡ true → f ≡ g
  side-owner s f g h k = owner-unique polygons s f g (distinct-count s (all_sides polygons) distinct) h k

  -- two quads of one face at one corner are one
  pub same-quad : {p q r s x y z : ℕ} → (quad : HasQuad polygons p q r s) → (other : HasQuad polygons p x y z) → quad.face ≡ other.face → (q ≡ x) × (r ≡ y) × (s ≡ z)
  same-quad {p} {q} {r} {s} {x} {y} {z} quad other same =
      let side = ap (λ f. has_side (p, x) (polygon_at polygons f)) same ∙ out-side other in
      let next : q ≡ x = follower-unique (polygon_at polygons quad.face) p q x (distinct-at polygons quad.face simple) (out-side quad) side in (
        next,
        sym (quad-third polygons simple distinct quad) ∙ ap (λ (n : ℕ). corner_from polygons (p, n) 2) next ∙ quad-third polygons simple distinct other,
        sym (quad-fourth polygons simple distinct quad) ∙ ap (λ (n : ℕ). corner_from polygons (p, n) 3) next ∙ quad-fourth polygons simple distinct other,
      )

  -- a quad of a face at one of its corners
  pub record HasQuadAt (face v : ℕ) : Type 0 where
    pub a : ℕ
    pub w : ℕ
    pub b : ℕ
    pub is : IsQuad polygons face v a w b

  pub quad-at : (face v : ℕ) → length (polygon_at polygons face) ≡ 4 → has_corner v (polygon_at polygons face) ≡ true → HasQuadAt face v
  quad-at face v four h = go _ _ _ _ (four-listed (polygon_at polygons face) four)
    where
      go : (p q r s : ℕ) → polygon_at polygons face ≡ p ∷ q ∷ r ∷ s ∷ [] → HasQuadAt face v
      go p q r s e = at (four-ways p q r s v (ap (has_corner v) (sym e) ∙ h))
        where
          at : (v ≡ p) ⊎ ((v ≡ q) ⊎ ((v ≡ r) ⊎ (v ≡ s))) → HasQuadAt face v
          at (inl same) = record { a = q; w = r; b = s; is = from_first (e ∙ ap (λ (n : ℕ). n ∷ q ∷ r ∷ s ∷ []) (sym same)) }
          at (inr (inl same)) = record { a = r; w = s; b = p; is = from_fourth (e ∙ ap (λ (n : ℕ). p ∷ n ∷ r ∷ s ∷ []) (sym same)) }
          at (inr (inr (inl same))) = record { a = s; w = p; b = q; is = from_third (e ∙ ap (λ (n : ℕ). p ∷ q ∷ n ∷ s ∷ []) (sym same)) }
          at (inr (inr (inr same))) = record { a = p; w = q; b = r; is = from_second (e ∙ ap (λ (n : ℕ). p ∷ q ∷ r ∷ n ∷ []) (sym same)) }

  -- Successors about a point.

  -- the successor of a quad about its first corner has the side back
  pub successor-side : {v a w b x y z : ℕ} → (quad : HasQuad polygons v a w b) → (next : HasQuad polygons v x y z) → IsSuccessor polygons v quad.face next.face → a ≡ z
  successor-side {v} {a} {w} {b} {x} {y} {z} quad next is =
      follower-unique (polygon_at polygons quad.face) v a is.corner (distinct-at polygons quad.face simple) (out-side quad) is.follows
      ∙ leader-unique (polygon_at polygons next.face) v is.corner z (distinct-at polygons next.face simple) is.leads_back (in-side next)

  -- each face of a path is like its first to a test that is the same for successors
  path-alike : (v : ℕ) (test : ℕ → Bool) → ((f g : ℕ) → IsSuccessor polygons v f g → test f ≡ test g) → (first : ℕ) (rest : List ℕ) → IsPath polygons v (first ∷ rest)
      → (face : ℕ) → is_among (first ∷ rest) face ≡ true → test face ≡ test first
  path-alike v test alike first [] path face h =
      let same : nat_eq face first ≡ true = grind (arith, nat_tests) in ap test (eqb-true face first same)
  path-alike v test alike first (next ∷ rest) path face h = go (nat_eq face first) refl (λ more. path-alike v test alike next rest path.1 face more)
    where
      go : (b : Bool) → nat_eq face first ≡ b → (is_among (next ∷ rest) face ≡ true → test face ≡ test next) → test face ≡ test first
      go true e behind = ap test (eqb-true face first e)
      go false e behind =
          let more : is_among (next ∷ rest) face ≡ true = grind (arith, nat_tests) in
          behind more ∙ sym (alike first next path.0)

  -- any two faces of a fan pass alike, if each face passes as the next does
  fan-alike : (v : ℕ) (test : ℕ → Bool) → ((f g : ℕ) → IsSuccessor polygons v f g → test f ≡ test g) → (fan : List ℕ) → IsPath polygons v fan
      → (f g : ℕ) → is_among fan f ≡ true → is_among fan g ≡ true → test f ≡ test g
  fan-alike v test alike [] path f g h k = absurd (false≢true h)
  fan-alike v test alike (first ∷ rest) path f g h k = path-alike v test alike first rest path f h ∙ sym (path-alike v test alike first rest path g k)

  -- All faces at a point with four quads about it.

  module _ {v a b c d w x y z : ℕ} (star : HasStar polygons v a b c d w x y z) (fan : HasOneFan polygons v) where
    abbrev faces : List ℕ
    faces = star.first.face ∷ star.second.face ∷ star.third.face ∷ star.fourth.face ∷ []

    abbrev is_one : ℕ → Bool
    is_one face = is_among faces face

    first-one : (face : ℕ) → face ≡ star.first.face → is_one face ≡ true
    first-one face e = let same = eq-eqb face star.first.face e in grind (arith, nat_tests)

    second-one : (face : ℕ) → face ≡ star.second.face → is_one face ≡ true
    second-one face e = let same = eq-eqb face star.second.face e in grind (arith, nat_tests)

    third-one : (face : ℕ) → face ≡ star.third.face → is_one face ≡ true
    third-one face e = let same = eq-eqb face star.third.face e in grind (arith, nat_tests)

    fourth-one : (face : ℕ) → face ≡ star.fourth.face → is_one face ≡ true
    fourth-one face e = let same = eq-eqb face star.fourth.face e in grind (arith, nat_tests)

    -- the quad before another is succeeded by it
    after-before : {p q r s t : ℕ} → (before : HasQuad polygons v p q r) → (quad : HasQuad polygons v r s t) → (g : ℕ) → IsSuccessor polygons v quad.face g → g ≡ before.face
    after-before {p} {q} {r} {s} {t} before quad g is =
        let same : r ≡ is.corner = follower-unique (polygon_at polygons quad.face) v r is.corner (distinct-at polygons quad.face simple) (out-side quad) is.follows in
        side-owner (is.corner, v) g before.face is.leads_back (ap (λ (n : ℕ). has_side (n, v) (polygon_at polygons before.face)) (sym same) ∙ in-side before)

    -- the face that follows is the next quad
    before-after : {p q r s t : ℕ} → (before : HasQuad polygons v p q r) → (quad : HasQuad polygons v r s t) → (f : ℕ) → IsSuccessor polygons v f before.face → f ≡ quad.face
    before-after {p} {q} {r} {s} {t} before quad f is =
        let same : r ≡ is.corner = leader-unique (polygon_at polygons before.face) v r is.corner (distinct-at polygons before.face simple) (in-side before) is.leads_back in
        side-owner (v, is.corner) f quad.face is.follows (ap (λ (n : ℕ). has_side (v, n) (polygon_at polygons quad.face)) (sym same) ∙ out-side quad)

    at-successor : (f g face : ℕ) → IsSuccessor polygons v f g → g ≡ face → IsSuccessor polygons v f face
    at-successor f g face is e = subst (IsSuccessor polygons v f) e is

    from-successor : (f g face : ℕ) → IsSuccessor polygons v f g → f ≡ face → IsSuccessor polygons v face g
    from-successor f g face is e = subst (λ n. IsSuccessor polygons v n g) e is

    step-forth : (f g : ℕ) → IsSuccessor polygons v f g → is_one f ≡ true → is_one g ≡ true
    step-forth f g is h = go (four-ways star.first.face star.second.face star.third.face star.fourth.face f h)
      where
        go : (f ≡ star.first.face) ⊎ ((f ≡ star.second.face) ⊎ ((f ≡ star.third.face) ⊎ (f ≡ star.fourth.face))) → is_one g ≡ true
        go (inl e) = fourth-one g (after-before star.fourth star.first g (from-successor f g star.first.face is e))
        go (inr (inl e)) = first-one g (after-before star.first star.second g (from-successor f g star.second.face is e))
        go (inr (inr (inl e))) = second-one g (after-before star.second star.third g (from-successor f g star.third.face is e))
        go (inr (inr (inr e))) = third-one g (after-before star.third star.fourth g (from-successor f g star.fourth.face is e))

    step-back : (f g : ℕ) → IsSuccessor polygons v f g → is_one g ≡ true → is_one f ≡ true
    step-back f g is h = go (four-ways star.first.face star.second.face star.third.face star.fourth.face g h)
      where
        go : (g ≡ star.first.face) ⊎ ((g ≡ star.second.face) ⊎ ((g ≡ star.third.face) ⊎ (g ≡ star.fourth.face))) → is_one f ≡ true
        go (inl e) = second-one f (before-after star.first star.second f (at-successor f g star.first.face is e))
        go (inr (inl e)) = third-one f (before-after star.second star.third f (at-successor f g star.second.face is e))
        go (inr (inr (inl e))) = fourth-one f (before-after star.third star.fourth f (at-successor f g star.third.face is e))
        go (inr (inr (inr e))) = first-one f (before-after star.fourth star.first f (at-successor f g star.fourth.face is e))

    step-alike : (f g : ℕ) → IsSuccessor polygons v f g → is_one f ≡ is_one g
    step-alike f g is = same-tests (is_one f) (is_one g) (step-forth f g is) (step-back f g is)

    -- each face there is one of the four
    pub star-all : (face : ℕ) → has_corner v (polygon_at polygons face) ≡ true → is_one face ≡ true
    star-all face h =
        fan-alike v is_one step-alike fan.fan fan.path face star.first.face ((fan.all face).1 h)
        ((fan.all star.first.face).1 (quad-corner polygons star.first.face v a w b star.first.is))
        ∙ first-one star.first.face refl

    star-each : (face : ℕ) → is_one face ≡ true → has_corner v (polygon_at polygons face) ≡ true
    star-each face h = go (four-ways star.first.face star.second.face star.third.face star.fourth.face face h)
      where
        go : (face ≡ star.first.face) ⊎ ((face ≡ star.second.face) ⊎ ((face ≡ star.third.face) ⊎ (face ≡ star.fourth.face))) → has_corner v (polygon_at polygons face) ≡ true
        go (inl e) = ap (λ f. has_corner v (polygon_at polygons f)) e ∙ quad-corner polygons star.first.face v a w b star.first.is
        go (inr (inl e)) = ap (λ f. has_corner v (polygon_at polygons f)) e ∙ quad-corner polygons star.second.face v b x c star.second.is
        go (inr (inr (inl e))) = ap (λ f. has_corner v (polygon_at polygons f)) e ∙ quad-corner polygons star.third.face v c y d star.third.is
        go (inr (inr (inr e))) = ap (λ f. has_corner v (polygon_at polygons f)) e ∙ quad-corner polygons star.fourth.face v d z a star.fourth.is

    -- The four are apart.

    -- a quad and the next one share no face
    next-apart : {p q r s t : ℕ} → (before : HasQuad polygons v p q r) → (quad : HasQuad polygons v r s t) → nat_eq before.face quad.face ≡ false
    next-apart {p} {q} {r} {s} {t} before quad =
        apart-swapped quad.face before.face (faces-apart polygons simple quad.face before.face v r (out-side quad) (in-side before))

    -- two quads that start on different sides are different
    across-apart : {p q r s t u : ℕ} → (quad : HasQuad polygons v p q r) → (other : HasQuad polygons v s t u) → nat_eq p s ≡ false → nat_eq quad.face other.face ≡ false
    across-apart {p} {q} {r} {s} {t} {u} quad other apart = false_from_ne_true _ (λ same.
        let out = ap (λ f. has_side (v, s) (polygon_at polygons f)) (eqb-true quad.face other.face same) ∙ out-side other in
        let one = follower-unique (polygon_at polygons quad.face) v p s (distinct-at polygons quad.face simple) (out-side quad) out in
        false≢true (sym apart ∙ eq-eqb p s one))

    star-distinct : is_distinct faces ≡ true
    star-distinct =
        four-distinct star.first.face star.second.face star.third.face star.fourth.face
        (next-apart star.first star.second) (across-apart star.first star.third star.ac)
        (apart-swapped star.fourth.face star.first.face (next-apart star.fourth star.first))
        (next-apart star.second star.third) (across-apart star.second star.fourth star.bd) (next-apart star.third star.fourth)

    -- the point has four faces
    pub star-four : length (faces_of_point polygons v) ≡ 4
    star-four = as-many-faces polygons v faces star-distinct star-each star-all
