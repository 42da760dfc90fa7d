-- At a point all of whose faces a part has, the part has a fan where the whole has one.
use Rattle.std.proofs.Common.{◌≡◌, ℕ, ◌<◌, Bool, true, false, nat_eq, nat_lt, List, [], ◌∷◌, length, map, get_or, arith, refl, ap, sym, ◌∙◌, subst}
use Rattle.std.specs.List.{list_all, list_any}
use Rattle.std.proofs.lemmas.Bool.{and_parts, and_from, eqb-true, eq-eqb, lt-ltb, ltb-true}
use Rattle.std.proofs.lemmas.Bool.Decides.{nat_tests}
use Rattle.std.proofs.lemmas.List.Sums.{list_all-from_AllPass}
use Rattle.std.proofs.lemmas.List.Folds.{list_any_at}
use Rattle.mesh_laws.proofs.ClosedLemmas.{any-all}
use Rattle.subdiv_model.specs.Polygons.{Polygon, same_side, sides_of, has_side, has_corner, is_among, is_distinct, polygon_at}
use Rattle.subdiv_model.specs.Manifold.{IsSuccessor, IsPath, HasOneFan}
use Rattle.mesh_laws.proofs.FanLemmas.{side-start, side-end}
use Rattle.mesh_laws.proofs.ChildCornerLemmas.{corner-place}
use Rattle.part_laws.specs.Parts.{IsPart, IsWholeAt, is_corner, renamed, face_in}
use Rattle.part_laws.proofs.ListLemmas.{any-mapped}
use Rattle.part_laws.proofs.RenamedLemmas.{number-renamed, sides-renamed}
use Rattle.part_laws.proofs.PartLemmas.{as-many, polygon-in}
use Rattle.part_laws.proofs.JoinLemmas.{corner-in, corner-named, corner-unnamed, map-among}
use Rattle.part_laws.proofs.MaskLemmas.{faces-apart}
use Rattle.part_laws.proofs.NameLemmas.{side-in}
use Rattle.part_laws.proofs.SelfLemmas.{among-at}

-- a side among renamed ones is that of a side
side-from : (name : ℕ → ℕ) (s : ℕ × ℕ) (sides : List (ℕ × ℕ)) → list_any (same_side s) (map (renamed name) sides) ≡ true → (u : ℕ × ℕ) × (list_any (same_side u) sides ≡ true) × (name u.0 ≡ s.0) × (name u.1 ≡ s.1)
side-from name s [] h = absurd (cc)
side-from name s (t ∷ sides) h = go (same_side s (renamed name t)) refl (λ more. side-from name s sides more)
  where
    go : (b : Bool) → same_side s (renamed name t) ≡ b → (list_any (same_side s) (map (renamed name) sides) ≡ true → (u : ℕ × ℕ) × (list_any (same_side u) sides ≡ true) × (name u.0 ≡ s.0) × (name u.1 ≡ s.1)) → (u : ℕ × ℕ) × (list_any (same_side u) (t ∷ sides) ≡ true) × (name u.0 ≡ s.0) × (name u.1 ≡ s.1)
    go true e behind =
        let parts = and_parts (nat_eq s.0 (name t.0)) (nat_eq s.1 (name t.1)) e in
        let one = eq-eqb t.0 t.0 refl in
        let two = eq-eqb t.1 t.1 refl in
        (t, rw (one, two) refl, sym (eqb-true _ _ parts.0), sym (eqb-true _ _ parts.1))
    go false e behind =
        let found = behind (rw e at h) in
        (found.0, grind (arith, nat_tests, found.1), found.2, found.3)

-- a test that each number of a list passes holds for all
all-among : (test : ℕ → Bool) (ns : List ℕ) → ((n : ℕ) → is_among ns n ≡ true → test n ≡ true) → list_all test ns ≡ true
all-among test ns each =
    list_all-from_AllPass test ns (λ k d h. each (get_or ns k d) (list_any_at (nat_eq (get_or ns k d)) ns k d h (eq-eqb (get_or ns k d) (get_or ns k d) refl)))

among-all : (test : ℕ → Bool) (ns : List ℕ) (n : ℕ) → is_among ns n ≡ true → list_all test ns ≡ true → test n ≡ true
among-all test ns n h all = let found = any-all (nat_eq n) test ns h all in ap test (eqb-true n found.0 found.1) ∙ found.2

among-mapped : (f : ℕ → ℕ) (ns : List ℕ) (n : ℕ) → is_among (map f ns) n ≡ true → (k : ℕ) × (is_among ns k ≡ true) × (n ≡ f k)
among-mapped f [] n h = absurd (cc)
among-mapped f (m ∷ ns) n h = go (nat_eq n (f m)) refl (λ more. among-mapped f ns n more)
  where
    go : (b : Bool) → nat_eq n (f m) ≡ b → (is_among (map f ns) n ≡ true → (k : ℕ) × (is_among ns k ≡ true) × (n ≡ f k)) → (k : ℕ) × (is_among (m ∷ ns) k ≡ true) × (n ≡ f k)
    go true e behind = (m, let self = eq-eqb m m refl in rw self refl, eqb-true n (f m) e)
    go false e behind =
        let found = behind (rw e at h) in
        (found.0, grind (arith, nat_tests, found.1), found.2)

-- numbers that are among others, by their places there
origins : (faces ns : List ℕ) → ((n : ℕ) → is_among ns n ≡ true → is_among faces n ≡ true) → (ks : List ℕ) × (map (face_in faces) ks ≡ ns) × (list_all (λ k. nat_lt k (length faces)) ks ≡ true)
origins faces [] each = ([], refl, refl)
origins faces (n ∷ ns) each =
    let first = among-at faces n (each n (let self = eq-eqb n n refl in rw self refl)) in
    let rest = origins faces ns (λ m h. each m (grind (arith, nat_tests))) in
    let below = lt-ltb first.0 (length faces) first.1 in
    (first.0 ∷ rest.0, ap (λ l. face_in faces first.0 ∷ l) rest.1 ∙ ap (λ m. m ∷ ns) (sym first.2), and_from _ _ below rest.2)

module _ (name : ℕ → ℕ) (faces : List ℕ) (part whole : List Polygon) (is : IsPart name faces part whole) where
  -- a successor in the part is one in the whole
  pub successor-in : (p f g : ℕ) → IsSuccessor part p f g → IsSuccessor whole (name p) (face_in faces f) (face_in faces g)
  successor-in p f g s = record {
    corner = name s.corner;
    follows = side-in name faces part whole is f (p, s.corner) s.follows;
    leads_back = side-in name faces part whole is g (s.corner, p) s.leads_back;
  }

  pub path-in : (p : ℕ) (some : List ℕ) → IsPath part p some → IsPath whole (name p) (map (face_in faces) some)
  path-in p [] path = tt
  path-in p (f ∷ []) path = tt
  path-in p (f ∷ (g ∷ rest)) path = (successor-in p f g path.0, path-in p (g ∷ rest) path.1)

  side-of : (k : ℕ) (s : ℕ × ℕ) → k < length part → has_side s (polygon_at whole (face_in faces k)) ≡ true → (u : ℕ × ℕ) × (has_side u (polygon_at part k) ≡ true) × (name u.0 ≡ s.0) × (name u.1 ≡ s.1)
  side-of k s inside h =
      side-from name s (sides_of (polygon_at part k))
      (ap (list_any (same_side s)) (sym (sides-renamed name (polygon_at part k))) ∙ ap (has_side s) (polygon-in name faces part whole is k inside) ∙ h)

  -- a successor in the whole between faces of the part is one in the part
  pub successor-from : (p f g : ℕ) → is_corner part p ≡ true → f < length part → g < length part → IsSuccessor whole (name p) (face_in faces f) (face_in faces g) → IsSuccessor part p f g
  successor-from p f g there h k s =
      let after = side-of f (name p, s.corner) h s.follows in
      let before = side-of g (s.corner, name p) k s.leads_back in
      let u = after.0 in
      let w = before.0 in
      let own : (polygon : ℕ) (n : ℕ) → has_corner n (polygon_at part polygon) ≡ true → is_corner part n ≡ true = λ polygon n c. corner-in part n polygon c in
      let one : u.0 ≡ p = is.apart u.0 p (own f u.0 (side-start (polygon_at part f) u after.1)) there after.2 in
      let two : w.1 ≡ p = is.apart w.1 p (own g w.1 (side-end (polygon_at part g) w before.1)) there before.3 in
      let three : w.0 ≡ u.1 = is.apart w.0 u.1 (own g w.0 (side-start (polygon_at part g) w before.1)) (own f u.1 (side-end (polygon_at part f) u after.1)) (before.2 ∙ sym after.3) in
      record {
        corner = u.1;
        follows = subst (λ n. has_side (n, u.1) (polygon_at part f) ≡ true) one after.1;
        leads_back = subst (λ n. has_side (u.1, n) (polygon_at part g) ≡ true) two (subst (λ n. has_side (n, w.1) (polygon_at part g) ≡ true) three before.1);
      }

  pub path-from : (p : ℕ) (some : List ℕ) → is_corner part p ≡ true → list_all (λ k. nat_lt k (length part)) some ≡ true → IsPath whole (name p) (map (face_in faces) some) → IsPath part p some
  path-from p [] there all path = tt
  path-from p (f ∷ []) there all path = tt
  path-from p (f ∷ (g ∷ rest)) there all path =
      let parts = and_parts (nat_lt f (length part)) (list_all (λ k. nat_lt k (length part)) (g ∷ rest)) all in
      let more = and_parts (nat_lt g (length part)) (list_all (λ k. nat_lt k (length part)) rest) parts.1 in
      (successor-from p f g there (ltb-true f (length part) parts.0) (ltb-true g (length part) more.0) path.0, path-from p (g ∷ rest) there parts.1 path.1)

  -- distinct faces of the part have distinct numbers
  distinct-in : (some : List ℕ) → list_all (λ k. nat_lt k (length part)) some ≡ true → is_distinct some ≡ is_distinct (map (face_in faces) some)
  distinct-in [] all = refl
  distinct-in (k ∷ some) all =
      let parts = and_parts (nat_lt k (length part)) (list_all (λ j. nat_lt j (length part)) some) all in
      let rest = distinct-in some parts.1 in
      let here : is_among (map (face_in faces) some) (face_in faces k) ≡ is_among some k =
      any-mapped (λ j. nat_lt j (length part)) (face_in faces) (nat_eq k) (nat_eq (face_in faces k)) (λ j h. number-renamed (face_in faces) (λ i. nat_lt i (length part)) (faces-apart name faces part whole is) k j parts.0 h) some parts.1 in
      rw (here, rest) refl

  among-in : (some : List ℕ) (k : ℕ) → list_all (λ j. nat_lt j (length part)) some ≡ true → k < length part → is_among (map (face_in faces) some) (face_in faces k) ≡ is_among some k
  among-in some k all h =
      any-mapped (λ j. nat_lt j (length part)) (face_in faces) (nat_eq k) (nat_eq (face_in faces k)) (λ j l. number-renamed (face_in faces) (λ i. nat_lt i (length part)) (faces-apart name faces part whole is) k j (lt-ltb _ _ h) l) some all

  module _ (p : ℕ) (there : is_corner part p ≡ true) (all : IsWholeAt faces whole (name p)) where
    -- a fan of the part is one of the whole
    pub fan-in : HasOneFan part p → HasOneFan whole (name p)
    fan-in one =
        let within = all-among (λ k. nat_lt k (length part)) one.fan (λ k h. lt-ltb k (length part) (corner-place part k p ((one.all k).0 h))) in
        record {
          fan = map (face_in faces) one.fan;
          once = sym (distinct-in one.fan within) ∙ one.once;
          all = λ f. (
            λ h.
                let found = among-mapped (face_in faces) one.fan f h in
                ap (λ n. has_corner (name p) (polygon_at whole n)) found.2 ∙ corner-named name faces part whole is p found.0 ((one.all found.0).0 found.1),
            λ h.
                let found = among-at faces f (all f h) in
                let below : found.0 < length part = omega (arith, found.1, as-many name faces part whole is) in
                let here = corner-unnamed name faces part whole is p found.0 there below (ap (λ n. has_corner (name p) (polygon_at whole n)) (sym found.2) ∙ h) in
                ap (is_among (map (face_in faces) one.fan)) found.2 ∙ map-among (face_in faces) found.0 one.fan ((one.all found.0).1 here),
          );
          path = path-in p one.fan one.path;
        }

    -- a fan of the whole is one of the part
    pub fan-from : HasOneFan whole (name p) → HasOneFan part p
    fan-from one =
        let found = origins faces one.fan (λ n h. all n ((one.all n).0 h)) in
        go found.0 found.1 (ap (λ n. list_all (λ k. nat_lt k n) found.0) (as-many name faces part whole is) ∙ found.2)
      where
        go : (ks : List ℕ) → map (face_in faces) ks ≡ one.fan → list_all (λ k. nat_lt k (length part)) ks ≡ true → HasOneFan part p
        go ks e within = record {
          fan = ks;
          once = distinct-in ks within ∙ ap is_distinct e ∙ one.once;
          all = λ k. (
            λ h.
                let below = ltb-true k (length part) (among-all (λ j. nat_lt j (length part)) ks k h within) in
                let here = (one.all (face_in faces k)).0 (ap (λ l. is_among l (face_in faces k)) (sym e) ∙ map-among (face_in faces) k ks h) in
                corner-unnamed name faces part whole is p k there below here,
            λ h.
                let below = corner-place part k p h in
                let here = (one.all (face_in faces k)).1 (corner-named name faces part whole is p k h) in
                sym (among-in ks k within below) ∙ ap (λ l. is_among l (face_in faces k)) e ∙ here,
          );
          path = path-from p ks there within (subst (IsPath whole (name p)) (sym e) one.path);
        }
