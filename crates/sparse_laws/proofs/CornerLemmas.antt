-- The vertices that a point of the next level comes from are those of the corners whose child faces have the point.
use Rattle.std.proofs.Common.{◌≡◌, ℕ, zero, suc, ◌+◌, ◌-◌, ◌<◌, Bool, true, false, nat_eq, nat_lt, List, [], ◌∷◌, length, get_or, arith, refl, ap, sym, ◌∙◌, subst, ◌⊎◌, inl, inr}
use Rattle.std.specs.List.{list_all}
use Rattle.std.proofs.lemmas.Bool.{or_right, eq-eqb, eqb-true, lt-ltb, le-ltb, ltb-true}
use Rattle.std.proofs.lemmas.Bool.Decides.{nat_tests}
use Rattle.std.proofs.lemmas.List.Sums.{list_all-from_AllPass}
use Rattle.std.proofs.lemmas.List.Folds.{list_any_at}
use Rattle.subdiv_model.specs.Lists.{last_of}
use Rattle.subdiv_model.specs.Polygons.{Polygon, same_side, same_edge, sides_of, sides_back_to, has_corner, has_edge, has_side, is_among, polygon_at, is_over}
use Rattle.subdiv_model.specs.Edges.{all_sides, edges_of, edge_number, has_end}
use Rattle.subdiv_model.specs.Level.{Level}
use Rattle.subdiv_model.specs.Child.{face_point, edge_point, child_face, child_polygons}
use Rattle.mesh_laws.proofs.SideLemmas.{side-place, next-corner}
use Rattle.mesh_laws.proofs.EdgeLemmas.{any-first_named, position-alike, any-alike}
use Rattle.mesh_laws.proofs.ClosedLemmas.{any-place, any-side-edge}
use Rattle.mesh_laws.proofs.FanLemmas.{any-side, side-start}
use Rattle.mesh_laws.proofs.ChildPlaceLemmas.{IsChildOf}
use Rattle.mesh_laws.proofs.ChildCornerLemmas.{corner-place, corner-point, corner-cases, corner-self, corner-center, side-named}
use Rattle.level_laws.proofs.FaceLemmas.{sides_of-length, child-stands}
use Rattle.part_laws.specs.Children.{edge_at}
use Rattle.part_laws.proofs.PartLemmas.{along-end, end-alike}
use Rattle.part_laws.proofs.JoinLemmas.{corner-of}
use Rattle.part_laws.proofs.SelfLemmas.{among-at}
use Rattle.part_laws.proofs.PlaceLemmas.{child-of-face}
use Rattle.part_laws.proofs.NameLemmas.{edge-there}
use Rattle.part_laws.proofs.ChildLemmas.{IsNew}
use Rattle.subdiv_model.specs.Sparse.{child_number}
use Rattle.sparse_laws.specs.NextSparse.{vertex_at, vertices_of}

last-read : (s : ℕ × ℕ) (sides : List (ℕ × ℕ)) (d : ℕ × ℕ) → last_of s sides ≡ get_or (s ∷ sides) (length sides) d
last-read s [] d = refl
last-read s (t ∷ sides) d = last-read t sides d

side-read : (first : ℕ) (path : Polygon) (i : ℕ) → i < length path → get_or (sides_back_to first path) i (0, 0) ≡ (get_or path i 0, get_or path (suc i) first)
side-read first [] i h = absurd (omega arith)
side-read first (v ∷ rest) zero h = refl
side-read first (v ∷ rest) (suc i) h = side-read first rest i (omega arith)

-- the side after a corner starts there
side-starts : (polygon : Polygon) (c : ℕ) → c < length polygon → (get_or (sides_of polygon) c (0, 0)).0 ≡ get_or polygon c 0
side-starts [] c h = absurd (omega arith)
side-starts (v ∷ rest) c h = ap (λ s. s.0) (side-read v (v ∷ rest) c h)

pub all-among : (test : ℕ → Bool) (ns : List ℕ) → ((n : ℕ) → is_among ns n ≡ true → test n ≡ true) → list_all test ns ≡ true
all-among test ns each =
    list_all-from_AllPass test ns (λ k d h. each (get_or ns k d) (list_any_at (nat_eq (get_or ns k d)) ns k d h (eq-eqb (get_or ns k d) (get_or ns k d) refl)))

pair-same : {a a' b b' : ℕ} → a ≡ a' → b ≡ b' → ◌≡◌ {A = ℕ × ℕ} (a, b) (a', b')
pair-same p q = cc

-- each end of a side has a corner where the side comes before or after it
abbrev IsAt : Polygon → ℕ × ℕ → ℕ → ℕ → Type 0
IsAt polygon s w c = (get_or polygon c 0 ≡ w) × ((get_or (last_of (0, 0) (sides_of polygon) ∷ sides_of polygon) c (0, 0) ≡ s) ⊎ (get_or (sides_of polygon) c (0, 0) ≡ s))

end-place : (polygon : Polygon) (s : ℕ × ℕ) (w : ℕ) → has_side s polygon ≡ true → has_end w s ≡ true → (c : ℕ) × (c < length polygon) × IsAt polygon s w c
end-place [] s w h ends = absurd (cc)
end-place (v ∷ rest) s w h ends =
    let found = side-place v (v ∷ rest) s h in
    let i = found.0 in
    let is : get_or (sides_of (v ∷ rest)) i (0, 0) ≡ s = side-read v (v ∷ rest) i found.1 ∙ pair-same found.2 found.3 in
    go i found.1 found.2 found.3 is (nat_eq w s.0) refl
  where
    turn : (i : ℕ) → i < length (v ∷ rest) → get_or (v ∷ rest) (suc i) v ≡ s.1 → get_or (sides_of (v ∷ rest)) i (0, 0) ≡ s → w ≡ s.1 → ((suc i < length (v ∷ rest)) × (get_or (v ∷ rest) (suc i) v ≡ get_or (v ∷ rest) (suc i) 0)) ⊎ ((suc i ≡ length (v ∷ rest)) × (get_or (v ∷ rest) (suc i) v ≡ v)) → (c : ℕ) × (c < length (v ∷ rest)) × IsAt (v ∷ rest) s w c
    turn i below end is e (inl more) = (suc i, more.0, (sym more.1 ∙ end ∙ sym e, inl is))
    turn i below end is e (inr last) =
        let sides = sides_back_to v rest in
        let at : length sides ≡ i = omega (arith, last.0, sides_of-length (v ∷ rest)) in
        (0, omega arith, (sym last.1 ∙ end ∙ sym e, inl (last-read (v, get_or rest 0 v) sides (0, 0) ∙ ap (λ k. get_or (sides_of (v ∷ rest)) k (0, 0)) at ∙ is)))

    go : (i : ℕ) → i < length (v ∷ rest) → get_or (v ∷ rest) i 0 ≡ s.0 → get_or (v ∷ rest) (suc i) v ≡ s.1 → get_or (sides_of (v ∷ rest)) i (0, 0) ≡ s → (b : Bool) → nat_eq w s.0 ≡ b → (c : ℕ) × (c < length (v ∷ rest)) × IsAt (v ∷ rest) s w c
    go i below start end is true e = (i, below, (start ∙ sym (eqb-true w s.0 e), inr is))
    go i below start end is false e =
        let other : nat_eq w s.1 ≡ true = rw e at ends in
        turn i below end is (eqb-true w s.1 other) (next-corner v rest i below)

quad-second : (x a b c d : ℕ) → x ≡ b → has_corner x (a ∷ b ∷ c ∷ d ∷ []) ≡ true
quad-second x a b c d e = grind (arith, nat_tests)

quad-fourth : (x a b c d : ℕ) → x ≡ d → has_corner x (a ∷ b ∷ c ∷ d ∷ []) ≡ true
quad-fourth x a b c d e = grind (arith, nat_tests)

pub one-among : (w n : ℕ) → is_among (n ∷ []) w ≡ true → w ≡ n
one-among w n h = grind (arith, nat_tests)

two-among : (w : ℕ) (edge : ℕ × ℕ) → is_among (edge.0 ∷ edge.1 ∷ []) w ≡ true → has_end w edge ≡ true
two-among w edge h = grind (arith, nat_tests)

among-two : (w : ℕ) (edge : ℕ × ℕ) → has_end w edge ≡ true → is_among (edge.0 ∷ edge.1 ∷ []) w ≡ true
among-two w edge h = grind (arith, nat_tests)

module _ (level : Level) (over : is_over level.point_count level.polygons ≡ true) where
  -- the child face of a corner
  abbrev pub child : ℕ → ℕ → Polygon
  child f c = polygon_at (child_polygons level.point_count level.polygons) (child_number level.polygons (f, c))

  pub vertices-old : (n : ℕ) → n < level.point_count → vertices_of level n ≡ n ∷ []
  vertices-old n h = let below = lt-ltb n level.point_count h in rw below refl

  vertices-face : (k : ℕ) → k < length level.polygons → vertices_of level (face_point level.point_count k) ≡ polygon_at level.polygons k
  vertices-face k h =
      let one : nat_lt (level.point_count + k) level.point_count ≡ false = le-ltb _ _ (omega arith) in
      let back : level.point_count + k - level.point_count ≡ k = omega arith in
      let two : nat_lt k (length level.polygons) ≡ true = lt-ltb _ _ h in
      rw (one, back, two) refl

  pub vertices-edge : (edge : ℕ × ℕ) → vertices_of level (edge_point level.point_count level.polygons edge) ≡ (edge_at level.polygons (edge_number level.polygons edge)).0 ∷ (edge_at level.polygons (edge_number level.polygons edge)).1 ∷ []
  vertices-edge edge =
      let n = edge_number level.polygons edge in
      let one : nat_lt (level.point_count + length level.polygons + n) level.point_count ≡ false = le-ltb _ _ (omega arith) in
      let back : level.point_count + length level.polygons + n - level.point_count ≡ length level.polygons + n = omega arith in
      let two : nat_lt (length level.polygons + n) (length level.polygons) ≡ false = le-ltb _ _ (omega arith) in
      let more : length level.polygons + n - length level.polygons ≡ n = omega arith in
      rw (one, back, two, more) refl

  -- the vertex of a child face is among those of each of its corners, and these are corners of its parent
  abbrev Come : ℕ → ℕ → ℕ → Type 0
  Come f v n = (is_among (vertices_of level n) v ≡ true) × (list_all (λ w. has_corner w (polygon_at level.polygons f)) (vertices_of level n) ≡ true)

  come-edge : (f v : ℕ) (s : ℕ × ℕ) → has_side s (polygon_at level.polygons f) ≡ true → has_end v s ≡ true → Come f v (edge_point level.point_count level.polygons s)
  come-edge f v s side ends =
      let e = edge_at level.polygons (edge_number level.polygons s) in
      let same = edge-there level.polygons s (side-named level.polygons f s side) in
      let there : has_edge e (polygon_at level.polygons f) ≡ true = any-alike s e (sides_of (polygon_at level.polygons f)) same (any-side-edge s (sides_of (polygon_at level.polygons f)) side) in
      let end : has_end v e ≡ true = sym (end-alike v s e same) ∙ ends in
      let self = eq-eqb e.0 e.0 refl in
      let first : has_end e.0 e ≡ true = rw self refl in
      let self_two = eq-eqb e.1 e.1 refl in
      let second : has_end e.1 e ≡ true = rw self_two (or_right (nat_eq e.1 e.0) true refl) in
      let one = along-end e.0 e (polygon_at level.polygons f) first there in
      let two = along-end e.1 e (polygon_at level.polygons f) second there in
      subst (λ ns. (is_among ns v ≡ true) × (list_all (λ w. has_corner w (polygon_at level.polygons f)) ns ≡ true)) (sym (vertices-edge s))
      (among-two v e end, rw (one, two) refl)

  come : (f v n : ℕ) (quad : Polygon) (c : IsChildOf level.point_count level.polygons f v quad) → has_corner n quad ≡ true → Come f v n
  come f v n quad c h = go (corner-cases level.point_count level.polygons f v n quad c h)
    where
      at : has_corner v (polygon_at level.polygons f) ≡ true
      at = side-start (polygon_at level.polygons f) (v, c.w) c.after

      self : nat_eq v v ≡ true
      self = eq-eqb v v refl

      go : (n ≡ v) ⊎ ((n ≡ edge_point level.point_count level.polygons (v, c.w)) ⊎ ((n ≡ face_point level.point_count f) ⊎ (n ≡ edge_point level.point_count level.polygons (c.u, v)))) → Come f v n
      go (inl e) =
          let below = ltb-true v level.point_count (corner-point level.point_count level.polygons f v over at) in
          subst (Come f v) (sym e) (subst (λ ns. (is_among ns v ≡ true) × (list_all (λ w. has_corner w (polygon_at level.polygons f)) ns ≡ true)) (sym (vertices-old v below)) (rw self refl, rw at refl))
      go (inr (inl e)) = subst (Come f v) (sym e) (come-edge f v (v, c.w) c.after (rw self refl))
      go (inr (inr (inl e))) =
          subst (Come f v) (sym e) (subst (λ ns. (is_among ns v ≡ true) × (list_all (λ w. has_corner w (polygon_at level.polygons f)) ns ≡ true)) (sym (vertices-face f (corner-place level.polygons f v at))) (at, all-among (λ w. has_corner w (polygon_at level.polygons f)) (polygon_at level.polygons f) (λ w k. k)))
      go (inr (inr (inr e))) = subst (Come f v) (sym e) (come-edge f v (c.u, v) c.before (rw self (or_right (nat_eq v c.u) true refl)))

  -- the child face at a place is a child at the vertex there
  pub child-at-place : (f c : ℕ) → f < length level.polygons → c < length (polygon_at level.polygons f) → IsChildOf level.point_count level.polygons f (vertex_at level.polygons (f, c)) (child f c)
  child-at-place f c h k =
      let found = child-of-face level.point_count level.polygons f c h k in
      let stands = child-stands level.point_count level.polygons f c h k in
      let e : found.0 ≡ vertex_at level.polygons (f, c) = sym (ap (λ q. get_or q 0 0) found.1.is) ∙ ap (λ q. get_or q 0 0) stands ∙ side-starts (polygon_at level.polygons f) c k in
      subst (λ v. IsChildOf level.point_count level.polygons f v (child f c)) e found.1

  pub own-vertex : (f c n : ℕ) → f < length level.polygons → c < length (polygon_at level.polygons f) → has_corner n (child f c) ≡ true → is_among (vertices_of level n) (vertex_at level.polygons (f, c)) ≡ true
  own-vertex f c n h k there = (come f (vertex_at level.polygons (f, c)) n (child f c) (child-at-place f c h k) there).0

  pub all-own : (f c n : ℕ) → f < length level.polygons → c < length (polygon_at level.polygons f) → has_corner n (child f c) ≡ true → list_all (λ w. has_corner w (polygon_at level.polygons f)) (vertices_of level n) ≡ true
  all-own f c n h k there = (come f (vertex_at level.polygons (f, c)) n (child f c) (child-at-place f c h k) there).1

  -- a corner with this vertex whose child face has the point
  pub record HasChild (w n : ℕ) : Type 0 where
    pub face : ℕ
    pub place : ℕ
    pub is_face : face < length level.polygons
    pub is_corner : place < length (polygon_at level.polygons face)
    pub vertex : vertex_at level.polygons (face, place) ≡ w
    pub there : has_corner n (child face place) ≡ true

  at-edge : (f c w : ℕ) (s : ℕ × ℕ) → f < length level.polygons → c < length (polygon_at level.polygons f) → IsAt (polygon_at level.polygons f) s w c → HasChild w (edge_point level.point_count level.polygons s)
  at-edge f c w s h k at = record {
    face = f;
    place = c;
    is_face = h;
    is_corner = k;
    vertex = at.0;
    there = ap (has_corner (edge_point level.point_count level.polygons s)) (child-stands level.point_count level.polygons f c h k) ∙ go at.1;
  }
    where
      go : (get_or (last_of (0, 0) (sides_of (polygon_at level.polygons f)) ∷ sides_of (polygon_at level.polygons f)) c (0, 0) ≡ s) ⊎ (get_or (sides_of (polygon_at level.polygons f)) c (0, 0) ≡ s) → has_corner (edge_point level.point_count level.polygons s) (child_face level.point_count level.polygons f (get_or (last_of (0, 0) (sides_of (polygon_at level.polygons f)) ∷ sides_of (polygon_at level.polygons f)) c (0, 0)) (get_or (sides_of (polygon_at level.polygons f)) c (0, 0))) ≡ true
      go (inl e) = quad-fourth _ _ _ _ _ (ap (edge_point level.point_count level.polygons) (sym e))
      go (inr e) = quad-second _ _ _ _ _ (ap (edge_point level.point_count level.polygons) (sym e))

  -- each vertex of a point has a corner whose child face has the point
  pub each-vertex : (w n : ℕ) → IsNew level.point_count level.polygons n → is_among (vertices_of level n) w ≡ true → HasChild w n
  each-vertex w n (inl a) h =
      let found = corner-of level.polygons n a.1 in
      let place = among-at (polygon_at level.polygons found.0) n found.2 in
      let one : is_among (n ∷ []) w ≡ true = ap (λ ns. is_among ns w) (sym (vertices-old n a.0)) ∙ h in
      record {
        face = found.0;
        place = place.0;
        is_face = found.1;
        is_corner = place.1;
        vertex = sym place.2 ∙ sym (one-among w n one);
        there = subst (λ v. has_corner v (child found.0 place.0) ≡ true) (sym place.2)
            (corner-self level.point_count level.polygons found.0 (vertex_at level.polygons (found.0, place.0)) (child found.0 place.0) (child-at-place found.0 place.0 found.1 place.1));
      }
  each-vertex w n (inr (inl b)) h =
      let k = b.0 in
      let among : is_among (polygon_at level.polygons k) w ≡ true = ap (λ ns. is_among ns w) (sym (vertices-face k b.1)) ∙ ap (λ m. is_among (vertices_of level m) w) (sym b.2) ∙ h in
      let place = among-at (polygon_at level.polygons k) w among in
      record {
        face = k;
        place = place.0;
        is_face = b.1;
        is_corner = place.1;
        vertex = sym place.2;
        there = subst (λ m. has_corner m (child k place.0) ≡ true) (sym b.2)
            (corner-center level.point_count level.polygons k (vertex_at level.polygons (k, place.0)) (child k place.0) (child-at-place k place.0 b.1 place.1));
      }
  each-vertex w n (inr (inr e)) h =
      let edge = edge_at level.polygons (edge_number level.polygons e.0) in
      let among : is_among (edge.0 ∷ edge.1 ∷ []) w ≡ true = ap (λ ns. is_among ns w) (sym (vertices-edge e.0)) ∙ ap (λ m. is_among (vertices_of level m) w) (sym e.2) ∙ h in
      let found = any-side (same_edge e.0) (all_sides level.polygons) (sym (any-first_named e.0 (all_sides level.polygons)) ∙ e.1) in
      let place = any-place (same_side found.0) level.polygons found.2 in
      let end : has_end w found.0 ≡ true = sym (end-alike w e.0 found.0 found.1) ∙ end-alike w e.0 edge (edge-there level.polygons e.0 e.1) ∙ two-among w edge among in
      let corner = end-place (polygon_at level.polygons place.0) found.0 w place.2 end in
      let same : edge_point level.point_count level.polygons found.0 ≡ n = ap (λ m. level.point_count + length level.polygons + m) (sym (position-alike e.0 found.0 (edges_of level.polygons) found.1)) ∙ sym e.2 in
      subst (HasChild w) same (at-edge place.0 corner.0 w found.0 place.1 corner.1 corner.2)
