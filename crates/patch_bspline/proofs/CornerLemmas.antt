-- The points around a corner of a regular face, from the order of its quads around it.
use Rattle.std.proofs.Common.{subst, map, ◌≡◌, ◌≢◌, ℕ, zero, suc, ◌+◌, ◌-◌, ◌%◌, ◌<◌, ◌⊎◌, inl, inr, Bool, true, false, not, ◌&&◌, nat_eq, List, [], ◌∷◌, length, get_or, replicate, arith, refl, ap, sym, ◌∙◌}
use Rattle.std.specs.List.{list_all, list_any, position_or_len}
use Rattle.std.proofs.lemmas.Bool.Decides.{nat_tests}
use Rattle.std.proofs.lemmas.Bool.{and_parts, eqb-true, eq-eqb, not-true, false_from_ne_true, false≢true}
use Rattle.std.specs.List.{All}
use Rattle.std.proofs.lemmas.List.{get_or-map, get_or-replicate}
use Rattle.std.proofs.lemmas.List.Sums.{passes_at_first}
use Rattle.std.proofs.lemmas.List.Sorted.{All-permutation}
use Rattle.subdiv_model.specs.Polygons.{Polygon, polygon_at, same_edge, has_side, has_corner, is_distinct, has_distinct_sides}
use Rattle.subdiv_model.specs.Edges.{all_sides, edges_of, has_end, is_boundary}
use Rattle.subdiv_model.specs.Base as base
use Rattle.subdiv_model.specs.Level.{faces_at}
use Rattle.subdiv_model.specs.Feature.{is_at_boundary, is_smooth_at}
use Rattle.subdiv_model.specs.Manifold.{IsSuccessor, is_simple}
use Rattle.subdiv_model.specs.Patch.{corner_from, beside_start, beside_end, across_start, is_quad, is_regular_in_quads}
use Rattle.number_laws.proofs.CountLemmas.{any-weaker}
use Rattle.number_laws.proofs.ListLemmas.{any-both}
use Rattle.mesh_laws.proofs.SideLemmas.{side-place, next-corner, distinct-places, distinct-count, among-place}
use Rattle.mesh_laws.proofs.EdgeLemmas.{same-number}
use Rattle.mesh_laws.proofs.ClosedLemmas.{all-at}
use Rattle.mesh_laws.proofs.ChildCornerLemmas.{side-named}
use Rattle.mesh_laws.proofs.PointLemmas.{interior-faces}
use Rattle.mesh_laws.proofs.FanLemmas.{owner-unique, distinct-at, side-start, side-end}
use Rattle.mesh_laws.proofs.ChildPlaceLemmas.{first-within}
use Rattle.level_topology.specs.Topology.{Topology, IsTopology, IsFan, corner_of, edge_after, edge_before}
use Rattle.level_topology.proofs.FactLemmas.{corners-exist, faces-listed}
use Rattle.level_topology.proofs.FanOrderLemmas.{path-at}
use Rattle.level_topology.proofs.FanWalkLemmas.{after-side, before-side}
use Rattle.level_topology.proofs.LawLemmas.{faces-all, faces-each}
use Rattle.level_topology.proofs.ValenceLemmas.{edges-counted}
use Rattle.mask_rules.specs.Around.{faces_in}
use Rattle.patch_bspline.specs.declared.points.CornerPoints.{CornerPoints}
use Rattle.patch_bspline.specs.Around.{AreAround, corner_after, turned_corner}
use Rattle.patch_bspline.specs.Patches.{HasPatch}

-- a side of a quad goes from a place to the next one
quad-side : (quad : Polygon) (s : ℕ × ℕ) → length quad ≡ 4 → has_side s quad ≡ true
    → (i : ℕ) × (i < 4) × (get_or quad i 0 ≡ s.0) × (get_or quad ((i + 1) % 4) 0 ≡ s.1)
quad-side [] s four h = absurd (omega (arith, four))
quad-side (first ∷ rest) s four h =
    let at = side-place first (first ∷ rest) s h in
    (at.0, omega (arith, at.1, four), at.2, end at.0 at.3 (next-corner first rest at.0 at.1))
  where
    end : (i : ℕ) → get_or (first ∷ rest) (suc i) first ≡ s.1
        → ((suc i < length (first ∷ rest)) × (get_or (first ∷ rest) (suc i) first ≡ get_or (first ∷ rest) (suc i) 0))
        ⊎ ((suc i ≡ length (first ∷ rest)) × (get_or (first ∷ rest) (suc i) first ≡ first))
        → get_or (first ∷ rest) ((i + 1) % 4) 0 ≡ s.1
    end i e (inl more) =
        let place : (i + 1) % 4 ≡ suc i = omega (arith, more.0, four) in
        ap (λ k. get_or (first ∷ rest) k 0) place ∙ sym more.1 ∙ e
    end i e (inr last) =
        let place : (i + 1) % 4 ≡ 0 = omega (arith, last.0, four) in
        ap (λ k. get_or (first ∷ rest) k 0) place ∙ sym last.1 ∙ e

-- the place of a corner among distinct ones
place-is : (quad : Polygon) (v i : ℕ) → is_distinct quad ≡ true → has_corner v quad ≡ true → i < length quad → get_or quad i 0 ≡ v
    → position_or_len (nat_eq v) quad ≡ i
place-is quad v i distinct has inside there =
    let within = first-within (nat_eq v) quad has in
    let first : v ≡ get_or quad (position_or_len (nat_eq v) quad) 0 = eqb-true _ _ (passes_at_first (nat_eq v) quad 0 within) in
    distinct-places quad (position_or_len (nat_eq v) quad) i distinct within inside (sym first ∙ sym there)

module _ (polygons : List Polygon) (simple : list_all is_simple polygons ≡ true) (distinct : has_distinct_sides (all_sides polygons) ≡ true) where
  -- a face of four corners
  abbrev IsFour : ℕ → Type 0
  IsFour f = length (polygon_at polygons f) ≡ 4

  -- the first polygon with a side is the one that has it
  from-side : (s : ℕ × ℕ) (f places : ℕ) → has_side s (polygon_at polygons f) ≡ true → f < length polygons
      → corner_from polygons s places ≡ corner_after polygons s.0 places f
  from-side s f places has inside =
      let named : list_any (has_side s) polygons ≡ true = any-here-too (has_side s) polygons f inside has in
      let within = first-within (has_side s) polygons named in
      let also = passes_at_first (has_side s) polygons [] within in
      let same = owner-unique polygons s (position_or_len (has_side s) polygons) f (distinct-count s (all_sides polygons) distinct) also has in
      ap (corner_after polygons s.0 places) same
    where
      any-here-too : (test : Polygon → Bool) (ps : List Polygon) (k : ℕ) → k < length ps → test (polygon_at ps k) ≡ true → list_any test ps ≡ true
      any-here-too test [] k h e = absurd (omega arith)
      any-here-too test (p ∷ ps) zero h e = grind (arith, nat_tests)
      any-here-too test (p ∷ ps) (suc k) h e = let behind = any-here-too test ps k (omega arith) e in grind (arith, nat_tests)

  -- the corner that follows v in a quad, and the one that v follows
  leaves : (v w f : ℕ) → IsFour f → has_side (v, w) (polygon_at polygons f) ≡ true → corner_after polygons v 1 f ≡ w
  leaves v w f four has =
      let quad = polygon_at polygons f in
      let at = quad-side quad (v, w) four has in
      let place = place-is quad v at.0 (distinct-at polygons f simple) (side-start quad (v, w) has) (omega (arith, at.1, four)) at.2 in
      ap (λ k. get_or quad ((k + 1) % 4) 0) place ∙ at.3

  enters : (w v f : ℕ) → IsFour f → has_side (w, v) (polygon_at polygons f) ≡ true
      → (corner_of polygons v f ≡ (corner_of polygons w f + 1) % 4) × (corner_of polygons w f < 4) × (corner_after polygons v 3 f ≡ w)
  enters w v f four has =
      let quad = polygon_at polygons f in
      let at = quad-side quad (w, v) four has in
      let start = place-is quad w at.0 (distinct-at polygons f simple) (side-start quad (w, v) has) (omega (arith, at.1, four)) at.2 in
      let end = place-is quad v ((at.0 + 1) % 4) (distinct-at polygons f simple) (side-end quad (w, v) has) (omega (arith, at.1, four)) at.3 in
      let back : (corner_of polygons v f + 3) % 4 ≡ at.0 = omega (arith, at.1, end) in
      (omega (arith, start, end), omega (arith, start, at.1), ap (λ k. get_or quad k 0) back ∙ at.2)

  -- a corner named from a side that enters v, as one named from v
  from-entering : (w v f turns : ℕ) → IsFour f → f < length polygons → has_side (w, v) (polygon_at polygons f) ≡ true
      → corner_from polygons (w, v) (turns + 1) ≡ corner_after polygons v turns f
  from-entering w v f turns four inside has =
      let at = enters w v f four has in
      let place : (corner_of polygons w f + (turns + 1)) % 4 ≡ (corner_of polygons v f + turns) % 4 = omega (arith, at.0, at.1) in
      from-side (w, v) f (turns + 1) has inside ∙ ap (λ k. get_or (polygon_at polygons f) k 0) place

  -- Four quads about v, each the successor of the one before it and the first of the last.
  pub record AreRound (v f g h k : ℕ) : Type 0 where
    pub first : IsSuccessor polygons v f g
    pub second : IsSuccessor polygons v g h
    pub third : IsSuccessor polygons v h k
    pub fourth : IsSuccessor polygons v k f
    pub fours : (IsFour f) × (IsFour g) × (IsFour h) × (IsFour k)
    pub inside : (g < length polygons) × (h < length polygons) × (k < length polygons)

  module _ (v f g h k : ℕ) (round : AreRound v f g h k) where
    abbrev after : ℕ
    after = corner_after polygons v 1 f

    abbrev before : ℕ
    before = corner_after polygons v 3 f

    after-is : after ≡ round.first.corner
    after-is = leaves v round.first.corner f round.fours.0 round.first.follows

    before-is : before ≡ round.fourth.corner
    before-is = (enters round.fourth.corner v f round.fours.0 round.fourth.leads_back).2

    pub ahead-there : corner_after polygons v 1 g ≡ beside_start polygons (v, after)
    ahead-there =
        sym (ap (λ w. corner_from polygons (w, v) 2) after-is ∙ from-entering round.first.corner v g 1 round.fours.1 round.inside.0 round.first.leads_back)

    pub across-there : corner_after polygons v 2 h ≡ across_start polygons (v, after)
    across-there =
        let beside : beside_start polygons (v, after) ≡ round.second.corner =
        sym ahead-there ∙ leaves v round.second.corner g round.fours.1 round.second.follows in
        sym (ap (λ w. corner_from polygons (w, v) 3) beside ∙ from-entering round.second.corner v h 2 round.fours.2 round.inside.1 round.second.leads_back)

    pub behind-there : corner_after polygons v 3 k ≡ beside_end polygons (before, v)
    behind-there =
        let side : has_side (v, before) (polygon_at polygons k) ≡ true =
        ap (λ w. has_side (v, w) (polygon_at polygons k)) before-is ∙ round.fourth.follows in
        sym (from-side (v, before) k 3 side round.inside.2)

-- the edge after a face is the edge before another only if the first leads to the second
turned-ends : (w u v : ℕ) → same_edge (v, w) (u, v) ≡ true → w ≡ u
turned-ends w u v h = grind (arith, nat_tests)

-- A point that is regular among quads. Each quad in its fan leads to the next one, and the last to the first.
module _ (t : Topology) (is : IsTopology t) (v : ℕ) (inside : v < t.level.point_count) (complete : get_or t.complete v false ≡ true)
    (regular : is_regular_in_quads t.level v ≡ true) where
  abbrev faces-of : List Polygon
  faces-of = t.level.polygons

  abbrev fan : List ℕ
  fan = get_or t.faces_at v []

  abbrev edges : List ℕ
  edges = get_or t.edges_at v []

  regular-parts : (is_at_boundary t.level v ≡ false) × (length (faces_at t.level v) ≡ 4) × (list_all (is_quad t.level) (faces_at t.level v) ≡ true)
  regular-parts =
      parts (is_at_boundary t.level v) (length (faces_at t.level v)) (list_all (is_quad t.level) (faces_at t.level v)) (is_smooth_at t.level v) regular
    where
      parts : (b : Bool) (n : ℕ) (all smooth : Bool) → (not b && nat_eq n 4 && all && smooth) ≡ true → (b ≡ false) × (n ≡ 4) × (all ≡ true)
      parts b n all smooth h =
          let first = and_parts (not b && nat_eq n 4 && all) smooth h in
          let second = and_parts (not b && nat_eq n 4) all first.0 in
          let third = and_parts (not b) (nat_eq n 4) second.0 in (not-true b third.0, eqb-true n 4 third.1, second.1)

  pub fan-four : length fan ≡ 4
  fan-four = faces-listed t is v inside ∙ regular-parts.1

  away : base.is_at_boundary faces-of v ≡ false
  away =
      false_from_ne_true _ (λ at. false≢true (sym regular-parts.0
      ∙ any-both (has_end v) (is_boundary faces-of) (edges_of faces-of)
      ∙ any-weaker (λ e. is_boundary faces-of e && has_end v e) (λ e. has_end v e && is_boundary faces-of e)
      (λ e h. turn (is_boundary faces-of e) (has_end v e) h) (edges_of faces-of) at))
    where
      turn : (a b : Bool) → (a && b) ≡ true → (b && a) ≡ true
      turn a b h = grind (arith, nat_tests)

  edges-four : length edges ≡ length fan
  edges-four =
      edges-counted t v is inside ∙ sym (interior-faces faces-of is.simple is.sides_once v away) ∙ sym (faces-listed t is v inside)

  quads : All (λ f. length (polygon_at faces-of f) ≡ 4) fan
  quads =
      All-permutation (λ f. length (polygon_at faces-of f) ≡ 4) (faces_at t.level v) fan (is.listed v inside).faces
      (λ k d h. eqb-true _ 4 (all-at (is_quad t.level) (faces_at t.level v) k d h regular-parts.2))

  ring : IsFan faces-of v fan edges
  ring = (is.listed v inside).fan complete

  has-v : (i : ℕ) → i < 4 → has_corner v (polygon_at faces-of (get_or fan i 0)) ≡ true
  has-v i h = sym (faces-all t v (get_or fan i 0) is inside) ∙ among-place (get_or fan i 0) fan i (omega (arith, fan-four)) refl

  after-before : (f g : ℕ) → has_corner v (polygon_at faces-of f) ≡ true → has_corner v (polygon_at faces-of g) ≡ true
      → edge_after faces-of v f ≡ edge_before faces-of v g → IsSuccessor faces-of v f g
  after-before f g at_f at_g h =
      let out = after-side faces-of is.simple is.sides_once v f at_f in
      let into = before-side faces-of is.simple is.sides_once v g at_g in
      let same : same_edge (v, out.0) (into.0, v) ≡ true =
      sym (same-number (v, out.0) (into.0, v) (edges_of faces-of) (side-named faces-of f (v, out.0) out.1)) ∙ eq-eqb _ _ (sym out.2 ∙ h ∙ into.2) in
      let corner = turned-ends out.0 into.0 v same in
      record { corner = out.0; follows = out.1; leads_back = subst (λ n. has_side (n, v) (polygon_at faces-of g) ≡ true) (sym corner) into.1 }

  leads : (i : ℕ) → i < 4 → IsSuccessor faces-of v (get_or fan i 0) (get_or fan ((i + 1) % 4) 0)
  leads i h = which (nat_eq i 3) refl
    where
      which : (b : Bool) → nat_eq i 3 ≡ b → IsSuccessor faces-of v (get_or fan i 0) (get_or fan ((i + 1) % 4) 0)
      which true e =
          let last : i ≡ length fan - 1 = omega (arith, eqb-true i 3 e, fan-four) in
          let first : (i + 1) % 4 ≡ 0 = omega (arith, eqb-true i 3 e) in
          let closes = ring.closes edges-four (omega (arith, fan-four)) ∙ ring.before 0 (omega (arith, fan-four)) in
          subst (λ k. IsSuccessor faces-of v (get_or fan i 0) (get_or fan k 0)) (sym first)
          (after-before (get_or fan i 0) (get_or fan 0 0) (has-v i h) (has-v 0 (omega arith))
          (ap (λ k. edge_after faces-of v (get_or fan k 0)) last ∙ closes))
      which false e =
          let apart : i ≢ 3 = λ same. false≢true (sym e ∙ eq-eqb i 3 same) in
          let next : i + 1 ≡ (i + 1) % 4 = omega (arith, h, apart) in
          subst (λ k. IsSuccessor faces-of v (get_or fan i 0) (get_or fan k 0)) next
          (path-at faces-of v fan i ring.path (omega (arith, h, apart, fan-four)))

  leads-on : (i turns : ℕ) → IsSuccessor faces-of v (get_or fan ((i + turns) % 4) 0) (get_or fan ((i + (turns + 1)) % 4) 0)
  leads-on i turns =
      let next : ((i + turns) % 4 + 1) % 4 ≡ (i + (turns + 1)) % 4 = omega arith in
      subst (λ k. IsSuccessor faces-of v (get_or fan ((i + turns) % 4) 0) (get_or fan k 0)) next (leads ((i + turns) % 4) (omega arith))

  four-at : (i : ℕ) → i < 4 → length (polygon_at faces-of (get_or fan i 0)) ≡ 4
  four-at i h = quads i 0 (omega (arith, fan-four))

  exists-at : (i : ℕ) → i < 4 → get_or fan i 0 < length faces-of
  exists-at i h = (faces-each t v i is inside (omega (arith, fan-four))).exists

  round : (i : ℕ) → i < 4
      → AreRound faces-of is.simple is.sides_once v (get_or fan i 0) (get_or fan ((i + 1) % 4) 0) (get_or fan ((i + 2) % 4) 0) (get_or fan ((i + 3) % 4) 0)
  round i h = record {
    first = leads i h;
    second = leads-on i 1;
    third = leads-on i 2;
    fourth =
        let back : (i + 4) % 4 ≡ i = omega arith in
        subst (λ k. IsSuccessor faces-of v (get_or fan ((i + 3) % 4) 0) (get_or fan k 0)) back (leads-on i 3);
    fours = (four-at i h, four-at ((i + 1) % 4) (omega arith), four-at ((i + 2) % 4) (omega arith), four-at ((i + 3) % 4) (omega arith));
    inside = (exists-at ((i + 1) % 4) (omega arith), exists-at ((i + 2) % 4) (omega arith), exists-at ((i + 3) % 4) (omega arith));
  }

  module _ (face : ℕ) (here : has_corner v (polygon_at faces-of face) ≡ true) where
    abbrev place : ℕ
    place = position_or_len (nat_eq face) fan

    among : list_any (nat_eq face) fan ≡ true
    among = faces-all t v face is inside ∙ here

    pub place-within : place < 4
    place-within = omega (arith, first-within (nat_eq face) fan among, fan-four)

    place-there : get_or fan place 0 ≡ face
    place-there = sym (eqb-true _ _ (passes_at_first (nat_eq face) fan 0 (first-within (nat_eq face) fan among)))

    -- the three points around the corner
    pub around : (points : CornerPoints) → points.corner ≡ v → points.ahead ≡ turned_corner t v face 1 → points.across ≡ turned_corner t v face 2
        → points.behind ≡ turned_corner t v face 3 → AreAround faces-of (corner_after faces-of v 3 face) v (corner_after faces-of v 1 face) points
    around points corner ahead across behind =
        let all = round place place-within in
        let f = get_or fan place 0 in
        let g = get_or fan ((place + 1) % 4) 0 in
        let h = get_or fan ((place + 2) % 4) 0 in
        let k = get_or fan ((place + 3) % 4) 0 in
        record {
          corner = corner;
          ahead = ahead ∙ ahead-there faces-of is.simple is.sides_once v f g h k all
              ∙ ap (λ n. beside_start faces-of (v, corner_after faces-of v 1 n)) place-there;
          across = across ∙ across-there faces-of is.simple is.sides_once v f g h k all
              ∙ ap (λ n. across_start faces-of (v, corner_after faces-of v 1 n)) place-there;
          behind = behind ∙ behind-there faces-of is.simple is.sides_once v f g h k all
              ∙ ap (λ n. beside_end faces-of (corner_after faces-of v 3 n, v)) place-there;
        }

    -- a quad at the point, by its place among the faces there, and the place of the point in it
    pub record IsTurned (turns i face-there corner : ℕ) : Type 0 where
      pub within : i < 4
      pub exists : face-there < length faces-of
      pub corner-within : corner < 4
      pub four : length (polygon_at faces-of face-there) ≡ 4
      pub same : get_or (polygon_at faces-of face-there) ((corner + turns) % 4) 0 ≡ turned_corner t v face turns

    pub turned : (turns i : ℕ) (faces places : List ℕ) → i ≡ (place + turns) % 4 → faces ≡ faces_in t v → places ≡ map (corner_of faces-of v) (faces_in t v)
        → IsTurned turns i (get_or faces i 0) (get_or places i 0)
    turned turns i faces places e f p =
        let short : i < 4 = omega (arith, e) in
        let listed : get_or faces i 0 ≡ get_or fan i 0 = ap (λ l. get_or l i 0) f in
        let corner : get_or places i 0 ≡ corner_of faces-of v (get_or fan i 0) =
        ap (λ l. get_or l i 0) p ∙ get_or-map (corner_of faces-of v) fan i 0 0 (omega (arith, short, fan-four)) in
        let found = faces-each t v i is inside (omega (arith, short, fan-four)) in
        record {
          within = short;
          exists = subst (λ n. n < length faces-of) (sym listed) found.exists;
          corner-within = omega (arith, corner, found.within, four-at i short);
          four = ap (λ n. length (polygon_at faces-of n)) listed ∙ four-at i short;
          same = ap (λ n. get_or (polygon_at faces-of n) ((get_or places i 0 + turns) % 4) 0) listed
              ∙ ap (λ n. get_or (polygon_at faces-of (get_or fan i 0)) ((n + turns) % 4) 0) corner
              ∙ ap (λ n. corner_after faces-of v turns (get_or fan n 0)) e;
        }

-- A corner of a face that has a patch.
pub record IsCorner (t : Topology) (face c v : ℕ) : Type 0 where
  pub four : length (polygon_at t.level.polygons face) ≡ 4
  pub inside : v < t.level.point_count
  pub complete : get_or t.complete v false ≡ true
  pub regular : is_regular_in_quads t.level v ≡ true
  pub here : has_corner v (polygon_at t.level.polygons face) ≡ true
  pub place : corner_of t.level.polygons v face ≡ c

pub corner-there : (t : Topology) (face c v : ℕ) → IsTopology t → HasPatch t.level face → t.complete ≡ replicate t.level.point_count true → c < 4
    → v ≡ get_or (polygon_at t.level.polygons face) c 0 → IsCorner t face c v
corner-there t face c v is has complete few e =
    let quad = polygon_at t.level.polygons face in
    let parts = and_parts (is_quad t.level face) (list_all (is_regular_in_quads t.level) quad) has.regular in
    let four : length quad ≡ 4 = eqb-true _ 4 parts.0 in
    let within : c < length quad = omega (arith, four, few) in
    let inside : v < t.level.point_count = subst (λ n. n < t.level.point_count) (sym e) (corners-exist t is face has.inside c 0 within) in
    let here : has_corner v quad ≡ true = among-place v quad c within (sym e) in
    record {
      four = four;
      inside = inside;
      complete = ap (λ marks. get_or marks v false) complete ∙ get_or-replicate t.level.point_count v true false inside;
      regular = subst (λ n. is_regular_in_quads t.level n ≡ true) (sym e) (all-at (is_regular_in_quads t.level) quad c 0 within parts.1);
      here = here;
      place = place-is quad v c (distinct-at t.level.polygons face is.simple) here within (sym e);
    }

-- the points around the corner of a face that has a patch
pub around-there : (t : Topology) (face c v : ℕ) (points : CornerPoints) → IsTopology t → IsCorner t face c v
    → points.corner ≡ v → points.ahead ≡ turned_corner t v face 1 → points.across ≡ turned_corner t v face 2 → points.behind ≡ turned_corner t v face 3
    → AreAround t.level.polygons (get_or (polygon_at t.level.polygons face) ((c + 3) % 4) 0) v (get_or (polygon_at t.level.polygons face) ((c + 1) % 4) 0) points
around-there t face c v points is at corner ahead across behind =
    let quad = polygon_at t.level.polygons face in
    subst (λ n. AreAround t.level.polygons (get_or quad ((n + 3) % 4) 0) v (get_or quad ((n + 1) % 4) 0) points) at.place
    (around t is v at.inside at.complete at.regular face at.here points corner ahead across behind)

-- the quad at this place after the face around the corner
pub turned-there : (t : Topology) (face c v turns k i : ℕ) (faces places : List ℕ) (is : IsTopology t) (at : IsCorner t face c v)
    → faces ≡ faces_in t v → places ≡ map (corner_of t.level.polygons v) (faces_in t v) → k ≡ position_or_len (nat_eq face) faces → i ≡ (k + turns) % 4
    → IsTurned t is v at.inside at.complete at.regular face at.here turns i (get_or faces i 0) (get_or places i 0)
turned-there t face c v turns k i faces places is at f p first e =
    turned t is v at.inside at.complete at.regular face at.here turns i faces places
    (e ∙ ap (λ n. (n + turns) % 4) (first ∙ ap (λ l. position_or_len (nat_eq face) l) f)) f p
