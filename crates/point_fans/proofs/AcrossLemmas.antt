-- The face across an edge.
use Rattle.std.proofs.Common.{subst, ◌≡◌, ◌≢◌, ℕ, ◌<◌, Bool, true, false, ◌||◌, nat_eq, ◌+◌, List, [], ◌∷◌, ◌++◌, Option, None, Some, MatchOption, is_some, length, map, take, get_or, slice_set, arith, refl, ap, sym, ◌∙◌, ◌⊎◌, inl, inr}
use Rattle.std.specs.List.{list_any, list_all}
use Rattle.std.proofs.lemmas.Bool.Decides.{nat_tests}
use Rattle.std.proofs.lemmas.Bool.{or_cases, eqb-true, eq-eqb}
use Rattle.std.proofs.lemmas.List.{get_or-map, get_or_default, length-map, get_or-set_same, get_or-set_other, take_more}
use Rattle.std.proofs.lemmas.List.Sums.{passes_at_first}
use Rattle.std.specs.Option.{unwrap_or}
use Rattle.std.proofs.lemmas.List.Folds.{list_any-append}
use Rattle.subdiv_model.specs.Polygons.{Polygon, sides_of, same_side, same_edge, has_side, has_edge, has_corner, is_among, has_distinct_sides, polygon_at}
use Rattle.subdiv_model.specs.Edges.{all_sides, edges_of, edge_number, faces_of_edge}
use Rattle.subdiv_model.specs.Manifold.{IsSuccessor, is_simple}
use Rattle.mesh_laws.proofs.SideLemmas.{no-side-back, distinct-count}
use Rattle.mesh_laws.proofs.EdgeLemmas.{position-within}
use Rattle.mesh_laws.proofs.ClosedLemmas.{any-side-edge, all-at}
use Rattle.mesh_laws.proofs.FanLemmas.{owner-unique, side-start}
use Rattle.mesh_laws.proofs.ChildCornerLemmas.{side-named, corner-place}
use Rattle.mesh_laws.proofs.ChildPlaceLemmas.{first-within}
use Rattle.level_topology.specs.View.{faces_of_pair}
use Rattle.level_topology.specs.Topology.{edge_at, face_edges_of, edge_after, edge_before, corner_of, corner_before}
use Rattle.level_topology.specs.Numbering.{Numbered, IsNumbering}
use Rattle.level_topology.specs.PointRows.{IsFanFrom}
use Rattle.point_fans.specs.Across.{other_of}
use Rattle.level_topology.proofs.FanOrderLemmas.{path-at}
use Rattle.level_topology.proofs.LawLemmas.{edge-all, edges-as-many}
use Rattle.level_topology.proofs.NumberingLemmas.{any-same, numbered-ends, edge-faces-are}
use Rattle.level_topology.proofs.FanWalkLemmas.{from-corner, fan-next, after-side, before-side, after-is, before-is, before-after}

edge-sides : (a b : ℕ) (sides : List (ℕ × ℕ)) → list_any (same_edge (a, b)) sides ≡ (list_any (same_side (a, b)) sides || list_any (same_side (b, a)) sides)
edge-sides a b [] = refl
edge-sides a b (s ∷ sides) = grind (arith, nat_tests, edge-sides a b sides)

turned : (a b : ℕ) → same_edge (b, a) (a, b) ≡ true
turned a b = grind (arith, nat_tests)

module _ (polygons : List Polygon) (simple : list_all is_simple polygons ≡ true) (distinct : has_distinct_sides (all_sides polygons) ≡ true) where
  module _ (a b f : ℕ) (side : has_side (a, b) (polygon_at polygons f) ≡ true) (pair : ℕ × ℕ) (faces : faces_of_pair pair ≡ faces_of_edge polygons (edge_at polygons (edge_number polygons (a, b)))) where
    among : (g : ℕ) → is_among (faces_of_pair pair) g ≡ has_edge (a, b) (polygon_at polygons g)
    among g =
        let within = position-within (a, b) (edges_of polygons) (side-named polygons f (a, b) side) in
        let same = passes_at_first (same_edge (a, b)) (edges_of polygons) (0, 0) within in
        ap (λ fs. is_among fs g) faces ∙ edge-all polygons (edge_number polygons (a, b)) g
        ∙ sym (any-same (a, b) (edge_at polygons (edge_number polygons (a, b))) (sides_of (polygon_at polygons g)) same)

    own : is_among (faces_of_pair pair) f ≡ true
    own = among f ∙ any-side-edge (a, b) (sides_of (polygon_at polygons f)) side

    back-there : (g : ℕ) → has_side (b, a) (polygon_at polygons g) ≡ true → is_among (faces_of_pair pair) g ≡ true
    back-there g back = among g ∙ sym (any-same (b, a) (a, b) (sides_of (polygon_at polygons g)) (turned a b)) ∙ any-side-edge (b, a) (sides_of (polygon_at polygons g)) back

    only : nat_eq pair.0 pair.1 ≡ true → (g : ℕ) → is_among (faces_of_pair pair) g ≡ true → g ≡ pair.0
    only one g there =
        let among_one : is_among (pair.0 ∷ []) g ≡ true = rw one at there in
        eqb-true _ _ (grind (arith, nat_tests))

    -- an edge of one face has no other
    pub none-across : nat_eq pair.0 pair.1 ≡ true → (g : ℕ) → has_side (b, a) (polygon_at polygons g) ≡ true → ⊥
    none-across one g back =
        let same : g ≡ f = only one g (back-there g back) ∙ sym (only one f own) in
        no-side-back (polygon_at polygons f) a b (all-at is_simple polygons f [] (corner-place polygons f a (side-start (polygon_at polygons f) (a, b) side)) simple) side
        (subst (λ k. has_side (b, a) (polygon_at polygons k) ≡ true) same back)

    -- an edge of two faces has the other in the other direction
    pub some-across : nat_eq pair.0 pair.1 ≡ false → has_side (b, a) (polygon_at polygons (other_of pair f)) ≡ true
    some-across two = go (nat_eq pair.0 f) refl
      where
        both : is_among (pair.0 ∷ (pair.1 ∷ [])) pair.0 ≡ true
        both = let self = eq-eqb pair.0 pair.0 refl in grind (arith, nat_tests)

        second : is_among (pair.0 ∷ (pair.1 ∷ [])) pair.1 ≡ true
        second = let self = eq-eqb pair.1 pair.1 refl in grind (arith, nat_tests)

        listed : faces_of_pair pair ≡ pair.0 ∷ (pair.1 ∷ [])
        listed = rw two refl

        at : (g : ℕ) → is_among (pair.0 ∷ (pair.1 ∷ [])) g ≡ true → g ≢ f → has_side (b, a) (polygon_at polygons g) ≡ true
        at g there apart =
            let edge : has_edge (a, b) (polygon_at polygons g) ≡ true = sym (among g) ∙ ap (λ fs. is_among fs g) listed ∙ there in
            which (or_cases _ _ (sym (edge-sides a b (sides_of (polygon_at polygons g))) ∙ edge))
          where
            which : (has_side (a, b) (polygon_at polygons g) ≡ true) ⊎ (has_side (b, a) (polygon_at polygons g) ≡ true) → has_side (b, a) (polygon_at polygons g) ≡ true
            which (inl h) = absurd (apart (owner-unique polygons (a, b) g f (distinct-count (a, b) (all_sides polygons) distinct) h side))
            which (inr h) = h

        go : (c : Bool) → nat_eq pair.0 f ≡ c → has_side (b, a) (polygon_at polygons (other_of pair f)) ≡ true
        go true e =
            let apart : pair.1 ≢ f = λ same. absurd (let clash = eq-eqb pair.0 pair.1 (eqb-true _ _ e ∙ sym same) in cc) in
            rw e (at pair.1 second apart)
        go false e =
            let apart : pair.0 ≢ f = λ same. absurd (let clash = eq-eqb pair.0 f same in cc) in
            rw e (at pair.0 both apart)

  module _ (v f : ℕ) (has : has_corner v (polygon_at polygons f) ≡ true) (pair : ℕ × ℕ) where
    pub none-after : faces_of_pair pair ≡ faces_of_edge polygons (edge_at polygons (edge_after polygons v f)) → nat_eq pair.0 pair.1 ≡ true → (g : ℕ) → IsSuccessor polygons v f g → ⊥
    none-after faces one g leads =
        none-across v leads.corner f leads.follows pair (faces ∙ ap (λ e. faces_of_edge polygons (edge_at polygons e)) (after-is polygons simple distinct v f leads.corner leads.follows)) one g leads.leads_back

    pub some-after : faces_of_pair pair ≡ faces_of_edge polygons (edge_at polygons (edge_after polygons v f)) → nat_eq pair.0 pair.1 ≡ false → IsSuccessor polygons v f (other_of pair f)
    some-after faces two =
        let out = after-side polygons simple distinct v f has in
        record { corner = out.0; follows = out.1; leads_back = some-across v out.0 f out.1 pair (faces ∙ ap (λ e. faces_of_edge polygons (edge_at polygons e)) out.2) two }

    pub none-before : faces_of_pair pair ≡ faces_of_edge polygons (edge_at polygons (edge_before polygons v f)) → nat_eq pair.0 pair.1 ≡ true → (g : ℕ) → IsSuccessor polygons v g f → ⊥
    none-before faces one g leads =
        none-across leads.corner v f leads.leads_back pair (faces ∙ ap (λ e. faces_of_edge polygons (edge_at polygons e)) (before-is polygons simple distinct v f leads.corner leads.leads_back)) one g leads.follows

    pub some-before : faces_of_pair pair ≡ faces_of_edge polygons (edge_at polygons (edge_before polygons v f)) → nat_eq pair.0 pair.1 ≡ false → IsSuccessor polygons v (other_of pair f) f
    some-before faces two =
        let into = before-side polygons simple distinct v f has in
        record { corner = into.0; follows = some-across into.0 v f into.1 pair (faces ∙ ap (λ e. faces_of_edge polygons (edge_at polygons e)) into.2) two; leads_back = into.1 }

    -- both edges are edges
    pub after-exists : edge_after polygons v f < length (edges_of polygons)
    after-exists =
        let out = after-side polygons simple distinct v f has in
        subst (λ e. e < length (edges_of polygons)) (sym out.2) (position-within (v, out.0) (edges_of polygons) (side-named polygons f (v, out.0) out.1))

    pub before-exists : edge_before polygons v f < length (edges_of polygons)
    before-exists =
        let into = before-side polygons simple distinct v f has in
        subst (λ e. e < length (edges_of polygons)) (sym into.2) (position-within (into.0, v) (edges_of polygons) (side-named polygons f (into.0, v) into.1))

-- a face at a point, and the place of the point there
pub face-there : (polygons : List Polygon) (v f : ℕ) → has_corner v (polygon_at polygons f) ≡ true → (f < length polygons) × (corner_of polygons v f < length (face_edges_of polygons (polygon_at polygons f)))
face-there polygons v f has = (corner-place polygons f v has, subst (λ n. corner_of polygons v f < n) (sym (edges-as-many polygons f)) (first-within (nat_eq v) (polygon_at polygons f) has))

pub row-there : (polygons : List Polygon) (numbers : List (List ℕ)) (f : ℕ) → numbers ≡ map (face_edges_of polygons) polygons → f < length polygons → (f < length numbers) × (get_or numbers f [] ≡ face_edges_of polygons (polygon_at polygons f))
row-there polygons numbers f is inside = (
  subst (λ n. f < n) (sym (ap length is ∙ length-map polygons (face_edges_of polygons))) inside,
  ap (λ ns. get_or ns f []) is ∙ get_or-map (face_edges_of polygons) polygons f [] [] inside,
)

-- The entries of the tables for the edge after a face, and for the edge before it.
pub after-code : (polygons : List Polygon) (numbers : List (List ℕ)) (v f c : ℕ) (row : List ℕ) → numbers ≡ map (face_edges_of polygons) polygons → has_corner v (polygon_at polygons f) ≡ true → c ≡ corner_of polygons v f → row ≡ get_or numbers f [] → c < length row
after-code polygons numbers v f c row is has at e =
    let there = face-there polygons v f has in
    let same = e ∙ (row-there polygons numbers f is there.0).1 in
    subst (λ r. c < length r) (sym same) (subst (λ k. k < length (face_edges_of polygons (polygon_at polygons f))) (sym at) there.1)

pub before-code : (polygons : List Polygon) (numbers : List (List ℕ)) (v f c b size : ℕ) (row : List ℕ) → numbers ≡ map (face_edges_of polygons) polygons → has_corner v (polygon_at polygons f) ≡ true → c ≡ corner_of polygons v f → row ≡ get_or numbers f [] → size ≡ length row → b ≡ corner_before size c → (c < size) × (b < length row) × (get_or row b 0 ≡ edge_before polygons v f)
before-code polygons numbers v f c b size row is has at e count place =
    let there = face-there polygons v f has in
    let same = e ∙ (row-there polygons numbers f is there.0).1 in
    let long : size ≡ length (polygon_at polygons f) = count ∙ ap length same ∙ edges-as-many polygons f in
    let first = first-within (nat_eq v) (polygon_at polygons f) has in
    let b-is : b ≡ corner_before (length (polygon_at polygons f)) (corner_of polygons v f) = place ∙ ap (λ n. corner_before n c) long ∙ ap (corner_before (length (polygon_at polygons f))) at in
    let inside = (before-after (length (polygon_at polygons f)) (corner_of polygons v f) first).0 in
    (omega (arith, at, long, first), omega (arith, b-is, inside, count, long), ap (λ r. get_or r b 0) same ∙ ap (λ k. get_or (face_edges_of polygons (polygon_at polygons f)) k 0) b-is)

module _ (polygons : List Polygon) (simple : list_all is_simple polygons ≡ true) (distinct : has_distinct_sides (all_sides polygons) ≡ true) (v f : ℕ) (has : has_corner v (polygon_at polygons f) ≡ true) (pair : ℕ × ℕ) where
  pub across-after : (r : Option ℕ) → faces_of_pair pair ≡ faces_of_edge polygons (edge_at polygons (edge_after polygons v f)) → MatchOption r (nat_eq pair.0 pair.1 ≡ true) (λ g. (nat_eq pair.0 pair.1 ≡ false) × (g ≡ other_of pair f)) → MatchOption r ((g : ℕ) → IsSuccessor polygons v f g → ⊥) (λ g. IsSuccessor polygons v f g)
  across-after None faces one = none-after polygons simple distinct v f has pair faces one
  across-after (Some g) faces two = subst (λ (k : ℕ). IsSuccessor polygons v f k) (sym two.1) (some-after polygons simple distinct v f has pair faces two.0)

  pub across-before : (r : Option ℕ) → faces_of_pair pair ≡ faces_of_edge polygons (edge_at polygons (edge_before polygons v f)) → MatchOption r (nat_eq pair.0 pair.1 ≡ true) (λ g. (nat_eq pair.0 pair.1 ≡ false) × (g ≡ other_of pair f)) → MatchOption r ((g : ℕ) → IsSuccessor polygons v g f → ⊥) (λ g. IsSuccessor polygons v g f)
  across-before None faces one = none-before polygons simple distinct v f has pair faces one
  across-before (Some g) faces two = subst (λ (k : ℕ). IsSuccessor polygons v k f) (sym two.1) (some-before polygons simple distinct v f has pair faces two.0)

-- one step of a walk
module _ (polygons : List Polygon) (simple : list_all is_simple polygons ≡ true) (distinct : has_distinct_sides (all_sides polygons) ≡ true) (v f : ℕ) where
  pub walk-there : (r : Option ℕ) → has_corner v (polygon_at polygons f) ≡ true → MatchOption r ((g : ℕ) → IsSuccessor polygons v f g → ⊥) (λ g. IsSuccessor polygons v f g) → has_corner v (polygon_at polygons (unwrap_or r f)) ≡ true
  walk-there None has none = has
  walk-there (Some g) has leads = (from-corner polygons simple distinct v f g leads).1

  pub walk-next : (r : Option ℕ) (start : ℕ) (fan : List ℕ) (i : ℕ) → IsFanFrom polygons v start fan → i + 1 < length fan → f ≡ get_or fan i 0 → MatchOption r ((g : ℕ) → IsSuccessor polygons v f g → ⊥) (λ g. IsSuccessor polygons v f g) → unwrap_or r f ≡ get_or fan (i + 1) 0
  walk-next None start fan i is inside at none = absurd (none (get_or fan (i + 1) 0) (subst (λ (k : ℕ). IsSuccessor polygons v k (get_or fan (i + 1) 0)) (sym at) (path-at polygons v fan i is.path inside)))
  walk-next (Some g) start fan i is inside at leads = sym (fan-next polygons simple distinct v start fan i g is inside (subst (λ (k : ℕ). IsSuccessor polygons v k g) at leads))

-- the pair of faces that the tables have for an edge
pub pair-inside : (polygons : List Polygon) (n : Numbered) (e : ℕ) → IsNumbering polygons [] n → e < length (edges_of polygons) → e < length n.faces
pair-inside polygons n e is inside = omega (arith, inside, is.faces_listed, ap length (numbered-ends polygons n is))

pub pair-faces : (polygons : List Polygon) (n : Numbered) (e : ℕ) (pair : ℕ × ℕ) → IsNumbering polygons [] n → e < length (edges_of polygons) → pair ≡ get_or n.faces e pair → faces_of_pair pair ≡ faces_of_edge polygons (edge_at polygons e)
pair-faces polygons n e pair is inside at =
    ap faces_of_pair (at ∙ get_or_default n.faces e pair (0, 0) (pair-inside polygons n e is inside))
    ∙ edge-faces-are polygons n e is (omega (arith, inside, ap length (numbered-ends polygons n is)))

-- corners kept for faces
pub noted-more : (faces at before : List ℕ) (i : ℕ) (value : ℕ → ℕ) → i < length faces → get_or faces i 0 < length before → at ≡ map value faces → ((f : ℕ) → is_among (take i faces) f ≡ true → get_or before f 0 ≡ value f) → (f : ℕ) → is_among (take (i + 1) faces) f ≡ true → get_or (slice_set before (get_or faces i 0) (get_or at i 0)) f 0 ≡ value f
noted-more faces at before i value inside within e kept f there = go (nat_eq f (get_or faces i 0)) refl
  where
    here : get_or at i 0 ≡ value (get_or faces i 0)
    here = ap (λ xs. get_or xs i 0) e ∙ get_or-map value faces i 0 0 inside

    go : (b : Bool) → nat_eq f (get_or faces i 0) ≡ b → get_or (slice_set before (get_or faces i 0) (get_or at i 0)) f 0 ≡ value f
    go true h =
        let same = eqb-true _ _ h in
        ap (λ k. get_or (slice_set before (get_or faces i 0) (get_or at i 0)) k 0) same ∙ get_or-set_same before (get_or faces i 0) (get_or at i 0) 0 within ∙ here ∙ ap value (sym same)
    go false h =
        let apart : f ≢ get_or faces i 0 = λ same. absurd (let yes = eq-eqb _ _ same in cc) in
        let joined : is_among (take i faces ++ get_or faces i 0 ∷ []) f ≡ true = subst (λ xs. is_among xs f ≡ true) (take_more faces i 0 inside) there in
        let split = list_any-append (nat_eq f) (take i faces) (get_or faces i 0 ∷ []) in
        let earlier : is_among (take i faces) f ≡ true = grind (arith, nat_tests) in
        get_or-set_other before (get_or faces i 0) f (get_or at i 0) 0 apart ∙ kept f earlier

-- The claim for a missing value.
pub none-of : {A : Type 0} (B : ℕ → Type 0) (r : Option ℕ) → is_some r ≡ false → MatchOption r A B → A
none-of B None e h = h
none-of B (Some g) e h = absurd (cc)
