-- The vertices on selected faces are the points of the uniform level with a present child. Halves overflow at both or at neither.
use Rattle.std.proofs.Common.{◌≡◌, ℕ, suc, ◌<◌, Bool, true, false, not, ◌&&◌, nat_eq, nat_lt, List, [], ◌∷◌, length, map, arith, refl, ap, sym, ◌∙◌, inl, inr}
use Rattle.std.specs.List.{filter, list_any, list_all, range_with_len}
use Rattle.std.proofs.lemmas.Bool.{and_parts, and_from, eqb-true, lt-ltb, ltb-true}
use Rattle.std.proofs.lemmas.Bool.Decides.{nat_tests}
use Rattle.std.proofs.lemmas.List.{length-map}
use Rattle.std.proofs.lemmas.List.Elements.{filter_passes}
use Rattle.std.proofs.lemmas.List.Sums.{list_all-from_AllPass}
use Rattle.subdiv_model.specs.Lists.{places, each_once_by}
use Rattle.subdiv_model.specs.Polygons.{Polygon, has_corner, is_among, polygon_at}
use Rattle.subdiv_model.specs.Child.{refined_level}
use Rattle.subdiv_model.specs.Channel.{chaikin_overflows_at}
use Rattle.subdiv_model.specs.Sparse.{child_number, corners_of, is_on}
use Rattle.subdiv_model.specs.SparseFaults.{points_with_child, present_faces}
use Rattle.number_laws.proofs.ListLemmas.{any-flat_map}
use Rattle.mesh_laws.proofs.FanLemmas.{any-number, number-any}
use Rattle.mesh_laws.proofs.ClosedLemmas.{all-at, any-all}
use Rattle.mesh_laws.proofs.WalkLemmas.{range-all}
use Rattle.mesh_laws.proofs.ChildCornerLemmas.{corner-place, corner-self}
use Rattle.part_laws.specs.Parts.{IsWholeAt, is_corner}
use Rattle.part_laws.proofs.ListLemmas.{any-mapped}
use Rattle.part_laws.proofs.TermLemmas.{all-true}
use Rattle.part_laws.proofs.LevelLemmas.{same-chaikin}
use Rattle.part_laws.proofs.JoinLemmas.{corner-in, corner-named}
use Rattle.part_laws.proofs.SelfLemmas.{among-at}
use Rattle.part_laws.proofs.PlaceLemmas.{among-range}
use Rattle.part_laws.proofs.NameLemmas.{name-old, name-face, name-edge}
use Rattle.part_laws.proofs.ChildLemmas.{IsNew, child-places, kind, name-below}
use Rattle.sparse_laws.specs.NextSparse.{corner_places, next_places, next_points, vertex_at}
use Rattle.sparse_laws.specs.Selected.{OverflowsOn}
use Rattle.sparse_laws.specs.Laws.{SparseRefinement, AgreeingTest, chosen_by}
use Rattle.sparse_laws.proofs.SelectedLemmas.{among-all}
use Rattle.sparse_laws.proofs.NumberLemmas.{is_place}
use Rattle.sparse_laws.proofs.CornerLemmas.{child, child-at-place, one-among, own-vertex, vertices-old}
use Rattle.sparse_laws.proofs.PresentLemmas.{Selection, all-chosen, number_there, numbers-same, present-at}
use Rattle.sparse_laws.proofs.CompleteLemmas.{kid, kids, kids_there, kid_numbers, kid-part}
use Rattle.sparse_laws.proofs.NextPartLemmas.{points-own, points-same}
use Rattle.sparse_laws.proofs.NextSparseLemmas.{selection}

-- the next level has as many faces as are present
pub faces-counted : (kept : SparseRefinement) (by : AgreeingTest kept) → length (next_places kept.sparse.level.polygons (chosen_by by)) ≡ present_faces kept.base kept.predicate (suc kept.sparse.depth)
faces-counted kept by =
    let s = selection kept by in
    sym (length-map (next_places kept.sparse.level.polygons (chosen_by by)) (number_there s)) ∙ sym (ap length (numbers-same s))

-- an item is kept if it is listed and passes
among-filter : (test : ℕ → Bool) (ns : List ℕ) (n : ℕ) → is_among (filter test ns) n ≡ (test n && is_among ns n)
among-filter test [] n = go (test n)
  where
    go : (b : Bool) → false ≡ (b && false)
    go true = refl
    go false = refl
among-filter test (m ∷ ns) n = go (test m) (nat_eq n m) refl refl (among-filter test ns n)
  where
    go : (a b : Bool) → test m ≡ a → nat_eq n m ≡ b → is_among (filter test ns) n ≡ (test n && is_among ns n) → is_among (filter test (m ∷ ns)) n ≡ (test n && is_among (m ∷ ns) n)
    go true true e f rest = let own : test n ≡ true = ap test (eqb-true n m f) ∙ e in rw (e, f, own) refl
    go true false e f rest = rw (e, f) rest
    go false true e f rest =
        let own : test n ≡ false = ap test (eqb-true n m f) ∙ e in
        let none : is_among (filter test ns) n ≡ false = rest ∙ ap (λ b. b && is_among ns n) own in
        rw (e, f, own) none
    go false false e f rest = rw (e, f) rest

-- an item is listed once if it is listed
among-once : (ns : List ℕ) (n : ℕ) → is_among (each_once_by nat_eq ns) n ≡ is_among ns n
among-once [] n = refl
among-once (m ∷ ns) n = go (nat_eq n m) refl (among-once ns n)
  where
    go : (b : Bool) → nat_eq n m ≡ b → is_among (each_once_by nat_eq ns) n ≡ is_among ns n → is_among (each_once_by nat_eq (m ∷ ns)) n ≡ is_among (m ∷ ns) n
    go true e rest = rw e refl
    go false e rest =
        let other : nat_eq m n ≡ false = grind (arith, nat_tests) in
        let kept = among-filter (λ y. not (nat_eq m y)) (each_once_by nat_eq ns) n in
        rw e (kept ∙ ap (λ b. not b && is_among (each_once_by nat_eq ns) n) other ∙ rest)

any-of-map : {X Y : Type 0} (f : X → Y) (test : Y → Bool) (xs : List X) → list_any test (map f xs) ≡ list_any (λ x. test (f x)) xs
any-of-map f test xs = any-mapped (λ x. true) f (λ x. test (f x)) test (λ x h. refl) xs (all-true xs)

-- a point listed once is a corner of one of the polygons
once-corner : (polygons : List Polygon) (ms : List ℕ) (n : ℕ) → is_among (each_once_by nat_eq (corners_of (map (polygon_at polygons) ms))) n ≡ list_any (λ m. has_corner n (polygon_at polygons m)) ms
once-corner polygons ms n =
    among-once (corners_of (map (polygon_at polygons) ms)) n
    ∙ any-flat_map (nat_eq n) (λ polygon. polygon) (map (polygon_at polygons) ms)
    ∙ any-of-map (polygon_at polygons) (has_corner n) ms

module _ (s : Selection) where
  abbrev present_numbers : List ℕ
  present_numbers = places (is_on s.whole.polygons s.others) (corners_of s.whole.polygons)

  -- the present points of the next level
  abbrev pub present_next : List ℕ
  present_next = each_once_by nat_eq (corners_of (map (polygon_at (kids_there s)) (places (is_on s.whole.polygons s.others) (corners_of s.whole.polygons))))

  -- a vertex on a selected face is a corner
  on-corner : (w : ℕ) → is_on s.part.polygons s.some w ≡ true → is_corner s.part.polygons w ≡ true
  on-corner w on = let found = any-number (λ f. has_corner w (polygon_at s.part.polygons f)) s.some on in corner-in s.part.polygons w found.0 found.1

  -- the name of a vertex on a selected face is a present point of the next level
  pub name-present : (w : ℕ) → w < s.part.point_count → is_on s.part.polygons s.some w ≡ true → is_among present_next (s.name w) ≡ true
  name-present w below on =
      let found = any-number (λ f. has_corner w (polygon_at s.part.polygons f)) s.some on in
      let f = found.0 in
      let h = corner-place s.part.polygons f w found.1 in
      let place = among-at (polygon_at s.part.polygons f) w found.1 in
      let c = place.0 in
      let k = place.1 in
      let present = present-at s f c h k ∙ ap (is_on s.part.polygons s.some) (sym place.2) ∙ on in
      let own = ap (λ n. has_corner n (child s.part s.over f c)) place.2 ∙ corner-self s.part.point_count s.part.polygons f (vertex_at s.part.polygons (f, c)) (child s.part s.over f c) (child-at-place s.part s.over f c h k) in
      let corner = corner-named (kid s) (kid_numbers s) (kids s) (kids_there s) (kid-part s) w (child_number s.part.polygons (f, c)) own in
      let there : has_corner (s.name w) (polygon_at (kids_there s) (number_there s (f, c))) ≡ true =
      ap (λ n. has_corner n (polygon_at (kids_there s) (number_there s (f, c)))) (sym (name-old s.name s.numbers s.part s.whole s.is.polygons w below))
      ∙ ap (λ m. has_corner (kid s w) (polygon_at (kids_there s) m)) (sym (child-places s.name s.numbers s.part s.whole s.is.polygons f c h k)) ∙ corner in
      once-corner (kids_there s) present_numbers (s.name w)
      ∙ number-any (λ m. has_corner (s.name w) (polygon_at (kids_there s) m)) present_numbers (number_there s (f, c)) there present

  -- a present point of the next level that is a point of this one is the name of a vertex on a selected face
  pub record NamedOn (n : ℕ) : Type 0 where
    pub w : ℕ
    pub below : w < s.part.point_count
    pub on : is_on s.part.polygons s.some w ≡ true
    pub named : s.name w ≡ n

  -- a corner of a child face at a vertex on a selected face
  pub record ChildCorner (n : ℕ) : Type 0 where
    pub place : ℕ × ℕ
    pub is : is_place s.part.polygons place ≡ true
    pub on : is_on s.part.polygons s.some (vertex_at s.part.polygons place) ≡ true
    pub corner : has_corner n (polygon_at (kids s) (child_number s.part.polygons place)) ≡ true

  -- a present point of the next level is a corner of a child face at a vertex on a selected face
  pub child-corner : (n : ℕ) → is_among (next_points s.part s.some) n ≡ true → ChildCorner n
  child-corner n among =
      let chosen = next_places s.part.polygons s.some in
      let test : ℕ × ℕ → Bool = λ place. has_corner n (polygon_at (kids s) (child_number s.part.polygons place)) in
      let on : ℕ × ℕ → Bool = λ place. is_on s.part.polygons s.some (vertex_at s.part.polygons place) in
      let some : list_any test chosen ≡ true =
      sym (once-corner (kids s) (map (child_number s.part.polygons) chosen) n ∙ any-of-map (child_number s.part.polygons) (λ j. has_corner n (polygon_at (kids s) j)) chosen) ∙ among in
      let all : list_all (λ place. is_place s.part.polygons place && on place) chosen ≡ true =
      list_all-from_AllPass (λ place. is_place s.part.polygons place && on place) chosen (λ k d h. and_from _ _ (all-at (is_place s.part.polygons) chosen k d h (all-chosen s)) (filter_passes on (corner_places s.part.polygons) k d h)) in
      let found = any-all test (λ place. is_place s.part.polygons place && on place) chosen some all in
      let both = and_parts (is_place s.part.polygons found.0) (on found.0) found.2 in
      record { place = found.0; is = both.0; on = both.1; corner = found.1 }

  -- a point of this level that is one of the next lies on a selected face
  pub point-on : (m : ℕ) → m < s.part.point_count → is_among (next_points s.part s.some) m ≡ true → is_on s.part.polygons s.some m ≡ true
  point-on m below among =
      let found = child-corner m among in
      let place = found.place in
      let parts = and_parts (nat_lt place.0 (length s.part.polygons)) (nat_lt place.1 (length (polygon_at s.part.polygons place.0))) found.is in
      let vertex = own-vertex s.part s.over place.0 place.1 m (ltb-true _ _ parts.0) (ltb-true _ _ parts.1) found.corner in
      let one : is_among (m ∷ []) (vertex_at s.part.polygons place) ≡ true = ap (λ ns. is_among ns (vertex_at s.part.polygons place)) (sym (vertices-old s.part s.over m below)) ∙ vertex in
      ap (is_on s.part.polygons s.some) (sym (one-among (vertex_at s.part.polygons place) m one)) ∙ found.on

  named-on : (n : ℕ) → n < s.whole.point_count → is_among present_next n ≡ true → NamedOn n
  named-on n less there =
      let points = next_points s.part s.some in
      let among : is_among (map (kid s) points) n ≡ true = ap (λ ns. is_among ns n) (sym (points-same s)) ∙ there in
      let found = any-number (λ m. nat_eq n (kid s m)) points (sym (any-of-map (kid s) (nat_eq n) points) ∙ among) in
      let m = found.0 in
      let e : n ≡ kid s m = eqb-true n (kid s m) found.1 in
      go m e found.2 (kind s.part.point_count s.part.polygons s.over m (among-all (is_corner (kids s)) points m found.2 (points-own s)))
    where
      go : (m : ℕ) → n ≡ kid s m → is_among (next_points s.part s.some) m ≡ true → IsNew s.part.point_count s.part.polygons m → NamedOn n
      go m e among (inl a) = record {
        w = m;
        below = a.0;
        on = point-on m a.0 among;
        named = sym (name-old s.name s.numbers s.part s.whole s.is.polygons m a.0) ∙ sym e;
      }
      go m e among (inr (inl b)) =
          let f = ap (kid s) b.2 ∙ name-face s.name s.numbers s.part s.whole s.is.polygons b.0 b.1 in
          absurd (omega (arith, less, e, f))
      go m e among (inr (inr b)) =
          let f = ap (kid s) b.2 ∙ name-edge s.name s.numbers s.part s.whole s.is.polygons b.0 b.1 in
          absurd (omega (arith, less, e, f))

  -- a vertex on a selected face that passes a test
  pub record PassesOn (test : ℕ → Bool) : Type 0 where
    pub w : ℕ
    pub exists : w < s.part.point_count
    pub on : is_on s.part.polygons s.some w ≡ true
    pub passes : test w ≡ true

  -- tests of points here and there that agree at each point where the part has all faces
  module _ (test other : ℕ → Bool) (alike : (w : ℕ) → is_corner s.part.polygons w ≡ true → IsWholeAt s.numbers s.whole.polygons (s.name w) → test w ≡ other (s.name w)) where
    pub passes-here : (w : ℕ) → w < s.part.point_count → is_on s.part.polygons s.some w ≡ true → test w ≡ true → list_any other (filter (is_among (present_next)) (range_with_len 0 s.whole.point_count)) ≡ true
    passes-here w exists on passes =
        let n = s.name w in
        let there = on-corner w on in
        let below = name-below s.name s.numbers s.part s.whole s.is.polygons s.whole_over w there in
        number-any other (filter (is_among present_next) (range_with_len 0 s.whole.point_count)) n (sym (alike w there (s.has_all w on)) ∙ passes)
        (among-filter (is_among present_next) (range_with_len 0 s.whole.point_count) n ∙ and_from _ _ (name-present w exists on) (among-range 0 s.whole.point_count n (omega arith) (omega (arith, below))))

    pub passes-there : list_any other (filter (is_among (present_next)) (range_with_len 0 s.whole.point_count)) ≡ true → PassesOn test
    passes-there some =
        let count = s.whole.point_count in
        let found = any-number other (filter (is_among present_next) (range_with_len 0 count)) some in
        let n = found.0 in
        let both = and_parts (is_among present_next n) (is_among (range_with_len 0 count) n) (sym (among-filter (is_among present_next) (range_with_len 0 count) n) ∙ found.2) in
        let below = ltb-true n count (among-all (λ i. nat_lt i count) (range_with_len 0 count) n both.1 (range-all (λ i. nat_lt i count) 0 count (λ i h. lt-ltb i count (omega (arith, h))))) in
        let at = named-on n below both.0 in
        record { w = at.w; exists = at.below; on = at.on; passes = alike at.w (on-corner at.w at.on) (s.has_all at.w at.on) ∙ ap other at.named ∙ found.1 }

-- at a point with all its faces halves of edges overflow in both levels or in neither
overflow-alike : (s : Selection) (w : ℕ) → is_corner s.part.polygons w ≡ true → IsWholeAt s.numbers s.whole.polygons (s.name w) → chaikin_overflows_at s.part w ≡ chaikin_overflows_at s.whole (s.name w)
overflow-alike s w there all = same-chaikin s.name s.numbers s.part s.whole s.is w there all

pub overflows-here : (kept : SparseRefinement) (by : AgreeingTest kept) (v : ℕ) → OverflowsOn kept.sparse.level (chosen_by by) v → list_any (chaikin_overflows_at (refined_level kept.base kept.sparse.depth)) (points_with_child kept.base kept.predicate (refined_level kept.base kept.sparse.depth).point_count kept.sparse.depth) ≡ true
overflows-here kept by v o =
    let s = selection kept by in
    passes-here s (chaikin_overflows_at s.part) (chaikin_overflows_at s.whole) (overflow-alike s) v o.exists o.on o.overflows

pub overflows-there : (kept : SparseRefinement) (by : AgreeingTest kept) → list_any (chaikin_overflows_at (refined_level kept.base kept.sparse.depth)) (points_with_child kept.base kept.predicate (refined_level kept.base kept.sparse.depth).point_count kept.sparse.depth) ≡ true → (v : ℕ) × OverflowsOn kept.sparse.level (chosen_by by) v
overflows-there kept by some =
    let s = selection kept by in
    let found = passes-there s (chaikin_overflows_at s.part) (chaikin_overflows_at s.whole) (overflow-alike s) some in
    (found.w, record { exists = found.exists; on = found.on; overflows = found.passes })
