-- At a point all of whose faces a part has, the part has the faces and edges that the whole has.
use Rattle.std.proofs.Common.{◌∷◌, ◌≡◌, ℕ, ◌+◌, ◌<◌, Bool, true, false, ◌&&◌, nat_eq, if◌then◌else◌, List, [], length, map, get_or, arith, refl, ap, sym, ◌∙◌, subst, IsTrue}
use Rattle.std.specs.List.{filter, flat_map, list_all, list_any, range_with_len}
use Rattle.std.proofs.lemmas.Bool.{and_parts, and_from, eq-eqb, eqb-true, false_from_ne_true}
use Rattle.std.proofs.lemmas.Bool.Decides.{nat_tests}
use Rattle.std.proofs.lemmas.List.{length-map, get_or-map}
use Rattle.std.proofs.lemmas.List.FromFn.{fill_by_all}
use Rattle.std.proofs.lemmas.List.Folds.{list_any_at}
use Rattle.std.proofs.lemmas.List.Sums.{list_all-from_AllPass}
use Rattle.subdiv_model.specs.Lists.{places}
use Rattle.subdiv_model.specs.Polygons.{Polygon, sides_of, same_side, same_edge, has_corner, has_side, has_edge, is_among, polygon_at}
use Rattle.subdiv_model.specs.Edges.{all_sides, first_named, edges_of, faces_of_edge, faces_of_point, has_end, edges_of_point, is_boundary}
use Rattle.subdiv_model.specs.Mask.{other_end}
use Rattle.mesh_laws.proofs.SideLemmas.{same_edge-sym, same_edge-alike}
use Rattle.mesh_laws.proofs.ClosedLemmas.{any-all}
use Rattle.mesh_laws.proofs.FanLemmas.{any-side, side-start, side-end}
use Rattle.part_laws.specs.Parts.{IsPart, IsWholeAt, IsWholeAlong, HasEnds, is_corner, renamed, face_in}
use Rattle.part_laws.proofs.ListLemmas.{map-agree, map-twice, filter-joined, filter-mapped, filter-none, joined-mapped, read-places, places-of-range, once-kept, all-filtered, all-once}
use Rattle.part_laws.proofs.AscendingLemmas.{Ascends, ascends, kept-of-all, joined-of-all}
use Rattle.part_laws.proofs.RenamedLemmas.{both_ends, all-side-ends, all-sides-renamed, corner-renamed, edge-renamed, first-renamed, end-renamed, edge-same, other-renamed}

-- a list is what it has at each place
pub as-range : (polygons : List Polygon) → polygons ≡ map (polygon_at polygons) (range_with_len 0 (length polygons))
as-range polygons = fill_by_all (polygon_at polygons) polygons (length polygons) [] refl (λ k h. refl)

-- the places of what passes are the numbers of what passes
pub as-numbers : (test : Polygon → Bool) (polygons : List Polygon) → places test polygons ≡ filter (λ i. test (polygon_at polygons i)) (range_with_len 0 (length polygons))
as-numbers test polygons = ap (places test) (as-range polygons) ∙ places-of-range (polygon_at polygons) test 0 (length polygons)

-- each corner of a polygon is a corner of the polygons
pub own-corners : (polygons : List Polygon) → list_all (list_all (is_corner polygons)) polygons ≡ true
own-corners polygons =
    list_all-from_AllPass (list_all (is_corner polygons)) polygons (λ k d h.
    let polygon : Polygon = get_or polygons k d in
    list_all-from_AllPass (is_corner polygons) polygon (λ j e l.
    let c : ℕ = get_or polygon j e in
    list_any_at (has_corner c) polygons k d h (list_any_at (nat_eq c) polygon j e l (eq-eqb c c refl))))

-- an edge at a point has a corner there
pub end-corner : (v : ℕ) (polygon : Polygon) (s : ℕ × ℕ) → has_end v s ≡ true → has_side s polygon ≡ true → has_corner v polygon ≡ true
end-corner v polygon s ends there = go (nat_eq v s.0) refl
  where
    go : (b : Bool) → nat_eq v s.0 ≡ b → has_corner v polygon ≡ true
    go true e = ap (λ n. has_corner n polygon) (eqb-true v s.0 e) ∙ side-start polygon s there
    go false e =
        let other : nat_eq v s.1 ≡ true = grind (arith, nat_tests) in
        ap (λ n. has_corner n polygon) (eqb-true v s.1 other) ∙ side-end polygon s there

pub end-alike : (v : ℕ) (s t : ℕ × ℕ) → same_edge s t ≡ true → has_end v s ≡ has_end v t
end-alike v s t h = grind (arith, nat_tests)

edge-alike : (e s t : ℕ × ℕ) → same_edge s t ≡ true → same_edge e s ≡ same_edge e t
edge-alike e s t h = same_edge-sym e s ∙ same_edge-alike s t e h ∙ same_edge-sym t e

-- a polygon without the corner has no edge there
none-there : (v : ℕ) (polygon : Polygon) → has_corner v polygon ≡ false → filter (has_end v) (sides_of polygon) ≡ []
none-there v polygon none =
    filter-none (has_end v) (sides_of polygon) (false_from_ne_true _ (λ some.
    let found = any-side (has_end v) (sides_of polygon) some in
    let there = end-corner v polygon found.0 found.1 found.2 in
    absurd (cc)))

-- a polygon with an edge has both ends of it
pub along-end : (v : ℕ) (edge : ℕ × ℕ) (polygon : Polygon) → has_end v edge ≡ true → has_edge edge polygon ≡ true → has_corner v polygon ≡ true
along-end v edge polygon ends there =
    let found = any-side (same_edge edge) (sides_of polygon) there in
    end-corner v polygon found.0 (sym (end-alike v edge found.0 found.1) ∙ ends) found.2

-- where a part has all faces at an end, it has all faces along the edge
pub whole-along : (faces : List ℕ) (whole : List Polygon) (v : ℕ) (edge : ℕ × ℕ) → IsTrue (has_end v edge) → IsWholeAt faces whole v → IsWholeAlong faces whole edge
whole-along faces whole v edge ends all f there = all f (along-end v edge (polygon_at whole f) ends there)

module _ (name : ℕ → ℕ) (faces : List ℕ) (part whole : List Polygon) (is : IsPart name faces part whole) where
  abbrev own : ℕ → Bool
  own p = is_corner part p

  up : Ascends 0 (0 + length whole) faces
  up = subst (λ b. Ascends 0 b faces) (let e : length whole ≡ 0 + length whole = omega arith in e) (ascends (length whole) faces is.ascending is.inside)

  pub as-many : length part ≡ length faces
  as-many = sym (length-map part (map name)) ∙ ap length is.same ∙ length-map faces (polygon_at whole)

  pub own-all : list_all (list_all (is_corner part)) part ≡ true
  own-all = own-corners part

  pub own-sides : list_all (both_ends (is_corner part)) (all_sides part) ≡ true
  own-sides = all-side-ends own part own-all

  -- each polygon of the part is that with its number, renamed
  pub polygon-in : (k : ℕ) → k < length part → map name (polygon_at part k) ≡ polygon_at whole (face_in faces k)
  polygon-in k h =
      sym (get_or-map (map name) part k [] [] h) ∙ ap (λ l. get_or l k []) is.same ∙ get_or-map (polygon_at whole) faces k 0 [] (omega (arith, h, as-many))

  -- what passes in the whole is what passes in the part, where all of it is there
  same-places : (test other : Polygon → Bool) → ((polygon : Polygon) → list_all own polygon ≡ true → test polygon ≡ other (map name polygon)) → ((f : ℕ) → other (polygon_at whole f) ≡ true → is_among faces f ≡ true) → map (face_in faces) (places test part) ≡ places other whole
  same-places test other agree all =
      let tests : map test part ≡ map (λ f. other (polygon_at whole f)) faces =
      map-agree (list_all own) test (λ polygon. other (map name polygon)) agree part own-all
      ∙ sym (map-twice (map name) other part) ∙ ap (map other) is.same ∙ map-twice (polygon_at whole) other faces in
      read-places (face_in faces) test (λ f. other (polygon_at whole f)) 0 part faces tests (λ i l. ap (face_in faces) (let e : 0 + i ≡ i = omega arith in e))
      ∙ sym (kept-of-all (λ f. other (polygon_at whole f)) 0 (length whole) faces up (λ i l h on. all i on))
      ∙ sym (as-numbers other whole)

  pub same-faces : (p : ℕ) → IsTrue (is_corner part p) → IsWholeAt faces whole (name p) → map (face_in faces) (faces_of_point part p) ≡ faces_of_point whole (name p)
  same-faces p h all = same-places (has_corner p) (has_corner (name p)) (λ polygon k. sym (corner-renamed name own is.apart p polygon h k)) all

  pub same-faces-along : (edge : ℕ × ℕ) → HasEnds part edge → IsWholeAlong faces whole (renamed name edge) → map (face_in faces) (faces_of_edge part edge) ≡ faces_of_edge whole (renamed name edge)
  same-faces-along edge ends all =
      same-places (has_edge edge) (has_edge (renamed name edge)) (λ polygon k. sym (edge-renamed name own is.apart edge polygon (and_from _ _ ends.first ends.second) k)) all

  pub same-boundary : (edge : ℕ × ℕ) → HasEnds part edge → IsWholeAlong faces whole (renamed name edge) → is_boundary part edge ≡ is_boundary whole (renamed name edge)
  same-boundary edge ends all =
      ap (λ n. nat_eq n 1) (sym (length-map (faces_of_edge part edge) (face_in faces)) ∙ ap length (same-faces-along edge ends all))

  -- sides that pass come from faces that are there, where no other face has any
  same-sides : (keep other : ℕ × ℕ → Bool) → ((s : ℕ × ℕ) → both_ends own s ≡ true → other (renamed name s) ≡ keep s) → ((f : ℕ) → is_among faces f ≡ false → filter other (sides_of (polygon_at whole f)) ≡ []) → filter other (all_sides whole) ≡ map (renamed name) (filter keep (all_sides part))
  same-sides keep other agree none =
      let there : List Polygon → List (ℕ × ℕ) = λ some. flat_map (λ polygon. filter other (sides_of polygon)) some in
      filter-joined other sides_of whole
      ∙ ap there (as-range whole)
      ∙ joined-mapped (λ polygon. filter other (sides_of polygon)) (polygon_at whole) (range_with_len 0 (length whole))
      ∙ joined-of-all (λ f. filter other (sides_of (polygon_at whole f))) 0 (length whole) faces up (λ i l gone. none i gone)
      ∙ sym (joined-mapped (λ polygon. filter other (sides_of polygon)) (polygon_at whole) faces)
      ∙ ap there (sym is.same)
      ∙ sym (filter-joined other sides_of (map (map name) part))
      ∙ ap (filter other) (all-sides-renamed name part)
      ∙ filter-mapped (both_ends own) (renamed name) keep other agree (all_sides part) own-sides

  -- a test of edges keeps the same edges in the part and in the whole
  kept-edges : (keep other : ℕ × ℕ → Bool) → ((s t : ℕ × ℕ) → same_edge s t ≡ true → keep s ≡ keep t) → ((s t : ℕ × ℕ) → same_edge s t ≡ true → other s ≡ other t) → ((s : ℕ × ℕ) → both_ends own s ≡ true → other (renamed name s) ≡ keep s) → ((f : ℕ) → is_among faces f ≡ false → filter other (sides_of (polygon_at whole f)) ≡ []) → map (renamed name) (filter keep (edges_of part)) ≡ filter other (edges_of whole)
  kept-edges keep other alike other_alike agree none =
      ap (map (renamed name)) (once-kept same_edge keep alike (all_sides part))
      ∙ sym (first-renamed name own is.apart (filter keep (all_sides part)) (all-filtered keep (both_ends own) (all_sides part) own-sides))
      ∙ ap first_named (sym (same-sides keep other agree none))
      ∙ sym (once-kept same_edge other other_alike (all_sides whole))

  pub same-edges : (p : ℕ) → IsTrue (is_corner part p) → IsWholeAt faces whole (name p) → map (renamed name) (edges_of_point part p) ≡ edges_of_point whole (name p)
  same-edges p h all =
      kept-edges (has_end p) (has_end (name p)) (end-alike p) (end-alike (name p)) (λ s k. end-renamed name own is.apart p s h k) (λ f gone.
      none-there (name p) (polygon_at whole f) (false_from_ne_true _ (λ on. let yes = all f on in absurd (cc))))

  -- an edge is listed in the same direction, where the part has all faces along it
  pub same-edges-along : (edge : ℕ × ℕ) → HasEnds part edge → IsWholeAlong faces whole (renamed name edge) → map (renamed name) (filter (same_edge edge) (edges_of part)) ≡ filter (same_edge (renamed name edge)) (edges_of whole)
  same-edges-along edge ends all =
      kept-edges (same_edge edge) (same_edge (renamed name edge)) (edge-alike edge) (edge-alike (renamed name edge)) (λ s k. edge-same name own is.apart edge s (and_from _ _ ends.first ends.second) k) (λ f gone.
      filter-none (same_edge (renamed name edge)) (sides_of (polygon_at whole f)) (false_from_ne_true _ (λ on. let yes = all f on in absurd (cc))))

  -- the edges of the part have their ends there
  own-edges : list_all (both_ends (is_corner part)) (edges_of part) ≡ true
  own-edges = all-once same_edge (both_ends own) (all_sides part) own-sides

  pub own-edges-at : (p : ℕ) → list_all (both_ends (is_corner part)) (edges_of_point part p) ≡ true
  own-edges-at p = all-filtered (has_end p) (both_ends own) (edges_of part) own-edges

  pub same-ends : (p : ℕ) → IsTrue (is_corner part p) → IsWholeAt faces whole (name p) → map name (map (other_end p) (edges_of_point part p)) ≡ map (other_end (name p)) (edges_of_point whole (name p))
  same-ends p h all =
      map-twice (other_end p) name (edges_of_point part p)
      ∙ sym (map-agree (both_ends own) (λ s. other_end (name p) (renamed name s)) (λ s. name (other_end p s)) (λ s k. other-renamed name own is.apart p s h k) (edges_of_point part p) (own-edges-at p))
      ∙ sym (map-twice (renamed name) (other_end (name p)) (edges_of_point part p))
      ∙ ap (map (other_end (name p))) (same-edges p h all)

  -- an edge of the part has its ends there
  pub edge-ends : (edge : ℕ × ℕ) → list_any (same_edge edge) (edges_of part) ≡ true → HasEnds part edge
  edge-ends edge there =
      let found = any-all (same_edge edge) (both_ends own) (edges_of part) there own-edges in
      let parts = and_parts (own found.0.0) (own found.0.1) found.2 in
      go found.0 parts.0 parts.1 (same_side edge found.0) refl found.1
    where
      go : (s : ℕ × ℕ) → is_corner part s.0 ≡ true → is_corner part s.1 ≡ true → (b : Bool) → same_side edge s ≡ b → same_edge edge s ≡ true → HasEnds part edge
      go s one two true e same =
          let parts = and_parts (nat_eq edge.0 s.0) (nat_eq edge.1 s.1) e in
          record { first = ap (is_corner part) (eqb-true edge.0 s.0 parts.0) ∙ one; second = ap (is_corner part) (eqb-true edge.1 s.1 parts.1) ∙ two }
      go s one two false e same =
          let turned : (nat_eq edge.0 s.1 && nat_eq edge.1 s.0) ≡ true = rw e at same in
          let parts = and_parts (nat_eq edge.0 s.1) (nat_eq edge.1 s.0) turned in
          record { first = ap (is_corner part) (eqb-true edge.0 s.1 parts.0) ∙ two; second = ap (is_corner part) (eqb-true edge.1 s.0 parts.1) ∙ one }

  -- the other ends at a point are corners of the part
  pub own-ends : (p : ℕ) → list_all (is_corner part) (map (other_end p) (edges_of_point part p)) ≡ true
  own-ends p = each (edges_of_point part p) (own-edges-at p)
    where
      either : (b : Bool) (s : ℕ × ℕ) → both_ends (is_corner part) s ≡ true → is_corner part (if b then s.1 else s.0) ≡ true
      either true s h = (and_parts (is_corner part s.0) (is_corner part s.1) h).1
      either false s h = (and_parts (is_corner part s.0) (is_corner part s.1) h).0

      each : (some : List (ℕ × ℕ)) → list_all (both_ends (is_corner part)) some ≡ true → list_all (is_corner part) (map (other_end p) some) ≡ true
      each [] h = refl
      each (s ∷ some) h =
          let parts = and_parts (both_ends own s) (list_all (both_ends own) some) h in
          and_from _ _ (either (nat_eq p s.0) s parts.0) (each some parts.1)
