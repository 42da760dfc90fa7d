-- The present faces of a cut level in which the selected faces of the base are selected.
use Rattle.std.proofs.Common.{◌≡◌, ℕ, zero, suc, ◌<◌, ◌≤◌, Bool, true, false, nat_eq, nat_lt, List, [], ◌∷◌, length, map, get_or, arith, refl, ap, sym, ◌∙◌}
use Rattle.std.specs.List.{range_with_len}
use Rattle.std.proofs.lemmas.Bool.{ltb-true, eqb-true, eq-eqb, or_right}
use Rattle.std.proofs.lemmas.List.{length-map, get_or-map}
use Rattle.subdiv_model.specs.Lists.{places}
use Rattle.subdiv_model.specs.Polygons.{Polygon, has_corner, is_among, polygon_at}
use Rattle.subdiv_model.specs.Level.{Level}
use Rattle.subdiv_model.specs.Child.{refined_level}
use Rattle.subdiv_model.specs.Sparse.{FacePredicate, corners_of, is_on, selected, inner, present}
use Rattle.subdiv_model.specs.SparseTexture.{selected_to}
use Rattle.number_laws.proofs.CountLemmas.{any-weaker}
use Rattle.sparse_laws.proofs.InnerLemmas.{inner-present}
use Rattle.sparse_laws.proofs.NumberLemmas.{as-filter, among-places}
use Rattle.sparse_laws.proofs.SelectedLemmas.{among-all, range-below}
use Rattle.sparse_texture_laws.specs.Cut.{HaveSameFaces, IsCutOf}
use Rattle.sparse_texture_laws.proofs.FaceLemmas.{count-same}
use Rattle.sparse_texture_laws.proofs.SelectionLemmas.{kept-among, cut-inner, cut-selected}
use Rattle.sparse_texture_laws.proofs.CutLemmas.{cut-after, cut-faces}
use Rattle.sparse_laws.proofs.WrittenLemmas.{corners-renamed}

-- places are places of the list
place-within : (test : ℕ → Bool) (xs : List ℕ) (n : ℕ) → is_among (places test xs) n ≡ true → n < length xs
place-within test xs n h =
    let all = range_with_len 0 (length xs) in
    let there = kept-among (λ i. test (get_or xs i 0)) all n (ap (λ ns. is_among ns n) (sym (as-filter test xs)) ∙ h) in
    ltb-true n (length xs) (among-all (λ i. nat_lt i (length xs)) all n there (range-below (length xs)))

-- a polygon under the names of its corners
polygon-named : (name : ℕ → ℕ) (polygons : List Polygon) (f : ℕ) → polygon_at (map (map name) polygons) f ≡ map name (polygon_at polygons f)
polygon-named name [] f = refl
polygon-named name (polygon ∷ polygons) zero = refl
polygon-named name (polygon ∷ polygons) (suc f) = polygon-named name polygons f

-- a corner is a corner by its name
corner-named : (name : ℕ → ℕ) (v : ℕ) (polygon : Polygon) → has_corner v polygon ≡ true → has_corner (name v) (map name polygon) ≡ true
corner-named name v [] h = h
corner-named name v (w ∷ polygon) h = go (nat_eq v w) refl (λ more. corner-named name v polygon more)
  where
    go : (b : Bool) → nat_eq v w ≡ b → (has_corner v polygon ≡ true → has_corner (name v) (map name polygon) ≡ true) → has_corner (name v) (map name (w ∷ polygon)) ≡ true
    go true e rest = let same = eq-eqb (name v) (name w) (ap name (eqb-true v w e)) in rw same refl
    go false e rest = let there = rest (rw e at h) in rw there (or_right (nat_eq (name v) (name w)) true refl)

-- a vertex that lies on one of some faces lies on it by its name
on-named : (name : ℕ → ℕ) (polygons others : List Polygon) (faces : List ℕ) (v : ℕ) → map (map name) polygons ≡ others → is_on polygons faces v ≡ true → is_on others faces (name v) ≡ true
on-named name polygons others faces v e h =
    ap (λ ps. is_on ps faces (name v)) (sym e)
    ∙ any-weaker (λ f. has_corner v (polygon_at polygons f)) (λ f. has_corner (name v) (polygon_at (map (map name) polygons) f)) (λ f there. ap (has_corner (name v)) (polygon-named name polygons f) ∙ corner-named name v (polygon_at polygons f) there) faces h

places-named : (name : ℕ → ℕ) (polygons others : List Polygon) (faces : List ℕ) (n : ℕ) → map (map name) polygons ≡ others → is_among (places (is_on polygons faces) (corners_of polygons)) n ≡ true → is_among (places (is_on others faces) (corners_of others)) n ≡ true
places-named name polygons others faces n e h =
    let corners = corners_of polygons in
    let inside = place-within (is_on polygons faces) corners n h in
    let named : corners_of others ≡ map name corners = ap corners_of (sym e) ∙ corners-renamed name polygons in
    let long : length (corners_of others) ≡ length corners = ap length named ∙ length-map corners name in
    let on : is_on polygons faces (get_or corners n 0) ≡ true = sym (among-places (is_on polygons faces) 0 n corners inside) ∙ h in
    among-places (is_on others faces) 0 n (corners_of others) (omega (arith, inside, long))
    ∙ ap (λ l. is_on others faces (get_or l n 0)) named
    ∙ ap (is_on others faces) (get_or-map name corners n 0 0 inside)
    ∙ on-named name polygons others faces (get_or corners n 0) e on

-- the children of selected faces of the base are present in the cut level
pub inner-there : (base cut : Level) → HaveSameFaces base cut → (predicate : FacePredicate) (depth k n : ℕ) → k ≤ depth → is_among (inner base predicate k) n ≡ true → is_among (present cut (selected_to base predicate depth) k) n ≡ true
inner-there base cut same predicate depth k n h there =
    inner-present cut (selected_to base predicate depth) k n (ap (λ ns. is_among ns n) (cut-inner base cut same predicate depth k h) ∙ there)

-- a face present in the cut level is present in the base
pub present-there : (name : ℕ → ℕ) (base cut : Level) → IsCutOf name base cut → (predicate : FacePredicate) (depth k n : ℕ) → k ≤ depth → is_among (present cut (selected_to base predicate depth) k) n ≡ true → is_among (present base predicate k) n ≡ true
present-there name base cut is predicate depth zero n h there = ap (λ count. is_among (range_with_len 0 count) n) (sym (count-same base cut (cut-faces name base cut is))) ∙ there
present-there name base cut is predicate depth (suc k) n h there =
    let same = cut-faces name base cut is in
    let level = refined_level cut k in
    let after = cut-after name base cut is k in
    places-named after.0 level.polygons (refined_level base k).polygons (selected base predicate k) n after.1.faces
    (ap (λ faces. is_among (places (is_on level.polygons faces) (corners_of level.polygons)) n) (sym (cut-selected base cut same predicate depth k (omega arith))) ∙ there)
