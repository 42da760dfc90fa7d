-- The sides of all faces, each with a value.
use Rattle.std.proofs.Common.{◌≡◌, ℕ, zero, suc, ◌+◌, ◌<◌, List, [], ◌∷◌, ◌++◌, length, map, get_or, arith, refl, ap, sym, ◌∙◌}
use Rattle.std.specs.List.{flat_map, range_with_len}
use Rattle.std.proofs.lemmas.List.{get_or-map, length-map, ext_get_or, map-append}
use Rattle.std.proofs.lemmas.List.Folds.{flat_map-map}
use Rattle.std.proofs.lemmas.List.FromFn.{length-map-range_with_len, get_or-map-range_with_len}
use Rattle.subdiv_model.specs.Polygons.{Polygon, sides_of, polygon_at}
use Rattle.subdiv_model.specs.Edges.{all_sides}
use Rattle.level_laws.proofs.FaceLemmas.{sides_of-length}
use Rattle.level_topology.specs.Topology.{side_at}
use Rattle.level_topology.proofs.PlaceLemmas.{side-there}

-- two functions that agree on each item give the same list
pub map-at : {X Y : Type 0} (d : X) (f g : X → Y) (xs : List X) → ((k : ℕ) → k < length xs → f (get_or xs k d) ≡ g (get_or xs k d)) → map f xs ≡ map g xs
map-at d f g [] same = refl
map-at d f g (x ∷ xs) same = ap (λ y. y ∷ map f xs) (same 0 (omega arith)) ∙ ap (λ ys. g x ∷ ys) (map-at d f g xs (λ k h. same (suc k) (omega arith)))

-- a side with its value
abbrev pub with_own : {Y : Type 0} → (ℕ × ℕ → Y) → ℕ × ℕ → (ℕ × ℕ) × Y
with_own own side = (side, own side)

-- joined lists by the places of their parts
flat-places : {X : Type 0} (parts : Polygon → List X) (polygons : List Polygon) → flat_map parts polygons ≡ flat_map (λ f. parts (polygon_at polygons f)) (range_with_len 0 (length polygons))
flat-places parts polygons =
    let size = length-map-range_with_len (polygon_at polygons) 0 (length polygons) in
    let same : polygons ≡ map (polygon_at polygons) (range_with_len 0 (length polygons)) =
    ext_get_or [] polygons (map (polygon_at polygons) (range_with_len 0 (length polygons))) (sym size) (λ f h. sym (get_or-map-range_with_len (polygon_at polygons) 0 (length polygons) f f [] h (omega arith))) in
    ap (flat_map parts) same ∙ flat_map-map parts (polygon_at polygons) (range_with_len 0 (length polygons))

-- lists that are joined are equal if their parts are
flat-agree : {X : Type 0} (f g : ℕ → List X) (a n : ℕ) → ((k : ℕ) → k < a + n → f k ≡ g k) → flat_map f (range_with_len a n) ≡ flat_map g (range_with_len a n)
flat-agree f g a zero same = refl
flat-agree f g a (suc n) same = ap (λ xs. xs ++ flat_map f (range_with_len (a + 1) n)) (same a (omega arith)) ∙ ap (λ xs. g a ++ xs) (flat-agree f g (a + 1) n (λ k h. same k (omega arith)))

-- a function over lists that are joined is the function over each part
map-flat : {X Y Z : Type 0} (h : Y → Z) (parts : X → List Y) (xs : List X) → map h (flat_map parts xs) ≡ flat_map (λ x. map h (parts x)) xs
map-flat h parts [] = refl
map-flat h parts (x ∷ xs) = map-append h (parts x) (flat_map parts xs) ∙ ap (λ ys. map h (parts x) ++ ys) (map-flat h parts xs)

-- the sides of a polygon, from corner to corner
pub sides-listed : {Y : Type 0} (own : ℕ × ℕ → Y) (side : ℕ → (ℕ × ℕ) × Y) (none : (ℕ × ℕ) × Y) (polygon : Polygon) → ((c : ℕ) → c < length polygon → side c ≡ with_own own (side_at polygon c)) → map side (range_with_len 0 (length polygon)) ≡ map (with_own own) (sides_of polygon)
sides-listed own side none polygon each =
    let size = length-map-range_with_len side 0 (length polygon) in
    ext_get_or none (map side (range_with_len 0 (length polygon))) (map (with_own own) (sides_of polygon)) (size ∙ sym (length-map (sides_of polygon) (with_own own) ∙ sides_of-length polygon)) (λ c h.
    let corner : c < length polygon = omega (arith, h, size) in
    get_or-map-range_with_len side 0 (length polygon) c c none corner (omega arith)
    ∙ each c corner
    ∙ sym (get_or-map (with_own own) (sides_of polygon) c (0, 0) none (omega (arith, corner, sides_of-length polygon)) ∙ ap (with_own own) (side-there polygon c corner)))

-- the sides of all polygons, from polygon to polygon
pub all-listed : {Y : Type 0} (own : ℕ × ℕ → Y) (sides : ℕ → List ((ℕ × ℕ) × Y)) (count : ℕ) (polygons : List Polygon) → length polygons ≡ count → ((f : ℕ) → f < count → sides f ≡ map (with_own own) (sides_of (polygon_at polygons f)))
    → flat_map sides (range_with_len 0 count) ≡ map (with_own own) (all_sides polygons)
all-listed own sides count polygons size each =
    flat-agree sides (λ f. map (with_own own) (sides_of (polygon_at polygons f))) 0 count (λ f h. each f (omega (arith, h)))
    ∙ ap (λ (n : ℕ). flat_map (λ f. map (with_own own) (sides_of (polygon_at polygons f))) (range_with_len 0 n)) (sym size)
    ∙ sym (map-flat (with_own own) sides_of polygons ∙ flat-places (λ polygon. map (with_own own) (sides_of polygon)) polygons)
