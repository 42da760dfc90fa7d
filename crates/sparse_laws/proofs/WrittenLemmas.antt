-- The output of a sparse level is the output of the definitions.
use Rattle.std.proofs.Common.{◌≡◌, ℕ, ◌<◌, Bool, true, false, not, ◌&&◌, nat_eq, nat_lt, List, [], ◌∷◌, ◌++◌, length, map, get_or, refl, ap, sym, ◌∙◌, if◌then◌else◌}
use Rattle.std.specs.List.{filter, list_all, position_or_len, range_with_len}
use Rattle.std.proofs.lemmas.Bool.{ltb-true, lt-ltb}
use Rattle.std.proofs.lemmas.List.{length-map, map-append}
use Rattle.subdiv_model.specs.Lists.{each_once_by}
use Rattle.subdiv_model.specs.Polygons.{Polygon, is_among, polygon_at}
use Rattle.subdiv_model.specs.Level.{Level, is_hole}
use Rattle.subdiv_model.specs.Child.{refined_level}
use Rattle.subdiv_model.specs.Sparse.{corners_of, inner, present_points, selected}
use Rattle.subdiv_model.specs.SparseText.{FaceKind, HoleFace, OuterFace, SelectedFace, LeafFace, WrittenFace, WrittenLevel, written_points, written_face, written_level}
use Rattle.mesh_laws.proofs.ClosedLemmas.{all-at}
use Rattle.number_laws.proofs.CountLemmas.{all-flat_map}
use Rattle.part_laws.specs.Parts.{is_corner, face_in}
use Rattle.part_laws.proofs.ListLemmas.{map-agree, map-twice, any-mapped, all-filtered, all-once}
use Rattle.part_laws.proofs.RenamedLemmas.{number-renamed}
use Rattle.part_laws.proofs.PartLemmas.{own-corners, polygon-in}
use Rattle.part_laws.proofs.MaskLemmas.{faces-apart}
use Rattle.sparse_laws.specs.SparseLevels.{name_in}
use Rattle.sparse_laws.specs.Selected.{is_selected_in}
use Rattle.sparse_laws.specs.Written.{used_points, written_in, written_here}
use Rattle.sparse_laws.specs.Laws.{SparseRefinement, AgreeingTest, chosen_by}
use Rattle.sparse_laws.proofs.OnceLemmas.{each-once-map, position-map}
use Rattle.sparse_laws.proofs.SelectedLemmas.{inner-mark, numbers-read, range-below, selected-same, selected-chosen}

-- the corners of renamed polygons are the corners, renamed
pub corners-renamed : (name : ℕ → ℕ) (polygons : List Polygon) → corners_of (map (map name) polygons) ≡ map name (corners_of polygons)
corners-renamed name [] = refl
corners-renamed name (polygon ∷ polygons) = ap (λ l. map name polygon ++ l) (corners-renamed name polygons) ∙ sym (map-append name polygon (corners_of polygons))

-- all vertices of corners are corners of the polygons
pub own-corners-of : (polygons : List Polygon) → list_all (is_corner polygons) (corners_of polygons) ≡ true
own-corners-of polygons = all-flat_map (is_corner polygons) (λ polygon. polygon) polygons ∙ own-corners polygons

-- the kind of a face, from whether it is a hole, inner and selected
abbrev kind_by : Bool → Bool → Bool → FaceKind
kind_by hole within chosen = if hole then HoleFace else if not within then OuterFace else if chosen then SelectedFace else LeafFace

kind-alike : (a b c d i j : Bool) → a ≡ b → c ≡ d → i ≡ j → kind_by a c i ≡ kind_by b d j
kind-alike a b c d i j one two three = rw (one, two, three) refl

abbrev face_by : FaceKind → ℕ → Polygon → WrittenFace
face_by kind number corners = record { kind = kind; number = number; corners = corners }

face-alike : (number : ℕ) (a b : FaceKind) (c d : Polygon) → a ≡ b → c ≡ d → face_by a number c ≡ face_by b number d
face-alike number a b c d one two = rw (one, two) refl

abbrev level_by : ℕ → List WrittenFace → WrittenLevel
level_by count faces = record { point_count = count; faces = faces }

level-alike : (m n : ℕ) (a b : List WrittenFace) → m ≡ n → a ≡ b → level_by m a ≡ level_by n b
level-alike m n a b one two = rw (one, two) refl

-- a test that no item passes keeps no item
filter-off-all : (ns : List ℕ) → filter (λ n. false) ns ≡ []
filter-off-all [] = refl
filter-off-all (n ∷ ns) = filter-off-all ns

none-among : (ns : List ℕ) (n : ℕ) → ns ≡ [] → is_among ns n ≡ false
none-among ns n e = rw e refl

module _ (kept : SparseRefinement) where
  abbrev name : ℕ → ℕ
  name = name_in (present_points kept.base kept.predicate kept.sparse.depth)

  abbrev polygons : List Polygon
  polygons = kept.sparse.level.polygons

  abbrev whole : Level
  whole = refined_level kept.base kept.sparse.depth

  abbrev numbers : List ℕ
  numbers = kept.sparse.numbers

  -- the points that are written, by their names
  pub points-written : written_points kept.base kept.predicate kept.sparse.depth ≡ map (name_in (present_points kept.base kept.predicate kept.sparse.depth)) (used_points kept.sparse.level)
  points-written =
      ap (λ ns. each_once_by nat_eq (corners_of (map (polygon_at whole.polygons) ns))) (sym kept.is.numbers)
      ∙ ap (λ some. each_once_by nat_eq (corners_of some)) (sym kept.is.part.polygons.same)
      ∙ ap (each_once_by nat_eq) (corners-renamed name polygons)
      ∙ each-once-map name (is_corner polygons) kept.is.part.polygons.apart (corners_of polygons) (own-corners-of polygons)

  -- each of the used points is a corner
  pub own-used : list_all (is_corner kept.sparse.level.polygons) (used_points kept.sparse.level) ≡ true
  own-used = all-once nat_eq (is_corner polygons) (corners_of polygons) (own-corners-of polygons)

  corners-written : (f : ℕ) → f < length polygons → map (λ v. position_or_len (nat_eq v) (used_points kept.sparse.level)) (polygon_at polygons f) ≡ map (λ v. position_or_len (nat_eq v) (written_points kept.base kept.predicate kept.sparse.depth)) (polygon_at whole.polygons (face_in numbers f))
  corners-written f inside =
      let used = used_points kept.sparse.level in
      let own = all-at (list_all (is_corner polygons)) polygons f [] inside (own-corners polygons) in
      sym (map-agree (is_corner polygons) (λ v. position_or_len (nat_eq (name v)) (map name used)) (λ v. position_or_len (nat_eq v) used) (λ v h. position-map name (is_corner polygons) kept.is.part.polygons.apart v h used own-used) (polygon_at polygons f) own)
      ∙ sym (map-twice name (λ v. position_or_len (nat_eq v) (map name used)) (polygon_at polygons f))
      ∙ ap (map (λ v. position_or_len (nat_eq v) (map name used))) (polygon-in name numbers polygons whole.polygons kept.is.part.polygons f inside)
      ∙ ap (λ ns. map (λ v. position_or_len (nat_eq v) ns) (polygon_at whole.polygons (face_in numbers f))) (sym points-written)

  -- the output of each face is that of its number in the definitions, if the selected faces are the same
  module _ (some : List ℕ) (alike : (f : ℕ) → f < length polygons → is_among some f ≡ is_among (selected kept.base kept.predicate kept.sparse.depth) (face_in numbers f)) where
    face-written : (f : ℕ) → nat_lt f (length polygons) ≡ true → written_in kept.sparse some f ≡ written_face kept.base kept.predicate kept.sparse.depth (face_in numbers f)
    face-written f below =
        let inside = ltb-true f (length polygons) below in
        face-alike (face_in numbers f) _ _ _ _
        (kind-alike _ _ _ _ _ _ (kept.is.part.holes f inside) (inner-mark kept f inside) (alike f inside))
        (corners-written f inside)

    pub same-written : written_here kept.sparse some ≡ written_level kept.base kept.predicate kept.sparse.depth
    same-written =
        level-alike _ _ _ _
        (sym (length-map (used_points kept.sparse.level) name) ∙ ap length (sym points-written))
        (map-agree (λ f. nat_lt f (length polygons)) (written_in kept.sparse some) (λ f. written_face kept.base kept.predicate kept.sparse.depth (face_in numbers f)) face-written (range_with_len 0 (length polygons)) (range-below (length polygons))
        ∙ sym (map-twice (face_in numbers) (written_face kept.base kept.predicate kept.sparse.depth) (range_with_len 0 (length polygons)))
        ∙ ap (map (written_face kept.base kept.predicate kept.sparse.depth)) (numbers-read kept ∙ kept.is.numbers))

  -- a face is among some faces exactly where its number is among their numbers
  among-numbers : (some : List ℕ) → list_all (λ f. nat_lt f (length polygons)) some ≡ true → (f : ℕ) → f < length polygons → is_among (map (face_in numbers) some) (face_in numbers f) ≡ is_among some f
  among-numbers some below f inside =
      any-mapped (λ k. nat_lt k (length polygons)) (face_in numbers) (nat_eq f) (nat_eq (face_in numbers f)) (λ k h. number-renamed (face_in numbers) (λ i. nat_lt i (length polygons)) (faces-apart name numbers polygons whole.polygons kept.is.part.polygons) f k (lt-ltb f (length polygons) inside) h) some below

  -- the faces that a test selects
  pub written-refined : (by : AgreeingTest kept) → written_here kept.sparse (chosen_by by) ≡ written_level kept.base kept.predicate kept.sparse.depth
  written-refined by =
      same-written (chosen_by by) (λ f inside.
      sym (among-numbers (chosen_by by) (all-filtered (is_selected_in by.test kept.sparse) (λ k. nat_lt k (length polygons)) (range_with_len 0 (length polygons)) (range-below (length polygons))) f inside)
      ∙ ap (λ ns. is_among ns (face_in numbers f)) (selected-same kept by))

  -- the output where the predicate has no faces
  pub written-last : get_or kept.predicate kept.sparse.depth [] ≡ [] → written_here kept.sparse [] ≡ written_level kept.base kept.predicate kept.sparse.depth
  written-last none =
      let ins = inner kept.base kept.predicate kept.sparse.depth in
      let empty : selected kept.base kept.predicate kept.sparse.depth ≡ [] =
      selected-chosen kept.base kept.predicate kept.sparse.depth
      ∙ ap (λ ns. filter (λ face. is_among ns face && not (is_hole whole face)) ins) none
      ∙ filter-off-all ins in
      same-written [] (λ f inside. sym (none-among (selected kept.base kept.predicate kept.sparse.depth) (face_in numbers f) empty))
