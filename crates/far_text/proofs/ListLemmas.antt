-- The lines of a list's items, with a test that says which items have a line.
use Rattle.std.proofs.Common.{◌≡◌, ℕ, suc, ◌+◌, ◌<◌, ◌≤◌, Bool, true, false, not, ◌&&◌, ◌||◌, List, [], ◌∷◌, ◌++◌, length, map, zip, get_or, take, take_all, arith, refl, ap, sym, ◌∙◌, IsTrue, if◌then◌else◌}
use Rattle.std.specs.List.{flat_map, filter, range_with_len}
use Rattle.std.proofs.Math.ListN.{get_or-map}
use Rattle.std.proofs.lemmas.List.{length-map}
use Rattle.std.proofs.lemmas.Slice.Zip.{firsts-zip, get_or-zip}
use Rattle.std.proofs.lemmas.Bool.{eqb-true}
use Rattle.std.proofs.lemmas.Bool.Decides.{nat_tests}
use Rattle.subdiv_model.specs.Polygons.{Polygon, polygon_at}
use Rattle.subdiv_model.specs.Level.{Level, is_hole, is_well_formed}
use Rattle.subdiv_model.specs.Text.{face_line, textured_face_line, shown}
use Rattle.far_text.specs.Lines.{text_where, shown_face, shown_textured_face}

-- one item and the others
one-item : {X : Type 0} (b : Bool) (text : X → List ℕ) (x : X) (others : List X) →
    (if b then text x else []) ++ flat_map text others ≡ flat_map text (if b then x ∷ others else others)
one-item true text x others = refl
one-item false text x others = refl

-- the texts of the items that pass, and nothing of the others
pub texts-filter : {X : Type 0} (test : X → Bool) (text : X → List ℕ) (xs : List X) →
    flat_map (text_where test text) xs ≡ flat_map text (filter test xs)
texts-filter test text [] = refl
texts-filter test text (x ∷ xs) =
    ap (λ rest. text_where test text x ++ rest) (texts-filter test text xs) ∙ one-item (test x) text x (filter test xs)

-- an item with its mark, and the others
one-marked : {X : Type 0} (b : Bool) (text : X → List ℕ) (x : X) (mark : Bool) (others : List (X × Bool)) →
    (if b then text x else []) ++ flat_map text (map (λ item. item.0) others)
    ≡ flat_map text (map (λ item. item.0) (if b then (x, mark) ∷ others else others))
one-marked true text x mark others = refl
one-marked false text x mark others = refl

-- the text of a face's item if the face is shown, from the faces' numbers
module _ {X : Type 0} (all : Bool) (level : Level) (text : X → List ℕ) (item_at : ℕ → X) (none : X) where
  -- from number k on, where `items` and `holes` are those of the level's faces
  shown-from : (k : ℕ) (items : List X) (holes : List Bool) → length holes ≡ length items →
      ((i : ℕ) → i < length items → item_at (k + i) ≡ get_or items i none) → ((i : ℕ) → get_or level.holes (k + i) false ≡ get_or holes i false) →
      flat_map (text_where (λ f. all || not (is_hole level f)) (λ f. text (item_at f))) (range_with_len k (length items))
      ≡ flat_map text (map (λ item. item.0) (filter (λ item. all || not item.1) (zip items holes)))
  shown-from k [] holes e same marked = refl
  shown-from k (x ∷ items) [] e same marked = absurd (omega arith)
  shown-from k (x ∷ items) (hole ∷ holes) e same marked =
      let here : k ≡ k + 0 = omega arith in
      let further : (i : ℕ) → (k + 1) + i ≡ k + suc i = λ i. omega arith in
      let there : item_at k ≡ x = ap item_at here ∙ same 0 (omega arith) in
      let mark : get_or level.holes k false ≡ hole = ap (λ n. get_or level.holes n false) here ∙ marked 0 in
      let others = filter (λ item. all || not item.1) (zip items holes) in
      ap (λ rest. text_where (λ f. all || not (is_hole level f)) (λ f. text (item_at f)) k ++ rest)
      (shown-from (k + 1) items holes (omega (arith, e))
      (λ i within. ap item_at (further i) ∙ same (suc i) (omega (arith, within)))
      (λ i. ap (λ n. get_or level.holes n false) (further i) ∙ marked (suc i)))
      ∙ ap (λ (y : X). (if all || not (get_or level.holes k false) then text y else []) ++ flat_map text (map (λ item. item.0) others)) there
      ∙ ap (λ b. (if all || not b then text x else []) ++ flat_map text (map (λ item. item.0) others)) mark
      ∙ one-marked (all || not hole) text x hole others

second-of-six : (a b c d e f : Bool) → (a && b && c && d && e && f) ≡ true → b ≡ true
second-of-six a b c d e f h = grind (arith, nat_tests)

-- there is a mark for each face
marks : (level : Level) → IsTrue (is_well_formed level) → length level.holes ≡ length level.polygons
marks level formed = eqb-true _ _ (second-of-six _ _ _ _ _ _ formed)

-- the texts of the items of the faces that are shown, from the faces' numbers
shown-items : {X : Type 0} (all : Bool) (level : Level) (text : X → List ℕ) (item_at : ℕ → X) (none : X) (items : List X) → IsTrue (is_well_formed level) →
    length items ≡ length level.polygons → ((i : ℕ) → i < length items → item_at i ≡ get_or items i none) →
    flat_map (text_where (λ f. all || not (is_hole level f)) (λ f. text (item_at f))) (range_with_len 0 (length level.polygons)) ≡ flat_map text (shown all level items)
shown-items all level text item_at none items formed as_many same =
    let from_zero : (i : ℕ) → 0 + i ≡ i = λ i. omega arith in
    ap (λ n. flat_map (text_where (λ f. all || not (is_hole level f)) (λ f. text (item_at f))) (range_with_len 0 n)) (sym as_many)
    ∙ shown-from all level text item_at none 0 items level.holes (marks level formed ∙ sym as_many)
    (λ i within. ap item_at (from_zero i) ∙ same i within) (λ i. ap (λ n. get_or level.holes n false) (from_zero i))

-- the lines of the faces that are shown
pub shown-faces : (all : Bool) (level : Level) → IsTrue (is_well_formed level) →
    flat_map (shown_face all level) (range_with_len 0 (length level.polygons)) ≡ flat_map face_line (shown all level level.polygons)
shown-faces all level formed = shown-items all level face_line (polygon_at level.polygons) [] level.polygons formed refl (λ i within. refl)

-- two lists of faces with as many corners each have the same length, and so have the corners of their faces
pub alike-faces : (ps qs : List Polygon) → map length qs ≡ map length ps → length qs ≡ length ps
alike-faces ps qs alike = sym (length-map qs length) ∙ ap length alike ∙ length-map ps length

pub alike-corners : (ps qs : List Polygon) (f : ℕ) → map length qs ≡ map length ps → length (polygon_at qs f) ≡ length (polygon_at ps f)
alike-corners ps qs f alike = sym (get_or-map length qs f []) ∙ ap (λ (sizes : List ℕ). get_or sizes f 0) alike ∙ get_or-map length ps f []

-- the number of pairs is that of items in the first of two lists of one length
pub zip-long : {X Y : Type 0} (xs : List X) (ys : List Y) → length ys ≡ length xs → length (zip xs ys) ≡ length xs
zip-long xs ys e = sym (length-map (zip xs ys) (λ p. p.0)) ∙ ap length (firsts-zip xs ys e)

-- each item has a pair: the item, and the one at its place in the other list
pub pair-there : {X Y : Type 0} (xs : List X) (ys : List Y) (i : ℕ) → length ys ≡ length xs → i < length xs → i < length (zip xs ys)
pair-there xs ys i e within = omega (arith, within, zip-long xs ys e)

pub pair-at : {X Y : Type 0} (xs : List X) (ys : List Y) (i : ℕ) (d : X × Y) → length ys ≡ length xs → i < length xs →
    (get_or xs i d.0, get_or ys i d.1) ≡ get_or (zip xs ys) i d
pair-at xs ys i d e within = sym (get_or-zip xs ys i d within (omega (arith, within, e)))

-- all pairs
pub all-pairs : {X Y : Type 0} (xs : List X) (ys : List Y) (i : ℕ) → length ys ≡ length xs → length xs ≤ i → take i (zip xs ys) ≡ zip xs ys
all-pairs xs ys i e h = take_all i (zip xs ys) (omega (arith, h, zip-long xs ys e))

-- the lines of the faces that are shown, with their texture points
pub shown-textured-faces : (all : Bool) (level cut : Level) → IsTrue (is_well_formed level) → map length cut.polygons ≡ map length level.polygons →
    flat_map (shown_textured_face all level cut) (range_with_len 0 (length level.polygons))
    ≡ flat_map textured_face_line (shown all level (zip level.polygons cut.polygons))
shown-textured-faces all level cut formed alike =
    let as_many : length cut.polygons ≡ length level.polygons = alike-faces level.polygons cut.polygons alike in
    shown-items all level textured_face_line (λ f. (polygon_at level.polygons f, polygon_at cut.polygons f)) ([], []) (zip level.polygons cut.polygons) formed
    (zip-long level.polygons cut.polygons as_many)
    (λ i within. pair-at level.polygons cut.polygons i ([], []) as_many (omega (arith, within, zip-long level.polygons cut.polygons as_many)))
