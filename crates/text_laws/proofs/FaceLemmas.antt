-- What the lines of faces are read as: the points of their corners, and their texture values.
use Rattle.std.proofs.Common.{◌≡◌, ℕ, zero, suc, ◌+◌, ◌<◌, pos, Bool, true, nat_lt, List, [], ◌∷◌, length, map, take, get_or, Option, Some, None, arith, refl, ap, sym, subst, ◌∙◌, add-one}
use Rattle.std.specs.Prelude.{codes, unwrap_or}
use Rattle.std.specs.List.{list_all, filter, AllByRecursion}
use Rattle.std.proofs.lemmas.Bool.{and_parts, cond-true, cond_both}
use Rattle.std.proofs.lemmas.List.Splits.{slice_split_none, slice_split_at}
use Rattle.subdiv_model.specs.Lists.{places}
use Rattle.subdiv_model.specs.Numeral.{is_slash}
use Rattle.subdiv_model.specs.NumberText.{number_text}
use Rattle.subdiv_model.specs.ObjLine.{is_face_line}
use Rattle.subdiv_model.specs.ObjWord.{Counts, corner_parts, vertex_part, texture_part, place_of_index, place_of_word}
use Rattle.subdiv_model.specs.ReadObj.{counts_of, corner_numbers, values_of}
use Rattle.subdiv_model.specs.Text.{corner_text}
use Rattle.obj_laws.proofs.PlainNumeralLemmas.{lacks, digits-lack, no-slash}
use Rattle.text_laws.proofs.ListLemmas.{map-agree, map-twice, places-map}
use Rattle.text_laws.proofs.NumberLemmas.{number-digits, index-back}
use Rattle.text_laws.proofs.LineLemmas.{lacks-all}
use Rattle.text_laws.proofs.KeptLemmas.{Words}

-- a property of all items that pass a test is one of each item that passes
pub kept-at : {X : Type 0} (test : X → Bool) (P : X → Type 0) (d : X) (xs : List X) (i : ℕ) → AllByRecursion P (filter test xs) → i < length xs
    → test (get_or xs i d) ≡ true → P (get_or xs i d)
kept-at test P d [] i all low passes = absurd (omega arith)
kept-at test P d (x ∷ xs) zero all low passes =
    let kept : AllByRecursion P (x ∷ filter test xs) = subst (AllByRecursion P) (cond-true (test x) (x ∷ filter test xs) (filter test xs) passes) all in kept.0
kept-at test P d (x ∷ xs) (suc i) all low passes =
    kept-at test P d xs i
    (cond_both (test x) (x ∷ filter test xs) (filter test xs) (λ ys. AllByRecursion P ys → AllByRecursion P (filter test xs)) (λ _ k. k.1) (λ _ k. k) all)
    (omega arith) passes

-- a word of a corner, and the number that a part of it names by its counts
module _ (count : Counts → ℕ) (part : List ℕ → List ℕ) {Item : Type 0} (word : Item → List ℕ) (number : Item → ℕ)
    (names : (item : Item) → part (word item) ≡ number_text (number item + 1)) where
  abbrev named : Counts → Counts → List ℕ → Option ℕ
  named before whole corner = place_of_word (count before) (count whole) (part corner)

  abbrev numbers_at : Counts → Counts → Words → List ℕ
  numbers_at before whole words = map (λ corner. unwrap_or (named before whole corner) 0) (values_of words)

  abbrev are_below : Counts → List Item → Bool
  are_below whole items = list_all (λ item. nat_lt (number item) (count whole)) items

  pub item-place : (before whole : Counts) (item : Item) → nat_lt (number item) (count whole) ≡ true → named before whole (word item) ≡ Some (number item)
  item-place before whole item below =
      ap (λ digits. place_of_word (count before) (count whole) digits) (names item)
      ∙ ap (place_of_index (count before) (count whole)) (index-back (number item + 1))
      ∙ ap (λ n. place_of_index (count before) (count whole) (pos n)) (add-one (number item))
      ∙ cond-true _ (Some (number item)) None below

  item-back : (before whole : Counts) (item : Item) → nat_lt (number item) (count whole) ≡ true → unwrap_or (named before whole (word item)) 0 ≡ number item
  item-back before whole item below = ap (λ place. unwrap_or place 0) (item-place before whole item below)

  line-back : (before whole : Counts) (items : List Item) → are_below whole items ≡ true → numbers_at before whole (codes "f" ∷ map word items) ≡ map number items
  line-back before whole items below =
      map-twice word (λ corner. unwrap_or (named before whole corner) 0) items
      ∙ map-agree (λ item. nat_lt (number item) (count whole)) (λ item. unwrap_or (named before whole (word item)) 0) number (item-back before whole) items below

  -- the numbers of the corners of all faces
  pub faces-back : {Face : Type 0} (lines : List Words) (items : Face → List Item) (faces : List Face)
      → filter is_face_line lines ≡ map (λ face. codes "f" ∷ map word (items face)) faces
      → list_all (λ face. are_below (counts_of lines) (items face)) faces ≡ true
      → map (corner_numbers named lines) (places is_face_line lines) ≡ map (λ face. map number (items face)) faces
  faces-back {Face} lines items faces kept below =
      let whole = counts_of lines in
      let face_words : Face → Words = λ face. codes "f" ∷ map word (items face) in
      let Same : Words → Type 0 = λ words. (before : Counts) → numbers_at before whole words ≡ numbers_at whole whole words in
      let all : AllByRecursion Same (filter is_face_line lines) = subst (AllByRecursion Same) (sym kept) (each whole faces below) in
      places-map is_face_line (corner_numbers named lines) (numbers_at whole whole) [] lines
      (λ i low passes. kept-at is_face_line Same [] lines i all low passes (counts_of (take i lines)))
      ∙ ap (map (numbers_at whole whole)) kept
      ∙ map-twice face_words (numbers_at whole whole) faces
      ∙ map-agree (λ face. are_below whole (items face)) (λ face. numbers_at whole whole (face_words face)) (λ face. map number (items face))
      (λ face h. line-back whole whole (items face) h) faces below
    where
      each : (whole : Counts) (some : List Face) → list_all (λ face. are_below whole (items face)) some ≡ true
          → AllByRecursion (λ words. (before : Counts) → numbers_at before whole words ≡ numbers_at whole whole words)
          (map (λ face. codes "f" ∷ map word (items face)) some)
      each whole [] h = tt
      each whole (face ∷ some) h =
          let parts = and_parts (are_below whole (items face)) (list_all (λ f. are_below whole (items f)) some) h in
          ((λ before. line-back before whole (items face) parts.0 ∙ sym (line-back whole whole (items face) parts.0)), each whole some parts.1)

-- digits have no slash
no-slashes : (n : ℕ) → lacks is_slash (number_text n) ≡ true
no-slashes n = digits-lack is_slash no-slash (number_text n) (number-digits n)

-- the parts of a corner
pub number-parts : (n : ℕ) → corner_parts (number_text n) ≡ number_text n ∷ []
number-parts n = slice_split_none is_slash (number_text n) (lacks-all is_slash (number_text n) (no-slashes n))

pub corner-parts : (corner : ℕ × ℕ) → corner_parts (corner_text corner) ≡ number_text (corner.0 + 1) ∷ number_text (corner.1 + 1) ∷ []
corner-parts corner =
    slice_split_at is_slash (number_text (corner.0 + 1)) 47 (number_text (corner.1 + 1)) (lacks-all is_slash _ (no-slashes (corner.0 + 1))) refl
    ∙ ap (λ parts. number_text (corner.0 + 1) ∷ parts) (number-parts (corner.1 + 1))

pub number-vertex : (n : ℕ) → vertex_part (number_text (n + 1)) ≡ number_text (n + 1)
number-vertex n = ap (λ parts. get_or parts 0 []) (number-parts (n + 1))

pub corner-vertex : (corner : ℕ × ℕ) → vertex_part (corner_text corner) ≡ number_text (corner.0 + 1)
corner-vertex corner = ap (λ parts. get_or parts 0 []) (corner-parts corner)

pub corner-texture : (corner : ℕ × ℕ) → texture_part (corner_text corner) ≡ number_text (corner.1 + 1)
corner-texture corner = ap (λ parts. get_or parts 1 []) (corner-parts corner)
