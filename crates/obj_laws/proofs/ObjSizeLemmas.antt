-- Words, corners and lines take bytes: a word at least one and a blank between each two.
use Rattle.std.proofs.Common.{◌≡◌, ℕ, suc, ◌+◌, ◌*◌, ◌<◌, ◌≤◌, Bool, true, false, cond, not, nat_eq, List, [], ◌∷◌, length, map, take, drop, get_or, min, arith, refl, ap, sym, subst, ◌∙◌, ⊎_elim}
use Rattle.std.specs.Prelude.{unwrap_or, bytes_eq, codes}
use Rattle.std.specs.List.{filter, slice_split, onto_first, prefix_len, sum_by}
use Rattle.std.proofs.lemmas.Bool.{cases_Bool, cond_both, cond-true, cond-false}
use Rattle.std.proofs.lemmas.Bool.Decides.{nat_tests}
use Rattle.std.proofs.lemmas.List.{length-map, length-take, length-drop}
use Rattle.std.proofs.lemmas.List.Sums.{sum_by-cons}
use Rattle.std.proofs.lemmas.List.Splits.{slice_split-cons_yes, slice_split-cons_no}
use Rattle.std.proofs.lemmas.List.Folds.{fold-map}
use Rattle.subdiv_model.specs.Lists.{places, places_from}
use Rattle.subdiv_model.specs.ObjLine.{closed_lines, lines_of, is_face_line, is_blank, runs_of, opens_comment, line_words}
use Rattle.subdiv_model.specs.ObjWord.{corner_point}
use Rattle.subdiv_model.specs.ReadObj.{obj_lines, without_mark, byte_order_mark, counts_of, values_of, corner_numbers, faces_of, read_obj_mesh}
use Rattle.obj_laws.proofs.ObjLineLemmas.{keyword-first}

abbrev has_bytes : List ℕ → Bool
has_bytes run = not (nat_eq (length run) 0)

-- a byte is free where the first part is empty
abbrev first-empty : List (List ℕ) → ℕ
first-empty [] = 1
first-empty ([] ∷ parts) = 1
first-empty ((b ∷ part) ∷ parts) = 0

abbrev runs-in : List (List ℕ) → ℕ
runs-in parts = length (filter has_bytes parts)

runs-some : (b : ℕ) (run : List ℕ) (parts : List (List ℕ)) → runs-in ((b ∷ run) ∷ parts) ≡ 1 + runs-in parts
runs-some b run parts = grind (arith, nat_tests)

-- one more byte that is no blank makes one more run only where the first part was empty
onto-runs : (b : ℕ) (parts : List (List ℕ))
    → (runs-in (onto_first b parts) ≤ runs-in parts + first-empty parts) × (first-empty (onto_first b parts) ≡ 0)
onto-runs b [] = let new = runs-some b [] [] in (omega (arith, new), refl)
onto-runs b ([] ∷ parts) = let new = runs-some b [] parts in (omega (arith, new), refl)
onto-runs b ((c ∷ part) ∷ parts) =
    let new = runs-some b (c ∷ part) parts in
    let old = runs-some c part parts in
    (omega (arith, new, old), refl)

first-empty-most : (parts : List (List ℕ)) → first-empty parts ≤ 1
first-empty-most [] = omega arith
first-empty-most ([] ∷ parts) = omega arith
first-empty-most ((b ∷ part) ∷ parts) = omega arith

split-runs : (line : List ℕ) → 2 * runs-in (slice_split is_blank line) + first-empty (slice_split is_blank line) ≤ length line + 1
split-runs [] = omega arith
split-runs (b ∷ line) =
    let parts = slice_split is_blank line in
    let rest = split-runs line in
    ⊎_elim
    (λ (blank : is_blank b ≡ true). subst (λ ps. 2 * runs-in ps + first-empty ps ≤ suc (length line) + 1) (sym (slice_split-cons_yes is_blank b line blank)) (omega (arith, rest)))
    (λ (other : is_blank b ≡ false).
    let onto = onto-runs b parts in
    let most = first-empty-most parts in
    subst (λ ps. 2 * runs-in ps + first-empty ps ≤ suc (length line) + 1) (sym (slice_split-cons_no is_blank b line other)) (omega (arith, rest, onto.0, onto.1, most)))
    (cases_Bool (is_blank b))

-- half as many words as bytes
pub line-words-half : (line : List ℕ) → 2 * length (line_words line) ≤ length line + 1
line-words-half line =
    let all = split-runs line in
    let kept : length (line_words line) ≡ min (prefix_len (λ run. not (opens_comment run)) (runs_of line)) (runs-in (slice_split is_blank line)) = length-take _ (runs_of line) in
    omega (arith, all, kept)

sum-lengths-onto : (b : ℕ) (parts : List (List ℕ)) → sum_by length (onto_first b parts) ≤ sum_by length parts + 1
sum-lengths-onto b [] = omega arith
sum-lengths-onto b (part ∷ parts) =
    let new = sum_by-cons length (b ∷ part) parts in
    let old = sum_by-cons length part parts in
    omega (arith, new, old)

-- the parts of a text take no more bytes than the text
sum-lengths-split : (p : ℕ → Bool) (text : List ℕ) → sum_by length (slice_split p text) ≤ length text
sum-lengths-split p [] = omega arith
sum-lengths-split p (b ∷ text) =
    let rest = sum-lengths-split p text in
    ⊎_elim
    (λ (cut : p b ≡ true).
    let sum = sum_by-cons length [] (slice_split p text) in
    subst (λ ps. sum_by length ps ≤ suc (length text)) (sym (slice_split-cons_yes p b text cut)) (omega (arith, rest, sum)))
    (λ (other : p b ≡ false).
    let onto = sum-lengths-onto b (slice_split p text) in
    subst (λ ps. sum_by length ps ≤ suc (length text)) (sym (slice_split-cons_no p b text other)) (omega (arith, rest, onto)))
    (cases_Bool (p b))

sum-lengths-closed : (parts : List (List ℕ)) → sum_by length (closed_lines parts) ≤ sum_by length parts
sum-lengths-closed [] = omega arith
sum-lengths-closed (line ∷ []) = cond_both (nat_eq (length line) 0) [] (line ∷ []) (λ ls. sum_by length ls ≤ sum_by length (line ∷ [])) (λ _. omega arith) (λ _. omega arith)
sum-lengths-closed (line ∷ (next ∷ lines)) =
    let rest = sum-lengths-closed (next ∷ lines) in
    let new = sum_by-cons length line (closed_lines (next ∷ lines)) in
    let old = sum_by-cons length line (next ∷ lines) in
    omega (arith, rest, new, old)

-- the bytes of the lines are bytes of the text
pub lines-bytes : (text : List ℕ) → sum_by length (lines_of text) ≤ length text
lines-bytes text =
    let closed = sum-lengths-closed (slice_split (λ b. nat_eq b 10) text) in
    let split = sum-lengths-split (λ b. nat_eq b 10) text in
    omega (arith, closed, split)

-- two bytes for each corner and one for each face
abbrev face-bytes : List ℕ → ℕ
face-bytes face = 2 * length face + 1

abbrev line-bytes : List (List ℕ) → ℕ
line-bytes words = cond (is_face_line words) (2 * length (values_of words) + 1) 0

line-bytes-most : (line : List ℕ) → line-bytes (line_words line) ≤ length line
line-bytes-most line =
    let half = line-words-half line in
    let words = line_words line in
    cond_both (is_face_line words) (2 * length (values_of words) + 1) 0 (λ n. n ≤ length line)
    (λ is.
    let split : length words ≡ suc (length (drop 1 words)) = ap length (keyword-first (codes "f") words is) in
    omega (arith, half, split))
    (λ _. omega arith)

lines-bytes-most : (lines : List (List ℕ)) → sum_by line-bytes (map line_words lines) ≤ sum_by length lines
lines-bytes-most [] = omega arith
lines-bytes-most (line ∷ lines) =
    let rest = lines-bytes-most lines in
    let here = line-bytes-most line in
    let new = sum_by-cons line-bytes (line_words line) (map line_words lines) in
    let old = sum_by-cons length line lines in
    omega (arith, rest, here, new, old)

sum-places-from : {X : Type 0} (test : X → Bool) (f : ℕ → ℕ) (g : X → ℕ) (d : X) (place : ℕ) (xs : List X)
    → ((i : ℕ) → i < length xs → f (place + i) ≡ g (get_or xs i d))
    → sum_by f (places_from place test xs) ≡ sum_by (λ x. cond (test x) (g x) 0) xs
sum-places-from test f g d place [] h = refl
sum-places-from test f g d place (x ∷ xs) h =
    let rest : sum_by f (places_from (place + 1) test xs) ≡ sum_by (λ y. cond (test y) (g y) 0) xs =
    sum-places-from test f g d (place + 1) xs (λ i low. let e : place + 1 + i ≡ place + suc i = omega arith in ap f e ∙ h (suc i) (omega arith)) in
    let first : place ≡ place + 0 = omega arith in
    let here : f place ≡ g x = ap f first ∙ h 0 (omega arith) in
    let new = sum_by-cons f place (places_from (place + 1) test xs) in
    let sum : sum_by (λ y. cond (test y) (g y) 0) (x ∷ xs) ≡ cond (test x) (g x) 0 + sum_by (λ y. cond (test y) (g y) 0) xs = sum_by-cons (λ y. cond (test y) (g y) 0) x xs in
    cond_both (test x) (place ∷ places_from (place + 1) test xs) (places_from (place + 1) test xs) (λ ps. sum_by f ps ≡ sum_by (λ y. cond (test y) (g y) 0) (x ∷ xs))
    (λ passes. let one : cond (test x) (g x) 0 ≡ g x = cond-true (test x) (g x) 0 passes in omega (arith, rest, here, new, sum, one))
    (λ fails. let none : cond (test x) (g x) 0 ≡ 0 = cond-false (test x) (g x) 0 fails in omega (arith, rest, sum, none))

sum-faces : (faces : List (List ℕ)) → sum_by face-bytes faces ≡ 2 * sum_by length faces + length faces
sum-faces [] = refl
sum-faces (face ∷ faces) =
    let rest = sum-faces faces in
    let new = sum_by-cons face-bytes face faces in
    let old = sum_by-cons length face faces in
    omega (arith, rest, new, old)

faces-bytes : (lines : List (List (List ℕ))) → sum_by face-bytes (faces_of lines) ≡ sum_by line-bytes lines
faces-bytes lines =
    fold-map (λ n face. n + face-bytes face) (corner_numbers corner_point lines) 0 (places is_face_line lines)
    ∙ sum-places-from is_face_line (λ i. face-bytes (corner_numbers corner_point lines i)) (λ words. 2 * length (values_of words) + 1) [] 0 lines
    (λ i low.
    let e : 0 + i ≡ i = omega arith in
    ap (λ j. face-bytes (corner_numbers corner_point lines j)) e
    ∙ ap (λ n. 2 * n + 1) (length-map (values_of (get_or lines i [])) (λ corner. unwrap_or (corner_point (counts_of (take i lines)) (counts_of lines) corner) 0)))

pub without-mark-bytes : (text : List ℕ) → length (without_mark text) ≤ length text
without-mark-bytes text =
    cond_both (bytes_eq (take 3 text) byte_order_mark) (drop 3 text) text (λ t. length t ≤ length text)
    (λ _. let less = length-drop 3 text in omega (arith, less)) (λ _. omega arith)

-- each corner takes two bytes of the text, and each face one more
pub corners-bytes : (text : List ℕ) (least : ℕ)
    → 2 * sum_by length (read_obj_mesh text least).faces + length (read_obj_mesh text least).faces ≤ length text
corners-bytes text least =
    let lines = lines_of (without_mark text) in
    let faces = faces_of (obj_lines text) in
    let sum : sum_by face-bytes faces ≡ 2 * sum_by length faces + length faces = sum-faces faces in
    let all : sum_by face-bytes faces ≡ sum_by line-bytes (obj_lines text) = faces-bytes (obj_lines text) in
    let most : sum_by line-bytes (obj_lines text) ≤ sum_by length lines = lines-bytes-most lines in
    let bytes = lines-bytes (without_mark text) in
    let mark = without-mark-bytes text in
    omega (arith, sum, all, most, bytes, mark)
