-- What holds of the words, corners and tags of a line that has no fault.
use Rattle.std.specs.Option.{option_or}
use Rattle.std.proofs.Common.{◌≡◌, ℕ, zero, suc, ◌-◌, ◌<◌, ◌≤◌, ℤ, pos, negsuc, unsigned_abs, Bool, true, false, ◌&&◌, nat_lt, List, [], ◌∷◌, length, drop, get_or, Option, Some, None, arith, refl, ap, sym, subst, true≢false, ◌∙◌, if◌then◌else◌}
use Rattle.std.specs.Prelude.{is_some, is_none, unwrap_or, bytes_eq, codes, zip}
use Rattle.std.specs.List.{list_all, filter_map, cons_option}
use Rattle.std.specs.Cmp.Lexicographic.{same_text}
use Rattle.std.proofs.lemmas.Bool.{and_parts, and_from, or_parts, ltb-true, lt-ltb}
use Rattle.std.proofs.lemmas.List.Folds.{list_all-map}
use Rattle.subdiv_model.specs.Lists.{first_of}
use Rattle.subdiv_model.specs.ObjLine.{is_face_line}
use Rattle.subdiv_model.specs.Index.{is_index, index_of}
use Rattle.subdiv_model.specs.ObjFault.{ObjCause, first_cause}
use Rattle.subdiv_model.specs.ObjWord.{Counts, place_of_index, corner_point, corner_texture, corner_fault, is_face_corner, same_form, is_past_lists, has_texture_part}
use Rattle.subdiv_model.specs.ObjTag.{TagKind, kind_of_name, tag_name, fits_counts, tag_values_fault, tag_fault_of_kind, tag_fault, is_below, tag_index_fault, tag_wholes, tag_indices, tag_creases, tag_corners, chain_pairs}
use Rattle.subdiv_model.specs.ReadObj.{line_fault, is_continued, values_of, is_tag_line}
use Rattle.obj_laws.proofs.ObjLineLemmas.{keyword-first}

good-word : (cause_of : List ℕ → Option ObjCause) (word : List ℕ) (words : List (List ℕ)) (r : Option ObjCause) → r ≡ cause_of word
    → first_of (cons_option r (filter_map cause_of words)) ≡ None → (cause_of word ≡ None) × (first_cause cause_of words ≡ None)
good-word cause_of word words None e h = (sym e, h)
good-word cause_of word words (Some cause) e h = absurd (true≢false (ap is_some h))

-- words without fault all have what a word without fault has
pub all-good : (cause_of : List ℕ → Option ObjCause) (P : List ℕ → Bool) → ((word : List ℕ) → cause_of word ≡ None → P word ≡ true)
    → (words : List (List ℕ)) → first_cause cause_of words ≡ None → list_all P words ≡ true
all-good cause_of P has [] h = refl
all-good cause_of P has (word ∷ words) h =
    let parts : (cause_of word ≡ None) × (first_cause cause_of words ≡ None) = good-word cause_of word words (cause_of word) refl h in
    and_from _ _ (has word parts.0) (all-good cause_of P has words parts.1)

-- good words that pass the first test pass the second
pub all-good-where : (cause_of : List ℕ → Option ObjCause) (R P : List ℕ → Bool)
    → ((word : List ℕ) → cause_of word ≡ None → R word ≡ true → P word ≡ true) → (words : List (List ℕ))
    → first_cause cause_of words ≡ None → list_all R words ≡ true → list_all P words ≡ true
all-good-where cause_of R P has [] h k = refl
all-good-where cause_of R P has (word ∷ words) h k =
    let parts : (cause_of word ≡ None) × (first_cause cause_of words ≡ None) = good-word cause_of word words (cause_of word) refl h in
    let passes : (R word ≡ true) × (list_all R words ≡ true) = and_parts _ _ k in
    and_from _ _ (has word parts.0 passes.0) (all-good-where cause_of R P has words parts.1 passes.1)

taken : (b : Bool) (n m : ℕ) → is_none (if b then Some n else None) ≡ false → (b ≡ true → nat_lt n m ≡ true)
    → nat_lt (unwrap_or (if b then Some n else None) 0) m ≡ true
taken true n m h k = k refl
taken false n m h k = absurd (true≢false h)

-- a place that an index names is in the list
place-below : (before whole : ℕ) (i : ℤ) → before ≤ whole → is_none (place_of_index before whole i) ≡ false
    → nat_lt (unwrap_or (place_of_index before whole i) 0) whole ≡ true
place-below before whole (pos zero) le h = absurd (true≢false h)
place-below before whole (pos (suc n)) le h = taken (nat_lt n whole) n whole h (λ below. below)
place-below before whole (negsuc n) le h =
    taken (nat_lt n before) (before - suc n) whole h (λ below. let less : n < before = ltb-true n before below in lt-ltb (before - suc n) whole (omega arith))

corner-parts : (b c : Bool) (x y : ObjCause) → (if b then if c then Some x else None else Some y) ≡ None → c ≡ false
corner-parts true true x y h = absurd (true≢false (ap is_some h))
corner-parts true false x y h = refl
corner-parts false c x y h = absurd (true≢false (ap is_some h))

in-lists : (before whole : Counts) (first corner : List ℕ) → corner_fault before whole first corner ≡ None
    → is_past_lists before whole corner ≡ false
in-lists before whole first corner h = corner-parts (is_face_corner corner && same_form first corner) (is_past_lists before whole corner) _ _ h

-- a corner without fault names a point
pub point-below : (before whole : Counts) (first corner : List ℕ) → before.point_count ≤ whole.point_count
    → corner_fault before whole first corner ≡ None → nat_lt (unwrap_or (corner_point before whole corner) 0) whole.point_count ≡ true
point-below before whole first corner le h =
    place-below before.point_count whole.point_count _ le (or_parts _ _ (in-lists before whole first corner h)).0

second-part : (b c : Bool) → b ≡ true → b && c ≡ false → c ≡ false
second-part true c e h = h
second-part false c e h = absurd (true≢false (sym e))

-- the texture value of a good corner is in its list
pub texture-below : (before whole : Counts) (first corner : List ℕ) → before.texture_count ≤ whole.texture_count
    → corner_fault before whole first corner ≡ None → has_texture_part corner ≡ true
    → nat_lt (unwrap_or (corner_texture before whole corner) 0) whole.texture_count ≡ true
texture-below before whole first corner le h has =
    place-below before.texture_count whole.texture_count _ le (second-part _ _ has (or_parts _ _ (in-lists before whole first corner h)).1)

past-two : (b c : Bool) (x y : ObjCause) (r : Option ObjCause) → (if b then Some x else if c then Some y else r) ≡ None → r ≡ None
past-two true c x y r h = absurd (true≢false (ap is_some h))
past-two false true x y r h = absurd (true≢false (ap is_some h))
past-two false false x y r h = h

-- a face line without fault has no bad corner
pub face-corners : (before whole : Counts) (words : List (List ℕ)) → is_face_line words ≡ true → line_fault before whole words ≡ None
    → first_cause (corner_fault before whole (get_or words 1 [])) (values_of words) ≡ None
face-corners before whole words is h =
    subst (λ ws. line_fault before whole ws ≡ None → first_cause (corner_fault before whole (get_or ws 1 [])) (values_of ws) ≡ None) (sym (keyword-first (codes "f") words is))
    (λ good. past-two (is_continued (codes "f" ∷ drop 1 words)) (nat_lt (length (drop 1 words)) 1) _ _ _ good) h

-- a tag line without fault has a good tag
pub tag-good : (before whole : Counts) (words : List (List ℕ)) → is_tag_line words ≡ true → line_fault before whole words ≡ None
    → tag_fault whole words ≡ None
tag-good before whole words is h =
    subst (λ ws. line_fault before whole ws ≡ None → tag_fault whole ws ≡ None) (sym (keyword-first (codes "t") words is))
    (λ good. past-two (is_continued (codes "t" ∷ drop 1 words)) (nat_lt (length (drop 1 words)) 2) _ _ _ good) h

fitting : (b : Bool) (x : ObjCause) (r : Option ObjCause) → (if b then r else Some x) ≡ None → r ≡ None
fitting true x r h = h
fitting false x r h = absurd (true≢false (ap is_some h))

-- the values of a good tag are good
pub tag-values-good : (whole : Counts) (name : List ℕ) (kind : TagKind) (words : List (List ℕ)) → kind_of_name name ≡ Some kind
    → bytes_eq (tag_name words) name ≡ true → tag_fault whole words ≡ None → tag_values_fault whole kind words ≡ None
tag-values-good whole name kind words known named h =
    let same : kind_of_name (tag_name words) ≡ Some kind = ap kind_of_name (same_text (tag_name words) name (sym named)) ∙ known in
    fitting (fits_counts kind words) _ _ (ap (λ k. tag_fault_of_kind whole k words) (sym same) ∙ h)

pub or-else-none : {X : Type 0} (first second : Option X) → option_or first second ≡ None → first ≡ None
or-else-none None second h = refl
or-else-none (Some x) second h = absurd (true≢false (ap is_some h))

index-parts : (b c : Bool) (x y : ObjCause) → (if b then if c then None else Some x else Some y) ≡ None → c ≡ true
index-parts true true x y h = refl
index-parts true false x y h = absurd (true≢false (ap is_some h))
index-parts false c x y h = absurd (true≢false (ap is_some h))

amount-below : (count : ℕ) (i : ℤ) → is_below count i ≡ true → nat_lt (unsigned_abs i) count ≡ true
amount-below count (pos n) h = h
amount-below count (negsuc n) h = absurd (true≢false (sym h))

abbrev pub are-below : ℕ → List ℕ → Bool
are-below count numbers = list_all (λ v. nat_lt v count) numbers

-- the indices of a tag without fault are in their list
pub indices-below : (count : ℕ) (words : List (List ℕ)) → first_cause (tag_index_fault count) (tag_wholes words) ≡ None
    → are-below count (tag_indices words) ≡ true
indices-below count words h =
    list_all-map (λ v. nat_lt v count) (λ word. unsigned_abs (index_of word)) (tag_wholes words)
    ∙ all-good (tag_index_fault count) (λ word. nat_lt (unsigned_abs (index_of word)) count) (λ word good. amount-below count (index_of word) (index-parts (is_index word) (is_below count (index_of word)) _ _ good)) (tag_wholes words) h

zip-both : {X Y : Type 0} (P : X → Bool) (Q : Y → Bool) (xs : List X) (ys : List Y) → list_all P xs ≡ true → list_all Q ys ≡ true
    → list_all (λ z. P z.0 && Q z.1) (zip xs ys) ≡ true
zip-both P Q [] ys h k = refl
zip-both P Q (x ∷ xs) [] h k = refl
zip-both P Q (x ∷ xs) (y ∷ ys) h k =
    let first : (P x ≡ true) × (list_all P xs ≡ true) = and_parts _ _ h in
    let second : (Q y ≡ true) × (list_all Q ys ≡ true) = and_parts _ _ k in
    and_from _ _ (and_from _ _ first.0 second.0) (zip-both P Q xs ys first.1 second.1)

zip-first : {X Y : Type 0} (P : X → Bool) (xs : List X) (ys : List Y) → list_all P xs ≡ true → list_all (λ z. P z.0) (zip xs ys) ≡ true
zip-first P [] ys h = refl
zip-first P (x ∷ xs) [] h = refl
zip-first P (x ∷ xs) (y ∷ ys) h =
    let parts : (P x ≡ true) × (list_all P xs ≡ true) = and_parts _ _ h in
    and_from _ _ parts.0 (zip-first P xs ys parts.1)

without-first : (P : ℕ → Bool) (xs : List ℕ) → list_all P xs ≡ true → list_all P (drop 1 xs) ≡ true
without-first P [] h = refl
without-first P (x ∷ xs) h = (and_parts _ _ h).1

-- the vertices of creases and corner tags are points
pub creases-below : (count : ℕ) (words : List (List ℕ)) → are-below count (tag_indices words) ≡ true
    → list_all (λ crease. nat_lt crease.0.0 count && nat_lt crease.0.1 count) (tag_creases words) ≡ true
creases-below count words h =
    zip-first (λ pair. nat_lt pair.0 count && nat_lt pair.1 count) (chain_pairs (tag_indices words)) _
    (zip-both (λ v. nat_lt v count) (λ v. nat_lt v count) (tag_indices words) (drop 1 (tag_indices words)) h (without-first (λ v. nat_lt v count) (tag_indices words) h))

pub corners-below : (count : ℕ) (words : List (List ℕ)) → are-below count (tag_indices words) ≡ true
    → list_all (λ corner. nat_lt corner.0 count) (tag_corners words) ≡ true
corners-below count words h = zip-first (λ v. nat_lt v count) (tag_indices words) _ h
