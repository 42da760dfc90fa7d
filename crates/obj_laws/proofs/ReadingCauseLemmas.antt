-- Reading gives only the causes of reading.
use Rattle.std.specs.Option.{option_or}
use Rattle.std.proofs.Common.{◌≡◌, ℕ, zero, suc, ◌+◌, ◌^◌, Bool, true, false, cond, List, [], ◌∷◌, length, get_or, Option, Some, None, refl}
use Rattle.std.specs.Prelude.{not, nat_lt, take, IfSome, IsTrue, option_map}
use Rattle.std.specs.List.{cons_option, filter}
use Rattle.subdiv_model.specs.Lists.{first_of}
use Rattle.subdiv_model.specs.ObjLine.{is_vertex_line}
use Rattle.subdiv_model.specs.ObjFault.{ObjCause, ObjFault, UnknownKeyword, Continuation, ShortLine, is_of_reading, first_cause}
use Rattle.subdiv_model.specs.ObjWord.{Counts, numeral_fault, corner_fault}
use Rattle.subdiv_model.specs.ObjTag.{TagKind, CreaseTag, CornerTag, HoleTag, BoundaryTag, MethodTag, DroppedTag, kind_of_name, tag_name, tag_wholes, tag_numerals, tag_strings, tag_index_fault, tag_numeral_fault, sharpness_fault, mode_fault, method_fault, index_and_sharpness_fault, tag_values_fault, tag_fault_of_kind}
use Rattle.obj_laws.proofs.FirstFaultLemmas.{first_from}
use Rattle.subdiv_model.specs.ReadObj.{counts_of, is_continued, has_known_keyword, least_values, obj_lines, fault_at, line_fault, line_fault_of_words, words_fault, values_of, wide_fault, long_fault, late_fault, lesser_fault, first_bad_line, first_late_fault, passes_bound, common_over, is_texture_line, read_obj_fault}

record IsReading (cause : Option ObjCause) : Type 0 where
  pub is : IfSome cause (λ c. IsTrue (is_of_reading c))

no-cause : IsReading None
no-cause = record { is = tt }

one-cause : (cause : ObjCause) → is_of_reading cause ≡ true → IsReading (Some cause)
one-cause cause h = record { is = h }

either : (b : Bool) (x y : Option ObjCause) → IsReading x → IsReading y → IsReading (cond b x y)
either true x y p q = p
either false x y p q = q

some-or : (x y : Option ObjCause) → IsReading x → IsReading y → IsReading (option_or x y)
some-or (Some c) y p q = p
some-or None y p q = q

cons-cause : (r : Option ObjCause) (causes : List ObjCause) → IsReading r → IsReading (first_of causes)
    → IsReading (first_of (cons_option r causes))
cons-cause (Some c) causes p q = p
cons-cause None causes p q = q

first-among : (cause_of : List ℕ → Option ObjCause) → ((word : List ℕ) → IsReading (cause_of word)) → (words : List (List ℕ))
    → IsReading (first_cause cause_of words)
first-among cause_of all [] = no-cause
first-among cause_of all (word ∷ words) = cons-cause (cause_of word) _ (all word) (first-among cause_of all words)

numeral-cause : (word : List ℕ) → IsReading (numeral_fault word)
numeral-cause word = either _ _ _ (either _ _ _ no-cause (one-cause _ refl)) (one-cause _ refl)

corner-cause : (before whole : Counts) (first word : List ℕ) → IsReading (corner_fault before whole first word)
corner-cause before whole first word = either _ _ _ (either _ _ _ (one-cause _ refl) no-cause) (one-cause _ refl)

index-cause : (count : ℕ) (word : List ℕ) → IsReading (tag_index_fault count word)
index-cause count word = either _ _ _ (either _ _ _ no-cause (one-cause _ refl)) (one-cause _ refl)

tag-numeral-cause : (word : List ℕ) → IsReading (tag_numeral_fault word)
tag-numeral-cause word = some-or (numeral_fault word) (sharpness_fault word) (numeral-cause word) (either _ _ _ (one-cause _ refl) no-cause)

both-causes : (count : ℕ) (words : List (List ℕ)) → IsReading (index_and_sharpness_fault count words)
both-causes count words =
    some-or (first_cause (tag_index_fault count) (tag_wholes words)) (first_cause tag_numeral_fault (tag_numerals words))
    (first-among (tag_index_fault count) (index-cause count) (tag_wholes words))
    (first-among tag_numeral_fault tag-numeral-cause (tag_numerals words))

values-cause : (whole : Counts) (kind : TagKind) (words : List (List ℕ)) → IsReading (tag_values_fault whole kind words)
values-cause whole CreaseTag words = both-causes whole.point_count words
values-cause whole CornerTag words = both-causes whole.point_count words
values-cause whole HoleTag words = first-among (tag_index_fault whole.face_count) (index-cause whole.face_count) (tag_wholes words)
values-cause whole BoundaryTag words = first-among mode_fault (λ word. either _ _ _ no-cause (one-cause _ refl)) (tag_wholes words)
values-cause whole MethodTag words = first-among method_fault (λ word. either _ _ _ no-cause (one-cause _ refl)) (tag_strings words)
values-cause whole DroppedTag words = no-cause

kind-cause : (whole : Counts) (kind : Option TagKind) (words : List (List ℕ)) → IsReading (tag_fault_of_kind whole kind words)
kind-cause whole None words = (one-cause _ refl)
kind-cause whole (Some kind) words = either _ _ _ (values-cause whole kind words) (one-cause _ refl)

words-cause : (before whole : Counts) (words : List (List ℕ)) → IsReading (words_fault before whole words)
words-cause before whole words =
    either _ _ _ (first-among numeral_fault numeral-cause (values_of words))
    (either _ _ _ (first-among (corner_fault before whole (get_or words 1 [])) (corner-cause before whole (get_or words 1 [])) (values_of words))
    (either _ _ _ (kind-cause whole (kind_of_name (tag_name words)) words) no-cause))

line-words-cause : (before whole : Counts) (words : List (List ℕ)) → IsReading (line_fault_of_words before whole words)
line-words-cause before whole words =
    either (is_continued words) _ _ (one-cause Continuation refl)
    (either (not (has_known_keyword words)) _ _ (one-cause UnknownKeyword refl)
    (either (nat_lt (length (values_of words)) (least_values words)) _ _ (one-cause ShortLine refl) (words-cause before whole words)))

line-cause : (before whole : Counts) (words : List (List ℕ)) → IsReading (line_fault before whole words)
line-cause before whole [] = no-cause
line-cause before whole (word ∷ words) = line-words-cause before whole (word ∷ words)

abbrev IsReadingFault : Option ObjFault → Type 0
IsReadingFault fault = IfSome fault (λ f. IsTrue (is_of_reading f.cause))

cons-fault : (i : ℕ) (r : Option ObjCause) (faults : List ObjFault) → IsReading r → IsReadingFault (first_of faults)
    → IsReadingFault (first_of (cons_option (option_map (λ cause. record { line = suc i; cause = cause }) r) faults))
cons-fault i (Some c) faults p q = p.is
cons-fault i None faults p q = q

fault-from : (cause_at : ℕ → Option ObjCause) → ((i : ℕ) → IsReading (cause_at i)) → (start count : ℕ)
    → IsReadingFault (first_from cause_at start count)
fault-from cause_at all start zero = tt
fault-from cause_at all start (suc count) = cons-fault start (cause_at start) _ (all start) (fault-from cause_at all (start + 1) count)

some-fault : (x y : Option ObjFault) → IsReadingFault x → IsReadingFault y → IsReadingFault (option_or x y)
some-fault (Some f) y p q = p
some-fault None y p q = q

choice-fault : (b : Bool) (x y : Option ObjFault) → IsReadingFault x → IsReadingFault y → IsReadingFault (cond b x y)
choice-fault true x y p q = p
choice-fault false x y p q = q

lesser-reading : (x y : Option ObjFault) → IsReadingFault x → IsReadingFault y → IsReadingFault (lesser_fault x y)
lesser-reading None y p q = q
lesser-reading (Some f) None p q = p
lesser-reading (Some f) (Some g) p q = choice-fault (nat_lt g.line f.line) (Some g) (Some f) q p

late-causes : (is_of_channel : List (List ℕ) → Bool) (start : ℕ) (lines : List (List (List ℕ)))
    → IsReadingFault (late_fault is_of_channel start lines)
late-causes is_of_channel start lines =
    choice-fault (passes_bound is_of_channel start lines) _ _
    (fault-from (wide_fault is_of_channel start lines) (λ i. either _ _ _ (one-cause _ refl) no-cause) 0 (length lines))
    (fault-from (long_fault is_of_channel (common_over start (filter is_of_channel lines)) lines) (λ i. either _ _ _ (one-cause _ refl) no-cause) 0 (length lines))

pub reading-causes : (text : List ℕ) (least : ℕ) → IsReadingFault (read_obj_fault text least)
reading-causes text least =
    let lines = obj_lines text in
    some-fault (first_bad_line lines) (first_late_fault least lines)
    (fault-from (fault_at lines) (λ i. line-cause (counts_of (take i lines)) (counts_of lines) (get_or lines i [])) 0 (length lines))
    (lesser-reading (late_fault is_vertex_line (10 ^ least) lines) (late_fault is_texture_line 1 lines) (late-causes is_vertex_line (10 ^ least) lines) (late-causes is_texture_line 1 lines))
