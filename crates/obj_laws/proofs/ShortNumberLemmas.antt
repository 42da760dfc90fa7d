-- A text without fault has common denominators of at most 10^37, and short coordinates over them.
use Rattle.std.proofs.Common.{◌≡◌, ℕ, suc, ◌<◌, ◌≤◌, ◌^◌, ◌||◌, ◌&&◌, Bool, true, false, not, nat_lt, List, [], ◌∷◌, length, map, get_or, take, drop, if◌then◌else◌, Option, Some, None, arith, refl, ap, codes, ltb-false, lit≤}
use Rattle.std.specs.Option.{option_or}
use Rattle.std.specs.List.{All, filter, list_any, AllByRecursion}
use Rattle.std.proofs.lemmas.Bool.{cond_both}
use Rattle.std.proofs.lemmas.List.Elements.{All-from_recursion}
use Rattle.std.proofs.lemmas.Bool.Decides.{nat_tests}
use Rattle.std.proofs.lemmas.Slice.Eq.{bytes_eq-Decides}
use Rattle.subdiv_model.specs.ObjLine.{is_vertex_line, is_face_line}
use Rattle.subdiv_model.specs.ObjFault.{ObjCause, ObjFault}
use Rattle.subdiv_model.specs.ObjWord.{Counts, number_over}
use Rattle.subdiv_model.specs.ReadObj.{obj_lines, line_fault, fault_at, counts_of, values_of, is_tag_line, is_texture_line, is_continued, has_known_keyword, least_values, words_fault, common_over, passes_bound, is_long_over, has_long_number, long_fault, first_fault, late_fault, lesser_fault, first_bad_line, first_late_fault, lines_fault, read_obj_fault, position_common, texture_common_of, point_over, texture_over, read_obj_mesh}
use Rattle.obj_laws.proofs.RangeLemmas.{grows}
use Rattle.obj_laws.proofs.ChannelBoundLemmas.{all-within}
use Rattle.obj_laws.proofs.FirstFaultLemmas.{each-good}
use Rattle.obj_laws.proofs.ObjGoodLemmas.{or-else-none}
use Rattle.subdiv_model.specs.Short.{IsShort, IsShortPoint, IsShortTexture}

-- if there is no first and no second choice, there is no second
second-none : (first second : Option ObjFault) → option_or first second ≡ None → second ≡ None
second-none None second h = h
second-none (Some fault) second h = absurd (cc)

lesser-none : (one other : Option ObjFault) → lesser_fault one other ≡ None → one ≡ None
lesser-none None other h = refl
lesser-none (Some fault) None h = absurd (cc)
lesser-none (Some fault) (Some other) h = both (nat_lt other.line fault.line) h
  where
    both : (b : Bool) → (if b then Some other else Some fault) ≡ None → Some fault ≡ None
    both true k = absurd (cc)
    both false k = absurd (cc)

other-none : (one other : Option ObjFault) → lesser_fault one other ≡ None → other ≡ None
other-none None other h = h
other-none (Some fault) None h = refl
other-none (Some fault) (Some other) h = both (nat_lt other.line fault.line) h
  where
    both : (b : Bool) → (if b then Some other else Some fault) ≡ None → Some other ≡ None
    both true k = absurd (cc)
    both false k = absurd (cc)

-- a common denominator within its bound
within-bound : (kind : List (List ℕ) → Bool) (start : ℕ) (lines : List (List (List ℕ))) → common_over start (filter kind lines) ≤ 10 ^ 37 → passes_bound kind start lines ≡ false
within-bound kind start lines h = go (passes_bound kind start lines) refl
  where
    go : (b : Bool) → passes_bound kind start lines ≡ b → passes_bound kind start lines ≡ false
    go true e = absurd (grind (arith, nat_tests))
    go false e = e

-- the common denominator of a channel without a late fault is at most 10^37, if it starts so
channel-bounded : (kind : List (List ℕ) → Bool) (start : ℕ) (lines : List (List (List ℕ))) → start ≤ 10 ^ 37 → late_fault kind start lines ≡ None
    → common_over start (filter kind lines) ≤ 10 ^ 37
channel-bounded kind start lines low none =
    ltb-false (10 ^ 37) (common_over start (filter kind lines)) (all-within kind start lines (within-bound kind start [] low) none)

module _ (lines : List (List (List ℕ))) (least : ℕ) (good : lines_fault lines least ≡ None) where
  -- neither channel of lines without fault has a late fault
  vertex-late : late_fault is_vertex_line (10 ^ least) lines ≡ None
  vertex-late = lesser-none (late_fault is_vertex_line (10 ^ least) lines) _ (second-none (first_bad_line lines) (first_late_fault least lines) good)

  texture-late : late_fault is_texture_line 1 lines ≡ None
  texture-late = other-none _ (late_fault is_texture_line 1 lines) (second-none (first_bad_line lines) (first_late_fault least lines) good)

  -- both common denominators of lines without fault are at most 10^37
  pub positions-bounded : least ≤ 37 → position_common least lines ≤ 10 ^ 37
  positions-bounded few = channel-bounded is_vertex_line (10 ^ least) lines (grows least 37 few) vertex-late

  pub texture-bounded : texture_common_of lines ≤ 10 ^ 37
  texture-bounded = channel-bounded is_texture_line 1 lines (lit≤ tt) texture-late

no-long-fault : (kind : List (List ℕ) → Bool) (start : ℕ) (lines : List (List (List ℕ))) → passes_bound kind start lines ≡ false
    → late_fault kind start lines ≡ None → first_fault (long_fault kind (common_over start (filter kind lines)) lines) (length lines) ≡ None
no-long-fault kind start lines few none = (rw few at none)

-- a line of the channel has no long number
not-long : (b c : Bool) (cause : ObjCause) → (if b && c then Some cause else None) ≡ None → b ≡ true → c ≡ false
not-long true true cause h k = absurd (cc)
not-long true false cause h k = refl
not-long false c cause h k = absurd (cc)

-- a good line of a point has three values
long-enough : (a b c : Bool) (x y z : ObjCause) (r : Option ObjCause) → (if a then Some x else if b then Some y else if c then Some z else r) ≡ None → c ≡ false
long-enough true b c x y z r h = absurd (cc)
long-enough false true c x y z r h = absurd (cc)
long-enough false false true x y z r h = absurd (cc)
long-enough false false false x y z r h = refl

vertex-long : (before whole : Counts) (words : List (List ℕ)) → is_vertex_line words ≡ true → line_fault before whole words ≡ None → 3 ≤ length (values_of words)
vertex-long before whole [] vertex good = absurd (cc)
vertex-long before whole (keyword ∷ values) vertex good =
    let words = keyword ∷ values in
    let long = long-enough (is_continued words) (not (has_known_keyword words)) (nat_lt (length (values_of words)) (least_values words)) _ _ _ (words_fault before whole words) good in
    let least : least_values words ≡ 3 = ap (λ b. if b then 3 else if is_tag_line words then 2 else if is_texture_line words || is_face_line words then 1 else 0) vertex in
    grind (arith, nat_tests, least)

short-word : (common : ℕ) (word : List ℕ) → is_long_over common word ≡ false → IsShort (number_over common word)
short-word common word h = grind (arith, nat_tests)

three-words : (common : ℕ) (words : List (List ℕ)) → 3 ≤ length (drop 1 words) → list_any (is_long_over common) (take 3 (drop 1 words)) ≡ false → IsShortPoint (point_over common words)
three-words common [] long h = absurd (omega (arith, long))
three-words common (k ∷ []) long h = absurd (omega (arith, long))
three-words common (k ∷ (a ∷ [])) long h = absurd (omega (arith, long))
three-words common (k ∷ (a ∷ (b ∷ []))) long h = absurd (omega (arith, long))
three-words common (k ∷ (a ∷ (b ∷ (c ∷ words)))) long h =
    let parts = three (is_long_over common a) (is_long_over common b) (is_long_over common c) h in
    (short-word common a parts.0, short-word common b parts.1, short-word common c parts.2)
  where
    three : (x y z : Bool) → (x || (y || (z || false))) ≡ false → (x ≡ false) × (y ≡ false) × (z ≡ false)
    three false false false e = (refl, refl, refl)
    three true y z e = absurd (cc)
    three false true z e = absurd (cc)
    three false false true e = absurd (cc)

-- a property of the items made from each line of a kind
all-made : {X Y : Type 0} (kind : X → Bool) (make : X → Y) (P : Y → Type 0) (d : X) (xs : List X)
    → ((i : ℕ) → i < length xs → kind (get_or xs i d) ≡ true → P (make (get_or xs i d))) → AllByRecursion P (map make (filter kind xs))
all-made kind make P d [] h = tt
all-made kind make P d (x ∷ xs) h =
    let rest = all-made kind make P d xs (λ i low is. h (suc i) (omega arith) is) in
    cond_both (kind x) (x ∷ filter kind xs) (filter kind xs) (λ ys. AllByRecursion P (map make ys)) (λ is. (h 0 (omega arith) is, rest)) (λ _. rest)

pub coordinates-short : (text : List ℕ) (least : ℕ) → read_obj_fault text least ≡ None → (read_obj_mesh text least).common ≤ 10 ^ 37
    → All IsShortPoint (read_obj_mesh text least).points
coordinates-short text least good few =
    let lines = obj_lines text in
    let common = position_common least lines in
    let start = 10 ^ least in
    let bad = first_bad_line lines in
    let none = or-else-none bad (first_late_fault least lines) good in
    let fine = no-long-fault is_vertex_line start lines (within-bound is_vertex_line start lines few) (vertex-late lines least good) in
    All-from_recursion IsShortPoint (read_obj_mesh text least).points
    (all-made is_vertex_line (point_over common) IsShortPoint [] lines
    (λ i within is.
    three-words common (get_or lines i [])
    (vertex-long (counts_of (take i lines)) (counts_of lines) (get_or lines i []) is (each-good (fault_at lines) (length lines) none i within))
    (kept common (get_or lines i []) is (not-long (is_vertex_line (get_or lines i [])) _ _ (each-good (long_fault is_vertex_line common lines) (length lines) fine i within) is))))
  where
    kept : (common : ℕ) (words : List (List ℕ)) → is_vertex_line words ≡ true → has_long_number common words ≡ false → list_any (is_long_over common) (take 3 (values_of words)) ≡ false
    kept common words is h = (rw is at h)

-- a line of a texture value is none of a point, and has a value
not-vertex : (words : List (List ℕ)) → is_texture_line words ≡ true → is_vertex_line words ≡ false
not-vertex [] is = absurd (cc)
not-vertex (keyword ∷ values) is = ap (λ word. is_vertex_line (word ∷ values)) ((bytes_eq-Decides keyword (codes "vt")).0 is)

texture-long : (before whole : Counts) (words : List (List ℕ)) → is_texture_line words ≡ true → line_fault before whole words ≡ None → 1 ≤ length (values_of words)
texture-long before whole [] texture good = absurd (cc)
texture-long before whole (keyword ∷ values) texture good =
    let words = keyword ∷ values in
    let long = long-enough (is_continued words) (not (has_known_keyword words)) (nat_lt (length (values_of words)) (least_values words)) _ _ _ (words_fault before whole words) good in
    let least : least_values words ≡ 1 = least-of (is_vertex_line words) (is_tag_line words) (is_texture_line words) (is_face_line words) 3 2 1 0 (not-vertex words texture) (no-tag words texture) texture in
    grind (arith, nat_tests, least)
  where
    no-tag : (words : List (List ℕ)) → is_texture_line words ≡ true → is_tag_line words ≡ false
    no-tag [] is = absurd (cc)
    no-tag (keyword ∷ values) is = ap (λ word. is_tag_line (word ∷ values)) ((bytes_eq-Decides keyword (codes "vt")).0 is)

    least-of : (vertex tag texture face : Bool) (three two one none : ℕ) → vertex ≡ false → tag ≡ false → texture ≡ true →
        (if vertex then three else if tag then two else if texture || face then one else none) ≡ one
    least-of false false true face three two one none e f g = refl
    least-of true tag texture face three two one none e f g = absurd (cc)
    least-of false true texture face three two one none e f g = absurd (cc)
    least-of false false false face three two one none e f g = absurd (cc)

-- the values of a line are short if the ones it has are
two-words : (common : ℕ) (words : List (List ℕ)) → 1 ≤ length (drop 1 words) → list_any (is_long_over common) (take 2 (drop 1 words)) ≡ false → IsShortTexture (texture_over common words)
two-words common [] long h = absurd (omega (arith, long))
two-words common (k ∷ []) long h = absurd (omega (arith, long))
two-words common (k ∷ (a ∷ [])) long h = (short-word common a (first (is_long_over common a) h), omega arith)
  where
    first : (x : Bool) → (x || false) ≡ false → x ≡ false
    first false e = refl
    first true e = absurd (cc)
two-words common (k ∷ (a ∷ (b ∷ words))) long h =
    let parts = two (is_long_over common a) (is_long_over common b) h in
    (short-word common a parts.0, short-word common b parts.1)
  where
    two : (x y : Bool) → (x || (y || false)) ≡ false → (x ≡ false) × (y ≡ false)
    two false false e = (refl, refl)
    two true y e = absurd (cc)
    two false true e = absurd (cc)

pub texture-short : (text : List ℕ) (least : ℕ) → read_obj_fault text least ≡ None → (read_obj_mesh text least).texture_common ≤ 10 ^ 37
    → All IsShortTexture (read_obj_mesh text least).texture
texture-short text least good few =
    let lines = obj_lines text in
    let common = texture_common_of lines in
    let bad = first_bad_line lines in
    let none = or-else-none bad (first_late_fault least lines) good in
    let fine = no-long-fault is_texture_line 1 lines (within-bound is_texture_line 1 lines few) (texture-late lines least good) in
    All-from_recursion IsShortTexture (read_obj_mesh text least).texture
    (all-made is_texture_line (texture_over common) IsShortTexture [] lines
    (λ i within is.
    two-words common (get_or lines i [])
    (texture-long (counts_of (take i lines)) (counts_of lines) (get_or lines i []) is (each-good (fault_at lines) (length lines) none i within))
    (kept common (get_or lines i []) is (not-long (is_texture_line (get_or lines i [])) _ _ (each-good (long_fault is_texture_line common lines) (length lines) fine i within) is))))
  where
    kept : (common : ℕ) (words : List (List ℕ)) → is_texture_line words ≡ true → has_long_number common words ≡ false → list_any (is_long_over common) (take 2 (values_of words)) ≡ false
    kept common words is h = (rw (not-vertex words is, is) at h)
