-- The parts of a corner: an index has no slash.
use Rattle.std.proofs.Common.{◌≡◌, ◌⊎◌, inl, inr, ℕ, ℤ, pos, negsuc, FitsSigned, Some, None, ◌≤◌, Bool, true, false, ◌&&◌, nat_eq, nat_le, List, [], ◌∷◌, length, arith, refl, ap, sym, ◌∙◌, ⊎_elim, if◌then◌else◌}
use Rattle.std.specs.List.{slice_split, list_all, position_or_len, after_first}
use Rattle.std.proofs.lemmas.Bool.{cases_lt}
use Rattle.std.proofs.lemmas.Bool.Decides.{nat_tests}
use Rattle.std.proofs.lemmas.List.Splits.{slice_split_first, length-slice_split, slice_split-cons_no}
use Rattle.subdiv_model.specs.ObjTag.{are_counts}
use Rattle.subdiv_model.specs.Digits.{is_digit, is_digits}
use Rattle.subdiv_model.specs.Numeral.{are_digits}
use Rattle.subdiv_model.specs.Index.{is_index, nearest_index}
use Rattle.subdiv_model.specs.Numeral.{is_slash}
use Rattle.subdiv_model.specs.ObjWord.{are_corner_parts}
use Rattle.std.specs.Int.{w64, saturate_to_bits}
use Rattle.obj_tags.proofs.SplitLemmas.{one-part}
use Rattle.obj_tags.specs.Corner.{IsReadAs}

and-split : (p q : Bool) → p && q ≡ true → (p ≡ true) × (q ≡ true)
and-split true q h = (refl, h)
and-split false q h = cc

digit-no-slash : (b : ℕ) → is_digit b ≡ true → is_slash b ≡ false
digit-no-slash b h = grind (arith, nat_tests)

-- digits have no slash among them
digits-part : (digits : List ℕ) → list_all is_digit digits ≡ true → slice_split is_slash digits ≡ digits ∷ []
digits-part [] h = refl
digits-part (b ∷ digits) h =
    let s = and-split (is_digit b) (list_all is_digit digits) h in
    slice_split-cons_no is_slash b digits (digit-no-slash b s.0) ∙ rw (digits-part digits s.1) refl

-- nor has an index
pub index-part : (word : List ℕ) → is_index word ≡ true → slice_split is_slash word ≡ word ∷ []
index-part [] h = refl
index-part (b ∷ word) h = by-minus (nat_eq b 45) refl
  where
    by-minus : (t : Bool) → nat_eq b 45 ≡ t → slice_split is_slash (b ∷ word) ≡ (b ∷ word) ∷ []
    by-minus true e =
        let digits : are_digits word ≡ true = sym (ap (λ c. are_digits (if c then word else b ∷ word)) e) ∙ h in
        let no : is_slash b ≡ false = grind (arith, nat_tests) in
        slice_split-cons_no is_slash b word no ∙ rw (digits-part word (and-split (nat_le 1 (length word)) (list_all is_digit word) digits).1) refl
    by-minus false e =
        let digits : are_digits (b ∷ word) ≡ true = sym (ap (λ c. are_digits (if c then word else b ∷ word)) e) ∙ h in
        digits-part (b ∷ word) (and-split (nat_le 1 (length (b ∷ word))) (list_all is_digit (b ∷ word)) digits).1

-- a word is one part, or has two or more
one-or-more : (word : List ℕ) → (slice_split is_slash word ≡ word ∷ []) ⊎ (2 ≤ length (slice_split is_slash word))
one-or-more word =
    ⊎_elim (λ h. inr (omega (arith, ap length (slice_split_first is_slash word 0 h), length-slice_split is_slash (after_first is_slash word))))
    (λ h. inl (one-part is_slash word h)) (cases_lt (position_or_len is_slash word) (length word))

many-parts : (a b : List ℕ) (parts : List (List ℕ)) → 2 ≤ length parts → are_corner_parts (a ∷ b ∷ parts) ≡ false
many-parts a b [] h = absurd (omega arith)
many-parts a b (c ∷ []) h = absurd (omega arith)
many-parts a b (c ∷ d ∷ parts) h = refl

-- The part for the normal is not an index.
pub no-normal : (a b normal : List ℕ) → is_index normal ≡ false → are_corner_parts (a ∷ b ∷ slice_split is_slash normal) ≡ false
no-normal a b normal h =
    ⊎_elim (λ e. ap (λ parts. are_corner_parts (a ∷ b ∷ parts)) e ∙ rw h (grind (arith, nat_tests)))
    (λ k. many-parts a b (slice_split is_slash normal) k) (one-or-more normal)

-- three parts with an empty one between
pub three-without-texture : (vertex : ℤ) (a b normal : List ℕ) → is_index a ≡ true → vertex ≡ nearest_index a → is_index normal ≡ true
    → nat_eq (length b) 0 ≡ true
    → IsReadAs (Some (record { vertex = vertex; texture = None; has_normal = true })) (a ∷ b ∷ slice_split is_slash normal)
three-without-texture vertex a b normal is e last none =
    rw (index-part normal last) (rw (is, none, last) refl, record { vertex = e; texture = none; normal = refl })

-- three parts, each an index
pub three-with-texture : (vertex texture : ℤ) (a b normal : List ℕ) → is_index a ≡ true → vertex ≡ nearest_index a
    → is_index normal ≡ true → nat_eq (length b) 0 ≡ false → is_index b ≡ true → texture ≡ nearest_index b
    → IsReadAs (Some (record { vertex = vertex; texture = Some texture; has_normal = true })) (a ∷ b ∷ slice_split is_slash normal)
three-with-texture vertex texture a b normal is e last some index f =
    rw (index-part normal last) (rw (is, some, index, last) refl, record { vertex = e; texture = (some, f); normal = refl })

-- an index that is read fits 64 bits
pub index_fits : (word : List ℕ) (z : ℤ) → z ≡ nearest_index word → FitsSigned w64 z
index_fits word z e = rw e (nearest-fits _)
  where
    nearest-fits : (z : ℤ) → FitsSigned w64 (saturate_to_bits 63 z)
    nearest-fits (pos n) = grind arith
    nearest-fits (negsuc n) = grind arith

-- the last count of a tag has no slash
pub count_part : (word : List ℕ) → is_digits 9 word ≡ true → slice_split is_slash word ≡ word ∷ []
count_part word h = digits-part word (and-split (nat_le 1 (length word) && nat_le (length word) 9) (list_all is_digit word) h).1

pub no_count : (a b word : List ℕ) → is_digits 9 word ≡ false → are_counts (a ∷ b ∷ slice_split is_slash word) ≡ false
no_count a b word h =
    ⊎_elim (λ e. ap (λ parts. are_counts (a ∷ b ∷ parts)) e ∙ rw h (grind (arith, nat_tests)))
    (λ k. many-counts a b (slice_split is_slash word) k) (one-or-more word)
  where
    many-counts : (a b : List ℕ) (parts : List (List ℕ)) → 2 ≤ length parts → are_counts (a ∷ b ∷ parts) ≡ false
    many-counts a b [] h = absurd (omega arith)
    many-counts a b (c ∷ []) h = absurd (omega arith)
    many-counts a b (c ∷ d ∷ parts) h = grind (arith, nat_tests)
