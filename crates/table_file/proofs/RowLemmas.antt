-- The words of a row, and a row that is in range.
use Rattle.std.proofs.Common.{◌≡◌, ℕ, zero, suc, ◌+◌, ◌%◌, ◌<◌, ◌≤◌, Bool, true, false, not, ◌&&◌, nat_eq, nat_le, nat_lt, List, [], ◌∷◌, length, map, get_or, codes, Option, Some, None, MatchOption, is_some, option_map, if◌then◌else◌, arith, refl, ap, sym, ◌∙◌, subst, add-one}
use Rattle.std.specs.List.{list_all}
use Rattle.std.specs.Borrow.{Bor}
use Rattle.std.specs.Str.{bytes_eq}
use Rattle.std.proofs.lemmas.List.{length-map}
use Rattle.std.proofs.lemmas.Bool.{and_parts}
use Rattle.std.proofs.lemmas.Bool.Decides.{nat_tests}
use Rattle.subdiv_model.specs.Channel.{number_bound}
use Rattle.subdiv_model.specs.Digits.{is_number_word}
use Rattle.subdiv_model.specs.ReadTable.{Header, row_of_words, is_row_form, is_term, are_shares_in_range, is_row_in_range}
use Rattle.subdiv_model.specs.Table.{Share, Row, IsRow, total_of}
use Rattle.subdiv_model.specs.TableFault as model
use Rattle.table_file.specs.declared.fault.TableCause.{TableCause}
use Rattle.table_file.specs.declared.row.RowWords.{RowWords}
use Rattle.table_file.specs.declared.words.Words.{Words}
use Rattle.stencil_apply.specs.declared.entry.Entry.{Entry}
use Rattle.table_file.specs.Row.{IsInRange, IsRowForm, row_in, cause_in_range}
use Rattle.table_file.specs.View.{cause_of}
use Rattle.table_file.specs.Words.{words_left, are_number_pairs, is_share_in_range}

and-no : (b : Bool) → (b && false) ≡ false
and-no true = refl
and-no false = refl

-- two numbers more before others
more : (x y z r : Bool) → ((x && y) && (r && z)) ≡ (r && (x && (y && z)))
more true true z r = refl
more true false z r = sym (and-no r)
more false y z r = sym (and-no r)

parity : (n : ℕ) → nat_eq (n % 2) 0 ≡ nat_eq ((n + 2) % 2) 0
parity n = ap (λ k. nat_eq k 0) (omega arith)

parity-of : (first second : List ℕ) (words : List (List ℕ)) → nat_eq (length words % 2) 0 ≡ nat_eq (length (first ∷ (second ∷ words)) % 2) 0
parity-of first second words = parity (length words) ∙ ap (λ n. nat_eq (n % 2) 0) (omega arith)

pairs-are : (words : List (List ℕ)) → are_number_pairs words ≡ (nat_eq (length words % 2) 0 && list_all is_number_word words)
pairs-are [] = refl
pairs-are (control ∷ []) = refl
pairs-are (control ∷ (numerator ∷ words)) =
    ap (λ b. (is_number_word control && is_number_word numerator) && b) (pairs-are words ∙ ap (λ b. b && list_all is_number_word words) (parity-of control numerator words))
    ∙ more (is_number_word control) (is_number_word numerator) (list_all is_number_word words) (nat_eq (length (control ∷ (numerator ∷ words)) % 2) 0)

pairs-numbers : (words : List (List ℕ)) → are_number_pairs words ≡ true → list_all is_number_word words ≡ true
pairs-numbers words h = (and_parts (nat_eq (length words % 2) 0) (list_all is_number_word words) (sym (pairs-are words) ∙ h)).1

form-order : (r k d z : Bool) → ((r && k) && (d && z)) ≡ (k && (d && (r && z)))
form-order true k d z = refl
form-order false k d z = sym (ap (λ b. k && b) (and-no d) ∙ and-no k)

two-le : (n : ℕ) → nat_le 2 (n + 2) ≡ true
two-le n = grind (arith, nat_tests)

row-form : (keyword den : List ℕ) (words : List (List ℕ)) →
    is_row_form (keyword ∷ (den ∷ words)) ≡ (bytes_eq keyword (codes "s") && (is_number_word den && are_number_pairs words))
row-form keyword den words =
    ap (λ b. b && nat_eq (length (keyword ∷ (den ∷ words)) % 2) 0 && bytes_eq keyword (codes "s") && (is_number_word den && list_all is_number_word words))
    (ap (nat_le 2) (omega arith) ∙ two-le (length words))
    ∙ ap (λ b. b && bytes_eq keyword (codes "s") && (is_number_word den && list_all is_number_word words)) (sym (parity-of keyword den words))
    ∙ form-order (nat_eq (length words % 2) 0) (bytes_eq keyword (codes "s")) (is_number_word den) (list_all is_number_word words)
    ∙ ap (λ b. bytes_eq keyword (codes "s") && (is_number_word den && b)) (sym (pairs-are words))

-- the words of a line: a keyword, a denominator, and others
module _ (list first : List (List ℕ)) (keyword : List ℕ) (den : Bor (List ℕ)) (shares : Words) (whole : list ≡ keyword ∷ first) (behind : first ≡ den.now ∷ words_left shares) where
  words-are : list ≡ keyword ∷ (den.now ∷ words_left shares)
  words-are = whole ∙ ap (λ l. keyword ∷ l) behind

  form-is : is_row_form list ≡ (bytes_eq keyword (codes "s") && (is_number_word den.now && are_number_pairs (words_left shares)))
  form-is = ap is_row_form words-are ∙ row-form keyword den.now (words_left shares)

  pub no-number : is_number_word den.now ≡ false → is_row_form list ≡ false
  no-number none = form-is ∙ ap (λ b. bytes_eq keyword (codes "s") && (b && are_number_pairs (words_left shares))) none ∙ and-no (bytes_eq keyword (codes "s"))

  pub no-pairs : are_number_pairs (words_left shares) ≡ false → is_row_form list ≡ false
  no-pairs none =
      form-is ∙ ap (λ b. bytes_eq keyword (codes "s") && (is_number_word den.now && b)) none ∙ ap (λ b. bytes_eq keyword (codes "s") && b) (and-no (is_number_word den.now))
      ∙ and-no (bytes_eq keyword (codes "s"))

  pub form-read : bytes_eq keyword (codes "s") ≡ true → is_number_word den.now ≡ true → are_number_pairs (words_left shares) ≡ true →
      IsRowForm (record { denominator = den; shares = shares }) list
  form-read name number pairs = record {
    form =
        form-is ∙ ap (λ b. b && (is_number_word den.now && are_number_pairs (words_left shares))) name ∙ ap (λ b. b && are_number_pairs (words_left shares)) number ∙ pairs;
    row = ap row_of_words words-are;
    denominator = number;
    numbers = pairs-numbers (words_left shares) pairs;
  }

-- the facts of the first of some shares in range
first-share : (controls least : ℕ) (share : Share) → is_share_in_range controls least share ≡ true →
    (least ≤ share.0) × (share.0 < controls) × (0 < share.1)
first-share controls least share h =
    let both = and_parts (nat_le least share.0 && nat_lt share.0 controls) (is_term share.1) h in
    let place = and_parts (nat_le least share.0) (nat_lt share.0 controls) both.0 in
    let term = and_parts (nat_le 1 share.1) (nat_le share.1 number_bound) both.1 in
    (at-least least share.0 place.0, below share.0 controls place.1, at-least 1 share.1 term.0)
  where
    at-least : (a b : ℕ) → nat_le a b ≡ true → a ≤ b
    at-least a b e = grind (arith, nat_tests)

    below : (a b : ℕ) → nat_lt a b ≡ true → a < b
    below a b e = grind (arith, nat_tests)

parts : (controls least : ℕ) (share : Share) (shares : List Share) → are_shares_in_range controls least (share ∷ shares) ≡ true →
    ((least ≤ share.0) × (share.0 < controls) × (0 < share.1)) × (are_shares_in_range controls (suc share.0) shares ≡ true)
parts controls least share shares h =
    let both = and_parts (is_share_in_range controls least share) (are_shares_in_range controls (suc share.0) shares) h in
    (first-share controls least share both.0, both.1)

ascend : (controls least : ℕ) (shares : List Share) → are_shares_in_range controls least shares ≡ true → (k : ℕ) → suc k < length shares →
    get_or (map (λ share. share.0) shares) k 0 < get_or (map (λ share. share.0) shares) (suc k) 0
ascend controls least [] h k within = absurd (omega arith)
ascend controls least (share ∷ []) h k within = absurd (omega arith)
ascend controls least (share ∷ (next ∷ shares)) h zero within =
    let rest = (parts controls least share (next ∷ shares) h).1 in
    omega (arith, (parts controls (suc share.0) next shares rest).0.0)
ascend controls least (share ∷ (next ∷ shares)) h (suc k) within =
    ascend controls (suc share.0) (next ∷ shares) (parts controls least share (next ∷ shares) h).1 k (omega arith)

inside : (controls least : ℕ) (shares : List Share) → are_shares_in_range controls least shares ≡ true → (k : ℕ) (d : Share) → k < length shares →
    ((get_or shares k d).0 < controls) × (0 < (get_or shares k d).1)
inside controls least [] h k d within = absurd (omega arith)
inside controls least (share ∷ shares) h zero d within =
    let first = (parts controls least share shares h).0 in (first.1, first.2)
inside controls least (share ∷ shares) h (suc k) d within = inside controls (suc share.0) shares (parts controls least share shares h).1 k d (omega arith)

term-is : (n : ℕ) → is_term n ≡ true → (0 < n) × (n ≤ number_bound)
term-is n h =
    let term = and_parts (nat_le 1 n) (nat_le n number_bound) h in
    (at-least 1 n term.0, at-least n number_bound term.1)
  where
    at-least : (a b : ℕ) → nat_le a b ≡ true → a ≤ b
    at-least a b e = grind (arith, nat_tests)

row-is : (controls : ℕ) (row : Row) → is_row_in_range controls row ≡ true → total_of row.shares ≡ row.den → IsRow controls row
row-is controls row h whole =
    let both = and_parts (is_term row.den) (are_shares_in_range controls 0 row.shares) h in
    let den = term-is row.den both.0 in
    record {
      positive = den.0;
      short = den.1;
      ascending = λ k within. subst (λ n. get_or (map (λ share. share.0) row.shares) k 0 < get_or (map (λ share. share.0) row.shares) n 0) (sym (add-one k))
          (ascend controls 0 row.shares both.1 k (omega (arith, within, length-map row.shares (λ share. share.0))));
      inside = λ k d within. (inside controls 0 row.shares both.1 k d within).0;
      each = λ k d within. (inside controls 0 row.shares both.1 k d within).1;
      whole = whole;
    }

-- if a row in range has no fault, its numerators sum to its denominator
sum-whole : (b : Bool) (other : Option model.TableCause) → None ≡ (if not b then Some model.Sum else other) → b ≡ true
sum-whole true other e = refl
sum-whole false other e = absurd (some-not e)
  where
    some-not : {A : Type 0} {a : A} → None ≡ Some a → ⊥
    some-not e = cc

same-number : (a b : ℕ) → nat_eq a b ≡ true → a ≡ b
same-number a b e = grind (arith, nat_tests)

no-cause : (found : Option TableCause) → is_some found ≡ false → option_map cause_of found ≡ None
no-cause None none = refl
no-cause (Some cause) none = absurd (no none)
  where
    no : true ≡ false → ⊥
    no e = cc

pub row-good : (header : Header) (left entries controls : ℕ) (row said : Row) (found : Option TableCause) → is_some found ≡ false →
    option_map cause_of found ≡ cause_in_range header left entries row → row ≡ said → is_row_in_range header.controls said ≡ true → controls ≡ header.controls → IsRow controls row
row-good header left entries controls row said found none is same range over =
    let whole : nat_eq (total_of row.shares) row.den ≡ true = sum-whole (nat_eq (total_of row.shares) row.den) _ (sym (no-cause found none) ∙ is) in
    rw over (row-is header.controls row (ap (is_row_in_range header.controls) same ∙ range) (same-number (total_of row.shares) row.den whole))

-- a denominator that was read is that of a row in range
pub read-some : (controls : ℕ) (words : RowWords) (items : List Entry) (read : Option ℕ) (den : ℕ) → read ≡ Some den →
    MatchOption read (is_row_in_range controls (row_in words) ≡ false) (λ d. IsInRange controls words d items) → IsInRange controls words den items
read-some controls words items read den e h =
    subst (λ (r : Option ℕ). MatchOption r (is_row_in_range controls (row_in words) ≡ false) (λ d. IsInRange controls words d items)) e h
