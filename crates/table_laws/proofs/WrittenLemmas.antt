-- Bytes that are read as a row are the line of the row.
use Rattle.std.proofs.Common.{◌≡◌, ℕ, zero, suc, ◌+◌, ◌%◌, ◌<◌, Bool, true, false, not, nat_eq, nat_le, nat_lt, List, [], ◌∷◌, length, map, get_or, bytes_eq, arith, refl, ap, sym, subst, ◌∙◌, leb-true, ltb-true, eqb-true, true≢false, Some, None, Option, is_some, if◌then◌else◌}
use Rattle.std.specs.Prelude.{codes}
use Rattle.std.specs.List.{AllByRecursion, list_all, flat_map}
use Rattle.std.specs.List.Sorted.{IsStrictlyIncreasing}
use Rattle.std.specs.Cmp.Lexicographic.{bytes_decides}
use Rattle.std.proofs.lemmas.Bool.{and_parts}
use Rattle.std.proofs.lemmas.List.Elements.{All-from_recursion}
use Rattle.subdiv_model.specs.Channel.{number_bound}
use Rattle.subdiv_model.specs.Digits.{is_number_word, number_of_digits}
use Rattle.subdiv_model.specs.NumberText.{number_text}
use Rattle.subdiv_model.specs.ReadTable.{Header, is_miscounted, is_row_form, shares_of_words, row_of_words, is_term, are_shares_in_range, is_row_in_range, row_cause, row_words_cause}
use Rattle.subdiv_model.specs.Table.{Share, Row, IsRow, total_of}
use Rattle.subdiv_model.specs.TableFault.{Form, Range, Sum, Count}
use Rattle.subdiv_model.specs.TableText.{share_words}
use Rattle.table_laws.proofs.NumberWordLemmas.{word-text}
use Rattle.table_laws.proofs.RowLemmas.{row_words, Ascend}

-- a test that did not answer its fault
pub passed : {Cause : Type 0} (test : Bool) (fault : Cause) (others : Option Cause) → (if test then others else Some fault) ≡ None → (test ≡ true) × (others ≡ None)
passed true fault others none = (refl, none)
passed false fault others none = absurd (no-some none)
  where
    no-some : Some fault ≡ None → ⊥
    no-some e = true≢false (ap is_some e)

pub not-failed : {Cause : Type 0} (test : Bool) (fault : Cause) (others : Option Cause) → (if test then Some fault else others) ≡ None → (test ≡ false) × (others ≡ None)
not-failed false fault others none = (refl, none)
not-failed true fault others none = absurd (true≢false (ap is_some none))

-- two words for each control point are the words of their numbers
shares-text : (words : List (List ℕ)) → length words % 2 ≡ 0 → list_all is_number_word words ≡ true → flat_map share_words (shares_of_words words) ≡ words
shares-text [] even are = refl
shares-text (control ∷ []) even are = absurd (odd even)
  where
    odd : 1 % 2 ≡ 0 → ⊥
    odd e = omega arith
shares-text (control ∷ numerator ∷ words) even are =
    let first = and_parts (is_number_word control) _ are in
    let second = and_parts (is_number_word numerator) (list_all is_number_word words) first.1 in
    let shorter : length words % 2 ≡ 0 = omega (arith, even) in
    let others = flat_map share_words (shares_of_words words) in
    ap (λ word. word ∷ number_text (number_of_digits numerator) ∷ others) (word-text control first.0)
    ∙ ap (λ word. control ∷ word ∷ others) (word-text numerator second.0)
    ∙ ap (λ more. control ∷ numerator ∷ more) (shares-text words shorter second.1)

-- the words of a row are `s` and the words of its numbers
pub row-text : (words : List (List ℕ)) → is_row_form words ≡ true → words ≡ codes "s" ∷ row_words (row_of_words words)
row-text [] form = absurd (true≢false (sym form))
row-text (word ∷ []) form = absurd (true≢false (sym form))
row-text (keyword ∷ den ∷ words) form =
    let outer = and_parts _ (list_all is_number_word (den ∷ words)) form in
    let named = and_parts _ (bytes_eq keyword (codes "s")) outer.0 in
    let counted = and_parts (nat_le 2 (suc (suc (length words)))) (nat_eq (suc (suc (length words)) % 2) 0) named.0 in
    let numbers = and_parts (is_number_word den) (list_all is_number_word words) outer.1 in
    let even = eqb-true (suc (suc (length words)) % 2) 0 counted.1 in
    let rest : length words % 2 ≡ 0 = omega (arith, even) in
    ap (λ word. word ∷ den ∷ words) ((bytes_decides keyword (codes "s")).0 named.1)
    ∙ ap (λ word. codes "s" ∷ word ∷ words) (sym (word-text den numbers.0))
    ∙ ap (λ more. codes "s" ∷ number_text (number_of_digits den) ∷ more) (sym (shares-text words rest numbers.1))

-- what holds of control points and numerators in range
pub record AreShares (controls least : ℕ) (shares : List Share) : Type 0 where
  pub ascend : Ascend least shares
  pub inside : AllByRecursion (λ share. share.0 < controls) shares
  pub each : AllByRecursion (λ share. 0 < share.1) shares

shares-are : (controls least : ℕ) (shares : List Share) → are_shares_in_range controls least shares ≡ true → AreShares controls least shares
shares-are controls least [] range = record { ascend = tt; inside = tt; each = tt }
shares-are controls least (share ∷ shares) range =
    let outer = and_parts _ (are_shares_in_range controls (suc share.0) shares) range in
    let inner = and_parts _ (is_term share.1) outer.0 in
    let place = and_parts (nat_le least share.0) (nat_lt share.0 controls) inner.0 in
    let term = and_parts (nat_le 1 share.1) (nat_le share.1 number_bound) inner.1 in
    let rest = shares-are controls (suc share.0) shares outer.1 in
    record {
      ascend = (leb-true least share.0 place.0, rest.ascend);
      inside = (ltb-true share.0 controls place.1, rest.inside);
      each = (leb-true 1 share.1 term.0, rest.each);
    }

-- control points that ascend are strictly increasing
increasing : (least : ℕ) (shares : List Share) → Ascend least shares → IsStrictlyIncreasing (map (λ s. s.0) shares)
increasing least [] up = λ k within. absurd (omega arith)
increasing least (share ∷ []) up = λ k within. absurd (omega arith)
increasing least (share ∷ next ∷ shares) up = at (increasing (suc share.0) (next ∷ shares) up.1)
  where
    at : IsStrictlyIncreasing (map (λ s. s.0) (next ∷ shares)) → IsStrictlyIncreasing (map (λ s. s.0) (share ∷ next ∷ shares))
    at rest zero within = up.1.0
    at rest (suc k) within =
        let e : suc (k + 1) ≡ suc k + 1 = omega arith in
        subst (λ n. get_or (map (λ s. s.0) (next ∷ shares)) k 0 < get_or (map (λ s. s.0) (share ∷ next ∷ shares)) n 0) e (rest k (omega arith))

-- what holds of a row without fault, and of the entries up to it
pub record IsGoodRow (header : Header) (left entries : ℕ) (row : Row) : Type 0 where
  pub is_row : IsRow header.controls row
  pub counted : is_miscounted header left (entries + length row.shares) ≡ false

turned : (b : Bool) → not b ≡ false → b ≡ true
turned true h = refl
turned false h = absurd (true≢false h)

-- numbers in range that sum to their denominator are a row
pub is-row : (controls : ℕ) (row : Row) → is_row_in_range controls row ≡ true → total_of row.shares ≡ row.den → IsRow controls row
is-row controls row good whole =
    let range = and_parts (is_term row.den) (are_shares_in_range controls 0 row.shares) good in
    let term = and_parts (nat_le 1 row.den) (nat_le row.den number_bound) range.0 in
    let shares = shares-are controls 0 row.shares range.1 in
    record {
      positive = leb-true 1 row.den term.0;
      short = leb-true row.den number_bound term.1;
      ascending = increasing 0 row.shares shares.ascend;
      inside = All-from_recursion _ row.shares shares.inside;
      each = All-from_recursion _ row.shares shares.each;
      whole = whole;
    }

row-is : (header : Header) (left entries : ℕ) (row : Row) → row_cause header left entries row ≡ None → IsGoodRow header left entries row
row-is header left entries row none =
    let first = not-failed (not (is_row_in_range header.controls row)) Range _ none in
    let second = not-failed (not (nat_eq (total_of row.shares) row.den)) Sum _ first.1 in
    let third = not-failed (is_miscounted header left (entries + length row.shares)) Count None second.1 in
    record {
      is_row = is-row header.controls row (turned _ first.0) (eqb-true (total_of row.shares) row.den (turned _ second.0));
      counted = third.0;
    }

-- the words of a row without fault
pub row-words-are : (header : Header) (left entries : ℕ) (words : List (List ℕ)) → row_words_cause header left entries words ≡ None
    → (words ≡ codes "s" ∷ row_words (row_of_words words)) × IsGoodRow header left entries (row_of_words words)
row-words-are header left entries words none =
    let form = passed (is_row_form words) Form (row_cause header left entries (row_of_words words)) none in
    (row-text words form.0, row-is header left entries (row_of_words words) form.1)
