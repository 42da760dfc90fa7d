-- A row of a table is read back from its line.
use Rattle.std.proofs.Common.{◌≡◌, ℕ, zero, suc, ◌+◌, ◌*◌, ◌%◌, ◌<◌, ◌≤◌, true, false, not, nat_le, nat_lt, List, [], ◌∷◌, length, map, get_or, bytes_eq, arith, refl, ap, sym, subst, ◌∙◌, le_trans, le-leb, lt-ltb, le-ltb, eq-eqb, None}
use Rattle.std.specs.Prelude.{codes}
use Rattle.std.specs.List.{AllByRecursion, list_all, flat_map}
use Rattle.std.specs.List.Sorted.{IsStrictlyIncreasing}
use Rattle.std.proofs.lemmas.Bool.{and_from, and_left, or_from, ne_eqb, cond-true, cond-false}
use Rattle.std.proofs.lemmas.List.Elements.{recursion_from_All}
use Rattle.std.proofs.lemmas.List.Sums.{sum_by-cons}
use Rattle.subdiv_model.specs.Channel.{number_bound}
use Rattle.subdiv_model.specs.Digits.{is_number_word, number_of_digits}
use Rattle.subdiv_model.specs.NumberText.{number_text}
use Rattle.subdiv_model.specs.ReadTable.{Header, is_miscounted, is_row_form, shares_of_words, row_of_words, is_term, are_shares_in_range, is_row_in_range, row_cause, row_words_cause}
use Rattle.subdiv_model.specs.Table.{Share, Row, IsRow, total_of}
use Rattle.subdiv_model.specs.TableText.{share_words}
use Rattle.obj_laws.proofs.NumeralTextLemmas.{text-of}
use Rattle.table_laws.proofs.NumberWordLemmas.{number-word, number-says}
use Rattle.table_laws.proofs.LineLemmas.{are_words, is_word, digits-word}

-- the words of a row behind the first
abbrev pub row_words : Row → List (List ℕ)
row_words row = number_text row.den ∷ flat_map share_words row.shares

pub number-plain : (n : ℕ) → is_word (number_text n) ≡ true
number-plain n = digits-word (number_text n) (text-of n).digits

-- the words of shares are words of numbers
shares-plain : (shares : List Share) → are_words (flat_map share_words shares) ≡ true
shares-plain [] = refl
shares-plain (share ∷ shares) =
    and_from (is_word (number_text share.0)) _ (number-plain share.0)
    (and_from (is_word (number_text share.1)) (are_words (flat_map share_words shares)) (number-plain share.1) (shares-plain shares))

pub row-plain : (row : Row) → are_words (row_words row) ≡ true
row-plain row = and_from (is_word (number_text row.den)) (are_words (flat_map share_words row.shares)) (number-plain row.den) (shares-plain row.shares)

shares-numbers : (shares : List Share) → list_all is_number_word (flat_map share_words shares) ≡ true
shares-numbers [] = refl
shares-numbers (share ∷ shares) =
    and_from (is_number_word (number_text share.0)) _ (number-word share.0)
    (and_from (is_number_word (number_text share.1)) (list_all is_number_word (flat_map share_words shares)) (number-word share.1) (shares-numbers shares))

row-numbers : (row : Row) → list_all is_number_word (row_words row) ≡ true
row-numbers row =
    and_from (is_number_word (number_text row.den)) (list_all is_number_word (flat_map share_words row.shares)) (number-word row.den) (shares-numbers row.shares)

-- two words for each control point
two-words : (shares : List Share) → length (flat_map share_words shares) ≡ 2 * length shares
two-words [] = refl
two-words (share ∷ shares) = let rest = two-words shares in omega (arith, rest)

pub row-form : (row : Row) → is_row_form (codes "s" ∷ row_words row) ≡ true
row-form row =
    let two = two-words row.shares in
    let even : suc (suc (length (flat_map share_words row.shares))) % 2 ≡ 0 = omega (arith, two) in
    let many : 2 ≤ suc (suc (length (flat_map share_words row.shares))) = omega arith in
    and_from _ (list_all is_number_word (row_words row))
    (and_from _ (bytes_eq (codes "s") (codes "s"))
    (and_from (nat_le 2 (suc (suc (length (flat_map share_words row.shares))))) _ (le-leb 2 _ many) (eq-eqb _ 0 even)) refl)
    (row-numbers row)

-- the words of shares are read back as the shares
shares-back : (shares : List Share) → shares_of_words (flat_map share_words shares) ≡ shares
shares-back [] = refl
shares-back (share ∷ shares) =
    let others : List Share = shares_of_words (flat_map share_words shares) in
    ap (λ (n : ℕ). (n, number_of_digits (number_text share.1)) ∷ others) (number-says share.0)
    ∙ ap (λ (n : ℕ). (share.0, n) ∷ others) (number-says share.1)
    ∙ ap (λ more. share ∷ more) (shares-back shares)

pub row-back : (row : Row) → row_of_words (codes "s" ∷ row_words row) ≡ row
row-back row =
    ap (λ n. record { den = n; shares = shares_of_words (flat_map share_words row.shares) }) (number-says row.den)
    ∙ ap (λ shares. record { den = row.den; shares = shares }) (shares-back row.shares)

-- control points that ascend from a number on
abbrev pub Ascend : ℕ → List Share → Type 0
Ascend least [] = Unit {0}
Ascend least (share ∷ shares) = (least ≤ share.0) × Ascend (suc share.0) shares

ascend-after : (share : Share) (shares : List Share) → IsStrictlyIncreasing (map (λ s. s.0) (share ∷ shares)) → Ascend (suc share.0) shares
ascend-after share [] up = tt
ascend-after share (next ∷ shares) up =
    let first : share.0 < next.0 = up 0 (omega arith) in
    let rest : IsStrictlyIncreasing (map (λ s. s.0) (next ∷ shares)) = λ k within.
    let e : suc k + 1 ≡ suc (k + 1) = omega arith in
    subst (λ n. get_or (map (λ s. s.0) (next ∷ shares)) k 0 < get_or (map (λ s. s.0) (share ∷ next ∷ shares)) n 0) e (up (suc k) (omega arith)) in
    (first, ascend-after next shares rest)

pub ascending : (shares : List Share) → IsStrictlyIncreasing (map (λ s. s.0) shares) → Ascend 0 shares
ascending [] up = tt
ascending (share ∷ shares) up = (omega arith, ascend-after share shares up)

-- control points and numerators in range
shares-in-range : (controls least : ℕ) (shares : List Share) → Ascend least shares → AllByRecursion (λ share. share.0 < controls) shares
    → AllByRecursion (λ share. 0 < share.1) shares → total_of shares ≤ number_bound → are_shares_in_range controls least shares ≡ true
shares-in-range controls least [] up inside each few = refl
shares-in-range controls least (share ∷ shares) up inside each few =
    let sum = sum_by-cons (λ (s : Share). s.1) share shares in
    let here : share.1 ≤ number_bound = le_trans (omega (arith, sum)) few in
    let others : total_of shares ≤ number_bound = le_trans (omega (arith, sum)) few in
    and_from _ (are_shares_in_range controls (suc share.0) shares)
    (and_from _ (is_term share.1)
    (and_from (nat_le least share.0) (nat_lt share.0 controls) (le-leb least share.0 up.0) (lt-ltb share.0 controls inside.0))
    (and_from (nat_le 1 share.1) (nat_le share.1 number_bound) (le-leb 1 share.1 each.0) (le-leb share.1 number_bound here)))
    (shares-in-range controls (suc share.0) shares up.1 inside.1 each.1 others)

-- the shares of a row are in range
pub row-in-range : (controls : ℕ) (row : Row) → IsRow controls row → is_row_in_range controls row ≡ true
row-in-range controls row is =
    and_from (is_term row.den) (are_shares_in_range controls 0 row.shares)
    (and_from (nat_le 1 row.den) (nat_le row.den number_bound) (le-leb 1 row.den is.positive) (le-leb row.den number_bound is.short))
    (shares-in-range controls 0 row.shares (ascending row.shares is.ascending) (recursion_from_All _ row.shares is.inside)
    (recursion_from_All _ row.shares is.each) (subst (λ n. n ≤ number_bound) (sym is.whole) is.short))

-- entries are counted right if they are not too many, and complete at the last line
pub well-counted : (header : Header) (left entries : ℕ) → entries ≤ header.entries → (left ≡ 0 → entries ≡ header.entries)
    → is_miscounted header left entries ≡ false
well-counted header zero entries few all =
    let same = all refl in or_from _ _ (le-ltb header.entries entries few) (le-ltb entries header.entries (omega (arith, same)))
well-counted header (suc left) entries few all = or_from _ _ (le-ltb header.entries entries few) (and_left _ _ (ne_eqb (suc left) 0 (λ none. omega arith)))

-- the words of a row have no fault
pub row-good : (header : Header) (left entries : ℕ) (row : Row) → IsRow header.controls row → is_miscounted header left (entries + length row.shares) ≡ false
    → row_words_cause header left entries (codes "s" ∷ row_words row) ≡ None
row-good header left entries row is counted =
    cond-true _ _ _ (row-form row)
    ∙ ap (row_cause header left entries) (row-back row)
    ∙ cond-false _ _ _ (ap not (row-in-range header.controls row is))
    ∙ cond-false _ _ _ (ap not (eq-eqb (total_of row.shares) row.den is.whole))
    ∙ cond-false _ _ _ counted
