-- The form of a first line, by the names in it and the numbers behind them.
use Rattle.std.proofs.Common.{◌≡◌, ℕ, ◌+◌, Bool, true, false, ◌&&◌, nat_eq, nat_le, List, [], ◌∷◌, length, drop, get_or, get_or-drop, drop-drop, codes, arith, refl, ap, sym, ◌∙◌}
use Rattle.std.specs.Borrow.{Bor}
use Rattle.std.specs.Str.{bytes_eq}
use Rattle.std.proofs.lemmas.Bool.{and_parts}
use Rattle.std.proofs.lemmas.Bool.Decides.{nat_tests}
use Rattle.subdiv_model.specs.Digits.{is_number_word}
use Rattle.subdiv_model.specs.ReadTable.{is_header_form}
use Rattle.table_file.specs.Header.{is_named_number, AreHeaderWords, AreNumbers}

and-no : (b : Bool) → (b && false) ≡ false
and-no true = refl
and-no false = refl

regroup : (t c n r m e k : Bool) → (t && c && n && r && m && e && k) ≡ (t && ((c && n) && ((r && m) && ((e && k) && true))))
regroup false c n r m e k = refl
regroup true false n r m e k = refl
regroup true true false r m e k = refl
regroup true true true false m e k = refl
regroup true true true true false e k = refl
regroup true true true true true false k = refl
regroup true true true true true true true = refl
regroup true true true true true true false = refl

too-long : (n : ℕ) → nat_eq (n + 8) 7 ≡ false
too-long n = grind (arith, nat_tests)

not-none : (n : ℕ) → nat_eq (n + 1) 0 ≡ false
not-none n = grind (arith, nat_tests)

no-end : (t c r e b : Bool) → b ≡ false → false ≡ (t && (c && (r && (e && b))))
no-end t c r e b is =
    sym (ap (λ x. t && (c && (r && (e && x)))) is ∙ ap (λ x. t && (c && (r && x))) (and-no e) ∙ ap (λ x. t && (c && x)) (and-no r) ∙ ap (λ x. t && x) (and-no c) ∙ and-no t)

-- the words behind the first are three names, each with a number
abbrev pub are_named : List (List ℕ) → Bool
are_named words =
    is_named_number (codes "controls") words && (is_named_number (codes "rows") (drop 2 words) && (is_named_number (codes "entries") (drop 4 words) && nat_eq (length (drop 6 words)) 0))

pub header-form : (word : List ℕ) (words : List (List ℕ)) → is_header_form (word ∷ words) ≡ (bytes_eq word (codes "table") && are_named words)
header-form word [] = sym (and-no (bytes_eq word (codes "table")))
header-form word (a ∷ []) = sym (and-no (bytes_eq word (codes "table")))
header-form word (a ∷ (b ∷ [])) = sym (ap (λ x. bytes_eq word (codes "table") && x) (and-no (is_named_number (codes "controls") (a ∷ (b ∷ [])))) ∙ and-no (bytes_eq word (codes "table")))
header-form word (a ∷ (b ∷ (c ∷ []))) = sym (ap (λ x. bytes_eq word (codes "table") && x) (and-no (is_named_number (codes "controls") (a ∷ (b ∷ [])))) ∙ and-no (bytes_eq word (codes "table")))
header-form word (a ∷ (b ∷ (c ∷ (d ∷ [])))) =
    sym (ap (λ x. bytes_eq word (codes "table") && (is_named_number (codes "controls") (a ∷ (b ∷ [])) && x)) (and-no (is_named_number (codes "rows") (c ∷ (d ∷ []))))
    ∙ ap (λ x. bytes_eq word (codes "table") && x) (and-no (is_named_number (codes "controls") (a ∷ (b ∷ []))))
    ∙ and-no (bytes_eq word (codes "table")))
header-form word (a ∷ (b ∷ (c ∷ (d ∷ (e ∷ []))))) =
    sym (ap (λ x. bytes_eq word (codes "table") && (is_named_number (codes "controls") (a ∷ (b ∷ [])) && x)) (and-no (is_named_number (codes "rows") (c ∷ (d ∷ []))))
    ∙ ap (λ x. bytes_eq word (codes "table") && x) (and-no (is_named_number (codes "controls") (a ∷ (b ∷ []))))
    ∙ and-no (bytes_eq word (codes "table")))
header-form word (a ∷ (b ∷ (c ∷ (d ∷ (e ∷ (f ∷ [])))))) =
    regroup (bytes_eq word (codes "table")) (bytes_eq a (codes "controls")) (is_number_word b) (bytes_eq c (codes "rows")) (is_number_word d) (bytes_eq e (codes "entries")) (is_number_word f)
header-form word (a ∷ (b ∷ (c ∷ (d ∷ (e ∷ (f ∷ (g ∷ rest))))))) =
    ap (λ x. x && bytes_eq word (codes "table") && bytes_eq a (codes "controls") && is_number_word b && bytes_eq c (codes "rows") && is_number_word d && bytes_eq e (codes "entries") && is_number_word f)
    (ap (λ n. nat_eq n 7) (omega arith) ∙ too-long (length rest))
    ∙ no-end (bytes_eq word (codes "table")) (is_named_number (codes "controls") (a ∷ (b ∷ (c ∷ (d ∷ (e ∷ (f ∷ (g ∷ rest)))))))) (is_named_number (codes "rows") (drop 2 (a ∷ (b ∷ (c ∷ (d ∷ (e ∷ (f ∷ (g ∷ rest))))))))) (is_named_number (codes "entries") (drop 4 (a ∷ (b ∷ (c ∷ (d ∷ (e ∷ (f ∷ (g ∷ rest)))))))))
    (nat_eq (length (g ∷ rest)) 0) (ap (λ n. nat_eq n 0) (omega arith) ∙ not-none (length rest))

-- the number behind a name
number-named : (name : List ℕ) (words : List (List ℕ)) (number : List ℕ) → is_named_number name words ≡ true → number ≡ get_or words 1 [] → is_number_word number ≡ true
number-named name words number h is =
    ap is_number_word is ∙ (and_parts (nat_le 2 (length words) && bytes_eq (get_or words 0 []) name) (is_number_word (get_or words 1 [])) h).1

-- the words of a whole first line
module _ (word : List ℕ) (controls rows entries : Bor (List ℕ)) (list first second third : List (List ℕ)) (whole : list ≡ word ∷ first) (name : bytes_eq word (codes "table") ≡ true)
    (named : is_named_number (codes "controls") first ≡ true) (control : controls.now ≡ get_or first 1 []) (behind : second ≡ drop 2 first)
    (row_named : is_named_number (codes "rows") second ≡ true) (row : rows.now ≡ get_or second 1 []) (row_behind : third ≡ drop 2 second)
    (entry_named : is_named_number (codes "entries") third ≡ true) (entry : entries.now ≡ get_or third 1 []) (none : drop 2 third ≡ []) where
  third-is : third ≡ drop 4 first
  third-is = row_behind ∙ ap (drop 2) behind ∙ drop-drop 2 2 first

  end-is : drop 6 first ≡ []
  end-is = sym (drop-drop 2 4 first) ∙ ap (drop 2) (sym third-is) ∙ none

  all-named : are_named first ≡ true
  all-named =
      ap (λ b. b && (is_named_number (codes "rows") (drop 2 first) && (is_named_number (codes "entries") (drop 4 first) && nat_eq (length (drop 6 first)) 0))) named
      ∙ ap (λ b. b && (is_named_number (codes "entries") (drop 4 first) && nat_eq (length (drop 6 first)) 0)) (ap (is_named_number (codes "rows")) (sym behind) ∙ row_named)
      ∙ ap (λ b. b && nat_eq (length (drop 6 first)) 0) (ap (is_named_number (codes "entries")) (sym third-is) ∙ entry_named)
      ∙ ap (λ rest. nat_eq (length rest) 0) end-is

  form-whole : is_header_form list ≡ true
  form-whole = ap is_header_form whole ∙ header-form word first ∙ ap (λ b. b && are_named first) name ∙ all-named

  controls-at : controls.now ≡ get_or list 2 []
  controls-at = control ∙ sym (ap (λ l. get_or l 2 []) whole)

  rows-at : rows.now ≡ get_or list 4 []
  rows-at = row ∙ ap (λ l. get_or l 1 []) behind ∙ get_or-drop 2 first 1 [] ∙ sym (ap (λ l. get_or l 4 []) whole)

  entries-at : entries.now ≡ get_or list 6 []
  entries-at = entry ∙ ap (λ l. get_or l 1 []) third-is ∙ get_or-drop 4 first 1 [] ∙ sym (ap (λ l. get_or l 6 []) whole)

  pub whole-header : (is_header_form list ≡ true) × AreHeaderWords (record { controls = controls; rows = rows; entries = entries }) list
      × AreNumbers (record { controls = controls; rows = rows; entries = entries })
  whole-header = (
    form-whole,
    record { controls = controls-at; rows = rows-at; entries = entries-at },
    record {
      controls = number-named (codes "controls") first controls.now named control;
      rows = number-named (codes "rows") second rows.now row_named row;
      entries = number-named (codes "entries") third entries.now entry_named entry;
    },
  )
