-- Bytes that begin with closed lines: the lines that LF closes in them, and the bytes after the last LF.
use Rattle.std.proofs.Common.{◌≡◌, ℕ, ◌<◌, Bool, true, false, not, List, [], ◌∷◌, ◌++◌, ◌⊎◌, inl, inr, length, get_or, arith, refl, ap, sym, ◌∙◌, true≢false, append_assoc, All, eqb-true}
use Rattle.std.proofs.lemmas.Bool.{and_from, and_parts, or_from, not_from_false, false_from_ne_true}
use Rattle.std.proofs.lemmas.List.Folds.{list_any_at, list_any-append}
use Rattle.std.proofs.lemmas.List.Splits.{slice_split_none, slice_split_at, length-slice_split}
use Rattle.subdiv_model.specs.Lists.{last_of}
use Rattle.subdiv_model.specs.ObjLine.{is_lf}
use Rattle.far_model.specs.Stream.{but_last, parts_of, closed_of, unclosed_of}
use Rattle.stream_laws.specs.Handled.{has_lf, are_lines, text_of_lines}

-- each byte of a line without LF is another
pub no-lf : (line : List ℕ) → has_lf line ≡ false → All (λ b. is_lf b ≡ false) line
no-lf line none = λ k d inside. false_from_ne_true (is_lf (get_or line k d)) (λ yes. true≢false (sym (list_any_at is_lf line k d inside yes) ∙ none))

-- a line is without LF
pub not-lf : (line : List ℕ) → not (has_lf line) ≡ true → has_lf line ≡ false
not-lf line h = false_from_ne_true (has_lf line) (λ yes. true≢false (sym h ∙ ap not yes))

-- one more line is without LF, as those before it
pub lines-more : (lines : List (List ℕ)) (line : List ℕ) → are_lines lines ≡ true → has_lf line ≡ false → are_lines (lines ++ line ∷ []) ≡ true
lines-more [] line closed none = and_from (not (has_lf line)) true (not_from_false (has_lf line) none) refl
lines-more (first ∷ lines) line closed none =
    let parts = and_parts (not (has_lf first)) (are_lines lines) closed in
    and_from (not (has_lf first)) (are_lines (lines ++ line ∷ [])) parts.0 (lines-more lines line parts.1 none)

-- bytes have no LF if neither part has one
pub joined-lf : (bytes more : List ℕ) → has_lf bytes ≡ false → has_lf more ≡ false → has_lf (bytes ++ more) ≡ false
joined-lf bytes more here there = list_any-append is_lf bytes more ∙ or_from (has_lf bytes) (has_lf more) here there

but-last-cons : (line : List ℕ) (parts : List (List ℕ)) → 0 < length parts → but_last (line ∷ parts) ≡ line ∷ but_last parts
but-last-cons line [] some = absurd (omega arith)
but-last-cons line (part ∷ parts) some = refl

last-of-cons : (given line : List ℕ) (parts : List (List ℕ)) → 0 < length parts → last_of given (line ∷ parts) ≡ last_of given parts
last-of-cons given line [] some = absurd (omega arith)
last-of-cons given line (part ∷ parts) some = refl

some-parts : (bytes : List ℕ) → 0 < length (parts_of bytes)
some-parts bytes = omega (arith, length-slice_split is_lf bytes)

-- bytes that begin with a closed line
pub first-closed : (line more : List ℕ) → has_lf line ≡ false → closed_of (line ++ 10 ∷ more) ≡ line ∷ closed_of more
first-closed line more none =
    ap but_last (slice_split_at is_lf line 10 more (no-lf line none) refl) ∙ but-last-cons line (parts_of more) (some-parts more)

pub first-unclosed : (line more : List ℕ) → has_lf line ≡ false → unclosed_of (line ++ 10 ∷ more) ≡ unclosed_of more
first-unclosed line more none =
    ap (last_of []) (slice_split_at is_lf line 10 more (no-lf line none) refl) ∙ last-of-cons [] line (parts_of more) (some-parts more)

-- bytes without LF close no line
pub none-closed : (bytes : List ℕ) → has_lf bytes ≡ false → closed_of bytes ≡ []
none-closed bytes none = ap but_last (slice_split_none is_lf bytes (no-lf bytes none))

pub all-unclosed : (bytes : List ℕ) → has_lf bytes ≡ false → unclosed_of bytes ≡ bytes
all-unclosed bytes none = ap (last_of []) (slice_split_none is_lf bytes (no-lf bytes none))

-- the text of lines begins with the first line
pub text-first : (line : List ℕ) (lines : List (List ℕ)) (rest : List ℕ)
    → text_of_lines (line ∷ lines) ++ rest ≡ line ++ 10 ∷ (text_of_lines lines ++ rest)
text-first line lines rest =
    append_assoc (line ++ 10 ∷ []) (text_of_lines lines) rest ∙ append_assoc line (10 ∷ []) (text_of_lines lines ++ rest)

-- bytes that begin with closed lines
pub lines-closed : (lines : List (List ℕ)) (rest : List ℕ) → are_lines lines ≡ true → closed_of (text_of_lines lines ++ rest) ≡ lines ++ closed_of rest
lines-closed [] rest closed = refl
lines-closed (line ∷ lines) rest closed =
    let parts = and_parts (not (has_lf line)) (are_lines lines) closed in
    ap closed_of (text-first line lines rest)
    ∙ first-closed line (text_of_lines lines ++ rest) (not-lf line parts.0)
    ∙ ap (λ more. line ∷ more) (lines-closed lines rest parts.1)

pub lines-unclosed : (lines : List (List ℕ)) (rest : List ℕ) → are_lines lines ≡ true → unclosed_of (text_of_lines lines ++ rest) ≡ unclosed_of rest
lines-unclosed [] rest closed = refl
lines-unclosed (line ∷ lines) rest closed =
    let parts = and_parts (not (has_lf line)) (are_lines lines) closed in
    ap unclosed_of (text-first line lines rest)
    ∙ first-unclosed line (text_of_lines lines ++ rest) (not-lf line parts.0)
    ∙ lines-unclosed lines rest parts.1

-- what bytes have up to their first LF, and after it
pub record FirstLine (bytes : List ℕ) : Type 0 where
  pub line : List ℕ
  pub more : List ℕ
  pub split : bytes ≡ line ++ 10 ∷ more
  pub none : has_lf line ≡ false

-- bytes without LF, or with a first line that LF closes
pub first-line : (bytes : List ℕ) → (has_lf bytes ≡ false) ⊎ FirstLine bytes
first-line [] = inl refl
first-line (b ∷ bytes) = here (is_lf b) refl (first-line bytes)
  where
    here : (t : Bool) → is_lf b ≡ t → (has_lf bytes ≡ false) ⊎ FirstLine bytes → (has_lf (b ∷ bytes) ≡ false) ⊎ FirstLine (b ∷ bytes)
    here true e after = inr (record { line = []; more = bytes; split = ap (λ c. c ∷ bytes) (eqb-true b 10 e); none = refl })
    here false e (inl none) = inl (or_from (is_lf b) (has_lf bytes) e none)
    here false e (inr found) = inr (record {
      line = b ∷ found.line;
      more = found.more;
      split = ap (λ rest. b ∷ rest) found.split;
      none = or_from (is_lf b) (has_lf found.line) e found.none;
    })
