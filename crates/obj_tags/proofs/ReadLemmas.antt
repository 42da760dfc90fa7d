-- The next line of a text, among the lines that a reader walks.
use Rattle.std.proofs.Common.{◌≡◌, ℕ, ◌+◌, ◌-◌, ◌^◌, ◌<◌, ◌≤◌, List, [], ◌∷◌, length, map, drop, get_or, Option, None, Result, Ok, Err, MatchResult, OnOk, IfOk, arith, ap, sym, subst, ◌∙◌, length-drop}
use Rattle.std.specs.Option.{option_or}
use Rattle.std.proofs.lemmas.List.{drop_more}
use Rattle.subdiv_model.specs.ObjLine.{lines_of, line_words, is_vertex_line}
use Rattle.subdiv_model.specs.ObjFault.{ObjFault}
use Rattle.subdiv_model.specs.ReadObj.{without_mark, obj_lines, first_bad_line, is_texture_line}
use Rattle.obj_tags.specs.Draft.{IsDraftOf}
use Rattle.obj_tags.specs.Kept.{IsReadFault, TextKeptUnless}
use Rattle.obj_tags.specs.declared.draft.Draft.{Draft}
use Rattle.obj_tags.specs.declared.survey.Survey.{Survey}
use Rattle.obj_tags.specs.declared.fault.ReadFault.{ReadFault}
use Rattle.obj_tags.specs.Line.{Line}
use Rattle.obj_tags.specs.Survey.{IsSurveyOf, AreCommon, IsCommonOf}
use Rattle.obj_tags.proofs.DenominatorLemmas.{tens-bounded}
use Rattle.obj_tags.proofs.FineLemmas.{fine-positions, fine-texture}
use Rattle.obj_tags.proofs.SurveyLemmas.{survey-common}

-- A line has place n, and others follow it.
pub record IsNext (lines : List Line) (n : ℕ) (words : Line) (rest : List Line) : Type 0 where
  pub inside : n < length lines
  pub here : get_or lines n [] ≡ words
  pub left : rest ≡ drop (n + 1) lines

inside-drop : (lines : List Line) (n : ℕ) (words : Line) (rest : List Line) → words ∷ rest ≡ drop n lines → n < length lines
inside-drop lines n words rest e =
    let short : length (words ∷ rest) ≡ length lines - n = ap length e ∙ length-drop n lines in omega arith

pub next-line : (rest line others : List ℕ) (lines : List Line) (n : ℕ) → lines_of rest ≡ line ∷ lines_of others
    → map line_words (lines_of rest) ≡ drop n lines → IsNext lines n (line_words line) (map line_words (lines_of others))
next-line rest line others lines n e left =
    let whole : line_words line ∷ map line_words (lines_of others) ≡ drop n lines = sym (ap (map line_words) e) ∙ left in
    let inside = inside-drop lines n (line_words line) (map line_words (lines_of others)) whole in
    let split : line_words line ∷ map line_words (lines_of others) ≡ get_or lines n [] ∷ drop (n + 1) lines = whole ∙ drop_more lines n [] inside in
    record { inside = inside; here = cc; left = cc }

-- no line is left
pub at-end : (rest : List ℕ) (lines : List Line) (n : ℕ) → lines_of rest ≡ [] → map line_words (lines_of rest) ≡ drop n lines
    → length lines ≤ n
at-end rest lines n e left =
    let none : length (drop n lines) ≡ 0 = ap length (sym left) ∙ ap (λ ls. length (map line_words ls)) e in
    omega (arith, length-drop n lines)

-- none of the lines is bad, and all were kept
abbrev AreKept : Survey → Draft → List Line → Type 0
AreKept all draft lines = (first_bad_line lines ≡ None) × IsDraftOf all draft lines (length lines)

-- The lines after a byte order mark are the lines of the text.
pub kept-text : (all : Survey) (draft : Draft) (text rest : List ℕ) → rest ≡ without_mark text → AreKept all draft (map line_words (lines_of rest))
    → AreKept all draft (obj_lines text)
kept-text all draft text rest e kept = subst (λ t. AreKept all draft (map line_words (lines_of t))) e kept

-- a text without a bad line is refused for its late fault
pub refused-late : {X : Type 0} (Says : X → Type 0) (r : Result X ReadFault) (bad long : Option ObjFault) → bad ≡ None
    → TextKeptUnless r long Says → MatchResult r (λ _. Unit {0}) (λ f. IsReadFault f (option_or bad long))
refused-late Says (Ok x) bad long none said = tt
refused-late Says (Err f) bad long none said = rw none said

pub good-late : {X : Type 0} (Says : X → Type 0) (r : Result X ReadFault) (bad long : Option ObjFault) → bad ≡ None
    → TextKeptUnless r long Says → OnOk r (option_or bad long ≡ None)
good-late Says (Ok x) bad long none said = rw none said.0
good-late Says (Err f) bad long none said = tt

pub kept-late : {X : Type 0} (Says : X → Type 0) (r : Result X ReadFault) (long : Option ObjFault) → TextKeptUnless r long Says
    → IfOk r Says
kept-late Says (Ok x) long said = said.1
kept-late Says (Err f) long said = tt

-- of a text without a bad line the common denominators were found
pub found-text : (all : Survey) (least : ℕ) (text rest : List ℕ) → least ≤ 18 → rest ≡ without_mark text
    → IsSurveyOf all least (map line_words (lines_of rest)) → first_bad_line (obj_lines text) ≡ None → AreCommon all least (obj_lines text)
found-text all least text rest small e is none =
    let lines = obj_lines text in
    let found : IsSurveyOf all least lines = subst (λ t. IsSurveyOf all least (map line_words (lines_of t))) e is in
    let tens = tens-bounded least small in
    record {
      positions = subst (λ common. IsCommonOf is_vertex_line (10 ^ least) common lines) (sym found.positions)
          (survey-common is_vertex_line (10 ^ least) lines tens.0 tens.1 (fine-positions lines none));
      texture = subst (λ common. IsCommonOf is_texture_line 1 common lines) (sym found.texture)
          (survey-common is_texture_line 1 lines (omega arith) (omega arith) (fine-texture lines none));
    }
