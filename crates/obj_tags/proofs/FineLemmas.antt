-- Where no line is bad, the numerals of positions and of texture values are kept.
use Rattle.std.proofs.Common.{◌≡◌, ℕ, zero, suc, Bool, true, false, List, [], ◌∷◌, length, take, drop, get_or, Option, Some, None, refl, ap, sym, subst, true≢false, codes, if◌then◌else◌, nat_lt}
use Rattle.std.specs.Prelude.{is_some}
use Rattle.std.specs.List.{filter_map, cons_option}
use Rattle.subdiv_model.specs.Lists.{first_of}
use Rattle.subdiv_model.specs.ObjLine.{is_vertex_line}
use Rattle.subdiv_model.specs.ObjFault.{ObjCause, first_cause}
use Rattle.subdiv_model.specs.ObjWord.{Counts, numeral_fault}
use Rattle.subdiv_model.specs.ReadObj.{is_texture_line, is_continued, values_of, kept_coordinates, line_fault, counts_of, fault_at, first_bad_line}
use Rattle.obj_laws.proofs.FirstFaultLemmas.{each-good}
use Rattle.obj_laws.proofs.ObjLineLemmas.{keyword-first}
use Rattle.obj_tags.specs.Line.{Line}
use Rattle.obj_tags.proofs.SurveyLemmas.{AreKept, IsFine}

past-two : (b c : Bool) (x y : ObjCause) (r : Option ObjCause) → (if b then Some x else if c then Some y else r) ≡ None → r ≡ None
past-two true c x y r h = absurd (true≢false (ap is_some h))
past-two false true x y r h = absurd (true≢false (ap is_some h))
past-two false false x y r h = h

vertex-values : (before whole : Counts) (words : Line) → is_vertex_line words ≡ true → line_fault before whole words ≡ None
    → first_cause numeral_fault (values_of words) ≡ None
vertex-values before whole words is h =
    subst (λ ws. line_fault before whole ws ≡ None → first_cause numeral_fault (values_of ws) ≡ None) (sym (keyword-first (codes "v") words is))
    (λ good. past-two (is_continued (codes "v" ∷ drop 1 words)) (nat_lt (length (drop 1 words)) 3) _ _ _ good) h

texture-values : (before whole : Counts) (words : Line) → is_texture_line words ≡ true → line_fault before whole words ≡ None
    → first_cause numeral_fault (values_of words) ≡ None
texture-values before whole words is h =
    subst (λ ws. line_fault before whole ws ≡ None → first_cause numeral_fault (values_of ws) ≡ None) (sym (keyword-first (codes "vt") words is))
    (λ good. past-two (is_continued (codes "vt" ∷ drop 1 words)) (nat_lt (length (drop 1 words)) 1) _ _ _ good) h

good-word : (word : List ℕ) (words : Line) (r : Option ObjCause) → r ≡ numeral_fault word
    → first_of (cons_option r (filter_map numeral_fault words)) ≡ None → (numeral_fault word ≡ None) × (first_cause numeral_fault words ≡ None)
good-word word words None e h = (sym e, h)
good-word word words (Some cause) e h = absurd (true≢false (ap is_some h))

kept-first : (n : ℕ) (words : Line) → first_cause numeral_fault words ≡ None → AreKept (take n words)
kept-first zero words h = tt
kept-first (suc n) [] h = tt
kept-first (suc n) (word ∷ words) h =
    let parts = good-word word words (numeral_fault word) refl h in (parts.0, kept-first n words parts.1)

-- The kept words of a line of a position, and of a line of a texture value.
pub vertex-kept : (words : Line) → is_vertex_line words ≡ true → kept_coordinates words ≡ take 3 (values_of words)
vertex-kept words kind = rw kind refl

pub texture-kept : (words : Line) → is_texture_line words ≡ true → kept_coordinates words ≡ take 2 (values_of words)
texture-kept words kind =
    subst (λ ws. kept_coordinates ws ≡ take 2 (values_of ws)) (sym (keyword-first (codes "vt") words kind)) refl

pub fine-positions : (lines : List Line) → first_bad_line lines ≡ None → IsFine is_vertex_line lines
fine-positions lines none i low kind =
    let words = get_or lines i [] in
    let good : fault_at lines i ≡ None = each-good (fault_at lines) (length lines) none i low in
    subst AreKept (sym (vertex-kept words kind)) (kept-first 3 (values_of words) (vertex-values (counts_of (take i lines)) (counts_of lines) words kind good))

pub fine-texture : (lines : List Line) → first_bad_line lines ≡ None → IsFine is_texture_line lines
fine-texture lines none i low kind =
    let words = get_or lines i [] in
    let good : fault_at lines i ≡ None = each-good (fault_at lines) (length lines) none i low in
    subst AreKept (sym (texture-kept words kind)) (kept-first 2 (values_of words) (texture-values (counts_of (take i lines)) (counts_of lines) words kind good))
