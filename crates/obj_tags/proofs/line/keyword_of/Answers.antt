use Rattle.std.proofs.Common.{◌∷◌, sym, ◌∙◌}
use Rattle.obj_tags.proofs.LineLemmas.{known_last}
use Rattle.obj_tags.proofs.line.keyword_of.Goals as goal

pub returns-then-is_ignored : goal.returns-then-is_ignored
returns-then-is_ignored c = λ rest.
    let v = sym c.is_word.ensures ∙ c.if-is_word.false in
    let vt = sym c.is_word-else-is_word.ensures ∙ c.if-is_word-2.false in
    let f = sym c.is_word-else-is_word-2.ensures ∙ c.if-is_word-3.false in
    let t = sym c.is_word-else-is_word-3.ensures ∙ c.if-is_word-4.false in
    (known_last (c.args.word.now ∷ rest) v vt f t ∙ sym (c.is_ignored.ensures rest) ∙ c.if-is_ignored.true, (v, vt, f, t))

pub returns-else-is_ignored : goal.returns-else-is_ignored
returns-else-is_ignored c = λ rest.
    let v = sym c.is_word.ensures ∙ c.if-is_word.false in
    let vt = sym c.is_word-else-is_word.ensures ∙ c.if-is_word-2.false in
    let f = sym c.is_word-else-is_word-2.ensures ∙ c.if-is_word-3.false in
    let t = sym c.is_word-else-is_word-3.ensures ∙ c.if-is_word-4.false in
    known_last (c.args.word.now ∷ rest) v vt f t ∙ sym (c.is_ignored.ensures rest) ∙ c.if-is_ignored.false
