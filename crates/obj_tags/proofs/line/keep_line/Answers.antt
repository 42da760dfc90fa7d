use Rattle.std.proofs.Common.{◌≡◌, ◌≤◌, ◌<◌, suc, ◌∷◌, length, take, drop, false, arith, ap, sym, subst, ◌∙◌}
use Rattle.subdiv_model.specs.ObjLine.{line_words}
use Rattle.subdiv_model.specs.ReadObj.{is_continued, least_values, counts_of, line_fault}
use Rattle.obj_laws.proofs.ObjSizeLemmas.{line-words-half}
use Rattle.obj_tags.specs.Keyword.{IsKeywordOf}
use Rattle.obj_tags.specs.Walk.{words_left}
use Rattle.obj_tags.proofs.KeepLemmas.{empty-kept, read-kept, line-unknown, line-short}
use Rattle.obj_tags.proofs.line.keep_line.Goals as goal

pub returns-in_default : goal.returns-in_default
returns-in_default c = λ lines n at is.
    empty-kept c.args.draft.now c.args.all c.args.number lines n (line_words c.args.line.now) (sym c.words_of-words.ensures ∙ c.in_default.ensures.0) at is

pub returns-in_default-keyword_of : goal.returns-in_default-keyword_of
returns-in_default-keyword_of c = λ lines n at is.
    let rest = words_left c.next_word.new.words in
    let e : line_words c.args.line.now ≡ c.in-Some.first.now ∷ rest = sym c.words_of-words.ensures ∙ c.in-Some.ensures in
    let last : is_continued (c.in-Some.first.now ∷ rest) ≡ false = ap is_continued (sym e) ∙ sym c.extent_of-extent.ensures.continued ∙ c.if-extent.false in
    ap (line_fault (counts_of (take n lines)) (counts_of lines)) (at.here ∙ e)
    ∙ line-unknown (counts_of (take n lines)) (counts_of lines) c.in-Some.first.now rest last (c.in_default-keyword_of.ensures rest)

pub returns-then-len-least_words : goal.returns-then-len-least_words
returns-then-len-least_words c = λ lines n at is.
    let rest = words_left c.next_word.new.words in
    let e : line_words c.args.line.now ≡ c.in-Some.first.now ∷ rest = sym c.words_of-words.ensures ∙ c.in-Some.ensures in
    let last : is_continued (c.in-Some.first.now ∷ rest) ≡ false = ap is_continued (sym e) ∙ sym c.extent_of-extent.ensures.continued ∙ c.if-extent.false in
    let known = c.in-Some-keyword_of.ensures rest in
    let least : c.least_words.result ≡ least_values (c.in-Some.first.now ∷ rest) = c.least_words.ensures.least (c.in-Some.first.now ∷ rest) known.1 in
    let size : length (line_words c.args.line.now) ≡ suc (length rest) = ap length e in
    let count = c.extent_of-extent.ensures.len in
    let few = c.if-len-least_words.true in
    let short : length rest < least_values (c.in-Some.first.now ∷ rest) = omega (arith, least, size, count, few) in
    ap (line_fault (counts_of (take n lines)) (counts_of lines)) (at.here ∙ e)
    ∙ line-short (counts_of (take n lines)) (counts_of lines) c.in-Some.first.now rest last known.0 short

pub keep_values-requires-clause-capacity : goal.keep_values-requires-clause-capacity
keep_values-requires-clause-capacity c =
    let rest = words_left c.next_word.new.words in
    let e : line_words c.args.line.now ≡ c.in-Some.first.now ∷ rest = sym c.words_of-words.ensures ∙ c.in-Some.ensures in
    let size : length (line_words c.args.line.now) ≡ suc (length rest) = ap length e in
    let half = line-words-half c.args.line.now in
    let capacity = c.requires.capacity in
    let corners = capacity.corners in
    record {
      points = capacity.points;
      textures = capacity.textures;
      some = capacity.some;
      faces = capacity.faces;
      corners = omega (arith, size, half, corners);
    }

pub returns : goal.returns
returns c = λ lines n at is.
    let rest = words_left c.next_word.new.words in
    let e : line_words c.args.line.now ≡ c.in-Some.first.now ∷ rest = sym c.words_of-words.ensures ∙ c.in-Some.ensures in
    let last : is_continued (c.in-Some.first.now ∷ rest) ≡ false = ap is_continued (sym e) ∙ sym c.extent_of-extent.ensures.continued ∙ c.if-extent.false in
    let known = c.in-Some-keyword_of.ensures rest in
    let least : c.least_words.result ≡ least_values (c.in-Some.first.now ∷ rest) = c.least_words.ensures.least (c.in-Some.first.now ∷ rest) known.1 in
    let size : length (line_words c.args.line.now) ≡ suc (length rest) = ap length e in
    let count = c.extent_of-extent.ensures.len in
    let many = c.if-len-least_words.false in
    let enough : least_values (c.in-Some.first.now ∷ rest) ≤ length rest = omega (arith, least, size, count, many) in
    read-kept c.keep_values.result _ c.args.all c.args.number lines n (line_words c.args.line.now) c.in-Some.first.now rest e at last known.0 enough
    (c.keep_values.ensures lines n (line_words c.args.line.now) at (subst (λ l. IsKeywordOf c.in-Some-keyword_of.keyword l) (sym e) known.1) (ap (drop 1) e) is)
