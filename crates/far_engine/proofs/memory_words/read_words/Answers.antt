use Rattle.std.proofs.Common.{ℕ, ◌+◌, Bool, List, [], ◌∷◌, ◌++◌, map, string_bytes, if◌then◌else◌, refl, ap, sym, ◌∙◌}
use Rattle.std.proofs.lemmas.List.{take_rest, map-append}
use Rattle.far_engine.proofs.MemoryWordLemmas.{reads-on, reads-none, reads-last}
use Rattle.far_engine.proofs.memory_words.read_words.Goals as goal

pub returns-in_default-from_utf8 : goal.returns-in_default-from_utf8
returns-in_default-from_utf8 c =
    reads-none _ _ c.loop-at.rest.now _ c.in-Some.at _ c.loop-at.invariant (sym c.first_zero.ensures ∙ c.in-Some.is) refl
    c.in_default-from_utf8.ensures.cases.1 c.in_default-from_utf8.ensures.valid_len

pub loop-at-preserved : goal.loop-at-preserved
loop-at-preserved c =
    reads-on _ _ _ c.loop-at.rest.now _ _ c.in-Some.at c.loop-at.invariant (sym c.first_zero.ensures ∙ c.in-Some.is) refl
    (take_rest c.loop-at.rest.now (c.in-Some.at + 1)) c.in-Ok.ensures.cases.1
    (ap (map string_bytes) c.in_ok-push.ensures.items ∙ map-append string_bytes c.loop-at.words.items (c.in_ok-from_str.field-0 ∷ [])
    ∙ ap (λ (word : List ℕ). map string_bytes c.loop-at.words.items ++ (word ∷ [])) (c.in_ok-from_str.ensures.ok ∙ c.in-Ok.ensures.cases.0))

pub returns : goal.returns
returns c =
    reads-last _ _ c.loop-at.rest.now c.loop-at.invariant (sym c.first_zero.ensures ∙ c.in_default.is)
    ∙ ap (λ (none : Bool). if none then map string_bytes c.loop-at.words.items else []) (sym c.is_empty.ensures)
