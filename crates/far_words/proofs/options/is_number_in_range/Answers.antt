use Rattle.std.proofs.Common.{rules, arith, sym, ◌∙◌, ap}
use Rattle.far_words.specs.Table.{u32_of_word}
use Rattle.far_words.proofs.NumberLemmas.{not-between}
use Rattle.far_words.proofs.options.is_number_in_range.Goals as goal

pub returns-in-None : goal.returns-in-None
returns-in-None c =
    not-between c.args.value.now c.args.least c.args.greatest
    (ap u32_of_word (sym c.as_bytes.ensures.value) ∙ sym c.read_number.ensures ∙ c.in-None.is)
    (omega (arith, c.ranges.greatest.fits))

-- asked for by name, so that a body that breaks it is refused at once
pub returns-then-least-number : goal.returns-then-least-number
returns-then-least-number c = search rules
