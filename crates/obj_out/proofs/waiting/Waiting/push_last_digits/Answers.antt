use Rattle.std.proofs.Common.{◌++◌, drop, arith, ap, ◌∙◌}
use Rattle.obj_out.proofs.DecimalTextLemmas.{power-short, written-with-one, length-with-one}
use Rattle.obj_out.proofs.waiting.Waiting.push_last_digits.Goals as goal

pub overflow_add-pow : goal.overflow_add-pow
overflow_add-pow c = record { fits = omega (arith, power-short c.args.digits c.args.n c.requires.few c.requires.below, c.pow.ensures) }

pub push_behind_first-requires : goal.push_behind_first-requires
push_behind_first-requires c =
    let text = written-with-one c.args.digits c.args.n _ _ c.requires.few c.requires.below c.pow.ensures (c.as_bytes.ensures.value ∙ c.format.ensures.text) in
    omega (arith, c.requires.fits, length-with-one c.args.digits c.args.n _ text)

pub returns : goal.returns
returns c =
    c.push_behind_first.ensures
    ∙ ap (λ t. c.args.self.now ++ drop 1 t) (written-with-one c.args.digits c.args.n _ _ c.requires.few c.requires.below c.pow.ensures (c.as_bytes.ensures.value ∙ c.format.ensures.text))
