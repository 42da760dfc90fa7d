use Rattle.std.proofs.Common.{◌*◌, ◌^◌, arith, ap, ◌∙◌}
use Rattle.obj_text.proofs.TermsLemmas.{fives-fit, over-small, over-terms}
use Rattle.obj_text.proofs.terms.over_decimals.Goals as goal

pub pow-requires-2 : goal.pow-requires-2
pow-requires-2 c = fives-fit c.without_fives-num.result.1 (omega (arith, c.without_fives-num.ensures.few, c.requires.few))

pub overflow_mul-result : goal.overflow_mul-result
overflow_mul-result c =
    let most = over-small c.args.decimals c.without_twos-rest.result.1 c.without_fives-num.result.1 c.requires.few c.without_twos-rest.ensures.few c.without_fives-num.ensures.few in
    rw (c.pow.ensures, c.pow-2.ensures) (record { fits = omega (arith, most) })

pub returns : goal.returns
returns c =
    over-terms c.args.amount c.args.decimals c.without_twos-rest.result.0 c.without_twos-rest.result.1 c.without_fives-num.result.0 c.without_fives-num.result.1 _ c.requires.amount c.requires.few c.without_twos-rest.ensures c.without_fives-num.ensures
    (ap (λ n. n * c.pow-2.result) c.pow.ensures ∙ ap (λ n. 2 ^ c.without_twos-rest.result.1 * n) c.pow-2.ensures)
