use Rattle.std.proofs.Common.{length, arith, sym}
use Rattle.std.proofs.lemmas.Bool.{eqb-true}
use Rattle.obj_tags.proofs.PlainLemmas.{word-whole, word-point}
use Rattle.obj_tags.proofs.plain.decimals_of.Goals as goal

pub returns-then-is_empty : goal.returns-then-is_empty
returns-then-is_empty c =
    word-whole c.args.word.now c.after_sign-unsigned.result.now c.split_at.result.1.now c.digits_len.result c.after_sign-unsigned.ensures c.split_at.ensures.back c.digits_len.ensures.digits (eqb-true (length c.split_at.result.1.now) 0 (sym c.if-is_empty.ensures))

pub returns : goal.returns
returns c =
    word-point c.args.word.now c.after_sign-unsigned.result.now c.split_at.result.1.now c.in_ok-digits.digits.now c.digits_len.result c.digits_len-2.result c.after_sign-unsigned.ensures c.split_at.ensures.back c.digits_len.ensures.digits c.in_ok-digits.ensures c.digits_len-2.ensures.digits (omega (arith, c.if-digits_len-digits.false))
