use Rattle.std.proofs.Common.{arith, ap, ◌∙◌}
use Rattle.std.specs.Int.{w128}
use Rattle.subdiv_model.specs.Sharpness.{sharpness_of_fraction}
use Rattle.std.proofs.lemmas.Int.{fits_signed_from_abs, to_z-of_z}
use Rattle.obj_tags.proofs.NumberLemmas.{sharp-negative, sharp-infinite, sharp-fine, sharp-kept, fine-either, fine-neither}
use Rattle.obj_tags.proofs.number.sharpness.Goals as goal

pub returns-then-number-lt0 : goal.returns-then-number-lt0
returns-then-number-lt0 c =
    let read = c.in_ok-number.ensures in
    let n = c.in_ok-number.number in
    let fits = fits_signed_from_abs w128 n.num (omega (arith, read.1.short)) in
    sharp-negative c.args.word.now n.num n.den read.0 read.1.terms (simp (to_z-of_z w128 _ fits) at c.if-number-lt0.true)

pub returns-then-amount-number : goal.returns-then-amount-number
returns-then-amount-number c =
    let read = c.in_ok-number.ensures in
    let n = c.in_ok-number.number in
    let fits = fits_signed_from_abs w128 n.num (omega (arith, read.1.short)) in
    sharp-infinite c.args.word.now n.num n.den read.0 read.1.terms read.1.positive (simp (to_z-of_z w128 _ fits) at c.if-number-lt0.false) (omega (arith, c.if-amount-number.true, simp (to_z-of_z w128 _ fits) at c.unsigned_abs-amount.ensures.value))

pub returns-then-number-gt6 : goal.returns-then-number-gt6
returns-then-number-gt6 c =
    let read = c.in_ok-number.ensures in
    let n = c.in_ok-number.number in
    let fits = fits_signed_from_abs w128 n.num (omega (arith, read.1.short)) in
    sharp-fine c.args.word.now n.num n.den n.decimals read.0 read.1.terms read.1.decimals (simp (to_z-of_z w128 _ fits) at c.if-number-lt0.false) (omega (arith, c.if-amount-number.false, simp (to_z-of_z w128 _ fits) at c.unsigned_abs-amount.ensures.value)) (fine-either n.decimals n.den c.then-number-gt6.either)

pub returns : goal.returns
returns c =
    let read = c.in_ok-number.ensures in
    let n = c.in_ok-number.number in
    let fits = fits_signed_from_abs w128 n.num (omega (arith, read.1.short)) in
    let kept = sharp-kept c.args.word.now n.num n.den n.decimals read.0 read.1.terms read.1.decimals (simp (to_z-of_z w128 _ fits) at c.if-number-lt0.false) (fine-neither n.decimals n.den c.if-number-gt6.false c.if-number-gt1000000.false) in
    (kept.0, c.new.ensures ∙ ap (λ a. sharpness_of_fraction (a, n.den)) (simp (to_z-of_z w128 _ fits) at c.unsigned_abs-amount.ensures.value) ∙ kept.1)
