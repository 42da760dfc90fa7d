use Rattle.std.proofs.Common.{◌*◌, ◌^◌, arith, ap, ◌∙◌}
use Rattle.std.specs.Int.{w128}
use Rattle.std.proofs.lemmas.Int.{fits_signed_from_abs, to_z-of_z}
use Rattle.subdiv_model.specs.NumberText.{half_to_even}
use Rattle.obj_out.proofs.DecimalTextLemmas.{put-rounded}
use Rattle.obj_out.proofs.waiting.Waiting.push_rounded.Goals as goal

pub returns : goal.returns
returns c =
    let kept = fits_signed_from_abs w128 c.args.f.now.num (omega (arith, c.requires.kept)) in
    let amount = simp (to_z-of_z w128 _ kept) at c.unsigned_abs.ensures.value in
    let sign = simp (to_z-of_z w128 _ kept) at c.push_rounded_sign.ensures.text in
    put-rounded _ _ _ c.args.digits c.args.f.now.num c.args.f.now.den _
    (c.rounded-number.ensures.value ∙ ap (λ n. half_to_even (n * 10 ^ c.args.digits) c.args.f.now.den) amount) sign c.push_decimal.ensures
