use Rattle.std.proofs.Common.{arith, ap, ◌∙◌, ◌+◌, ◌++◌, decimal}
use Rattle.obj_out.proofs.DigitsLemmas.{digits-behind, digits-fit}
use Rattle.obj_out.proofs.waiting.Waiting.push_digits.Goals as goal

pub write_digits-requires : goal.write_digits-requires
write_digits-requires c = (
  omega (arith, c.digits_of.ensures.count),
  digits-fit c.self.inside.bytes c.args.self.now c.self.inside.len c.digits_of.result c.self.view_is c.self.invariant c.self.told c.requires c.digits_of.ensures.few,
)

pub returns : goal.returns
returns c =
    digits-behind c.self.inside.bytes c.write_digits.new.buf (decimal c.args.n) c.self.inside.len c.write_digits.result _
    (ap (λ k. c.self.inside.len + k) c.digits_of.ensures.count) c.write_digits.ensures.start c.write_digits.ensures.written c.write_digits.ensures.before
    ∙ ap (λ t. t ++ decimal c.args.n) c.self.view_is
