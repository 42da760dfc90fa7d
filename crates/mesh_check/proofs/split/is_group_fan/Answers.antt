use Rattle.std.proofs.Common.{arith, ap, length}
use Rattle.std.proofs.lemmas.List.{length-map}
use Rattle.mesh_check.specs.declared.turns.Turn.{Turn}
use Rattle.mesh_check.proofs.split.is_group_fan.Goals as goal

pub is_fan-requires-clause-short : goal.is_fan-requires-clause-short
is_fan-requires-clause-short c = omega (arith, ap length c.deref.ensures.value, ap length c.in_ok-befores.ensures, length-map c.args.group.now (λ (turn : Turn). turn.before), c.requires.short)

pub is_fan-requires-clause-equal : goal.is_fan-requires-clause-equal
is_fan-requires-clause-equal c =
    omega (arith, ap length c.deref.ensures.value, ap length c.in_ok-befores.ensures, ap length c.deref-2.ensures.value, ap length c.in_ok-afters.ensures, length-map c.args.group.now (λ (turn : Turn). turn.before), length-map c.args.group.now (λ (turn : Turn). turn.after))
