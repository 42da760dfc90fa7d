use Rattle.std.proofs.Common.{inl, inr, sym}
use Rattle.obj_tags.proofs.DenominatorLemmas.{stays-same, with-multiple, with-wide, multiple-positive}
use Rattle.obj_tags.proofs.survey.with_denominator.Goals.{then-is_some-via-then-is_some, then-is_some-via-else-is_some+then-divides}
use Rattle.obj_tags.proofs.survey.with_denominator.Goals as goal

pub returns-then-is_some-clause-with : goal.returns-then-is_some-clause-with
returns-then-is_some-clause-with c =
    elim c.then-is_some.branch [
      | then-is_some-via-then-is_some w ↦ stays-same c.args.number c.args.common c.args.den c.requires.positive c.requires.bounded.short (inl (sym w.if-is_some.ensures))
      | then-is_some-via-else-is_some+then-divides w ↦ stays-same c.args.number c.args.common c.args.den c.requires.positive c.requires.bounded.short (inr (sym w.if-divides.ensures))
    ]

pub returns-in-Some-clause-with : goal.returns-in-Some-clause-with
returns-in-Some-clause-with c =
    with-multiple c.args.number c.args.common c.args.den c.in-Some.value c.requires.positive (sym c.if-is_some.ensures) c.in-Some.ensures.multiple c.in-Some.ensures.within

pub returns-in-Some-clause-bounded : goal.returns-in-Some-clause-bounded
returns-in-Some-clause-bounded c =
    record {
      positive = multiple-positive c.args.common.value c.args.den c.in-Some.value c.requires.bounded.positive c.requires.positive c.in-Some.ensures.multiple;
      short = c.in-Some.ensures.within;
    }

pub returns-in-None-clause-with : goal.returns-in-None-clause-with
returns-in-None-clause-with c =
    with-wide c.args.number c.args.common c.args.den c.requires.positive (sym c.if-is_some.ensures) c.in-None.ensures.passed
