use Rattle.std.proofs.Common.{nat_eq, ◌||◌, get_or, length, arith, refl, ap, sym, ◌∙◌}
use Rattle.std.specs.List.{list_any}
use Rattle.std.proofs.lemmas.List.{length-set}
use Rattle.subdiv_model.specs.Edges.{has_end}
use Rattle.mesh_check.proofs.MarkLemmas.{none-set, as-many, marked-next, either, or-none}
use Rattle.level_builder.proofs.RestLemmas.{at-first, at-none, others}
use Rattle.mesh_check.proofs.holes.end_marks.Goals as goal

pub loop-rest-init : goal.loop-rest-init
loop-rest-init c = record {
  size = as-many c.in_ok-marks.marks.items _ _ c.in_ok-marks.ensures refl;
  ends = λ v h. ap (λ n. nat_eq n 1 || list_any (has_end v) c.args.sides.now) (none-set c.in_ok-marks.marks.items c.args.count v c.in_ok-marks.ensures);
}

pub loop-rest-preserved : goal.loop-rest-preserved
loop-rest-preserved c =
    let rest = c.loop-rest.rest.now in
    let marks = c.loop-rest.marks.items in
    let side = get_or rest 0 (0, 0) in
    record {
      size = ap length c.set_mark-in-len1-up.ensures ∙ length-set c.set_mark.new.marks.items side.1 1 ∙ ap length c.set_mark.ensures ∙ length-set marks side.0 1 ∙ c.loop-rest.invariant.size;
      ends = λ v h.
          marked-next c.set_mark.new.marks.items _ side.1 v (list_any (has_end v) (others rest)) (omega (arith, h, ap length c.set_mark.ensures, length-set marks side.0 1, c.loop-rest.invariant.size)) c.set_mark-in-len1-up.ensures
          ∙ marked-next marks _ side.0 v (nat_eq v side.1 || list_any (has_end v) (others rest)) (omega (arith, h, c.loop-rest.invariant.size)) c.set_mark.ensures
          ∙ ap (λ b. nat_eq (get_or marks v 0) 1 || b) (sym (either (nat_eq v side.0) (nat_eq v side.1) (list_any (has_end v) (others rest))))
          ∙ sym (at-first (λ ss. nat_eq (get_or marks v 0) 1 || list_any (has_end v) ss) rest (0, 0) c.in-len1-up.len_at_least) ∙ c.loop-rest.invariant.ends v h;
    }

pub returns-clause-ends : goal.returns-clause-ends
returns-clause-ends c = λ v h.
    or-none _ ∙ sym (at-none (λ ss. nat_eq (get_or c.loop-rest.marks.items v 0) 1 || list_any (has_end v) ss) c.loop-rest.rest.now c.in_default.len_below) ∙ c.loop-rest.invariant.ends v h
