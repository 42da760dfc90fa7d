use Rattle.std.proofs.Common.{nat_eq, ◌||◌, get_or, length, arith, refl, ap, sym, ◌∙◌}
use Rattle.std.proofs.lemmas.List.{length-set}
use Rattle.subdiv_model.specs.Polygons.{is_among}
use Rattle.mesh_check.proofs.MarkLemmas.{none-set, as-many, marked-next, or-none}
use Rattle.level_builder.proofs.RestLemmas.{at-first, at-none, others}
use Rattle.mesh_check.proofs.marks.marks_of.Goals as goal

pub loop-rest-init : goal.loop-rest-init
loop-rest-init c = record {
  size = as-many c.in_ok-marks.marks.items _ _ c.in_ok-marks.ensures refl;
  set = λ j h. ap (λ n. nat_eq n 1 || is_among c.args.places.now j) (none-set c.in_ok-marks.marks.items c.args.count j c.in_ok-marks.ensures);
}

pub loop-rest-preserved : goal.loop-rest-preserved
loop-rest-preserved c =
    let rest = c.loop-rest.rest.now in
    let marks = c.loop-rest.marks.items in
    record {
      size = ap length c.set_mark.ensures ∙ length-set marks _ 1 ∙ c.loop-rest.invariant.size;
      set = λ j h.
          marked-next marks _ _ j (is_among (others rest) j) (omega (arith, h, c.loop-rest.invariant.size)) c.set_mark.ensures
          ∙ sym (at-first (λ ps. nat_eq (get_or marks j 0) 1 || is_among ps j) rest _ c.in-len1-up.len_at_least) ∙ c.loop-rest.invariant.set j h;
    }

pub returns-clause-set : goal.returns-clause-set
returns-clause-set c = λ j h.
    or-none _ ∙ sym (at-none (λ ps. nat_eq (get_or c.loop-rest.marks.items j 0) 1 || is_among ps j) c.loop-rest.rest.now c.in_default.len_below) ∙ c.loop-rest.invariant.set j h
