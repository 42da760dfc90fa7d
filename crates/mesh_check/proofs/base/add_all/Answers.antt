use Rattle.std.proofs.Common.{arith, ap, sym, ◌∙◌, length}
use Rattle.std.proofs.lemmas.List.{length-replicate}
use Rattle.point_fans.specs.Built.{Built}
use Rattle.mesh_check.specs.Base.{all_complete, tagged_built}
use Rattle.mesh_check.proofs.CountLemmas.{point-count}
use Rattle.mesh_check.proofs.BaseLemmas.{own-marks, base-marks}
use Rattle.mesh_check.proofs.base.add_all.Goals as goal

pub add_faces-requires-clause-holes : goal.add_faces-requires-clause-holes
add_faces-requires-clause-holes g c = base-marks c.args.raw.now c.args.holes.now c.requires.holes

pub add_tags-requires-clause-smooth : goal.add_tags-requires-clause-smooth
add_tags-requires-clause-smooth g c = own-marks c.args.raw.now c.args.holes.now _ c.in_ok-add_faces.ensures.faces

pub mark_points-requires-clause-points : goal.mark_points-requires-clause-points
mark_points-requires-clause-points g c = ap (λ (b : Built). b.level.point_count) c.in_ok-add_tags.ensures ∙ sym (point-count c.points.result.now _ c.points.ensures)

pub mark_points-requires-clause-marks : goal.mark_points-requires-clause-marks
mark_points-requires-clause-marks g c =
    ap (λ (b : Built). length b.complete) c.in_ok-add_tags.ensures ∙ length-replicate (length c.args.raw.now.points) _ ∙ sym (point-count c.points.result.now _ c.points.ensures)

pub returns-clause-all : goal.returns-clause-all
returns-clause-all g c = c.mark_points.ensures ∙ ap all_complete (c.in_ok-add_tags.ensures ∙ ap (λ (b : Built). tagged_built c.args.raw.now b.level.holes) c.in_ok-add_faces.ensures.faces)

pub overflow_cast-points : goal.overflow_cast-points
overflow_cast-points g c = omega (arith, point-count c.points.result.now _ c.points.ensures, c.requires.fit.points)
