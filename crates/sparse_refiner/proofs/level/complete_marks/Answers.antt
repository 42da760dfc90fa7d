use Rattle.std.proofs.Common.{rules, ◌∙◌, ap, map, sym}
use Rattle.level_topology.specs.Topology.{Topology}
use Rattle.sparse_laws.specs.NextSparse.{has_all_faces}
use Rattle.sparse_level.specs.Places.{marks_on}
use Rattle.sparse_refiner.specs.Made.{selected_by}
use Rattle.sparse_refiner.proofs.StepLemmas.{on-long, below-at}
use Rattle.sparse_refiner.proofs.level.complete_marks.Goals as goal

pub mark_complete-requires-clause-marks : goal.mark_complete-requires-clause-marks
mark_complete-requires-clause-marks c =
    on-long c.level-level.result.now.level (selected_by c.args.present.now) c.deref.result.now
    (c.deref.ensures.value ∙ c.requires.present.on ∙ ap (λ (t : Topology). marks_on t.level (selected_by c.args.present.now)) (sym c.level-level.ensures))

pub mark_complete-requires-clause-inside : goal.mark_complete-requires-clause-inside
mark_complete-requires-clause-inside c =
    below-at c.args.sparse.now c.level-level.result.now c.level-level.ensures c.facts.ensures c.args.present.now c.requires.present c.args.points.now c.requires.points c.points.result.now c.points.ensures

-- proved by name, so that the prover refuses a body that breaks it at once
pub returns : goal.returns
returns c =
    let marks =
    c.in_ok-complete.ensures (selected_by c.args.present.now) (c.deref.ensures.value ∙ c.requires.present.on ∙ ap (λ (t : Topology). marks_on t.level (selected_by c.args.present.now)) (sym c.level-level.ensures))
    ∙ ap (λ (t : Topology). map (has_all_faces t.level (selected_by c.args.present.now)) c.points.result.now) c.level-level.ensures
    ∙ ap (map (has_all_faces c.args.sparse.now.topology.level (selected_by c.args.present.now))) c.points.ensures in
    search (rules, marks)
