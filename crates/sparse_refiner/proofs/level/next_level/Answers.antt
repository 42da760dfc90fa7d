use Rattle.sparse_refiner.proofs.StepLemmas.{part-at, names-at, marks-at, level-at}
use Rattle.sparse_refiner.proofs.level.next_level.Goals as goal

pub number_edges-requires-clause-part : goal.number_edges-requires-clause-part
number_edges-requires-clause-part g c =
    part-at c.args.sparse.now c.level-level.result.now c.level-level.ensures c.facts-2.ensures c.args.present.now c.requires.present c.deref.result.now c.deref.ensures.value c.args.points.now c.requires.points

pub part_level-requires-clause-names : goal.part_level-requires-clause-names
part_level-requires-clause-names g c =
    names-at c.args.sparse.now c.level-level.result.now c.level-level.ensures c.facts-2.ensures c.args.present.now c.requires.present c.deref-2.result.now c.deref-2.ensures.value c.args.points.now c.requires.points c.points.result.now c.points.ensures

pub part_level-requires-clause-marks : goal.part_level-requires-clause-marks
part_level-requires-clause-marks g c =
    marks-at c.args.sparse.now c.level-level.result.now c.level-level.ensures c.facts-2.ensures c.args.present.now c.requires.present c.deref-2.result.now c.deref-2.ensures.value c.args.points.now c.requires.points c.points.result.now c.points.ensures c.in_ok-complete.complete.items c.in_ok-complete.ensures c.facts.ensures

pub returns-clause-level : goal.returns-clause-level
returns-clause-level g c =
    level-at c.args.sparse.now c.level-level.result.now c.level-level.ensures c.facts-2.ensures c.args.present.now c.requires.present c.deref-2.result.now c.deref-2.ensures.value c.args.points.now c.requires.points c.points.result.now c.points.ensures c.in_ok-complete.complete.items c.in_ok-complete.ensures
    c.part_level.result c.part_level.ensures.part c.part_level.ensures.points c.part_level.ensures.complete
