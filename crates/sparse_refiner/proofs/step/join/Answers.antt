use Rattle.std.proofs.Common.{◌∙◌, ap, map}
use Rattle.level_topology.specs.ChildTables.{origin_of}
use Rattle.sparse_refiner.proofs.StepLemmas.{child-at}
use Rattle.sparse_refiner.proofs.step.join.Goals as goal

pub join-requires : goal.join-requires
join-requires c =
    child-at c.args.sparse.now c.level-level.result.now c.level-level.ensures c.facts.ensures c.args.present.now c.requires.present c.deref-2.result.now c.deref-2.ensures.value c.args.next c.facts-2.ensures c.requires.next
    c.args.points.now c.points.result.now c.requires.points c.points.ensures c.deref.result.now (ap (map origin_of) c.deref.ensures.value ∙ c.in_ok-origins.ensures)
