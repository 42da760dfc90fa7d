use Rattle.std.proofs.Common.{◌∙◌}
use Rattle.sparse_refiner.proofs.StepLemmas.{on-long}
use Rattle.sparse_refiner.proofs.places.find_places.Goals as goal

pub count_places-count-requires : goal.count_places-count-requires
count_places-count-requires c = on-long c.level-level.result.now.level _ _ (c.deref-2.ensures.value ∙ c.in_ok-on.ensures)

pub put_places-requires : goal.put_places-requires
put_places-requires c = on-long c.level-level.result.now.level _ _ (c.deref-3.ensures.value ∙ c.in_ok-on.ensures)
