use Rattle.mask_laws.proofs.DistinctLemmas.{all-distinct, distinct-joined}
use Rattle.mask_laws.proofs.masks.masks_list_their_sources_once.Goals as goal

pub returns-clause-level : goal.returns-clause-level
returns-clause-level c = all-distinct

pub returns-clause-terms : goal.returns-clause-terms
returns-clause-terms c = distinct-joined
