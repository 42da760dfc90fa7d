use Rattle.sparse_face_varying.proofs.SearchLemmas.{search-known}
use Rattle.sparse_face_varying.proofs.chosen.has_number.Goals as goal

pub returns : goal.returns
returns c = λ up. search-known c.args.numbers.now c.args.number c.binary_search.result _ c.binary_search.ensures.position up c.is_ok.ensures.value
