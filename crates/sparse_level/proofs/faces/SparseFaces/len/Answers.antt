use Rattle.std.proofs.Common.{arith, length, ap}
use Rattle.subdiv_model.specs.SparseText.{WrittenLevel}
use Rattle.sparse_level.proofs.FaceLemmas.{written-count}
use Rattle.sparse_level.proofs.faces.SparseFaces.len.Goals as goal

pub returns : goal.returns
returns c =
    let inside = c.self.inside in
    omega (arith, c.len.ensures, inside.kinds.ok.0, ap (λ (l : WrittenLevel). length l.faces) c.self.view_is, written-count inside.kinds.items inside.numbers.items inside.corners)
