use Rattle.std.proofs.Common.{◌-◌, arith, length, ap}
use Rattle.std.specs.List.{sum_by}
use Rattle.sparse_level.specs.Numbers.{NumberedFaces}
use Rattle.sparse_level.proofs.CountLemmas.{all-pieces-count}
use Rattle.sparse_level.proofs.corners.NumberedCorners.count.Goals as goal

pub overflow_sub-result : goal.overflow_sub-result
overflow_sub-result c =
    let inside = c.self.inside in
    let count = all-pieces-count inside.starts.items inside.corners.items (c.len.result - 1) c.index-2.result.now c.index.result.now c.self.invariant (omega (arith, c.len.ensures, inside.starts.ok.0)) c.index-2.ensures c.index.ensures in
    omega (arith, count)

pub returns : goal.returns
returns c =
    let inside = c.self.inside in
    let count = all-pieces-count inside.starts.items inside.corners.items (c.len.result - 1) c.index-2.result.now c.index.result.now c.self.invariant (omega (arith, c.len.ensures, inside.starts.ok.0)) c.index-2.ensures c.index.ensures in
    omega (arith, count, ap (λ (n : NumberedFaces). sum_by length n.faces) c.self.view_is)
