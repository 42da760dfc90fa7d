use Rattle.std.proofs.Common.{rules, arith}
use Rattle.stencil_apply.proofs.ArrayLemmas.{ascend-at}
use Rattle.stencil_apply.proofs.arrays.part.Goals as goal

pub offset_bounds-items-from : goal.offset_bounds-items-from
offset_bounds-items-from g c =
    let h = ascend-at 0 _ _ c.args.row c.requires.ascend c.requires.inside in omega (arith, c.start-from.ensures)

pub slice_bounds-result-count : goal.slice_bounds-result-count
slice_bounds-result-count g c = rw c.start-from.ensures (ascend-at 0 _ _ c.args.row c.requires.ascend c.requires.inside).0

pub slice_bounds-result-start : goal.slice_bounds-result-start
slice_bounds-result-start g c =
    let h = ascend-at 0 _ _ c.args.row c.requires.ascend c.requires.inside in search rules

pub slice_bounds-result-end : goal.slice_bounds-result-end
slice_bounds-result-end g c =
    let h = ascend-at 0 _ _ c.args.row c.requires.ascend c.requires.inside in search rules
