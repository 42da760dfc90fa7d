use Rattle.std.proofs.Common.{rules, arith, sym}
use Rattle.level_topology.proofs.PieceLemmas.{piece_next, ascend_next}
use Rattle.level_topology.proofs.packed_lists.piece.Goals as goal

pub offset_bounds-items-from : goal.offset_bounds-items-from
offset_bounds-items-from g c = let h = ascend_next _ _ c.args.i c.requires.ascend c.requires.inside in omega arith

pub slice_bounds-result-count : goal.slice_bounds-result-count
slice_bounds-result-count g c = (ascend_next _ _ c.args.i c.requires.ascend c.requires.inside).0

pub slice_bounds-result-start : goal.slice_bounds-result-start
slice_bounds-result-start g c = let h = ascend_next _ _ c.args.i c.requires.ascend c.requires.inside in search rules

pub slice_bounds-result-end : goal.slice_bounds-result-end
slice_bounds-result-end g c = let h = ascend_next _ _ c.args.i c.requires.ascend c.requires.inside in search rules

pub returns : goal.returns
returns g c = sym (piece_next _ _ _ c.requires.inside)
