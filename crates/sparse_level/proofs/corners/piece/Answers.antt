use Rattle.std.proofs.Common.{rules, sym}
use Rattle.level_topology.proofs.PieceLemmas.{piece_next, ascend_next}
use Rattle.sparse_level.proofs.corners.piece.Goals as goal

pub slice_bounds-result-count : goal.slice_bounds-result-count
slice_bounds-result-count c = (ascend_next _ _ c.args.f c.requires.ascend c.requires.inside).0

pub slice_bounds-result-start : goal.slice_bounds-result-start
slice_bounds-result-start c = let h = ascend_next _ _ c.args.f c.requires.ascend c.requires.inside in search rules

pub slice_bounds-result-end : goal.slice_bounds-result-end
slice_bounds-result-end c = let h = ascend_next _ _ c.args.f c.requires.ascend c.requires.inside in search rules

pub returns : goal.returns
returns c = sym (piece_next _ _ _ c.requires.inside)
