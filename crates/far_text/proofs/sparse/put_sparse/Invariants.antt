use Rattle.std.proofs.Common.{take, Ok}
use Rattle.std.specs.List.{flat_map}
use Rattle.obj_out.specs.Puts.{Puts}
use Rattle.far_text.specs.SparseLines.{numbered_level}
use Rattle.far_text.proofs.SparseLemmas.{numbered}
use Rattle.far_text.proofs.sparse.put_sparse.Given as goal

-- the lines so far
abbrev pub invariant-loop-k : goal.invariant-loop-k
invariant-loop-k g l = Puts g.K.Sink l.fn.out l.out (flat_map (numbered_level l.mesh.decimals) (take l.k (numbered l.mesh.common l.mesh.levels.items))) (Ok tt)
