use Rattle.std.proofs.Common.{take, Ok}
use Rattle.std.specs.List.{flat_map}
use Rattle.obj_out.specs.Puts.{Puts}
use Rattle.far_text.specs.TexturedLines.{numbered_parts}
use Rattle.far_text.proofs.TexturedLemmas.{numbered_levels}
use Rattle.far_text.proofs.textured_sparse.put_textured_sparse.Given as goal

-- the lines so far
abbrev pub invariant-loop-k : goal.invariant-loop-k
invariant-loop-k g l = Puts g.K.Sink l.fn.out l.out (flat_map (numbered_parts l.sparse.mesh.decimals) (take l.k (numbered_levels l.sparse))) (Ok tt)
