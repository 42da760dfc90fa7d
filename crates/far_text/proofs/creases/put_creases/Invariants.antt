use Rattle.std.proofs.Common.{take, Ok}
use Rattle.std.specs.List.{flat_map}
use Rattle.obj_out.specs.Puts.{Puts}
use Rattle.subdiv_model.specs.Edges.{edges_of}
use Rattle.far_text.specs.Lines.{crease_where_sharp}
use Rattle.far_text.proofs.creases.put_creases.Given as goal

-- the lines so far
abbrev pub invariant-loop-e : goal.invariant-loop-e
invariant-loop-e g l = Puts g.K.Sink l.fn.out l.out (flat_map (crease_where_sharp l.level.level) (take l.e (edges_of l.level.level.polygons))) (Ok tt)
