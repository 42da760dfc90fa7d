use Rattle.std.proofs.Common.{ap, take_all, arith}
use Rattle.std.specs.List.{flat_map}
use Rattle.subdiv_model.specs.Edges.{edges_of}
use Rattle.obj_out.proofs.PutsLemmas.{puts-next, puts-same, puts-stop}
use Rattle.far_text.specs.Lines.{crease_where_sharp}
use Rattle.far_text.proofs.creases.put_creases.Goals as goal

pub returns-in_err-put_edge : goal.returns-in_err-put_edge
returns-in_err-put_edge g c =
    puts-stop (crease_where_sharp c.args.level.now.level) (edges_of c.args.level.now.level.polygons) c.loop-e.e (0, 0)
    (omega (arith, c.loop-e-test.true, c.edges-e-end.ensures)) c.from_residual.ensures.0
    c.loop-e.invariant c.in_err-put_edge.ensures

pub loop-e-preserved : goal.loop-e-preserved
loop-e-preserved g c =
    puts-next (crease_where_sharp c.args.level.now.level) (edges_of c.args.level.now.level.polygons) c.loop-e.e (0, 0)
    (omega (arith, c.loop-e-test.true, c.edges-e-end.ensures)) c.loop-e.invariant
    c.in_ok-put_edge.ensures

pub returns : goal.returns
returns g c =
    puts-same (ap (flat_map (crease_where_sharp c.args.level.now.level)) (take_all c.loop-e.e (edges_of c.args.level.now.level.polygons)
    (omega (arith, c.loop-e-test.false, c.edges-e-end.ensures)))) c.loop-e.invariant
