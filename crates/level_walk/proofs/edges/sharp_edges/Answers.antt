use Rattle.std.proofs.Common.{arith}
use Rattle.subdiv_model.specs.Edges.{edges_of}
use Rattle.subdiv_model.specs.Text.{is_written_crease}
use Rattle.level_walk.proofs.CountLemmas.{list-next, list-most, list-all}
use Rattle.level_walk.proofs.edges.sharp_edges.Goals as goal

pub overflow_add-count : goal.overflow_add-count
overflow_add-count c =
    let polygons = c.args.level.now.level.polygons in
    record { fits = omega (arith, c.loop-e-test.true, list-most (is_written_crease c.args.level.now.level) (edges_of polygons) c.loop-e.e (0, 0) _ _ _ (omega (arith, c.loop-e-test.true, c.edges-e-end.ensures)) c.from-count.ensures c.is_crease.ensures c.loop-e.invariant) }

pub loop-e-preserved : goal.loop-e-preserved
loop-e-preserved c =
    let polygons = c.args.level.now.level.polygons in
    list-next (is_written_crease c.args.level.now.level) (edges_of polygons) c.loop-e.e (0, 0) _ _ _ (omega (arith, c.loop-e-test.true, c.edges-e-end.ensures)) c.from-count.ensures c.is_crease.ensures c.loop-e.invariant

pub returns : goal.returns
returns c =
    let polygons = c.args.level.now.level.polygons in
    list-all (is_written_crease c.args.level.now.level) (edges_of polygons) c.loop-e.e _ (omega (arith, c.loop-e-test.false, c.edges-e-end.ensures)) c.loop-e.invariant
