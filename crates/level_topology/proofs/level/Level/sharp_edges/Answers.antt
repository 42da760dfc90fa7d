use Rattle.std.proofs.Common.{ℕ, ◌∙◌, arith, ap}
use Rattle.std.specs.List.{count_by}
use Rattle.std.proofs.lemmas.List.{take_all}
use Rattle.subdiv_model.specs.Feature.{is_sharp_inside}
use Rattle.level_topology.specs.Topology.{edge_at}
use Rattle.level_topology.proofs.FactLemmas.{count-next, count-most, edges-exist, edges-few, sharp-counted}
use Rattle.level_topology.proofs.level.Level.sharp_edges.Goals as goal

pub is_sharp_inside-requires : goal.is_sharp_inside-requires
is_sharp_inside-requires c = edges-exist c.args.self.now c.facts.ensures c.args.f c.loop-e.e-index _ c.face_edges-e-items.ensures c.loop-e-test.true

pub overflow_add-count : goal.overflow_add-count
overflow_add-count c =
    let most =
    count-most (λ e. is_sharp_inside c.args.self.now.level (edge_at c.args.self.now.level.polygons e)) c.face_edges-e-items.result.now c.loop-e.e-index 0
    _ _ _ c.loop-e-test.true c.from-count.ensures c.is_sharp_inside.ensures c.loop-e.invariant in
    record { fits = omega (arith, most, c.loop-e-test.true, edges-few c.args.self.now c.facts.ensures c.args.f _ c.requires c.face_edges-e-items.ensures) }

pub loop-e-preserved : goal.loop-e-preserved
loop-e-preserved c =
    count-next (λ e. is_sharp_inside c.args.self.now.level (edge_at c.args.self.now.level.polygons e)) c.face_edges-e-items.result.now c.loop-e.e-index 0
    _ _ _ c.loop-e-test.true c.from-count.ensures c.is_sharp_inside.ensures c.loop-e.invariant

pub returns : goal.returns
returns c =
    let sharp = λ (e : ℕ). is_sharp_inside c.args.self.now.level (edge_at c.args.self.now.level.polygons e) in
    c.loop-e.invariant ∙ ap (count_by sharp) (take_all c.loop-e.e-index _ c.loop-e-test.false ∙ c.face_edges-e-items.ensures)
    ∙ sharp-counted c.args.self.now c.facts.ensures c.args.f
