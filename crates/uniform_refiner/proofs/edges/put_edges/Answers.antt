use Rattle.std.proofs.Common.{◌<◌, ◌∙◌, ap, arith, length, get_or, map, ℕ}
use Rattle.subdiv_model.specs.Sharpness.{Smooth}
use Rattle.sharpness_rules.specs.View.{sharpness_of}
use Rattle.level_topology.specs.View.{listed, faces_of_pair}
use Rattle.uniform_refiner.proofs.PutEdgeLemmas.{faces-ascend, edges-step}
use Rattle.uniform_refiner.proofs.edges.put_edges.Goals as goal

pub faces_from-requires : goal.faces_from-requires
faces_from-requires c =
    let inside : c.loop-e.e < length c.args.edges.now.ends = omega (arith, c.loop-e-test.true, c.len-e-end.ensures) in
    let ascend = faces-ascend c.args.level.now c.facts.ensures c.args.edges.now c.requires.edges c.loop-e.e inside in
    omega (arith, ascend, ap (λ (p : ℕ × ℕ). p.0) c.faces.ensures, ap (λ (p : ℕ × ℕ). p.1) c.faces.ensures)

pub loop-e-preserved : goal.loop-e-preserved
loop-e-preserved c =
    let halves = map sharpness_of c.args.halves.now in
    let inside : c.loop-e.e < length c.args.edges.now.ends = omega (arith, c.loop-e-test.true, c.len-e-end.ensures) in
    edges-step c.args.level.now c.facts.ensures c.args.edges.now c.requires.edges halves c.loop-e.e c.args.rows.now c.loop-e.rows c.put_edge.new.self c.ends-first.result (listed c.faces_from.result) (sharpness_of c.sharpness_at-s.result)
    c.requires.halves inside c.loop-e.invariant c.ends-first.ensures (c.faces_from.ensures.faces ∙ ap faces_of_pair c.faces.ensures) (c.sharpness_at-s.ensures ∙ ap (λ a. get_or halves a Smooth) c.slot.ensures) c.put_edge.ensures
