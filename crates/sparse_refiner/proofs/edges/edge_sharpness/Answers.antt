use Rattle.std.proofs.Common.{◌<◌, ◌≤◌, ◌∙◌, ap, length, map, arith}
use Rattle.std.proofs.lemmas.List.{take_all}
use Rattle.sharpness_rules.specs.View.{sharpness_of}
use Rattle.sparse_refiner.specs.Tables.{slot_sharpness}
use Rattle.sparse_refiner.proofs.PutLemmas.{values-more}
use Rattle.sparse_refiner.proofs.edges.edge_sharpness.Goals as goal

pub loop-e-preserved : goal.loop-e-preserved
loop-e-preserved c =
    let f = slot_sharpness (map sharpness_of c.args.halves.now) in
    let h : c.loop-e.e < length c.args.edges.now.slots = omega (arith, c.loop-e-test.true, c.len-e-end.ensures, c.requires.listed) in
    values-more sharpness_of f c.args.edges.now.slots c.loop-e.values.items c.push.new.self.items c.sharpness_of_edge.result c.loop-e.e 0 h c.loop-e.invariant c.in_ok-push.ensures.items c.sharpness_of_edge.ensures

pub returns : goal.returns
returns c =
    let f = slot_sharpness (map sharpness_of c.args.halves.now) in
    let all : length c.args.edges.now.slots ≤ c.loop-e.e = omega (arith, c.loop-e-test.false, c.loop-e.auto.e-end, c.len-e-end.ensures, c.requires.listed) in
    c.loop-e.invariant ∙ ap (map f) (take_all c.loop-e.e c.args.edges.now.slots all)
