use Rattle.std.proofs.Common.{rules, ◌<◌, ap, length, arith}
use Rattle.level_topology.specs.Topology.{Topology}
use Rattle.level_topology.specs.View.{facts_of_code}
use Rattle.sparse_level.proofs.SelectLemmas.{face-long, inner-selected, outer-selected}
use Rattle.sparse_level.proofs.select.is_selected.Goals as goal

pub returns-then-not-is_inner : goal.returns-then-not-is_inner
returns-then-not-is_inner g c = search (rules, outer-selected)

pub holds-requires : goal.holds-requires
holds-requires g c =
    let t = c.level-level.result.now in
    let below : c.args.f < length t.level.polygons = omega (arith, c.requires.known, ap (λ (k : Topology). length k.level.polygons) c.level-level.ensures) in
    record {
      size = face-long c.args.sparse.now t c.level-level.ensures c.args.f c.depth.result c.number.result c.depth.ensures c.number.ensures (facts_of_code c.face_facts.result) c.face_facts.ensures c.facts.ensures below;
      answers = c.requires.answers;
    }

pub returns : goal.returns
returns g c =
    inner-selected c.args.sparse.now c.level-level.result.now c.level-level.ensures c.args.f c.depth.result c.number.result c.depth.ensures c.number.ensures (facts_of_code c.face_facts.result) c.face_facts.ensures
    (g.T.FaceTest.meets c.args.chosen.now.1) c.is_inner.result c.holds.result c.is_inner.ensures c.if-not-is_inner.false c.holds.ensures
