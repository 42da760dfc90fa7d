use Rattle.std.proofs.Common.{◌<◌, ◌+◌, length, map, get_or, arith, ap, sym, ◌∙◌}
use Rattle.subdiv_model.specs.Sharpness.{Smooth}
use Rattle.subdiv_model.specs.ObjTag.{for_each, chain_pairs}
use Rattle.sharpness_rules.specs.View.{sharpness_of}
use Rattle.raw_mesh.specs.View.{crease_of}
use Rattle.obj_tags.proofs.WalkLemmas.{zipped-more, zipped-all, each-length, chain-length, chain-at, chain-values}
use Rattle.obj_tags.proofs.tag_values.add_chain.Goals as goal

pub loop-i-preserved : goal.loop-i-preserved
loop-i-preserved c =
    let vertices = c.args.vertices.now in
    let pairs = chain_pairs vertices in
    let each = for_each (length pairs) (map sharpness_of c.args.values.now) in
    let few = chain-values vertices c.args.values.now c.requires.values in
    let next : c.loop-i.i + 1 < length vertices = omega (arith, c.loop-i-test.true) in
    let inside : c.loop-i.i < length pairs = omega (arith, next, chain-length vertices) in
    zipped-more crease_of c.args.creases.now.items c.loop-i.creases.items c.push.new.self.items _ pairs each c.loop-i.i (0, 0) Smooth c.loop-i.invariant c.in_ok-push.ensures.items
    (ap (λ s. ((get_or vertices c.loop-i.i 0, get_or vertices (c.loop-i.i + 1) 0), s)) (c.sharpness_at.ensures (length pairs) inside few) ∙ ap (λ p. (p, get_or each c.loop-i.i Smooth)) (sym (chain-at vertices c.loop-i.i next)))
    inside
    (omega (arith, inside, each-length sharpness_of (length pairs) c.args.values.now few))

pub returns : goal.returns
returns c =
    let vertices = c.args.vertices.now in
    let pairs = chain_pairs vertices in
    let each = for_each (length pairs) (map sharpness_of c.args.values.now) in
    let few = chain-values vertices c.args.values.now c.requires.values in
    zipped-all crease_of c.args.creases.now.items c.loop-i.creases.items pairs each c.loop-i.i c.loop-i.invariant (omega (arith, c.loop-i-test.false, chain-length vertices)) (omega (arith, c.loop-i-test.false, chain-length vertices, each-length sharpness_of (length pairs) c.args.values.now few))
