use Rattle.std.proofs.Common.{◌<◌, length, map, get_or, arith, ap}
use Rattle.subdiv_model.specs.Sharpness.{Smooth}
use Rattle.subdiv_model.specs.ObjTag.{for_each}
use Rattle.sharpness_rules.specs.View.{sharpness_of}
use Rattle.raw_mesh.specs.View.{corner_tag_of}
use Rattle.obj_tags.proofs.WalkLemmas.{zipped-more, zipped-all, each-length}
use Rattle.obj_tags.proofs.tag_values.add_corners.Goals as goal

pub loop-i-preserved : goal.loop-i-preserved
loop-i-preserved c =
    let vertices = c.args.vertices.now in
    let each = for_each (length vertices) (map sharpness_of c.args.values.now) in
    let inside : c.loop-i.i < length vertices = omega (arith, c.loop-i-test.true) in
    zipped-more corner_tag_of c.args.corners.now.items c.loop-i.corners.items c.push.new.self.items _ vertices each c.loop-i.i 0 Smooth c.loop-i.invariant c.in_ok-push.ensures.items
    (ap (λ s. (get_or vertices c.loop-i.i 0, s)) (c.sharpness_at.ensures (length vertices) inside c.requires)) inside (omega (arith, inside, each-length sharpness_of (length vertices) c.args.values.now c.requires))

pub returns : goal.returns
returns c =
    let vertices = c.args.vertices.now in
    let each = for_each (length vertices) (map sharpness_of c.args.values.now) in
    zipped-all corner_tag_of c.args.corners.now.items c.loop-i.corners.items vertices each c.loop-i.i c.loop-i.invariant (omega (arith, c.loop-i-test.false)) (omega (arith, c.loop-i-test.false, each-length sharpness_of (length vertices) c.args.values.now c.requires))
