use Rattle.limit_stencils.proofs.QuadLemmas.{quad-there}
use Rattle.limit_stencils.proofs.weigh.put_quads.Goals as goal

pub put_quad-requires-clause-known : goal.put_quad-requires-clause-known
put_quad-requires-clause-known c =
    quad-there c.args.level.now c.args.v c.loop-i.i c.facts.ensures c.requires.known c.vertex_faces-faces.result.now c.vertex_faces-faces.ensures c.loop-i-test.true
