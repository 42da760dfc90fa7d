use Rattle.std.proofs.Common.{ap}
use Rattle.mask_rules.specs.View.{scheme_of}
use Rattle.mask_rules.proofs.VertexLemmas.{by-rules}
use Rattle.mask_rules.proofs.AroundLemmas.{fine-same}
use Rattle.mask_rules.proofs.transition.vertex_mask.Goals as goal

pub by_rules-requires-clause-fine : goal.by_rules-requires-clause-fine
by_rules-requires-clause-fine c = fine-same c.args.level.now c.args.v c.facts.ensures c.requires.known (c.requires.fine (ap scheme_of c.in-CatmullClark.is))

pub returns-in-CatmullClark-clause-mask : goal.returns-in-CatmullClark-clause-mask
returns-in-CatmullClark-clause-mask c =
    rw c.in-CatmullClark.is
    (by-rules c.args.level.now c.args.v c.facts.ensures c.requires.known (c.requires.boundary (ap scheme_of c.in-CatmullClark.is)) c.by_rules.result c.by_rules.ensures.mask)
