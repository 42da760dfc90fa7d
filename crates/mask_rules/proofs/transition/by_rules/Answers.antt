use Rattle.std.proofs.Common.{arith, sym, ◌∙◌}
use Rattle.std.proofs.lemmas.List.{length-take-le}
use Rattle.mask_rules.proofs.VertexLemmas.{many-ends, ring-long}
use Rattle.mask_rules.proofs.transition.by_rules.Goals as goal

pub from_rings-requires-clause-ring_len : goal.from_rings-requires-clause-ring_len
from_rings-requires-clause-ring_len c = length-take-le c.valence-count.result _ c.if-count-le-FEW.true ∙ many-ends c.args.level.now c.args.v c.valence-count.result c.valence-count.ensures.listed ∙ sym (ring-long c.args.level.now c.args.v)

pub from_rings-requires-clause-next_len : goal.from_rings-requires-clause-next_len
from_rings-requires-clause-next_len c = length-take-le c.valence-count.result _ c.if-count-le-FEW.true ∙ many-ends c.args.level.now c.args.v c.valence-count.result c.valence-count.ensures.listed ∙ sym (ring-long c.args.level.now c.args.v)

pub from_rings-requires-2-clause-ring_len : goal.from_rings-requires-2-clause-ring_len
from_rings-requires-2-clause-ring_len c = omega (arith, ring-long c.args.level.now c.args.v, many-ends c.args.level.now c.args.v c.valence-count.result c.valence-count.ensures.listed)

pub from_rings-requires-2-clause-next_len : goal.from_rings-requires-2-clause-next_len
from_rings-requires-2-clause-next_len c = omega (arith, ring-long c.args.level.now c.args.v, many-ends c.args.level.now c.args.v c.valence-count.result c.valence-count.ensures.listed)
