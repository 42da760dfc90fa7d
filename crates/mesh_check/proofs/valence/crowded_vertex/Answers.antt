use Rattle.std.proofs.Common.{◌<◌, ◌∙◌, sym, length, arith}
use Rattle.subdiv_model.specs.Base.{base_level}
use Rattle.mesh_check.proofs.ValenceLemmas.{valence-found, valence-passed}
use Rattle.mesh_check.proofs.valence.crowded_vertex.Goals as goal

pub returns-then-count-gt-SIZE_LIMIT : goal.returns-then-count-gt-SIZE_LIMIT
returns-then-count-gt-SIZE_LIMIT c =
    let inside : c.loop-v.v < length c.args.raw.now.points = omega (arith, c.loop-v-test.true, c.requires.size) in
    sym (valence-found (base_level c.args.raw.now) c.loop-v.v _ inside (c.requires.counts c.loop-v.v) c.if-count-gt-SIZE_LIMIT.true) ∙ c.loop-v.invariant

pub loop-v-preserved : goal.loop-v-preserved
loop-v-preserved c =
    let inside : c.loop-v.v < length c.args.raw.now.points = omega (arith, c.loop-v-test.true, c.requires.size) in
    sym (valence-passed (base_level c.args.raw.now) c.loop-v.v _ inside (c.requires.counts c.loop-v.v) c.if-count-gt-SIZE_LIMIT.false) ∙ c.loop-v.invariant
