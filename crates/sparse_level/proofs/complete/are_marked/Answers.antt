use Rattle.std.proofs.Common.{rules, ◌∙◌, ap, sym, false, get_or, ℕ}
use Rattle.std.specs.List.{list_all}
use Rattle.std.proofs.lemmas.List.{take_all}
use Rattle.sparse_level.proofs.CompleteLemmas.{all-more, one-off}
use Rattle.sparse_level.proofs.complete.are_marked.Goals as goal

-- proved by name, so that the prover refuses a body that breaks it at once
pub returns-then-not-on-v : goal.returns-then-not-on-v
returns-then-not-on-v c = search (rules, one-off)

pub loop-v-preserved : goal.loop-v-preserved
loop-v-preserved c = all-more c.args.on.now c.args.vertices.now c.loop-v.v-index c.loop-v-test.true c.loop-v.invariant c.if-not-on-v.false

pub returns : goal.returns
returns c =
    let is_marked = λ (v : ℕ). get_or c.args.on.now v false in sym c.loop-v.invariant ∙ ap (list_all is_marked) (take_all c.loop-v.v-index c.args.vertices.now c.loop-v-test.false)
