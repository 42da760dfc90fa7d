use Rattle.std.proofs.Common.{◌∙◌, sym}
use Rattle.mesh_check.proofs.ChainLemmas.{chain-from_walk, walk-from_chain, true-not-false}
use Rattle.mesh_check.proofs.chain.is_one_chain.Goals as goal

pub returns-clause-chain : goal.returns-clause-chain
returns-clause-chain c = λ is. chain-from_walk c.args.next.now c.in_ok-start.start (sym c.in_ok-long.ensures ∙ is)

pub returns-clause-broken : goal.returns-clause-broken
returns-clause-broken c = λ is chain. true-not-false (sym (walk-from_chain c.args.next.now c.in_ok-start.start c.in_ok-start.ensures chain) ∙ sym c.in_ok-long.ensures ∙ is)
