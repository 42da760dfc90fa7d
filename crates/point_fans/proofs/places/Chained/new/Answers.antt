use Rattle.std.proofs.Common.{subst, ◌<◌, ◌∙◌, ℕ, nat_eq, ap, length, get_or}
use Rattle.subdiv_model.specs.Lists.{places}
use Rattle.point_fans.specs.Chains.{IsChain}
use Rattle.point_fans.proofs.places.Chained.new.Goals as goal

pub returns : goal.returns
returns c = λ lists placed. record {
  placed = placed;
  first_count = c.in_ok-chains.ensures.firsts;
  next_count = c.in_ok-chains.ensures.next ∙ ap length c.deref.ensures.value;
  ascend = c.in_ok-chains.ensures.ascend;
  chains = subst (λ xs. (v : ℕ) → v < c.args.limit → IsChain c.in_ok-chains.chains.next.items (get_or c.in_ok-chains.chains.firsts.items v 0) (places (nat_eq v) xs)) c.deref.ensures.value c.in_ok-chains.ensures.chains;
}
