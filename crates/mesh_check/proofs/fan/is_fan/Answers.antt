use Rattle.std.proofs.Common.{◌≡◌, ◌∙◌, sym, subst}
use Rattle.mesh_check.specs.Chain.{IsOneChain}
use Rattle.mesh_check.specs.Group.{next_places}
use Rattle.mesh_check.proofs.GroupFanLemmas.{fan-decided}
use Rattle.mesh_check.proofs.fan.is_fan.Goals as goal

pub returns : goal.returns
returns c = λ polygons v faces group simple once.
    let same : c.deref.result.now ≡ next_places c.args.befores.now c.args.afters.now = c.deref.ensures.value ∙ c.in_ok-next.ensures in
    fan-decided polygons v c.args.befores.now faces c.args.afters.now simple once group c.in_ok-is.is' (λ k. subst IsOneChain same (c.in_ok-is.ensures.chain k)) (λ k chain. c.in_ok-is.ensures.broken k (subst IsOneChain (sym same) chain))
