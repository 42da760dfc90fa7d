use Rattle.std.proofs.Common.{subst, ◌≡◌, ◌<◌, ◌∙◌, ◌++◌, ℕ, List, nat_eq, ap, sym, arith, length, get_or}
use Rattle.std.proofs.lemmas.List.{get_or_default}
use Rattle.subdiv_model.specs.Lists.{places}
use Rattle.point_fans.specs.Chains.{IsChain, at_places}
use Rattle.point_fans.proofs.places.Chained.put.Goals as goal

pub returns-clause-owners : goal.returns-clause-owners
returns-clause-owners c = λ lists limit below is.
    let chain = places (nat_eq c.args.v) c.args.self.now.places.items.items in
    let inside : c.args.v < length c.args.self.now.chains.firsts.items = omega (arith, below, is.first_count) in
    let first : c.index.result.now ≡ get_or c.args.self.now.chains.firsts.items c.args.v 0 = c.index.ensures ∙ get_or_default c.args.self.now.chains.firsts.items c.args.v c.index.result.now 0 inside in
    let linked : IsChain c.deref.result.now c.index.result.now chain =
    subst (λ k. IsChain c.deref.result.now k chain) (sym first) (subst (λ xs. IsChain xs (get_or c.args.self.now.chains.firsts.items c.args.v 0) chain) (sym c.deref.ensures.value) (is.chains c.args.v below)) in
    c.in_ok-put_chain.ensures.owners chain linked ∙ ap (λ (xs : List ℕ). xs ++ at_places c.args.self.now.places.owners.items chain) c.requires.no_owners ∙ is.placed.owners_are c.args.v

pub returns-clause-within : goal.returns-clause-within
returns-clause-within c = λ lists limit below is.
    let chain = places (nat_eq c.args.v) c.args.self.now.places.items.items in
    let inside : c.args.v < length c.args.self.now.chains.firsts.items = omega (arith, below, is.first_count) in
    let first : c.index.result.now ≡ get_or c.args.self.now.chains.firsts.items c.args.v 0 = c.index.ensures ∙ get_or_default c.args.self.now.chains.firsts.items c.args.v c.index.result.now 0 inside in
    let linked : IsChain c.deref.result.now c.index.result.now chain =
    subst (λ k. IsChain c.deref.result.now k chain) (sym first) (subst (λ xs. IsChain xs (get_or c.args.self.now.chains.firsts.items c.args.v 0) chain) (sym c.deref.ensures.value) (is.chains c.args.v below)) in
    c.in_ok-put_chain.ensures.within chain linked ∙ ap (λ (xs : List ℕ). xs ++ at_places c.args.self.now.places.within.items chain) c.requires.no_places ∙ is.placed.within_are c.args.v
