use Rattle.std.proofs.Common.{ℕ, List, ◌<◌, ◌≤◌, sym, subst}
use Rattle.std.specs.List.{All}
use Rattle.subdiv_model.specs.Channel.{number_bound}
use Rattle.stencil_factory.proofs.SurveyLemmas.{point-dens}
use Rattle.limit_stencils.proofs.BoundLemmas.{is-bound, none-found, product-found}
use Rattle.limit_stencils.proofs.bound.denominator_bound.Goals as goal

pub multiple_of-multiple-requires-clause-positive : goal.multiple_of-multiple-requires-clause-positive
multiple_of-multiple-requires-clause-positive c =
    subst (λ (dens : List ℕ). All (λ den. 0 < den) dens) (sym c.denominators.ensures) (point-dens c.args.table.now c.args.level.now.level c.facts.ensures c.requires).positive

pub multiple_of-multiple-requires-clause-short : goal.multiple_of-multiple-requires-clause-short
multiple_of-multiple-requires-clause-short c =
    subst (λ (dens : List ℕ). All (λ den. den ≤ number_bound) dens) (sym c.denominators.ensures) (point-dens c.args.table.now c.args.level.now.level c.facts.ensures c.requires).short

pub returns-then-multiple-eq0-clause-is : goal.returns-then-multiple-eq0-clause-is
returns-then-multiple-eq0-clause-is c =
    none-found c.args.level.now.level c.args.table.now c.facts.ensures c.requires c.denominators.result.now _ c.denominators.ensures c.if-multiple-eq0.true c.multiple_of-multiple.ensures

pub returns-clause-is : goal.returns-clause-is
returns-clause-is c =
    product-found c.args.level.now.level c.args.table.now c.facts.ensures c.requires c.denominators.result.now _ _ c.times_within.result c.denominators.ensures c.if-multiple-eq0.false
    c.multiple_of-multiple.ensures c.mask_bound.ensures c.times_within.ensures.passed c.times_within.ensures.product c.times_within.ensures.within

pub returns-clause-bound : goal.returns-clause-bound
returns-clause-bound c =
    is-bound c.args.level.now.level c.args.table.now c.facts.ensures c.requires c.times_within.result
    (product-found c.args.level.now.level c.args.table.now c.facts.ensures c.requires c.denominators.result.now _ _ c.times_within.result c.denominators.ensures c.if-multiple-eq0.false
    c.multiple_of-multiple.ensures c.mask_bound.ensures c.times_within.ensures.passed c.times_within.ensures.product c.times_within.ensures.within)
