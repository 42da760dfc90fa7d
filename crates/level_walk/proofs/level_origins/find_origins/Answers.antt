use Rattle.std.proofs.Common.{ap, sym, ◌∙◌, subst}
use Rattle.level_walk.specs.Walk.{at}
use Rattle.level_walk.proofs.WalkLemmas.{handed-on}
use Rattle.level_laws.proofs.WellFormedLemmas.{first-of-six}
use Rattle.level_walk.specs.ChildOrigins.{AreOrigins}
use Rattle.level_walk.specs.OriginsView.{seen_origins}
use Rattle.level_walk.proofs.OriginLawLemmas.{origins-each}
use Rattle.level_walk.proofs.OriginSeriesLemmas.{reached-each, stopped-levels, walked-levels, walked-origins}
use Rattle.level_walk.proofs.level_origins.find_origins.Goals as goal

pub walk-requires-clause-fits : goal.walk-requires-clause-fits
walk-requires-clause-fits g c = subst (AreOrigins c.args.base.level) (sym c.in_ok-carried.ensures) (origins-each c.args.base.level 0)

pub origins_at_end-requires : goal.origins_at_end-requires
origins_at_end-requires g c =
    let end = at c.in_ok-end.end c.walk.new.visitor c.walk.new.steps in
    let is = walked-levels (λ o. seen_origins o) (λ _ _ _ _. Unit {0}) _ c.args.depth end c.in_ok-end.ensures in
    let origins =
    walked-origins (λ o. seen_origins o) (λ _ _ _ _. Unit {0}) _ (first-of-six _ _ _ _ _ _ c.facts.ensures.formed) c.in_ok-carried.ensures c.args.depth end c.in_ok-end.ensures in
    reached-each c.args.base.level c.args.depth c.in_ok-end.end.level.level (seen_origins c.in_ok-end.end.carried) is.reached.level origins

pub returns-in_err-end-clause-found : goal.returns-in_err-end-clause-found
returns-in_err-end-clause-found g c =
    handed-on _ c.in_err-end.field-0.0 _ _ c.from_residual-in_err-end.ensures.0 c.from_residual-in_err-end.ensures.1
    (stopped-levels (λ o. seen_origins o) (λ _ _ _ _. Unit {0}) _ c.args.depth c.in_err-end.field-0.0 c.walk.new.visitor c.walk.new.steps c.in_err-end.ensures).fault

pub returns-in_err-end-clause-steps : goal.returns-in_err-end-clause-steps
returns-in_err-end-clause-steps g c =
    (stopped-levels (λ o. seen_origins o) (λ _ _ _ _. Unit {0}) _ c.args.depth c.in_err-end.field-0.0 c.walk.new.visitor c.walk.new.steps c.in_err-end.ensures).steps

pub returns-clause-found : goal.returns-clause-found
returns-clause-found g c =
    ap (λ o. seen_origins o) c.origins_at_end.ensures.origins
    ∙ walked-origins (λ o. seen_origins o) (λ _ _ _ _. Unit {0}) _ (first-of-six _ _ _ _ _ _ c.facts.ensures.formed) c.in_ok-carried.ensures c.args.depth
    (at c.in_ok-end.end c.walk.new.visitor c.walk.new.steps) c.in_ok-end.ensures

pub returns-clause-made : goal.returns-clause-made
returns-clause-made g c =
    (walked-levels (λ o. seen_origins o) (λ _ _ _ _. Unit {0}) _ c.args.depth (at c.in_ok-end.end c.walk.new.visitor c.walk.new.steps) c.in_ok-end.ensures).reached.made

pub returns-clause-steps : goal.returns-clause-steps
returns-clause-steps g c =
    (walked-levels (λ o. seen_origins o) (λ _ _ _ _. Unit {0}) _ c.args.depth (at c.in_ok-end.end c.walk.new.visitor c.walk.new.steps) c.in_ok-end.ensures).steps
