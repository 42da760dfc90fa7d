use Rattle.std.proofs.Common.{MatchResult, subst}
use Rattle.mask_rules.specs.View.{scheme_of}
use Rattle.primvar_refine.specs.View.{rows_of}
use Rattle.channel_refine.specs.Step.{AreCarried, IsValueCause}
use Rattle.channel_refine.proofs.ResultLemmas.{with-steps}
use Rattle.channel_refine.proofs.values.ByValuesCarrier.follow.Goals as goal

pub returns-clause-followed : goal.returns-clause-followed
returns-clause-followed g c =
    let level = c.args.parent.now.level in
    let origins = c.args.child.now.origins in
    let scheme = scheme_of c.args.self.now.scheme in
    let numbers = g.P.Primvar.numbers in
    with-steps c.next_values.result _ _ _ _
    (subst (λ items. MatchResult c.next_values.result (λ next. AreCarried c.args.self.now.most level scheme origins (rows_of numbers items) (rows_of numbers next.items))
    (λ fault. IsValueCause c.args.self.now.most level scheme origins (rows_of numbers items) fault)) c.deref.ensures.value c.next_values.ensures.refined)
    c.next_values.ensures.taken (record { most = c.next_values.ensures.steps; later = c.next_values.ensures.later })
