use Rattle.std.proofs.Common.{◌≡◌, [], MatchResult, ap, ◌∙◌, subst}
use Rattle.level_walk.specs.declared.reached.Reached.{Reached}
use Rattle.stencil_factory.specs.Composed.{identity_table}
use Rattle.stencil_apply.specs.Table.{Table}
use Rattle.sparse_level.specs.View.{base_of}
use Rattle.sparse_walk.specs.View.{Walked, walked}
use Rattle.sparse_walk.proofs.StartLemmas.{each-complete}
use Rattle.channel_refine.proofs.ResultLemmas.{mapped}
use Rattle.channel_refine.proofs.SparseStartLemmas.{sparse-base}
use Rattle.channel_refine.proofs.sparse_compose.start_at.Goals as goal

pub base-requires : goal.base-requires
base-requires c = each-complete c.args.level (sparse-base c.args.level c.requires)

pub returns : goal.returns
returns c =
    let both = subst (λ r. MatchResult r (λ (start : Reached Walked Table). (start.level ≡ walked (base_of c.args.level) []) × (start.carried ≡ identity_table c.args.level.level.point_count)) (λ _. Unit))
    c.in_ok-start.was
    (mapped c.identity.result c.with_table.result _ _ _ _ _ c.with_table.ensures c.identity.ensures
    (λ table start made is. (ap (λ (s : Reached Walked Table). s.level) made ∙ c.in_ok-level.ensures, ap (λ (s : Reached Walked Table). s.carried) made ∙ is ∙ ap identity_table c.points-points.ensures))
    (λ fault is. tt)) in
    record { level = both.0; table = both.1; made = c.facts.ensures }
