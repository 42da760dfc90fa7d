use Rattle.std.proofs.Common.{not, length, ap, sym, subst, ◌∙◌}
use Rattle.std.specs.List.{find}
use Rattle.subdiv_model.specs.Manifold.{has_one_fan}
use Rattle.mesh_check.specs.Groups.{vertices, first_vertex, AreGroups}
use Rattle.mesh_check.proofs.SplitLemmas.{first-found, find-off}
use Rattle.mesh_check.proofs.VertexLemmas.{first-split, groups-start}
use Rattle.mesh_check.proofs.split.split_vertex.Goals as goal

pub loop-rest-init : goal.loop-rest-init
loop-rest-init c =
    let faces = c.args.raw.now.faces in
    let turns = c.args.turns.now in
    record {
      groups = groups-start faces turns c.requires.simple c.facts.ensures.few_corners c.requires.sorted;
      decides = first-split (length c.args.raw.now.points) faces turns c.facts.ensures.faces c.requires.sorted.moved c.requires.sorted.vertices;
    }

pub returns-then-not-group : goal.returns-then-not-group
returns-then-not-group c =
    let faces = c.args.raw.now.faces in
    sym (first-found (λ v. not (has_one_fan faces v)) c.loop-rest.rest.now c.in-len1-up.len_at_least (ap not (sym c.in_ok-group.ensures.fan) ∙ c.if-not-group.true)) ∙ c.loop-rest.invariant.decides

pub loop-rest-preserved : goal.loop-rest-preserved
loop-rest-preserved c =
    let faces = c.args.raw.now.faces in
    let rest = c.loop-rest.rest.now in
    record {
      groups = subst (AreGroups faces) (sym c.split_at.ensures.back) c.in_ok-group.ensures.others;
      decides = ap (λ ts. find (λ v. not (has_one_fan faces v)) (vertices ts)) (c.split_at.ensures.back ∙ c.in_ok-group.ensures.behind)
          ∙ find-off (λ v. not (has_one_fan faces v)) (first_vertex rest) rest (ap not (sym c.in_ok-group.ensures.fan) ∙ c.if-not-group.false) ∙ c.loop-rest.invariant.decides;
    }
