use Rattle.std.proofs.Common.{length, map, ap, sym, subst, ◌∙◌, ◌++◌}
use Rattle.subdiv_model.specs.MeshFault.{SplitVertex}
use Rattle.mesh_check.specs.View.{mesh_fault_of}
use Rattle.mesh_check.specs.Groups.{AreGroups}
use Rattle.mesh_check.proofs.VertexLemmas.{groups-start}
use Rattle.mesh_check.proofs.SplitListLemmas.{split-all, split-put, split-end}
use Rattle.mesh_check.proofs.split.put_split_vertices.Goals as goal

pub loop-rest-init : goal.loop-rest-init
loop-rest-init c =
    let faces = c.args.raw.now.faces in
    let turns = c.args.turns.now in
    record {
      groups = groups-start faces turns c.requires.simple c.facts.ensures.few_corners c.requires.sorted;
      put = ap (λ vs. map mesh_fault_of c.args.faults.now.items ++ map SplitVertex vs) (split-all (length c.args.raw.now.points) faces turns c.facts.ensures.faces c.requires.sorted);
    }

pub loop-rest-preserved : goal.loop-rest-preserved
loop-rest-preserved c = record {
  groups = subst (AreGroups c.args.raw.now.faces) (sym c.split_at.ensures.back) c.in_ok-group.ensures.others;
  put = split-put c.args.raw.now.faces c.loop-rest.rest.now _ _ _ _ _ _ c.loop-rest.invariant.groups c.in-len1-up.len_at_least c.in_ok-group.ensures (c.split_at.ensures.back ∙ c.in_ok-group.ensures.behind) c.in_ok-put_if.ensures c.loop-rest.invariant.put;
}

pub returns : goal.returns
returns c = split-end c.args.raw.now.faces c.loop-rest.rest.now _ _ c.in_default.len_below c.loop-rest.invariant.put
