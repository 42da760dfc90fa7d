use Rattle.std.proofs.Common.{length, ap, sym, ◌∙◌}
use Rattle.mesh_check.specs.View.{named}
use Rattle.mesh_check.proofs.FaultLemmas.{edge-before, simple-once, vertex-last}
use Rattle.mesh_check.proofs.faults.mesh_fault.Goals as goal

pub returns-in-Some-2 : goal.returns-in-Some-2
returns-in-Some-2 c =
    edge-before (length c.args.raw.now.points) c.args.raw.now.faces _ (sym c.in_ok-fault.ensures ∙ ap named c.in_default.is) (sym c.in_ok-fault-2.ensures ∙ ap named c.in-Some-2.is)

pub split_vertex-requires-clause-simple : goal.split_vertex-requires-clause-simple
split_vertex-requires-clause-simple c =
    (simple-once c.args.raw.now.faces (sym c.in_ok-fault.ensures ∙ ap named c.in_default.is) (sym c.in_ok-fault-2.ensures ∙ ap named c.in_default-2.is)).0

pub split_vertex-requires-clause-once : goal.split_vertex-requires-clause-once
split_vertex-requires-clause-once c =
    (simple-once c.args.raw.now.faces (sym c.in_ok-fault.ensures ∙ ap named c.in_default.is) (sym c.in_ok-fault-2.ensures ∙ ap named c.in_default-2.is)).1

pub returns : goal.returns
returns c =
    c.vertex_named.ensures
    ∙ vertex-last (length c.args.raw.now.points) c.args.raw.now.faces _ (sym c.in_ok-fault.ensures ∙ ap named c.in_default.is) (sym c.in_ok-fault-2.ensures ∙ ap named c.in_default-2.is) c.in_ok-found.ensures
