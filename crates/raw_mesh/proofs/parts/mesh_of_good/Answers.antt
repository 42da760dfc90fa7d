use Rattle.std.proofs.Common.{ap, refl, ◌∙◌}
use Rattle.raw_mesh.specs.Starts.{starts_from}
use Rattle.raw_mesh.proofs.PartLemmas.{short-parts, whole-parts, mesh-parts}
use Rattle.raw_mesh.proofs.parts.mesh_of_good.Goals as goal

pub of-requires-clause-short : goal.of-requires-clause-short
of-requires-clause-short c = short-parts c.args.parts c.requires

pub of-requires-clause-whole : goal.of-requires-clause-whole
of-requires-clause-whole c =
    whole-parts c.args.parts (record { starts = c.in_ok-starts.starts; corners = c.args.parts.corners; texture_corners = c.args.parts.texture_corners }) (c.in_ok-starts.ensures ∙ ap (starts_from 0) c.deref.ensures.value) refl refl c.requires

pub returns : goal.returns
returns c =
    c.of.ensures
    ∙ mesh-parts c.args.parts (record { starts = c.in_ok-starts.starts; corners = c.args.parts.corners; texture_corners = c.args.parts.texture_corners }) (c.in_ok-starts.ensures ∙ ap (starts_from 0) c.deref.ensures.value) refl refl
