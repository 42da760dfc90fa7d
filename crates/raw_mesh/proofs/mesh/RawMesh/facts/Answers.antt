use Rattle.std.proofs.Common.{subst}
use Rattle.raw_mesh.specs.Laws.{IsWithin}
use Rattle.raw_mesh.proofs.LawLemmas.{within}
use Rattle.raw_mesh.proofs.mesh.RawMesh.facts.Goals as goal

pub returns : goal.returns
returns c =
    let kept = c.self.inside in
    subst IsWithin c.self.view_is (within kept.coordinates kept.faces kept.has_texture kept.tags c.self.invariant)
