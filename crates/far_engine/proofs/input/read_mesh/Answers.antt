use Rattle.far_engine.proofs.InputLemmas.{mesh-of-text, still-refused}
use Rattle.far_engine.proofs.input.read_mesh.Goals as goal

pub returns-in_err-bytes : goal.returns-in_err-bytes
returns-in_err-bytes g c = still-refused g.S.Source _ _ _ _ c.from_residual.ensures.0 c.from_residual.ensures.1 c.in_err-bytes.ensures.fault

pub returns : goal.returns
returns g c =
    let read = c.in_ok-bytes.ensures in
    mesh-of-text g.S.Source _ _ _ _ _ c.deref.ensures.value read.all read.dry read.short c.bytes_of.ensures.later c.mesh_of_text.ensures
