use Rattle.std.proofs.Common.{arith}
use Rattle.far_engine.specs.MeshPart.{EndsMesh}
use Rattle.far_engine.proofs.InputLemmas.{handed-on}
use Rattle.far_engine.proofs.mesh_part.seek_frames.Goals as goal

pub returns-in_err-end-clause-found : goal.returns-in_err-end-clause-found
returns-in_err-end-clause-found g c =
    let read = c.loop-end.invariant in
    handed-on (EndsMesh g.S.Source c.args.source.now c.next_mesh_line.new.source c.next_mesh_line.new.text) _ _ c.from_residual.ensures.0 c.from_residual.ensures.1
    (c.in_err-end.ensures.found _ read.lines read.read (omega (arith, read.numbered)))
