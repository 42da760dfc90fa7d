use Rattle.std.proofs.Common.{◌*◌}
use Rattle.nearest_float.specs.Binary.{binary32}
use Rattle.mesh_arrays.proofs.PointLemmas.{put-three}
use Rattle.mesh_arrays.proofs.nearest_points.put_point32.Goals as goal

pub returns-clause-nearest : goal.returns-clause-nearest
returns-clause-nearest c =
    put-three binary32 c.args.out.now c.put_binary32.new.out c.put_binary32-2.new.out c.put_binary32-3.new.out c.args.at c.args.p.now.value.x c.args.p.now.value.y
    c.args.p.now.value.z (c.args.p.now.den * c.args.common) c.requires.fits c.requires.put.x c.requires.put.y c.requires.put.z c.put_binary32.ensures.len
    c.put_binary32-2.ensures.len c.put_binary32-3.ensures.len c.put_binary32.ensures.kept c.put_binary32-2.ensures.kept c.put_binary32-3.ensures.kept
    c.put_binary32.ensures.nearest c.put_binary32-2.ensures.nearest c.put_binary32-3.ensures.nearest
