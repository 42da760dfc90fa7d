use Rattle.std.proofs.Common.{◌*◌}
use Rattle.nearest_float.specs.Binary.{binary64}
use Rattle.mesh_arrays.proofs.PointLemmas.{put-three}
use Rattle.mesh_arrays.proofs.nearest_points.put_point64.Goals as goal

pub returns-clause-nearest : goal.returns-clause-nearest
returns-clause-nearest c =
    put-three binary64 c.args.out.now c.put_binary64.new.out c.put_binary64-2.new.out c.put_binary64-3.new.out c.args.at c.args.p.now.value.x c.args.p.now.value.y
    c.args.p.now.value.z (c.args.p.now.den * c.args.common) c.requires.fits c.requires.put.x c.requires.put.y c.requires.put.z c.put_binary64.ensures.len
    c.put_binary64-2.ensures.len c.put_binary64-3.ensures.len c.put_binary64.ensures.kept c.put_binary64-2.ensures.kept c.put_binary64-3.ensures.kept
    c.put_binary64.ensures.nearest c.put_binary64-2.ensures.nearest c.put_binary64-3.ensures.nearest
