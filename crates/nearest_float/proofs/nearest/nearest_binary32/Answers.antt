use Rattle.std.proofs.Common.{to_z, of_z, arith}
use Rattle.std.specs.Int.{w128}
use Rattle.std.proofs.lemmas.Int.{to_z-of_z}
use Rattle.nearest_float.specs.Binary.{binary32}
use Rattle.nearest_float.proofs.FormatLemmas.{nearest-signed, signed-finite, sound32}
use Rattle.nearest_float.proofs.nearest.nearest_binary32.Goals as goal

pub returns-clause-nearest : goal.returns-clause-nearest
returns-clause-nearest c =
    nearest-signed binary32 c.args.num _ c.args.den c.unsigned_abs.result c.nearest_size.result _ sound32 c.requires.positive
    (to_z-of_z w128 c.args.num c.ranges.num) c.unsigned_abs.ensures.value c.nearest_size.ensures.nearest (omega (arith, c.nearest_size.ensures.within))
    c.with_sign.ensures

pub returns-clause-finite : goal.returns-clause-finite
returns-clause-finite c =
    signed-finite binary32 (to_z w128 (of_z w128 c.args.num)) c.nearest_size.result c.with_sign.result sound32 (omega (arith, c.nearest_size.ensures.within)) c.with_sign.ensures
