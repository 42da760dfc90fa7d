use Rattle.std.proofs.Common.{to_z, of_z, arith}
use Rattle.std.specs.Int.{w128}
use Rattle.std.proofs.lemmas.Int.{to_z-of_z}
use Rattle.nearest_float.specs.Binary.{binary64}
use Rattle.nearest_float.proofs.FormatLemmas.{nearest-signed, signed-finite, sound64}
use Rattle.nearest_float.proofs.nearest.nearest_binary64.Goals as goal

pub returns-clause-nearest : goal.returns-clause-nearest
returns-clause-nearest c =
    nearest-signed binary64 c.args.num _ c.args.den c.unsigned_abs.result c.nearest_size.result _ sound64 c.requires.positive
    (to_z-of_z w128 c.args.num c.ranges.num) c.unsigned_abs.ensures.value c.nearest_size.ensures.nearest (omega (arith, c.nearest_size.ensures.within))
    c.with_sign.ensures

pub returns-clause-finite : goal.returns-clause-finite
returns-clause-finite c =
    signed-finite binary64 (to_z w128 (of_z w128 c.args.num)) c.nearest_size.result c.with_sign.result sound64 (omega (arith, c.nearest_size.ensures.within)) c.with_sign.ensures
