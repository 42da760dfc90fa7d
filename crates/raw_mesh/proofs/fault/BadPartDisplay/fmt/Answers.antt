-- Each text is that of the definitions, whose numbers are written as std writes them.
use Rattle.std.proofs.Common.{◌<◌, ◌^◌, arith}
use Rattle.number_laws.proofs.DecimalLemmas.{decimal-number_text}
use Rattle.raw_mesh.proofs.fault.BadPartDisplay.fmt.Goals as goal

pub returns-in-Point-clause-writes : goal.returns-in-Point-clause-writes
returns-in-Point-clause-writes g c = λ plain ok.
    let short : c.in-Point.place < 10 ^ 64 = omega arith in
    rw c.in-Point.is (rw (decimal-number_text c.in-Point.place short) at (c.write.ensures.writes plain ok))

pub returns-in-TextureValue-clause-writes : goal.returns-in-TextureValue-clause-writes
returns-in-TextureValue-clause-writes g c = λ plain ok.
    let short : c.in-TextureValue.place < 10 ^ 64 = omega arith in
    rw c.in-TextureValue.is (rw (decimal-number_text c.in-TextureValue.place short) at (c.write-in-TextureValue.ensures.writes plain ok))

pub returns-in-Corner-clause-writes : goal.returns-in-Corner-clause-writes
returns-in-Corner-clause-writes g c = λ plain ok.
    let short : c.in-Corner.place < 10 ^ 64 = omega arith in
    rw c.in-Corner.is (rw (decimal-number_text c.in-Corner.place short) at (c.write-in-Corner.ensures.writes plain ok))

pub returns-in-TextureCorner-clause-writes : goal.returns-in-TextureCorner-clause-writes
returns-in-TextureCorner-clause-writes g c = λ plain ok.
    let short : c.in-TextureCorner.place < 10 ^ 64 = omega arith in
    rw c.in-TextureCorner.is (rw (decimal-number_text c.in-TextureCorner.place short) at (c.write-in-TextureCorner.ensures.writes plain ok))

pub returns-in-Crease-clause-writes : goal.returns-in-Crease-clause-writes
returns-in-Crease-clause-writes g c = λ plain ok.
    let short : c.in-Crease.place < 10 ^ 64 = omega arith in
    rw c.in-Crease.is (rw (decimal-number_text c.in-Crease.place short) at (c.write-in-Crease.ensures.writes plain ok))

pub returns-in-CornerTag-clause-writes : goal.returns-in-CornerTag-clause-writes
returns-in-CornerTag-clause-writes g c = λ plain ok.
    let short : c.in-CornerTag.place < 10 ^ 64 = omega arith in
    rw c.in-CornerTag.is (rw (decimal-number_text c.in-CornerTag.place short) at (c.write-in-CornerTag.ensures.writes plain ok))

pub returns-in-Hole-clause-writes : goal.returns-in-Hole-clause-writes
returns-in-Hole-clause-writes g c = λ plain ok.
    let short : c.in-Hole.place < 10 ^ 64 = omega arith in
    rw c.in-Hole.is (rw (decimal-number_text c.in-Hole.place short) at (c.write-in-Hole.ensures.writes plain ok))
