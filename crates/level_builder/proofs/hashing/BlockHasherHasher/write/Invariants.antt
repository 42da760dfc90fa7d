use Rattle.std.proofs.Common.{◌≡◌, take}
use Rattle.level_builder.specs.Hashing.{write}
use Rattle.level_builder.proofs.hashing.BlockHasherHasher.write.Given as goal

-- the bytes before this one are written
abbrev pub invariant-loop-b : goal.invariant-loop-b
invariant-loop-b l = l.self ≡ write l.fn.self (take l.b-index l.bytes)
