use Rattle.std.proofs.Common.{◌≡◌, map, take}
use Rattle.primvar_refine.specs.Rows.{greatest_of}
use Rattle.channel_refine.proofs.values.greatest_den.Given as goal

-- the greatest of the values so far
abbrev pub invariant-loop-value : goal.invariant-loop-value
invariant-loop-value g l = l.greatest ≡ greatest_of (map (λ v. v.den) (take l.value-index l.values))
