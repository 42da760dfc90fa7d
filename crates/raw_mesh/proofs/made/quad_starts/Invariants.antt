use Rattle.std.proofs.Common.{◌≡◌, ◌*◌, map}
use Rattle.std.specs.List.{range_with_len}
use Rattle.raw_mesh.proofs.made.quad_starts.Given as goal

-- the places of the quads so far
abbrev pub invariant-loop-k : goal.invariant-loop-k
invariant-loop-k l = l.starts.items ≡ map (λ k. 4 * k) (range_with_len 0 l.k)
