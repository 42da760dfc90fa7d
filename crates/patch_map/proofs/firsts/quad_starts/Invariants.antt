use Rattle.std.proofs.Common.{◌≡◌, ◌*◌, map, take}
use Rattle.patch_map.proofs.firsts.quad_starts.Given as goal

-- the starts of the quads so far
abbrev pub invariant-loop-n : goal.invariant-loop-n
invariant-loop-n l = l.starts.items ≡ map (λ n. 4 * n) (take l.n-index l.numbers)
