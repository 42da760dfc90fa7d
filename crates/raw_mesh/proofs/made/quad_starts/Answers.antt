use Rattle.std.proofs.Common.{arith, ◌*◌, rules}
use Rattle.std.proofs.lemmas.List.FromFn.{map-range_with_len_more}
use Rattle.raw_mesh.proofs.made.quad_starts.Goals as goal

pub loop-k-preserved : goal.loop-k-preserved
loop-k-preserved c =
    let more = map-range_with_len_more (λ k. 4 * k) 0 c.loop-k.k c.loop-k.k (omega arith) in search (rules, more)
