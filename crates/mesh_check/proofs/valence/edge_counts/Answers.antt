use Rattle.std.proofs.Common.{rules, ℕ, ◌+◌, ◌≤◌, ◌∙◌, take, drop, get_or, length}
use Rattle.mesh_check.proofs.EndLemmas.{first-split, ends-more, ends-room, inside-more}
use Rattle.mesh_check.proofs.valence.edge_counts.Goals as goal

pub loop-rest-preserved : goal.loop-rest-preserved
loop-rest-preserved c =
    let rest = c.loop-rest.rest.now in
    let whole = λ (n : ℕ) (h : length rest ≤ n + 1). first-split rest n c.in-len1-up.len_at_least h in
    record {
      counts = λ v.
          let more = λ (n : ℕ) (h : length rest ≤ n + 1). ends-more v (get_or rest 0 0) (take n (drop 1 rest)) rest _ _ _ (whole n h) c.is_again-again.ensures (c.count_ends.ensures.counts v) _ (c.loop-rest.invariant.counts v) in
          search (rules, more);
      size = c.count_ends.ensures.size ∙ c.loop-rest.invariant.size;
      inside = let more = λ (n : ℕ) (h : length rest ≤ n + 1). inside-more c.args.points (get_or rest 0 0) (take n (drop 1 rest)) rest (whole n h) c.loop-rest.invariant.inside in search (rules, more);
      countable = λ v.
          let more = λ (n : ℕ) (h : length rest ≤ n + 1). ends-room v (get_or rest 0 0) (take n (drop 1 rest)) rest _ _ _ (whole n h) c.is_again-again.ensures (c.count_ends.ensures.counts v) _ (c.loop-rest.invariant.countable v) in
          search (rules, more);
    }
