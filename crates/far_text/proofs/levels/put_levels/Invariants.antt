use Rattle.std.proofs.Common.{take, map, Ok}
use Rattle.std.specs.List.{flat_map, enumerate_from}
use Rattle.obj_out.specs.Puts.{Puts}
use Rattle.far_text.specs.Levels.{numbered_line}
use Rattle.level_walk.specs.CountsView.{seen_counts}
use Rattle.far_text.proofs.levels.put_levels.Given as goal

-- the lines so far
abbrev pub invariant-loop-k : goal.invariant-loop-k
invariant-loop-k g l = Puts g.K.Sink l.fn.out l.out (flat_map numbered_line (take l.k (enumerate_from 0 (map seen_counts l.counts)))) (Ok tt)
