use Rattle.std.proofs.Common.{take, Ok}
use Rattle.std.specs.List.{flat_map, zip}
use Rattle.obj_out.specs.Puts.{Puts}
use Rattle.number_width.specs.Numbers.{numbers_in}
use Rattle.table_file.specs.Shares.{share_text}
use Rattle.table_file.proofs.put.put_shares.Given as goal

-- the shares so far
abbrev pub invariant-loop-at : goal.invariant-loop-at
invariant-loop-at g l = Puts g.K.Sink l.fn.out l.out (flat_map share_text (take l.at (zip l.indices (numbers_in l.numerators)))) (Ok tt)
