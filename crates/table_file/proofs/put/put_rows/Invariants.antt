use Rattle.std.proofs.Common.{take, Ok}
use Rattle.std.specs.List.{flat_map}
use Rattle.obj_out.specs.Puts.{Puts}
use Rattle.subdiv_model.specs.TableText.{row_text}
use Rattle.table_file.proofs.put.put_rows.Given as goal

-- the lines so far
abbrev pub invariant-loop-row : goal.invariant-loop-row
invariant-loop-row g l = Puts g.K.Sink l.fn.out l.out (flat_map row_text (take l.row l.table.rows)) (Ok tt)
