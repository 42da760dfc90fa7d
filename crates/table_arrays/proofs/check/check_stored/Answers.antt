use Rattle.std.proofs.Common.{inl}
use Rattle.table_arrays.specs.Checked.{IsNotOwn, IsOwnText}
use Rattle.table_arrays.proofs.CheckLemmas.{handed-on}
use Rattle.table_arrays.proofs.OwnLemmas.{checked}
use Rattle.table_arrays.proofs.check.check_stored.Goals as goal

pub returns-in_err-own : goal.returns-in_err-own
returns-in_err-own c =
    handed-on (IsOwnText c.args.arrays.now c.args.depth c.args.text.now) (IsNotOwn c.args.arrays.now c.args.depth c.args.text.now) _ c.in_err-own.field-0.0 c.from_residual.ensures.0
    c.from_residual.ensures.1 (inl c.in_err-own.ensures)

pub returns : goal.returns
returns c = checked c.args.arrays.now c.args.depth c.in_ok-own.own c.args.text.now c.check_text.result c.in_ok-own.ensures c.check_text.ensures
