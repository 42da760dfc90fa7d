use Rattle.std.proofs.Common.{◌+◌, ap, length, arith, rules}
use borrow.Rule.Slice.PartMut.{drop_put}
use Rattle.memory_streams.proofs.sink.copy_behind.Goals as goal

pub returns-clause-kept : goal.returns-clause-kept
returns-clause-kept c =
    let whole = ap length c.copy_from_slice.ensures.after in
    let kept = drop_put c.args.at (c.args.at + length c.args.piece.now) c.args.out.now c.copy_from_slice.new.self (omega arith) (omega arith) (omega (arith, whole)) in
    search (rules, kept)
