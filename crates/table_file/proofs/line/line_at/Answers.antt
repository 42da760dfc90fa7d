use Rattle.std.proofs.Common.{arith, refl, sym, ◌∙◌}
use Rattle.table_file.proofs.SplitLemmas.{line-end-le, no-line, line-found}
use Rattle.table_file.proofs.line.line_at.Goals as goal

pub returns-then-not-is_closed : goal.returns-then-not-is_closed
returns-then-not-is_closed c = no-line c.args.bytes.now c.args.at c.line_end-end.result c.requires c.line_end-end.ensures (sym c.is_closed.ensures ∙ c.if-not-is_closed.true)

pub slice_bounds-result-end : goal.slice_bounds-result-end
slice_bounds-result-end c =
    let end = line-end-le c.args.bytes.now c.args.at c.requires in
    omega (arith, c.line_end-end.ensures, end.0, end.1)

pub returns : goal.returns
returns c =
    line-found c.args.bytes.now _ c.args.at c.line_end-end.result c.requires c.line_end-end.ensures (sym c.is_closed.ensures ∙ c.if-not-is_closed.false) refl
