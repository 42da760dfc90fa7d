use Rattle.std.proofs.Common.{◌≡◌, min, length, Some, arith, ap, sym, ◌∙◌}
use Rattle.table_file.proofs.DifferenceLemmas.{difference-some}
use Rattle.table_file.proofs.difference.first_row.Goals as goal

pub returns : goal.returns
returns c =
    let end : c.loop-row.row ≡ c.min-both.result = omega (arith, c.loop-row-test.false, c.loop-row.invariant.few) in
    let both : c.loop-row.row ≡ min (length c.args.a.now.rows) (length c.args.b.now.rows) = omega (arith, end, c.min-both.ensures, c.rows.ensures, c.rows-2.ensures) in
    ap Some (sym end)
    ∙ sym (difference-some c.args.a.now.rows c.args.b.now.rows c.loop-row.row (λ e. absurd (omega (arith, e, c.if-rows.false, c.rows-3.ensures, c.rows-4.ensures))) both)
    ∙ c.loop-row.invariant.same
