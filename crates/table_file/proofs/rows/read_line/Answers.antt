use Rattle.std.proofs.Common.{◌-◌, refl, ap, sym}
use Rattle.table_file.proofs.ReadLemmas.{line-bad, line-good}
use Rattle.table_file.proofs.rows.read_line.Goals as goal

pub returns-in-Some-2 : goal.returns-in-Some-2
returns-in-Some-2 c =
    line-bad c.args.header.now c.args.rows.now c.args.bytes.now c.in-Some.line.now c.args.at c.in-Some.next c.args.number (c.header.inside.rows - c.args.number - 1) c.header.inside.rows
    c.in_ok-cause.field-0 c.in-Some.ensures c.requires.number c.requires.fewer (sym (ap (λ h. h.rows) c.header.view_is)) refl c.in_ok-cause.ensures.cause
    c.in-Some-2.cause c.in-Some-2.is

pub returns-in-None : goal.returns-in-None
returns-in-None c =
    line-good c.args.header.now c.args.rows.now c.args.bytes.now c.in-Some.line.now c.args.at c.in-Some.next c.args.number (c.header.inside.rows - c.args.number - 1) c.header.inside.rows
    c.in_ok-cause.field-0 c.in-Some.ensures c.requires.number c.requires.fewer (sym (ap (λ h. h.rows) c.header.view_is)) refl c.in_ok-cause.ensures.cause
    c.read_row.new.rows c.in-None.is (c.in_ok-cause.ensures.added c.in-None.is)
