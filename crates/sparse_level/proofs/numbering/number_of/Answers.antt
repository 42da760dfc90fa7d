use Rattle.std.proofs.Common.{◌≡◌, ◌∙◌, get_or, arith}
use Rattle.std.proofs.lemmas.List.{get_or_default}
use Rattle.sparse_level.proofs.TableLemmas.{new-number, new-table}
use Rattle.sparse_level.proofs.numbering.number_of.Goals as goal

pub returns-clause-number : goal.returns-clause-number
returns-clause-number c earlier is next_is =
    let table = c.args.table.now.items in
    let there : c.index-number.result.now ≡ get_or table c.args.point 0 = c.index-number.ensures ∙ get_or_default table c.args.point c.index-number.result.now 0 c.requires.within in
    next_is ∙ new-number earlier table c.args.point c.index-number.result.now is c.requires.within (omega (arith, c.requires.few, next_is)) there (omega (arith, c.if-number.false))

pub returns-clause-table : goal.returns-clause-table
returns-clause-table c earlier is next_is =
    let table = c.args.table.now.items in
    let there : c.index-number.result.now ≡ get_or table c.args.point 0 = c.index-number.ensures ∙ get_or_default table c.args.point c.index-number.result.now 0 c.requires.within in
    new-table earlier table c.args.point c.index-number.result.now is c.requires.within (omega (arith, c.requires.few, next_is)) there c.args.next (omega (arith, c.if-number.false)) next_is
