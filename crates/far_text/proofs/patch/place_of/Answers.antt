use Rattle.std.proofs.Common.{rules, mod-lt, div-add-mod'}
use Rattle.far_text.proofs.patch.place_of.Goals as goal

-- asked for by name, so that a body that breaks it is refused at once
pub returns-clause-within : goal.returns-clause-within
returns-clause-within c = search (rules, mod-lt)

pub returns-clause-number : goal.returns-clause-number
returns-clause-number c = search (rules, div-add-mod')
