use Rattle.std.proofs.Common.{rules}
use Rattle.obj_tags.proofs.survey.multiple_of.Goals as goal

-- asked for by name, so that a body that breaks it is refused at once
pub returns-clause-passed : goal.returns-clause-passed
returns-clause-passed c = search rules

pub returns-clause-multiple : goal.returns-clause-multiple
returns-clause-multiple c = search rules
