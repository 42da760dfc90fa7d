use Rattle.std.proofs.Common.{rules}
use Rattle.far_words.proofs.options.is_bad_option.Goals as goal

-- asked for by name, so that a body that breaks it is refused at once
pub returns-else-not-is_option_of : goal.returns-else-not-is_option_of
returns-else-not-is_option_of c = search rules
