use Rattle.text_laws.proofs.LineLemmas.{lines-back, both-back}
use Rattle.text_laws.proofs.lines.plain_lines_are_read_back.Goals as goal

pub returns-clause-one : goal.returns-clause-one
returns-clause-one c = lines-back

pub returns-clause-two : goal.returns-clause-two
returns-clause-two c = both-back
