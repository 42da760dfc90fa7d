use Rattle.stream_laws.proofs.LawLemmas.{refused-start}
use Rattle.stream_laws.proofs.lines.refused_bytes_end_the_answer.Goals as goal

pub returns : goal.returns
returns c = refused-start
