use Rattle.std.proofs.Common.{map, string_bytes}
use Rattle.far_words.proofs.WordsLemmas.{said, understood}
use Rattle.far_engine.proofs.RunLemmas.{runs-words}
use Rattle.far_engine.proofs.engine.run.Goals as goal

pub returns-in-Ok-clause-run : goal.returns-in-Ok-clause-run
returns-in-Ok-clause-run g c =
    let words = map string_bytes c.args.words.now.items in
    let read = c.read_words.ensures.read in
    runs-words g.S.Source g.K.Sink words _ _ _ _ _ _ (understood words _ _ read c.in-Ok.is) (said words _ _ read c.in-Ok.is) c.run_command.ensures.run
