use Rattle.obj_laws.proofs.ReadingCauseLemmas.{reading-causes}
use Rattle.obj_laws.proofs.texts.reading_gives_ten_causes.Goals as goal

pub returns : goal.returns
returns c = reading-causes
