use Rattle.theorems.proofs.ContinuedLemmas.{text-without-fault}
use Rattle.theorems.proofs.continued.tagged_texts_are_read.Goals as goal

pub returns : goal.returns
returns c = text-without-fault
