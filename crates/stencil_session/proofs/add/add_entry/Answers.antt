use Rattle.stencil_session.specs.Session.{numbers_of}
use Rattle.stencil_session.proofs.AddLemmas.{added-one}
use Rattle.stencil_session.proofs.add.add_entry.Goals as goal

pub returns-clause-values : goal.returns-clause-values
returns-clause-values g c =
    added-one c.args.row c.args.numerator (numbers_of c.args.difference.now) c.args.values.now.items c.index_mut.result.now c.add_with_weight.new.self c.requires.value c.requires.short c.index_mut.ensures.value c.add_with_weight.ensures.added
