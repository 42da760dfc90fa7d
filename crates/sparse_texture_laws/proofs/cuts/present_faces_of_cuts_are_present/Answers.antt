use Rattle.sparse_texture_laws.proofs.PresentLemmas.{inner-there, present-there}
use Rattle.sparse_texture_laws.proofs.cuts.present_faces_of_cuts_are_present.Goals as goal

pub returns-clause-inner : goal.returns-clause-inner
returns-clause-inner c = λ at same. inner-there at.base at.cut same at.predicate at.depth at.steps at.face at.within

pub returns-clause-present : goal.returns-clause-present
returns-clause-present c = λ name at is. present-there name at.base at.cut is at.predicate at.depth at.steps at.face at.within
