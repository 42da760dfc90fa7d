use Rattle.std.proofs.Common.{◌≡◌, ◌∙◌, false, nat_eq, get_or, slice_set, arith, sym, subst}
use Rattle.std.proofs.lemmas.List.{get_or_default}
use Rattle.subdiv_model.specs.Polygons.{is_among}
use Rattle.face_varying.specs.FirstOnes.{seen_with, AreKnown}
use Rattle.face_varying.proofs.FirstOneLemmas.{none-place}
use Rattle.face_varying.proofs.KnownLemmas.{unknown-new, known-more}
use Rattle.face_varying.proofs.numbers.number_of.Goals as goal

pub returns-clause-number : goal.returns-clause-number
returns-clause-number c seen are next_is =
    let known = c.args.known.now.items in
    let there : c.index-number.result.now ≡ get_or known c.args.label 0 = c.index-number.ensures ∙ get_or_default known c.args.label c.index-number.result.now 0 c.requires.within in
    let new : is_among seen c.args.label ≡ false = unknown-new seen known c.args.label are c.requires.within c.index-number.result.now there (omega arith) (omega arith) in
    next_is ∙ sym (none-place (nat_eq c.args.label) seen new)

pub returns-clause-known : goal.returns-clause-known
returns-clause-known c seen are next_is =
    let known = c.args.known.now.items in
    let there : c.index-number.result.now ≡ get_or known c.args.label 0 = c.index-number.ensures ∙ get_or_default known c.args.label c.index-number.result.now 0 c.requires.within in
    let new : is_among seen c.args.label ≡ false = unknown-new seen known c.args.label are c.requires.within c.index-number.result.now there (omega arith) (omega arith) in
    subst (λ n. AreKnown (seen_with nat_eq seen c.args.label) (slice_set known c.args.label n)) (sym next_is) (known-more seen known c.args.label are c.requires.within new)
