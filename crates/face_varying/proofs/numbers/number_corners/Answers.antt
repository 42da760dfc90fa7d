use Rattle.std.proofs.Common.{ℕ, ◌≡◌, ◌+◌, ◌∙◌, ◌++◌, ◌∷◌, [], nat_eq, List, length, get_or, take, arith, ap, sym, subst, rules, refl}
use Rattle.std.proofs.lemmas.Bool.Decides.{nat_tests}
use Rattle.std.proofs.lemmas.Bool.{eq-eqb, eqb-true}
use Rattle.std.proofs.lemmas.List.{take_more, take_all}
use Rattle.face_varying.specs.FirstOnes.{seen_with, seen_after, numbers_after, AreKnown}
use Rattle.face_varying.proofs.FirstOneLemmas.{seen-push, numbers-push, with-length, numbers-once}
use Rattle.face_varying.proofs.numbers.number_corners.Goals as goal

pub loop-label-preserved : goal.loop-label-preserved
loop-label-preserved c =
    let labels = c.args.labels.now in
    let i = c.loop-label.label-index in
    let label = get_or labels i 0 in
    let more = take_more labels i 0 c.loop-label-test.true in
    let seen = seen_after nat_eq [] (take i labels) in
    let seen_more : seen_after nat_eq [] (take (i + 1) labels) ≡ seen_with nat_eq seen label = ap (seen_after nat_eq []) more ∙ seen-push nat_eq [] (take i labels) label in
    let number = c.number_of-number.ensures.number seen c.loop-label.invariant.known c.loop-label.invariant.count in
    let counted = with-length nat_eq seen label in
    record {
      known = subst (λ (ms : List ℕ). AreKnown ms c.number_of-number.new.known.items) (sym seen_more) (c.number_of-number.ensures.known seen c.loop-label.invariant.known c.loop-label.invariant.count);
      size = c.number_of-number.ensures.size ∙ c.loop-label.invariant.size;
      count = let sizes : length (seen_after nat_eq [] (take (i + 1) labels)) ≡ length (seen_with nat_eq seen label) = ap length seen_more in grind (arith, nat_tests, sizes, counted, number);
      few = grind (arith, nat_tests);
      numbers =
          c.push_reserved.ensures.items ∙ ap (λ (ns : List ℕ). ns ++ c.number_of-number.result ∷ []) c.loop-label.invariant.numbers
          ∙ ap (λ (n : ℕ). numbers_after nat_eq [] (take i labels) ++ n ∷ []) number ∙ sym (ap (numbers_after nat_eq []) more ∙ numbers-push nat_eq [] (take i labels) label);
      put = omega arith;
      capacity = search rules;
    }

pub returns : goal.returns
returns c =
    let labels = c.args.labels.now in
    let all : take c.loop-label.label-index labels ≡ labels = take_all c.loop-label.label-index labels (omega arith) in
    c.loop-label.invariant.numbers ∙ ap (numbers_after nat_eq []) all ∙ numbers-once nat_eq (λ x. eq-eqb x x refl) eqb-true labels
