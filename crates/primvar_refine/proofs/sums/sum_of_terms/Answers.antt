use Rattle.std.proofs.Common.{arith, ◌≡◌, ◌+◌, ◌<◌, ◌≤◌, List, length, ℕ, get_or, ap, sym, ◌∙◌, subst}
use Rattle.std.proofs.lemmas.List.{get_or-map, length-map}
use Rattle.subdiv_model.specs.Mask as model
use Rattle.ratio128.specs.Numbers.{zeros}
use Rattle.mask_rules.specs.View.{term_of, terms_of}
use Rattle.mask_rules.specs.declared.mask.Term.{Term}
use Rattle.mask_rules.specs.declared.mask.At.TheVariants.{Point}
use Rattle.primvar_refine.specs.Rows.{least_bound}
use Rattle.primvar_refine.specs.View.{rows_of, row_of}
use Rattle.primvar_refine.specs.Sums.{source_row}
use Rattle.ratio128.proofs.AmountLemmas.{IsWithin-zeros, length-zeros}
use Rattle.primvar_refine.proofs.TermSumLemmas.{IsSumSoFar, CanTake, none, sum-begins, can-take, sum-goes_on, sum-ends}
use Rattle.primvar_refine.proofs.sums.sum_of_terms.Given as given
use Rattle.primvar_refine.proofs.sums.sum_of_terms.Goals as goal

pub loop-term-init : goal.loop-term-init
loop-term-init g c = record {
  so_far = subst (IsSumSoFar _ _ _ _ _ 0) (sym c.cleared-sum.ensures)
      (sum-begins c.args.start.now.width c.args.multiple (least_bound (rows_of g.P.Primvar.numbers c.args.values.now)) (length (g.P.Primvar.numbers c.args.start.now.zero.now)) _ (zeros (g.P.Primvar.numbers c.args.start.now.zero.now))
      (length-zeros (g.P.Primvar.numbers c.args.start.now.zero.now)) (terms_of c.args.terms.now) c.requires.can (IsWithin-zeros 0 (g.P.Primvar.numbers c.args.start.now.zero.now)));
  taken = omega arith;
}

-- the term at a place beyond the end
abbrev blank : Term
blank = record { at = Point 0; weight = 0 }

seen : (terms : List Term) (i : ℕ) → i < length terms → term_of (get_or terms i blank) ≡ get_or (terms_of terms) i none
seen terms i h = sym (get_or-map term_of terms i blank none h)

seen-inside : (terms : List Term) (i : ℕ) → i < length terms → i < length (terms_of terms)
seen-inside terms i h = rw length-map h

next : (g : given.Over) (c : goal.After-add_over-arg-1 g)
    → CanTake c.args.start.now.width c.args.multiple (g.P.Primvar.numbers c.loop-term.sum) (get_or c.args.terms.now c.loop-term.term-index blank).weight (row_of g.P.Primvar.numbers c.source.result.now)
next g c =
    let same = seen c.args.terms.now c.loop-term.term-index c.loop-term-test.true in
    can-take c.args.start.now.width c.args.multiple (least_bound (rows_of g.P.Primvar.numbers c.args.values.now)) (length (g.P.Primvar.numbers c.args.start.now.zero.now)) _ (zeros (g.P.Primvar.numbers c.args.start.now.zero.now))
    (length-zeros (g.P.Primvar.numbers c.args.start.now.zero.now)) (terms_of c.args.terms.now) c.requires.can
    c.loop-term.term-index (seen-inside c.args.terms.now c.loop-term.term-index c.loop-term-test.true) (g.P.Primvar.numbers c.loop-term.sum) c.loop-term.invariant.so_far
    (get_or c.args.terms.now c.loop-term.term-index blank).weight (row_of g.P.Primvar.numbers c.source.result.now)
    (ap (λ (t : model.Term). t.weight) same)
    (c.source.ensures ∙ ap (λ (t : model.Term). source_row (rows_of g.P.Primvar.numbers c.args.values.now) (rows_of g.P.Primvar.numbers c.args.made.now) c.args.places.now t.source) same)

pub add_over-requires-clause-positive : goal.add_over-requires-clause-positive
add_over-requires-clause-positive g c = (next g c).positive

pub add_over-requires-clause-same_length : goal.add_over-requires-clause-same_length
add_over-requires-clause-same_length g c = (next g c).long

pub add_over-requires-clause-some : goal.add_over-requires-clause-some
add_over-requires-clause-some g c = (next g c).some

pub add_over-requires-clause-small : goal.add_over-requires-clause-small
add_over-requires-clause-small g c = (next g c).small

pub add_over-requires-clause-fits : goal.add_over-requires-clause-fits
add_over-requires-clause-fits g c = (next g c).fits

pub loop-term-preserved : goal.loop-term-preserved
loop-term-preserved g c =
    let same = seen c.args.terms.now c.loop-term.term-index c.loop-term-test.true in
    record {
      so_far = subst (IsSumSoFar _ _ _ _ _ (c.loop-term.term-index + 1)) (sym c.add_over.ensures.added)
          (sum-goes_on c.args.start.now.width c.args.multiple (least_bound (rows_of g.P.Primvar.numbers c.args.values.now)) (length (g.P.Primvar.numbers c.args.start.now.zero.now)) _ (zeros (g.P.Primvar.numbers c.args.start.now.zero.now))
          (length-zeros (g.P.Primvar.numbers c.args.start.now.zero.now)) (terms_of c.args.terms.now) c.requires.can
          c.loop-term.term-index (seen-inside c.args.terms.now c.loop-term.term-index c.loop-term-test.true) (g.P.Primvar.numbers c.loop-term.sum) c.loop-term.invariant.so_far
          (get_or c.args.terms.now c.loop-term.term-index blank).weight (row_of g.P.Primvar.numbers c.source.result.now)
          (ap (λ (t : model.Term). t.weight) same)
          (c.source.ensures ∙ ap (λ (t : model.Term). source_row (rows_of g.P.Primvar.numbers c.args.values.now) (rows_of g.P.Primvar.numbers c.args.made.now) c.args.places.now t.source) same));
      taken = omega (arith, c.add_over.ensures.step, c.loop-term.invariant.taken);
    }

pub returns-clause-sum : goal.returns-clause-sum
returns-clause-sum g c =
    let past : length (terms_of c.args.terms.now) ≤ c.loop-term.term-index = rw length-map c.loop-term-test.false in
    sum-ends c.args.multiple (least_bound (rows_of g.P.Primvar.numbers c.args.values.now)) _ (zeros (g.P.Primvar.numbers c.args.start.now.zero.now)) (terms_of c.args.terms.now) c.loop-term.term-index
    (g.P.Primvar.numbers c.loop-term.sum) past c.loop-term.invariant.so_far
