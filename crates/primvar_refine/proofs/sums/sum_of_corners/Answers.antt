use Rattle.std.proofs.Common.{arith, ◌≡◌, ◌+◌, ◌<◌, ◌≤◌, List, [], length, ℕ, get_or, ap, sym, ◌∙◌, subst}
use Rattle.std.proofs.lemmas.List.{get_or-map, length-map}
use Rattle.subdiv_model.specs.Mask.{Term, OfPoint, weigh, weigh_points}
use Rattle.ratio128.specs.Numbers.{zeros}
use Rattle.primvar_refine.specs.Rows.{Row, least_bound}
use Rattle.primvar_refine.specs.View.{rows_of, row_of}
use Rattle.primvar_refine.specs.Sums.{source_row}
use Rattle.ratio128.proofs.AmountLemmas.{IsWithin-zeros, length-zeros}
use Rattle.primvar_refine.proofs.TermSumLemmas.{IsSumSoFar, CanTake, none, sum-begins, can-take, sum-goes_on, sum-ends}
use Rattle.primvar_refine.proofs.sums.sum_of_corners.Given as given
use Rattle.primvar_refine.proofs.sums.sum_of_corners.Goals as goal

pub loop-v-init : goal.loop-v-init
loop-v-init g c = record {
  so_far = subst (IsSumSoFar _ _ _ _ _ 0) (sym c.cleared-sum.ensures)
      (sum-begins c.args.start.now.width c.args.multiple (least_bound (rows_of g.P.Primvar.numbers c.args.values.now)) (length (g.P.Primvar.numbers c.args.start.now.zero.now)) _ (zeros (g.P.Primvar.numbers c.args.start.now.zero.now))
      (length-zeros (g.P.Primvar.numbers c.args.start.now.zero.now)) (weigh_points 1 c.args.corners.now) c.requires.can (IsWithin-zeros 0 (g.P.Primvar.numbers c.args.start.now.zero.now)));
  taken = omega arith;
}

-- a corner as a term
seen : (corners : List ℕ) (i : ℕ) → i < length corners → weigh 1 (OfPoint (get_or corners i 0)) ≡ get_or (weigh_points 1 corners) i none
seen corners i h = sym (get_or-map (λ v. weigh 1 (OfPoint v)) corners i 0 none h)

seen-inside : (corners : List ℕ) (i : ℕ) → i < length corners → i < length (weigh_points 1 corners)
seen-inside corners i h = rw length-map h

row-there : (g : given.Over) (c : goal.After-add_over-arg-1 g)
    → row_of g.P.Primvar.numbers c.index-values-v.result ≡ source_row (rows_of g.P.Primvar.numbers c.args.values.now) [] [] (OfPoint (get_or c.args.corners.now c.loop-v.v-index 0))
row-there g c =
    let blank : Row = record { numbers = []; den = 1 } in
    ap (row_of g.P.Primvar.numbers) c.index-values-v.is
    ∙ sym (get_or-map (row_of g.P.Primvar.numbers) c.args.values.now (get_or c.args.corners.now c.loop-v.v-index 0) c.index-values-v.result blank (c.requires.there c.loop-v.v-index 0 c.loop-v-test.true))

next : (g : given.Over) (c : goal.After-add_over-arg-1 g) → CanTake c.args.start.now.width c.args.multiple (g.P.Primvar.numbers c.loop-v.sum) 1 (row_of g.P.Primvar.numbers c.index-values-v.result)
next g c =
    let same = seen c.args.corners.now c.loop-v.v-index c.loop-v-test.true in
    can-take c.args.start.now.width c.args.multiple (least_bound (rows_of g.P.Primvar.numbers c.args.values.now)) (length (g.P.Primvar.numbers c.args.start.now.zero.now)) _ (zeros (g.P.Primvar.numbers c.args.start.now.zero.now))
    (length-zeros (g.P.Primvar.numbers c.args.start.now.zero.now)) (weigh_points 1 c.args.corners.now) c.requires.can
    c.loop-v.v-index (seen-inside c.args.corners.now c.loop-v.v-index c.loop-v-test.true) (g.P.Primvar.numbers c.loop-v.sum) c.loop-v.invariant.so_far
    1 (row_of g.P.Primvar.numbers c.index-values-v.result)
    (ap (λ (t : Term). t.weight) same)
    (row-there g c ∙ ap (λ (t : Term). source_row (rows_of g.P.Primvar.numbers c.args.values.now) [] [] t.source) same)

pub add_over-requires-clause-positive : goal.add_over-requires-clause-positive
add_over-requires-clause-positive g c = (next g c).positive

pub add_over-requires-clause-same_length : goal.add_over-requires-clause-same_length
add_over-requires-clause-same_length g c = (next g c).long

pub add_over-requires-clause-some : goal.add_over-requires-clause-some
add_over-requires-clause-some g c = (next g c).some

pub add_over-requires-clause-small : goal.add_over-requires-clause-small
add_over-requires-clause-small g c = (next g c).small

pub add_over-requires-clause-fits : goal.add_over-requires-clause-fits
add_over-requires-clause-fits g c = (next g c).fits

pub loop-v-preserved : goal.loop-v-preserved
loop-v-preserved g c =
    let same = seen c.args.corners.now c.loop-v.v-index c.loop-v-test.true in
    let blank : Row = record { numbers = []; den = 1 } in
    let there = ap (row_of g.P.Primvar.numbers) c.index-values-v.is
    ∙ sym (get_or-map (row_of g.P.Primvar.numbers) c.args.values.now (get_or c.args.corners.now c.loop-v.v-index 0) c.index-values-v.result blank (c.requires.there c.loop-v.v-index 0 c.loop-v-test.true)) in
    record {
      so_far = subst (IsSumSoFar _ _ _ _ _ (c.loop-v.v-index + 1)) (sym c.add_over.ensures.added)
          (sum-goes_on c.args.start.now.width c.args.multiple (least_bound (rows_of g.P.Primvar.numbers c.args.values.now)) (length (g.P.Primvar.numbers c.args.start.now.zero.now)) _ (zeros (g.P.Primvar.numbers c.args.start.now.zero.now))
          (length-zeros (g.P.Primvar.numbers c.args.start.now.zero.now)) (weigh_points 1 c.args.corners.now) c.requires.can
          c.loop-v.v-index (seen-inside c.args.corners.now c.loop-v.v-index c.loop-v-test.true) (g.P.Primvar.numbers c.loop-v.sum) c.loop-v.invariant.so_far
          1 (row_of g.P.Primvar.numbers c.index-values-v.result)
          (ap (λ (t : Term). t.weight) same)
          (there ∙ ap (λ (t : Term). source_row (rows_of g.P.Primvar.numbers c.args.values.now) [] [] t.source) same));
      taken = omega (arith, c.add_over.ensures.step, c.loop-v.invariant.taken);
    }

pub returns-clause-sum : goal.returns-clause-sum
returns-clause-sum g c =
    let past : length (weigh_points 1 c.args.corners.now) ≤ c.loop-v.v-index = rw length-map c.loop-v-test.false in
    sum-ends c.args.multiple (least_bound (rows_of g.P.Primvar.numbers c.args.values.now)) _ (zeros (g.P.Primvar.numbers c.args.start.now.zero.now)) (weigh_points 1 c.args.corners.now) c.loop-v.v-index
    (g.P.Primvar.numbers c.loop-v.sum) past c.loop-v.invariant.so_far
