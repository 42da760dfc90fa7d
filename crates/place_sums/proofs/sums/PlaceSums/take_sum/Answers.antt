use Rattle.std.proofs.Common.{ℕ, List, ◌+◌, ap, length, map, sym, ◌∙◌, subst}
use Rattle.ratio128.specs.Numbers.{zeros}
use Rattle.stencil_apply.specs.Table.{sum_of_shares}
use Rattle.stencil_apply.specs.Means.{CanSum, word_bound}
use Rattle.place_sums.specs.Sums.{shares_from}
use Rattle.place_sums.proofs.TouchedLemmas.{taken-count, taken-inside, taken-listed, taken-touched, taken-zeros}
use Rattle.place_sums.proofs.OrderLemmas.{moved-sum, moved-count, moved-can}
use Rattle.place_sums.proofs.sums.PlaceSums.take_sum.Goals as goal

pub slice_bounds-places-end : goal.slice_bounds-places-end
slice_bounds-places-end g c = taken-count g.T.Natural.value c.self.inside.touched.items c.deref.result.now c.deref.ensures.value c.self.inside.count c.self.inside.sums.items c.self.invariant

pub sum_places-sum-requires-clause-inside : goal.sum_places-sum-requires-clause-inside
sum_places-sum-requires-clause-inside g c = taken-inside g.T.Natural.value c.self.inside.touched.items c.deref.result.now c.deref.ensures.value c.self.inside.count c.self.inside.sums.items c.self.invariant

pub sum_places-sum-requires-clause-fits : goal.sum_places-sum-requires-clause-fits
sum_places-sum-requires-clause-fits g c =
    moved-can word_bound _ _ _ (taken-listed g.T.Natural.value c.self.inside.touched.items c.deref.result.now c.deref.ensures.value c.self.inside.count c.self.inside.sums.items c.self.invariant)
    (subst (λ (sums : List ℕ). CanSum word_bound (shares_from 0 sums) (map g.P.Primvar.numbers c.args.controls.now)) (sym c.self.view_is) c.requires.fits)

pub invariant_of-self : goal.invariant_of-self
invariant_of-self g c = taken-touched g.T.Natural.value c.self.inside.touched.items c.deref.result.now c.deref.ensures.value c.self.inside.count c.self.inside.sums.items c.self.invariant c.sum_places-sum.new.sums.items c.sum_places-sum.ensures.sums

pub returns-clause-sum : goal.returns-clause-sum
returns-clause-sum g c =
    c.sum_places-sum.ensures.sum ∙ moved-sum _ _ _ _ (taken-listed g.T.Natural.value c.self.inside.touched.items c.deref.result.now c.deref.ensures.value c.self.inside.count c.self.inside.sums.items c.self.invariant)
    ∙ ap (λ (sums : List ℕ). sum_of_shares (zeros (g.P.Primvar.numbers c.args.like.now)) (map g.P.Primvar.numbers c.args.controls.now) (shares_from 0 sums)) c.self.view_is

pub returns-clause-zeros : goal.returns-clause-zeros
returns-clause-zeros g c = taken-zeros g.T.Natural.value c.self.inside.touched.items c.deref.result.now c.deref.ensures.value c.self.inside.count c.self.inside.sums.items c.self.invariant c.sum_places-sum.new.sums.items c.sum_places-sum.ensures.sums c.args.self.now c.self.view_is

pub returns-clause-steps : goal.returns-clause-steps
returns-clause-steps g c =
    c.sum_places-sum.ensures.steps ∙ ap (λ n. c.args.steps.now + n) (moved-count _ _ (taken-listed g.T.Natural.value c.self.inside.touched.items c.deref.result.now c.deref.ensures.value c.self.inside.count c.self.inside.sums.items c.self.invariant) ∙ ap (λ (sums : List ℕ). length (shares_from 0 sums)) c.self.view_is)
