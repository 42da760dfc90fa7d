use Rattle.std.proofs.Common.{ℕ, List, arith, length, take, ap, sym, ◌∙◌, subst}
use Rattle.std.specs.List.Sorted.{IsNonDecreasing}
use Rattle.std.proofs.lemmas.List.{with_items_is}
use Rattle.place_sums.proofs.TouchedLemmas.{touched-few, sorted-touched, taken-count, taken-inside, kept-touched, taken-touched, taken-zeros, taken-sorted}
use Rattle.place_sums.proofs.sums.PlaceSums.take.Goals as goal

pub sort_first-requires : goal.sort_first-requires
sort_first-requires g c =
    omega (arith, touched-few c.self.inside.touched.items c.self.inside.count _ c.self.invariant, ap length c.deref_mut.ensures.value)

pub slice_bounds-replace-end : goal.slice_bounds-replace-end
slice_bounds-replace-end g c =
    taken-count g.T.Natural.value _ c.deref.result.now c.deref.ensures.value c.self.inside.count c.self.inside.sums.items
    (sorted-touched c.self.inside.touched.items c.deref_mut.result.now c.sort_first.new.numbers _ _ c.self.inside.count c.deref_mut.ensures.value
    (with_items_is c.self.inside.touched c.sort_first.new.numbers (c.sort_first.ensures.len ∙ c.deref_mut.ensures.len)) c.sort_first.ensures.len c.sort_first.ensures.permutation c.self.invariant)

pub replace-requires : goal.replace-requires
replace-requires g c = record {
  inside = taken-inside g.T.Natural.value _ c.deref.result.now c.deref.ensures.value c.self.inside.count c.self.inside.sums.items
      (sorted-touched c.self.inside.touched.items c.deref_mut.result.now c.sort_first.new.numbers _ _ c.self.inside.count c.deref_mut.ensures.value
      (with_items_is c.self.inside.touched c.sort_first.new.numbers (c.sort_first.ensures.len ∙ c.deref_mut.ensures.len)) c.sort_first.ensures.len c.sort_first.ensures.permutation c.self.invariant);
}

pub invariant_of-self : goal.invariant_of-self
invariant_of-self g c =
    kept-touched g.T.Natural.value _ c.deref.result.now c.deref.ensures.value c.self.inside.count c.self.inside.sums.items
    (sorted-touched c.self.inside.touched.items c.deref_mut.result.now c.sort_first.new.numbers _ _ c.self.inside.count c.deref_mut.ensures.value
    (with_items_is c.self.inside.touched c.sort_first.new.numbers (c.sort_first.ensures.len ∙ c.deref_mut.ensures.len)) c.sort_first.ensures.len c.sort_first.ensures.permutation c.self.invariant)
    c.replace.new.sums.items c.in_err-replace.ensures.same

pub invariant_of-self-2 : goal.invariant_of-self-2
invariant_of-self-2 g c =
    taken-touched g.T.Natural.value _ c.deref.result.now c.deref.ensures.value c.self.inside.count c.self.inside.sums.items
    (sorted-touched c.self.inside.touched.items c.deref_mut.result.now c.sort_first.new.numbers _ _ c.self.inside.count c.deref_mut.ensures.value
    (with_items_is c.self.inside.touched c.sort_first.new.numbers (c.sort_first.ensures.len ∙ c.deref_mut.ensures.len)) c.sort_first.ensures.len c.sort_first.ensures.permutation c.self.invariant)
    c.replace.new.sums.items c.in_ok-replace.ensures.sums

pub returns-clause-zeros : goal.returns-clause-zeros
returns-clause-zeros g c =
    taken-zeros g.T.Natural.value _ c.deref.result.now c.deref.ensures.value c.self.inside.count c.self.inside.sums.items
    (sorted-touched c.self.inside.touched.items c.deref_mut.result.now c.sort_first.new.numbers _ _ c.self.inside.count c.deref_mut.ensures.value
    (with_items_is c.self.inside.touched c.sort_first.new.numbers (c.sort_first.ensures.len ∙ c.deref_mut.ensures.len)) c.sort_first.ensures.len c.sort_first.ensures.permutation c.self.invariant)
    c.replace.new.sums.items c.in_ok-replace.ensures.sums c.args.self.now c.self.view_is

pub returns-clause-entries : goal.returns-clause-entries
returns-clause-entries g c =
    taken-sorted g.T.Natural.value _ c.deref.result.now c.deref.ensures.value c.self.inside.count c.self.inside.sums.items
    (sorted-touched c.self.inside.touched.items c.deref_mut.result.now c.sort_first.new.numbers _ _ c.self.inside.count c.deref_mut.ensures.value
    (with_items_is c.self.inside.touched c.sort_first.new.numbers (c.sort_first.ensures.len ∙ c.deref_mut.ensures.len)) c.sort_first.ensures.len c.sort_first.ensures.permutation c.self.invariant)
    c.args.self.now c.self.view_is c.replace.new.self c.in_ok-replace.ensures.entries
    (subst (λ (l : List ℕ). IsNonDecreasing (take c.self.inside.count l)) (sym (with_items_is c.self.inside.touched c.sort_first.new.numbers (c.sort_first.ensures.len ∙ c.deref_mut.ensures.len))) c.sort_first.ensures.sorted)
