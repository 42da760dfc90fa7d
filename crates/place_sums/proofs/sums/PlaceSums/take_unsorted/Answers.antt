use Rattle.place_sums.proofs.TouchedLemmas.{taken-count, taken-inside, kept-touched, taken-touched, taken-zeros, taken-any}
use Rattle.place_sums.proofs.sums.PlaceSums.take_unsorted.Goals as goal

pub slice_bounds-replace-end : goal.slice_bounds-replace-end
slice_bounds-replace-end g c =
    taken-count g.T.Natural.value c.self.inside.touched.items c.deref.result.now c.deref.ensures.value c.self.inside.count c.self.inside.sums.items
    c.self.invariant

pub replace-requires : goal.replace-requires
replace-requires g c = record {
  inside = taken-inside g.T.Natural.value c.self.inside.touched.items c.deref.result.now c.deref.ensures.value c.self.inside.count c.self.inside.sums.items
      c.self.invariant;
}

pub invariant_of-self : goal.invariant_of-self
invariant_of-self g c =
    kept-touched g.T.Natural.value c.self.inside.touched.items c.deref.result.now c.deref.ensures.value c.self.inside.count c.self.inside.sums.items
    c.self.invariant c.replace.new.sums.items c.in_err-replace.ensures.same

pub invariant_of-self-2 : goal.invariant_of-self-2
invariant_of-self-2 g c =
    taken-touched g.T.Natural.value c.self.inside.touched.items c.deref.result.now c.deref.ensures.value c.self.inside.count c.self.inside.sums.items
    c.self.invariant c.replace.new.sums.items c.in_ok-replace.ensures.sums

pub returns-clause-zeros : goal.returns-clause-zeros
returns-clause-zeros g c =
    taken-zeros g.T.Natural.value c.self.inside.touched.items c.deref.result.now c.deref.ensures.value c.self.inside.count c.self.inside.sums.items
    c.self.invariant c.replace.new.sums.items c.in_ok-replace.ensures.sums c.args.self.now c.self.view_is

pub returns-clause-entries : goal.returns-clause-entries
returns-clause-entries g c =
    taken-any g.T.Natural.value c.self.inside.touched.items c.deref.result.now c.deref.ensures.value c.self.inside.count c.self.inside.sums.items
    c.self.invariant c.args.self.now c.self.view_is
    c.replace.new.self c.in_ok-replace.ensures.entries
