use Rattle.std.proofs.Common.{◌≡◌, [], ◌++◌, ap, ◌∙◌, map, rules}
use Rattle.place_sums.proofs.PairLemmas.{moved-equal, moved-all}
use Rattle.place_sums.proofs.entries.Entries.replace.Goals as goal

pub invariant_of-self-2 : goal.invariant_of-self-2
invariant_of-self-2 g c =
    let none : c.reserve.new.self.items ≡ [] = search rules in
    moved-equal g.T.Natural.value c.reserve.new.self.items c.move_sums.new.numbers.items c.args.places.now c.extend_from_slice.new.self.items (map g.T.Natural.value c.args.sums.now.items) none
    (c.in_ok-extend_from_slice.ensures.items ∙ ap (λ l. l ++ c.args.places.now) c.clear.ensures.items) c.move_sums.ensures.numbers

pub returns-clause-entries : goal.returns-clause-entries
returns-clause-entries g c =
    let none : c.reserve.new.self.items ≡ [] = search rules in
    moved-all g.T.Natural.value c.reserve.new.self.items c.move_sums.new.numbers.items c.args.places.now c.extend_from_slice.new.self.items (map g.T.Natural.value c.args.sums.now.items) none
    (c.in_ok-extend_from_slice.ensures.items ∙ ap (λ l. l ++ c.args.places.now) c.clear.ensures.items) c.move_sums.ensures.numbers
