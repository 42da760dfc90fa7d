use Rattle.std.proofs.Common.{◌≡◌, ℕ, ◌+◌, ◌≤◌, Bool, true, false, [], ◌∷◌, length, get_or, arith, refl, ap}
use Rattle.std.proofs.lemmas.List.{length-append}
use Rattle.subdiv_model.specs.Polygons.{is_among}
use Rattle.child_slots.specs.Slotted.{Slotted, with_slot}
use Rattle.child_slots.proofs.numbering.SlotEdges.add_quad.Goals as goal

-- a side is at most one edge more
ends-more : (face : ℕ) (n m : Slotted) (s : ℕ × (ℕ × ℕ)) → m ≡ with_slot face n s → length m.ends ≤ length n.ends + 1
ends-more face n m s made = go (is_among n.slots s.0) refl
  where
    go : (b : Bool) → is_among n.slots s.0 ≡ b → length m.ends ≤ length n.ends + 1
    go true h = let kept = rw h at made in omega (arith, ap (λ (k : Slotted). length k.ends) kept)
    go false h = let more = rw h at made in omega (arith, ap (λ (k : Slotted). length k.ends) more, length-append n.ends (s.1 ∷ []))

pub add-requires-2-clause-few : goal.add-requires-2-clause-few
add-requires-2-clause-few c = omega (arith, c.requires.few, ends-more c.args.face c.args.self.now c.add.new.self (get_or c.args.slots 0 0, (get_or c.args.corners 0 0, get_or c.args.corners 1 0)) c.in_ok-add.ensures)

pub add-requires-3-clause-few : goal.add-requires-3-clause-few
add-requires-3-clause-few c = omega (arith, c.requires.few, ends-more c.args.face c.args.self.now c.add.new.self (get_or c.args.slots 0 0, (get_or c.args.corners 0 0, get_or c.args.corners 1 0)) c.in_ok-add.ensures, ends-more c.args.face c.add.new.self c.add-2.new.self (get_or c.args.slots 1 0, (get_or c.args.corners 1 0, get_or c.args.corners 2 0)) c.in_ok-add-2.ensures)

pub add-requires-4-clause-few : goal.add-requires-4-clause-few
add-requires-4-clause-few c = omega (arith, c.requires.few, ends-more c.args.face c.args.self.now c.add.new.self (get_or c.args.slots 0 0, (get_or c.args.corners 0 0, get_or c.args.corners 1 0)) c.in_ok-add.ensures, ends-more c.args.face c.add.new.self c.add-2.new.self (get_or c.args.slots 1 0, (get_or c.args.corners 1 0, get_or c.args.corners 2 0)) c.in_ok-add-2.ensures, ends-more c.args.face c.add-2.new.self c.add-3.new.self (get_or c.args.slots 2 0, (get_or c.args.corners 2 0, get_or c.args.corners 3 0)) c.in_ok-add-3.ensures)
