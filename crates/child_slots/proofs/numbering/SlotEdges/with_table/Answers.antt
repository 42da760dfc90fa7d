use Rattle.std.proofs.Common.{◌≡◌, ◌∙◌, ℕ, ◌-◌, ◌^◌, List, [], length, replicate, arith, ap, sym, subst}
use Rattle.level_topology.specs.ChildTables.{IsInverse}
use Rattle.level_topology.proofs.ChildTableLemmas.{inverse-none}
use Rattle.child_slots.specs.Slotted.{slotted, IsSlotTable}
use Rattle.child_slots.proofs.numbering.SlotEdges.with_table.Goals as goal

-- the table of no edges
table-none : (table slots : List ℕ) (ends faces : List (ℕ × ℕ)) (n : ℕ) → table ≡ replicate n (2 ^ 32 - 1) → slots ≡ [] → ends ≡ [] → faces ≡ [] → IsSlotTable table (slotted (length table) slots ends faces)
table-none table slots ends faces n t s e f = record {
  inverse = subst (λ xs. IsInverse slots xs) (sym t) (subst (λ xs. IsInverse xs (replicate n (2 ^ 32 - 1))) (sym s) (inverse-none n));
  end_count = ap length e ∙ sym (ap length s);
  face_count = ap length f ∙ sym (ap length s);
  few = omega (arith, ap length s);
}

pub invariant_of-result : goal.invariant_of-result
invariant_of-result c = table-none c.in_ok-vec.field-0.items _ _ _ _ (c.in_ok-vec.ensures.items_if_clones_equal (λ y h. h)) c.in_ok-with_capacity.ensures.items c.in_ok-with_capacity-2.ensures.items c.in_ok-with_capacity-3.ensures.items
