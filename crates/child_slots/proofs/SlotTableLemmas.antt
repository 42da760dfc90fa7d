-- A table of the numbers of edges by their slots.
use Rattle.std.proofs.Common.{◌≡◌, ◌≢◌, ℕ, ◌+◌, ◌-◌, ◌<◌, ◌≤◌, ◌^◌, Bool, true, false, nat_eq, List, [], ◌∷◌, ◌++◌, length, get_or, slice_set, subst, arith, refl, ap, sym, ◌∙◌, Option, None, Some}
use Rattle.std.specs.List.{position}
use Rattle.std.proofs.lemmas.Bool.Decides.{nat_tests}
use Rattle.std.proofs.lemmas.Bool.{false_from_ne_true}
use Rattle.std.proofs.lemmas.List.{length-append}
use Rattle.std.proofs.lemmas.List.Folds.{list_any_at}
use Rattle.std.proofs.lemmas.List.Quantifiers.{position-Some}
use Rattle.mesh_laws.proofs.ChildPlaceLemmas.{first-within}
use Rattle.subdiv_model.specs.Polygons.{is_among}
use Rattle.level_topology.specs.ChildTables.{kept_place, IsInverse}
use Rattle.level_topology.proofs.ChildTableLemmas.{position-there, inverse-more}
use Rattle.child_slots.specs.Slotted.{Slotted, slotted, number_at, with_slot, IsSlotTable}

-- a slot that is among others has a number, and one that is not has none
pub among-number : (slots : List ℕ) (a : ℕ) → is_among slots a ≡ true → number_at slots a < length slots
among-number slots a h = first-within (nat_eq a) slots h

pub none-number : (slots : List ℕ) (a : ℕ) → is_among slots a ≡ false → number_at slots a ≡ length slots
none-number [] a h = refl
none-number (x ∷ slots) a h = go (nat_eq a x) refl (none-number slots a)
  where
    go : (b : Bool) → nat_eq a x ≡ b → (is_among slots a ≡ false → number_at slots a ≡ length slots) → number_at (x ∷ slots) a ≡ length (x ∷ slots)
    go true e behind = absurd (grind (arith, nat_tests))
    go false e behind =
        let none : is_among slots a ≡ false = grind (arith, nat_tests) in
        rw e (omega (arith, behind none))

-- the entry of the table at a slot
module _ (slots table : List ℕ) (a e : ℕ) (is : IsInverse slots table) (inside : a < length table) (few : length slots ≤ 2 ^ 31) (there : e ≡ get_or table a 0) where
  -- the entry of a slot that has an edge is the number of the edge
  pub entry-of : is_among slots a ≡ true → e ≡ number_at slots a
  entry-of h = there ∙ is a inside ∙ ap kept_place (position-there (nat_eq a) slots (number_at slots a) refl (among-number slots a h))

  -- an empty entry means that no edge has the slot
  pub entry-none : e ≡ 2 ^ 32 - 1 → is_among slots a ≡ false
  entry-none none = false_from_ne_true _ (λ h. absurd (omega (arith, entry-of h, among-number slots a h, none, few)))

  pub entry-some : e ≢ 2 ^ 32 - 1 → is_among slots a ≡ true
  entry-some some = go (position (nat_eq a) slots) refl
    where
      go : (o : Option ℕ) → position (nat_eq a) slots ≡ o → is_among slots a ≡ true
      go None none = absurd (some (there ∙ is a inside ∙ ap kept_place none))
      go (Some q) found =
          let at = position-Some (nat_eq a) slots q 0 found in
          list_any_at (nat_eq a) slots q 0 at.0 at.1

-- an edge that is there with one face more
pub known-slot : (face : ℕ) (n : Slotted) (a e : ℕ) (s pair : ℕ × ℕ) → is_among n.slots a ≡ true → e ≡ number_at n.slots a → pair ≡ get_or n.faces e (0, 0) → slotted n.count n.slots n.ends (slice_set n.faces e (pair.0, face)) ≡ with_slot face n (a, s)
known-slot face n a e s pair there number is = rw (there, ← number, ← is) refl

-- a table with one more edge
pub table-more : (table slots : List ℕ) (ends faces : List (ℕ × ℕ)) (a e : ℕ) (s pair : ℕ × ℕ) (slots' : List ℕ) (ends' faces' : List (ℕ × ℕ)) → IsSlotTable table (slotted (length table) slots ends faces) → a < length table → is_among slots a ≡ false → e ≡ length ends → length ends < 2 ^ 31
    → slots' ≡ slots ++ a ∷ [] → ends' ≡ ends ++ s ∷ [] → faces' ≡ faces ++ pair ∷ []
    → IsSlotTable (slice_set table a e) (slotted (length (slice_set table a e)) slots' ends' faces')
table-more table slots ends faces a e s pair slots' ends' faces' is inside absent number few r t f =
    let number' : length slots ≡ e = sym is.end_count ∙ sym number in
    let made = inverse-more slots table a is.inverse inside (none-number slots a absent) in
    let made' : IsInverse (slots ++ a ∷ []) (slice_set table a e) = subst (λ n. IsInverse (slots ++ a ∷ []) (slice_set table a n)) number' made in
    record {
      inverse = subst (λ ns. IsInverse ns (slice_set table a e)) (sym r) made';
      end_count = ap length t ∙ length-append ends (s ∷ []) ∙ ap (λ n. n + 1) is.end_count ∙ sym (ap length r ∙ length-append slots (a ∷ []));
      face_count = ap length f ∙ length-append faces (pair ∷ []) ∙ ap (λ n. n + 1) is.face_count ∙ sym (ap length r ∙ length-append slots (a ∷ []));
      few = omega (arith, ap length r, length-append slots (a ∷ []), is.end_count, few);
    }
