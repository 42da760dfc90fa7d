-- The table of the numbers of points, and the numbers that replace the points.
use Rattle.std.proofs.Common.{◌≡◌, ℕ, suc, ◌+◌, ◌-◌, ◌<◌, ◌≤◌, ◌^◌, Bool, true, false, nat_eq, cond, List, [], ◌∷◌, ◌++◌, length, get_or, take, drop, slice_set, subst, arith, refl, ap, sym, ◌∙◌}
use Rattle.std.specs.Int.{from_bool}
use Rattle.std.specs.List.{position_or_len}
use Rattle.std.proofs.Math.Seq.{drop-cons, set-append_seam}
use Rattle.std.proofs.lemmas.List.{append-nil, append_assoc, get_or-append_right, take_more, take_all, drop_all, length-take-le}
use Rattle.subdiv_model.specs.Lists.{each_once_by}
use Rattle.level_topology.specs.ChildTables.{IsInverse}
use Rattle.level_topology.proofs.ChildTableLemmas.{inverse-more}
use Rattle.child_slots.proofs.SlotTableLemmas.{entry-none, none-number}
use Rattle.sparse_level.specs.Places.{with_point, with_points}
use Rattle.sparse_level.specs.Numbers.{numbers_of, numbers_after}
use Rattle.sparse_level.proofs.FaceNumberLemmas.{points-push, numbers-push, numbers-length, numbers-once, points-once, with-new, with-length}

-- a point that the table has
module _ (earlier table : List ℕ) (v e : ℕ) (is : IsInverse earlier table) (inside : v < length table) (few : length earlier ≤ 2 ^ 30) (there : e ≡ get_or table v 0) where
  -- a point that the table does not have
  pub new-number : e ≡ 2 ^ 32 - 1 → length earlier ≡ position_or_len (nat_eq v) earlier
  new-number none = sym (none-number earlier v (entry-none earlier table v e is inside (omega (arith, few)) there none))

  pub new-table : (next : ℕ) → e ≡ 2 ^ 32 - 1 → next ≡ length earlier → IsInverse (with_point earlier v) (slice_set table v next)
  new-table next none is_next =
      let new = entry-none earlier table v e is inside (omega (arith, few)) there none in
      let made : IsInverse (earlier ++ v ∷ []) (slice_set table v (length earlier)) = inverse-more earlier table v is inside (none-number earlier v new) in
      let one : IsInverse (earlier ++ v ∷ []) (slice_set table v next) = subst (λ n. IsInverse (earlier ++ v ∷ []) (slice_set table v n)) (sym is_next) made in
      subst (λ (l : List ℕ). IsInverse l (slice_set table v next)) (sym (with-new earlier v new)) one

-- a list of which the first places are written
abbrev pub put_in : List ℕ → ℕ → List ℕ → List ℕ
put_in done i old = done ++ drop i old

put-read : (done old : List ℕ) (i d : ℕ) → length done ≡ i → i < length old → get_or (put_in done i old) i d ≡ get_or old i d
put-read done old i d e h =
    let none : i - i ≡ 0 = omega arith in
    get_or-append_right done (drop i old) i i d e (omega arith) ∙ ap (λ n. get_or (drop i old) n d) none ∙ ap (λ (l : List ℕ). get_or l 0 d) (drop-cons old i d h)

put-more : (done old : List ℕ) (i n : ℕ) → length done ≡ i → i < length old → slice_set (put_in done i old) i n ≡ put_in (done ++ n ∷ []) (i + 1) old
put-more done old i n e h =
    let next : suc i ≡ i + 1 = omega arith in
    ap (λ (l : List ℕ). slice_set (done ++ l) i n) (drop-cons old i 0 h)
    ∙ ap (λ k. slice_set (done ++ get_or old i 0 ∷ drop (suc i) old) k n) (sym e)
    ∙ set-append_seam done (get_or old i 0) (drop (suc i) old) n
    ∙ sym (append_assoc done (n ∷ []) (drop (suc i) old))
    ∙ ap (λ k. (done ++ n ∷ []) ++ drop k old) next

from-cond : (b : Bool) → from_bool b ≡ cond b 1 0
from-cond true = refl
from-cond false = refl

at-most-one : (b : Bool) → from_bool b ≤ 1
at-most-one true = omega arith
at-most-one false = omega arith

-- the points of the first places have their numbers, which the table has
pub record AreNumbered (old : List ℕ) (i next : ℕ) (table now : List ℕ) : Type 0 where
  pub table_is : IsInverse (with_points [] (take i old)) table
  pub next_is : next ≡ length (with_points [] (take i old))
  pub few : next ≤ i
  pub now_is : now ≡ put_in (numbers_after [] (take i old)) i old

module _ (old : List ℕ) (i next : ℕ) (table now : List ℕ) (are : AreNumbered old i next table now) where
  abbrev done : List ℕ
  done = numbers_after [] (take i old)

  abbrev earlier : List ℕ
  earlier = with_points [] (take i old)

  done-length : i < length old → length done ≡ i
  done-length h = numbers-length [] (take i old) ∙ length-take-le i old (omega (arith, h))

  -- the item at the next place
  pub point-there : (d : ℕ) → i < length old → get_or now i d ≡ get_or old i d
  point-there d h = ap (λ (l : List ℕ). get_or l i d) are.now_is ∙ put-read done old i d (done-length h) h

  -- a point more
  pub one-numbered : (number next' : ℕ) (table' : List ℕ) → i < length old → number ≡ position_or_len (nat_eq (get_or old i 0)) earlier
      → IsInverse (with_point earlier (get_or old i 0)) table' → next' ≡ next + from_bool (nat_eq number next)
      → AreNumbered old (i + 1) next' table' (slice_set now i number)
  one-numbered number next' table' h number_is table_is more =
      let v : ℕ = get_or old i 0 in
      let taken = take_more old i 0 h in
      let earlier_more : with_points [] (take (i + 1) old) ≡ with_point earlier v = ap (with_points []) taken ∙ points-push [] (take i old) v in
      let done_more : numbers_after [] (take (i + 1) old) ≡ done ++ number ∷ [] =
      ap (numbers_after []) taken ∙ numbers-push [] (take i old) v ∙ ap (λ n. done ++ n ∷ []) (sym number_is) in
      let counted : length (with_point earlier v) ≡ next + cond (nat_eq number next) 1 0 =
      with-length earlier v ∙ ap (λ n. length earlier + cond (nat_eq n (length earlier)) 1 0) (sym number_is) ∙ ap (λ n. n + cond (nat_eq number n) 1 0) (sym are.next_is) in
      record {
        table_is = subst (λ (l : List ℕ). IsInverse l table') (sym earlier_more) table_is;
        next_is = more ∙ ap (λ n. next + n) (from-cond (nat_eq number next)) ∙ sym counted ∙ ap length (sym earlier_more);
        few = omega (arith, are.few, more, at-most-one (nat_eq number next));
        now_is =
            ap (λ (l : List ℕ). slice_set l i number) are.now_is ∙ put-more done old i number (done-length h) h
            ∙ ap (λ (l : List ℕ). put_in l (i + 1) old) (sym done_more);
      }

  -- after the last one all have theirs
  pub all-numbered : length old ≤ i → now ≡ numbers_of old
  all-numbered h =
      are.now_is ∙ ap (λ (l : List ℕ). numbers_after [] l ++ drop i old) (take_all i old h) ∙ ap (λ (l : List ℕ). numbers_after [] old ++ l) (drop_all i old h)
      ∙ append-nil (numbers_after [] old) ∙ numbers-once old

  pub all-counted : length old ≤ i → next ≡ length (each_once_by nat_eq old)
  all-counted h = are.next_is ∙ ap (λ (l : List ℕ). length (with_points [] l)) (take_all i old h) ∙ ap length (points-once old)
