-- Memory for terms that are added one after another.
use Rattle.std.proofs.Common.{◌≡◌, ℕ, ◌+◌, ◌≤◌, arith, ◌∙◌}
use Rattle.smallvec.specs.SmallVec.{SmallVec, small_vec_len, HasRoomFor}
use Rattle.mask_rules.specs.declared.mask.Term.{Term}
use Rattle.mask_rules.specs.Growth.{Grows}

-- memory for both is memory for the second after the first
pub room-after : (old now : SmallVec Term) (first second : ℕ) → Grows old first now → HasRoomFor old (first + second) → HasRoomFor now second
room-after old now first second grown room =
    let kept : now.capacity ≡ old.capacity = grown.kept (omega (arith, room)) in
    let longer : small_vec_len now ≤ small_vec_len old + first = grown.longer in
    omega (arith, room, kept, longer)

pub grows-then : (old now new : SmallVec Term) (first second : ℕ) → Grows old first now → Grows now second new → Grows old (first + second) new
grows-then old now new first second grown more = record {
  longer = let longer : small_vec_len now ≤ small_vec_len old + first = grown.longer in let also : small_vec_len new ≤ small_vec_len now + second = more.longer in omega (arith, longer, also);
  kept = λ room. more.kept (room-after old now first second grown room) ∙ grown.kept (omega (arith, room));
}
