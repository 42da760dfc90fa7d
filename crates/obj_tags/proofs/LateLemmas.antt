-- The late fault of a text, from the survey and the draft of its channels.
use Rattle.std.proofs.Common.{◌≡◌, ℕ, min, nat_lt, Bool, true, false, List, length, map, Option, Some, None, option_map, arith, refl, ap, sym, ◌∙◌, if◌then◌else◌}
use Rattle.std.specs.Prelude.{is_some}
use Rattle.std.specs.List.{filter}
use Rattle.std.specs.Option.{option_or}
use Rattle.std.proofs.lemmas.Bool.Decides.{nat_tests}
use Rattle.subdiv_model.specs.ReadObj.{common_over, passes_bound, long_fault, wide_fault, first_fault, late_fault, lesser_fault}
use Rattle.obj_tags.specs.Channel.{IsChannelOf, lesser_line}
use Rattle.obj_tags.specs.Line.{Line}
use Rattle.obj_tags.specs.Survey.{long_fault_at, IsCommonOf}
use Rattle.obj_tags.specs.declared.survey.Common.{Common}

late-of : (kind : Line → Bool) (start value : ℕ) (wide long : Option ℕ) (lines : List Line) → is_some wide ≡ passes_bound kind start lines
    → option_map long_fault_at wide ≡ first_fault (wide_fault kind start lines) (length lines)
    → (wide ≡ None → value ≡ common_over start (filter kind lines))
    → option_map long_fault_at long ≡ first_fault (long_fault kind value lines) (length lines)
    → option_map long_fault_at (option_or wide long) ≡ late_fault kind start lines
late-of kind start value (Some place) long lines passes first same kept = rw (sym passes) first
late-of kind start value None long lines passes first same kept =
    rw (sym passes) (kept ∙ ap (λ common. first_fault (long_fault kind common lines) (length lines)) (same refl))

-- the late fault of a channel
pub late-channel : (Q : Type 0) (kind : Line → Bool) (over : ℕ → Line → Q) (start : ℕ) (common : Common) (numbers : List Q) (long : Option ℕ) (lines : List Line)
    → IsCommonOf kind start common lines → IsChannelOf Q kind over common.value numbers long lines
    → option_map long_fault_at (option_or common.wide long) ≡ late_fault kind start lines
late-channel Q kind over start common numbers long lines is are =
    late-of kind start common.value common.wide long lines is.passes is.first is.value are.first

-- the numbers of a channel without a late fault
pub late-kept : (Q : Type 0) (kind : Line → Bool) (over : ℕ → Line → Q) (start : ℕ) (common : Common) (numbers : List Q) (long : Option ℕ) (lines : List Line)
    → option_or common.wide long ≡ None → IsCommonOf kind start common lines → IsChannelOf Q kind over common.value numbers long lines
    → (common.value ≡ common_over start (filter kind lines))
    × (numbers ≡ map (over (common_over start (filter kind lines))) (filter kind lines))
late-kept Q kind over start common numbers long lines none is are =
    let parts = no-late common.wide long none in
    let value = is.value parts.0 in
    (value, are.kept parts.1 ∙ ap (λ n. map (over n) (filter kind lines)) value)
  where
    no-late : (wide long : Option ℕ) → option_or wide long ≡ None → (wide ≡ None) × (long ≡ None)
    no-late (Some place) long e = cc
    no-late None long e = (refl, e)

-- the lesser of two lines
pub lesser-late : (a b : Option ℕ)
    → option_map long_fault_at (lesser_line a b) ≡ lesser_fault (option_map long_fault_at a) (option_map long_fault_at b)
lesser-late None b = refl
lesser-late (Some a) None = refl
lesser-late (Some a) (Some b) = by (nat_lt b a) refl
  where
    lesser : nat_lt b a ≡ true → min a b ≡ b
    lesser e = grind (arith, nat_tests)

    least : nat_lt b a ≡ false → min a b ≡ a
    least e = grind (arith, nat_tests)

    by : (t : Bool) → nat_lt b a ≡ t
        → Some (long_fault_at (min a b)) ≡ (if nat_lt b a then Some (long_fault_at b) else Some (long_fault_at a))
    by true e = rw e (ap (λ n. Some (long_fault_at n)) (lesser e))
    by false e = rw e (ap (λ n. Some (long_fault_at n)) (least e))

pub lesser-none : (a b : Option ℕ) → lesser_line a b ≡ None → (a ≡ None) × (b ≡ None)
lesser-none None b e = (refl, e)
lesser-none (Some a) None e = cc
lesser-none (Some a) (Some b) e = cc
