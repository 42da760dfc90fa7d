-- The first fault of lines with one more line at the end.
use Rattle.std.specs.Option.{option_or}
use Rattle.std.proofs.Common.{◌≡◌, ℕ, zero, suc, ◌+◌, ◌<◌, ◌≤◌, List, [], ◌∷◌, ◌++◌, length, length-append, Bool, true, false, if◌then◌else◌, Option, Some, None, option_map, arith, refl, ap, sym, ◌∙◌}
use Rattle.subdiv_model.specs.ObjFault.{ObjCause, ObjFault, NumberRange}
use Rattle.subdiv_model.specs.ReadObj.{first_fault}
use Rattle.obj_tags.specs.Survey.{long_fault_at}
use Rattle.obj_laws.proofs.FirstFaultLemmas.{fault_of, first_from, good-first, bad-first}

-- the fault of one line, whose cause is given
abbrev one_fault : ℕ → Option ObjCause → Option ObjFault
one_fault n cause = option_map (λ c. record { line = suc n; cause = c }) cause

from-more : (cause_at : ℕ → Option ObjCause) (start count : ℕ)
    → first_from cause_at start (suc count) ≡ option_or (first_from cause_at start count) (fault_of cause_at (start + count))
from-more cause_at start zero = by-cause (cause_at start) refl
  where
    same : start + 0 ≡ start
    same = omega arith

    by-cause : (r : Option ObjCause) → r ≡ cause_at start
        → first_from cause_at start 1 ≡ fault_of cause_at (start + 0)
    by-cause None e = good-first cause_at start 0 (sym e) ∙ sym (ap (fault_of cause_at) same ∙ ap (one_fault start) (sym e))
    by-cause (Some c) e = bad-first cause_at start 0 c (sym e) ∙ sym (ap (fault_of cause_at) same ∙ ap (one_fault start) (sym e))
from-more cause_at start (suc count) = step (cause_at start) refl (from-more cause_at (start + 1) count)
  where
    same : start + 1 + count ≡ start + suc count
    same = omega arith

    step : (r : Option ObjCause) → r ≡ cause_at start
        → first_from cause_at (start + 1) (suc count) ≡ option_or (first_from cause_at (start + 1) count) (fault_of cause_at (start + 1 + count))
        → first_from cause_at start (suc (suc count)) ≡ option_or (first_from cause_at start (suc count)) (fault_of cause_at (start + suc count))
    step None e rest =
        good-first cause_at start (suc count) (sym e)
        ∙ rest
        ∙ ap (λ n. option_or (first_from cause_at (start + 1) count) (fault_of cause_at n)) same
        ∙ ap (λ f. option_or f (fault_of cause_at (start + suc count))) (sym (good-first cause_at start count (sym e)))
    step (Some c) e rest =
        bad-first cause_at start (suc count) c (sym e)
        ∙ sym (ap (λ f. option_or f (fault_of cause_at (start + suc count))) (bad-first cause_at start count c (sym e)))

from-same : (f g : ℕ → Option ObjCause) (start count : ℕ) → ((k : ℕ) → start ≤ k → k < start + count → f k ≡ g k)
    → first_from f start count ≡ first_from g start count
from-same f g start zero same = refl
from-same f g start (suc count) same = step (f start) refl (from-same f g (start + 1) count (λ k low high. same k (omega arith) (omega arith)))
  where
    here : f start ≡ g start
    here = same start (omega arith) (omega arith)

    step : (r : Option ObjCause) → r ≡ f start → first_from f (start + 1) count ≡ first_from g (start + 1) count
        → first_from f start (suc count) ≡ first_from g start (suc count)
    step None e rest =
        good-first f start count (sym e)
        ∙ rest
        ∙ sym (good-first g start count (sym (e ∙ here)))
    step (Some c) e rest = bad-first f start count c (sym e) ∙ sym (bad-first g start count c (sym (e ∙ here)))

-- If f and g give the lines before equal causes, the first cause is theirs, or that of the last line if they have none.
pub first-more : {X : Type 0} (f g : ℕ → Option ObjCause) (before : List X) (x : X) (cause : Option ObjCause)
    → ((k : ℕ) → k < length before → f k ≡ g k) → f (length before) ≡ cause
    → first_fault f (length (before ++ x ∷ [])) ≡ option_or (first_fault g (length before)) (one_fault (length before) cause)
first-more f g before x cause same last =
    let size : length (before ++ x ∷ []) ≡ suc (length before) = omega (arith, length-append before (x ∷ [])) in
    let none : 0 + length before ≡ length before = omega arith in
    ap (first_fault f) size
    ∙ from-more f 0 (length before)
    ∙ ap (λ r. option_or r (fault_of f (0 + length before))) (from-same f g 0 (length before) (λ k low high. same k (omega arith)))
    ∙ ap (λ n. option_or (first_fault g (length before)) (fault_of f n)) none
    ∙ ap (λ c. option_or (first_fault g (length before)) (one_fault (length before) c)) last

-- a fault that is there, and one that is not
pub or-none : {X : Type 0} (r : Option X) → option_or r None ≡ r
or-none None = refl
or-none (Some x) = refl

pub some-or : {X : Type 0} (r other : Option X) (x : X) → Some x ≡ r → option_or r other ≡ Some x
some-or r other x e = rw (sym e) refl

pub none-or : {X : Type 0} (r other : Option X) → None ≡ r → option_or r other ≡ other
none-or r other e = rw (sym e) refl

pub cause-of : (b : Bool) (n : ℕ)
    → option_map long_fault_at (if b then Some (suc n) else None)
    ≡ option_map (λ c. record { line = suc n; cause = c }) (if b then Some NumberRange else None)
cause-of true n = refl
cause-of false n = refl
