-- The first fault of the lines: there is none where each line is good, and else it is that of the least bad line.
use Rattle.std.proofs.Common.{◌≡◌, ◌≢◌, ℕ, zero, suc, ◌+◌, ◌<◌, ◌≤◌, Option, Some, None, arith, refl, ap, sym, true≢false, ⊎_elim, ◌∙◌}
use Rattle.std.proofs.lemmas.Bool.{cases_eq}
use Rattle.std.specs.Prelude.{option_map, is_some}
use Rattle.std.specs.List.{filter_map, range_with_len}
use Rattle.subdiv_model.specs.Lists.{first_of}
use Rattle.subdiv_model.specs.ObjFault.{ObjCause, ObjFault}
use Rattle.subdiv_model.specs.ReadObj.{first_fault}

abbrev pub fault_of : (ℕ → Option ObjCause) → ℕ → Option ObjFault
fault_of cause_at i = option_map (λ cause. record { line = suc i; cause = cause }) (cause_at i)

abbrev pub first_from : (ℕ → Option ObjCause) → ℕ → ℕ → Option ObjFault
first_from cause_at start count = first_of (filter_map (fault_of cause_at) (range_with_len start count))

pub good-first : (cause_at : ℕ → Option ObjCause) (start count : ℕ) → cause_at start ≡ None
    → first_from cause_at start (suc count) ≡ first_from cause_at (start + 1) count
good-first cause_at start count good = rw good refl

pub bad-first : (cause_at : ℕ → Option ObjCause) (start count : ℕ) (cause : ObjCause) → cause_at start ≡ Some cause
    → first_from cause_at start (suc count) ≡ Some (record { line = suc start; cause = cause })
bad-first cause_at start count cause bad = rw bad refl

least-from : (cause_at : ℕ → Option ObjCause) (start count n : ℕ) (cause : ObjCause) → start ≤ n → n < start + count
    → ((k : ℕ) → start ≤ k → k < n → cause_at k ≡ None) → cause_at n ≡ Some cause
    → first_from cause_at start count ≡ Some (record { line = suc n; cause = cause })
least-from cause_at start zero n cause low high good bad = absurd (omega arith)
least-from cause_at start (suc count) n cause low high good bad =
    ⊎_elim
    (λ (here : start ≡ n). bad-first cause_at start count cause (ap cause_at here ∙ bad) ∙ ap (λ k. Some (record { line = suc k; cause = cause })) here)
    (λ (other : start ≢ n).
    good-first cause_at start count (good start (omega arith) (omega arith))
    ∙ least-from cause_at (start + 1) count n cause (omega arith) (omega arith) (λ k after less. good k (omega arith) less) bad)
    (cases_eq start n)

none-from : (cause_at : ℕ → Option ObjCause) (start count : ℕ) → ((k : ℕ) → start ≤ k → k < start + count → cause_at k ≡ None)
    → first_from cause_at start count ≡ None
none-from cause_at start zero good = refl
none-from cause_at start (suc count) good =
    good-first cause_at start count (good start (omega arith) (omega arith))
    ∙ none-from cause_at (start + 1) count (λ k low high. good k (omega arith) (omega arith))

good-head : (cause_at : ℕ → Option ObjCause) (start count : ℕ) (r : Option ObjCause) → r ≡ cause_at start
    → first_from cause_at start (suc count) ≡ None → cause_at start ≡ None
good-head cause_at start count None e none = sym e
good-head cause_at start count (Some cause) e none = absurd (true≢false (ap is_some (sym (bad-first cause_at start count cause (sym e)) ∙ none)))

each-from : (cause_at : ℕ → Option ObjCause) (start count : ℕ) → first_from cause_at start count ≡ None → (k : ℕ) → start ≤ k
    → k < start + count → cause_at k ≡ None
each-from cause_at start zero none k low high = absurd (omega arith)
each-from cause_at start (suc count) none k low high =
    let first : cause_at start ≡ None = good-head cause_at start count (cause_at start) refl none in
    ⊎_elim
    (λ (here : start ≡ k). ap cause_at (sym here) ∙ first)
    (λ (other : start ≢ k). each-from cause_at (start + 1) count (sym (good-first cause_at start count first) ∙ none) k (omega arith) (omega arith))
    (cases_eq start k)

-- the least bad line, counted from 0
pub least-fault : (cause_at : ℕ → Option ObjCause) (count n : ℕ) (cause : ObjCause) → n < count → ((k : ℕ) → k < n → cause_at k ≡ None)
    → cause_at n ≡ Some cause → first_fault cause_at count ≡ Some (record { line = suc n; cause = cause })
least-fault cause_at count n cause high good bad = least-from cause_at 0 count n cause (omega arith) (omega arith) (λ k low less. good k less) bad

-- all lines are good
pub no-fault : (cause_at : ℕ → Option ObjCause) (count : ℕ) → ((k : ℕ) → k < count → cause_at k ≡ None) → first_fault cause_at count ≡ None
no-fault cause_at count good = none-from cause_at 0 count (λ k low high. good k (omega arith))

-- without a fault each line is good
pub each-good : (cause_at : ℕ → Option ObjCause) (count : ℕ) → first_fault cause_at count ≡ None → (k : ℕ) → k < count → cause_at k ≡ None
each-good cause_at count none k high = each-from cause_at 0 count none k (omega arith) (omega arith)
