-- Consequences for a call that never fails.
use Rattle.std.proofs.Common.{◌≡◌, ℕ, ◌<◌, ◌≤◌, min, List, [], length, Result, Ok, Err, IsOk, IfOk, OnErr, arith}
use Rattle.std.proofs.lemmas.List.{nil_from_length}

pub none-failed : {A E : Type 0} (P : Type 0) (r : Result A E) → IsOk r → OnErr r P
none-failed P (Ok x) ok = tt
none-failed P (Err e) ok = absurd (cc)

-- No more bytes came than fit.
pub few-came : {E : Type 0} (r : Result ℕ E) (old buf : List ℕ) → IfOk r (λ n. n ≡ min (length old) (length buf)) → IfOk r (λ n. n ≤ length buf)
few-came (Ok n) old buf is = omega (arith, is)
few-came (Err e) old buf is = tt

-- nothing comes only at the end
pub end-came : {E : Type 0} (r : Result ℕ E) (old buf : List ℕ) → IfOk r (λ n. n ≡ min (length old) (length buf)) →
    IfOk r (λ n. n ≡ 0 → 0 < length buf → old ≡ [])
end-came (Ok n) old buf is = λ none some. nil_from_length old (omega (arith, is, none, some))
end-came (Err e) old buf is = tt
