-- The claim about a result, for the value that it has.
use Rattle.std.proofs.Common.{◌≡◌, Result, Ok, MatchResult, subst}

-- the claim about a result holds for its value
pub of-ok : {X E : Type 0} (P : X → Type 0) (Q : E → Type 0) (r : Result X E) (x : X) → r ≡ Ok x → MatchResult r P Q → P x
of-ok P Q r x e h = subst (λ s. MatchResult s P Q) e h
