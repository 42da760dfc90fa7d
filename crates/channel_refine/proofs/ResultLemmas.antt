-- Results that come from others.
use Rattle.std.proofs.Common.{◌≡◌, ℕ, ◌+◌, ◌≤◌, Result, Ok, Err, IsErr, IsOkAnd, OnOk, MatchResult, sym, subst}
use Rattle.subdiv_model.specs.Channel.{Channel, Asked}
use Rattle.level_walk.specs.UniformLevels.{faces_to}
use Rattle.channel_refine.specs.Refined.{path_steps, AreRefineSteps}

-- a result made from a value, or the fault unchanged
pub mapped : {X Y E : Type 0} (found : Result X E) (result : Result Y E) (Made : X → Y → Type 0) (P : X → Type 0) (Q : E → Type 0) (P' : Y → Type 0) (Q' : E → Type 0)
    → MatchResult found (λ x. IsOkAnd result (Made x)) (λ fault. result ≡ Err fault) → MatchResult found P Q
    → ((x : X) (y : Y) → Made x y → P x → P' y) → ((fault : E) → Q fault → Q' fault) → MatchResult result P' Q'
mapped (Ok x) (Ok y) Made P Q P' Q' is p made failed = made x y is p
mapped (Ok x) (Err fault) Made P Q P' Q' is p made failed = absurd is
mapped (Err fault) result Made P Q P' Q' is q made failed = subst (λ r. MatchResult r P' Q') (sym is) (failed fault q)

-- a fact about the value of a result
pub mapped-on : {X Y E : Type 0} (found : Result X E) (result : Result Y E) (Made : X → Y → Type 0) (P : Type 0)
    → MatchResult found (λ x. IsOkAnd result (Made x)) (λ fault. result ≡ Err fault) → OnOk found P → OnOk result P
mapped-on (Ok x) (Ok y) Made P is p = p
mapped-on (Ok x) (Err fault) Made P is p = absurd is
mapped-on (Err fault) result Made P is p = subst (λ r. OnOk r P) (sym is) tt

-- a fact about a result, with the steps that were taken
pub with-steps : {X E : Type 0} (r : Result X E) (P : X → Type 0) (Q : E → Type 0) (Exact Most : Type 0) → MatchResult r P Q → OnOk r Exact → Most
    → MatchResult r (λ x. P x × Exact) (λ fault. Q fault × Most)
with-steps (Ok x) P Q Exact Most p exact most = (p, exact)
with-steps (Err fault) P Q Exact Most q exact most = (q, most)

-- the steps of a result without a value
pub none-on : {X E : Type 0} (r : Result X E) (P : Type 0) → IsErr r → OnOk r P
none-on (Ok x) P err = absurd (cc)
none-on (Err fault) P err = tt

pub steps-failed : {X E : Type 0} (asked : Asked) (channel : Channel) (depth : ℕ) (r : Result X E) (old new : ℕ) → IsErr r
    → (new ≤ old + faces_to channel.base depth + path_steps asked channel depth) × (old ≤ new) → AreRefineSteps asked channel depth r old new
steps-failed asked channel depth r old new err taken = record { least = none-on r (old + path_steps asked channel depth ≤ new) err; most = taken.0; later = taken.1 }
