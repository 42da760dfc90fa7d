-- A walk of one level more.
use Rattle.std.proofs.Common.{◌≡◌, ℕ, suc, ◌+◌, ◌-◌, ◌<◌, Result, Ok, Err, IfOk, IsErr, IsErrAnd, MatchResult, arith, add-one, refl, sym, subst}
use Rattle.level_topology.specs.Topology.{Topology}
use Rattle.level_topology.specs.Child.{ChildTopology}
use Rattle.level_walk.specs.declared.fault.Cause.{Cause}
use Rattle.level_walk.specs.declared.fault.WalkFault.{WalkFault}
use Rattle.level_walk.specs.Round.{IsFailed}
use Rattle.level_walk.specs.Walk.{Place, IsAfter, IsWalked, IsStopped}

-- one round more
pub after-next : {X : Type 0} (Leads : X → X → Type 0) (start : X) (k : ℕ) (before x : X) → IsAfter Leads start k before → Leads before x → IsAfter Leads start (k + 1) x
after-next Leads start k before x after leads = rw add-one (before, (after, leads))

-- before a round there is one level more to go than after it
pub one-left : (P : ℕ → Type 0) (depth k : ℕ) → k < depth → P (depth - k) → P (suc (depth - (k + 1)))
one-left P depth k within p = let same : depth - k ≡ suc (depth - (k + 1)) = omega (arith, within) in subst P same p

-- a fault that `?` hands on
pub handed-on : {X F : Type 0} (r : Result X F) (fault : F) (P : X → Type 0) (Q : F → Type 0) → IsErr r → IsErrAnd r (λ f. f ≡ fault) → Q fault → MatchResult r P Q
handed-on (Ok x) fault P Q err same q = absurd same
handed-on (Err f) fault P Q err same q = subst Q (sym same) q

-- a result whose fault is changed: its value is kept
pub kept : {X A B : Type 0} (from : Result X A) (x : X) (fault : A → B) (P : X → Type 0) (Q : A → Type 0)
    → MatchResult from (λ y. let r : Result X B = Ok x in r ≡ Ok y) (λ e. let r : Result X B = Ok x in r ≡ Err (fault e)) → MatchResult from P Q → P x
kept (Ok y) x fault P Q e p = let same : y ≡ x = cc in subst P same p
kept (Err f) x fault P Q e p = cc

pub kept-on : {X A B : Type 0} (from : Result X A) (x : X) (fault : A → B) (P : X → Type 0)
    → MatchResult from (λ y. let r : Result X B = Ok x in r ≡ Ok y) (λ e. let r : Result X B = Ok x in r ≡ Err (fault e)) → IfOk from P → P x
kept-on (Ok y) x fault P e p = let same : y ≡ x = cc in subst P same p
kept-on (Err f) x fault P e p = cc

-- a result whose fault is replaced has the fault of the original
pub changed : {X A B : Type 0} (from : Result X A) (new : B) (fault : A → B) (P : X → Type 0) (Q : A → Type 0)
    → MatchResult from (λ y. let r : Result X B = Err new in r ≡ Ok y) (λ e. let r : Result X B = Err new in r ≡ Err (fault e)) → MatchResult from P Q
    → (old : A) × ((new ≡ fault old) × Q old)
changed (Ok y) new fault P Q e p = cc
changed (Err f) new fault P Q e q = let same : new ≡ fault f = cc in (f, (same, q))

-- the fault is that of the next level
pub stopped : {W C V : Type 0} (level_of : W → Topology) (Makes : W → ChildTopology → W → ℕ → ℕ → Type 0) (Refuses : W → Cause → ℕ → ℕ → Type 0)
    (Follows : Topology → ChildTopology → C → C → ℕ → ℕ → Type 0) (Fails : Topology → ChildTopology → C → Cause → ℕ → ℕ → Type 0)
    (Takes : V → W → C → V → Type 0) (start : Place W C V) (depth k : ℕ) (last : Place W C V) (fault : WalkFault) (visitor : V) (new : ℕ)
    → k < depth → IsWalked level_of Makes Follows Takes start k last
    → (cause : Cause) × ((fault ≡ record { level = k + 1; cause = cause }) × IsFailed level_of Makes Refuses Follows Fails last.reached cause last.visitor visitor last.steps new)
    → IsStopped level_of Makes Refuses Follows Fails Takes start depth fault visitor new
stopped level_of Makes Refuses Follows Fails Takes start depth k last fault visitor new within walked (cause, (same, is)) =
    subst (λ f. IsStopped level_of Makes Refuses Follows Fails Takes start depth f visitor new) (sym same) (record {
      k = k;
      last = last;
      within = within;
      walked = walked;
      number = refl;
      failed = is;
    })
