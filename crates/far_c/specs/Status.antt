-- The status of a call.
use Rattle.std.specs.Prelude.{ℕ, ◌≡◌, ◌≤◌, ◌<◌, ◌⊎◌, Option, MatchOption}
use Rattle.array_answers.specs.declared.record.FaultRecord.{FaultRecord}

-- 0 if the call succeeded, 1 if an array is too short, else the status of the fault, which is at least 2
abbrev pub IsStatus : ℕ → Type 0 → Type 0 → (FaultRecord → Type 0) → FaultRecord → Type 0
IsStatus status done short refused fault =
    ((status ≡ 0) × done) ⊎ (((status ≡ 1) × short) ⊎ ((2 ≤ status) × (status ≡ fault.status) × refused fault))

-- 0 if there is no fault, else the status of its record, which is written and at least 1
abbrev pub AnswersFault : {F : Type 0} → (F → FaultRecord) → Option F → ℕ → FaultRecord → Type 0
AnswersFault record_of fault status held = MatchOption fault (status ≡ 0) (λ found. (1 ≤ status) × (held ≡ record_of found) × (status ≡ held.status))

-- the record of the caller stays on status 0
abbrev pub IsKeptIfDone : ℕ → FaultRecord → FaultRecord → Type 0
IsKeptIfDone status old new = status ≡ 0 → new ≡ old

-- what the caller had stays on a status of 1 or more
abbrev pub IsKeptUnlessDone : {T : Type 0} → ℕ → T → T → Type 0
IsKeptUnlessDone status old new = 1 ≤ status → new ≡ old

-- the record of the caller stays on status 0 and 1
abbrev pub IsKeptUnlessRefused : ℕ → FaultRecord → FaultRecord → Type 0
IsKeptUnlessRefused status old new = status < 2 → new ≡ old

-- what the caller had stays on a status of 2 or more
abbrev pub IsKeptIfRefused : {T : Type 0} → ℕ → T → T → Type 0
IsKeptIfRefused status old new = 2 ≤ status → new ≡ old
