-- How a call reports a fault.
use Rattle.std.specs.Prelude.{◌≡◌, Option, Some, None, Result, MatchResult}

-- The call fails exactly if there is a fault, and its error is that fault.
abbrev pub Reports : {F : Type 0} → Option F → Result (Unit {0}) F → Type 0
Reports fault result = MatchResult result (λ _. fault ≡ None) (λ found. fault ≡ Some found)
