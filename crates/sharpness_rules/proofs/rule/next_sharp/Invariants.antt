use Rattle.std.proofs.Common.{◌≡◌}
use Rattle.sharpness_rules.specs.Sharp.{sharp_places_from}
use Rattle.sharpness_rules.proofs.rule.next_sharp.Given as goal

-- no edge so far is sharp
abbrev pub invariant-loop-place : goal.invariant-loop-place
invariant-loop-place l = sharp_places_from l.from l.ring ≡ sharp_places_from l.place l.ring
