use Rattle.std.proofs.Common.{◌≡◌, map, take}
use Rattle.channel_refine.specs.View.{control_of}
use Rattle.channel_refine.proofs.path.controls_of.Given as goal

-- the points so far
abbrev pub invariant-loop-value : goal.invariant-loop-value
invariant-loop-value g l = l.controls.items ≡ map control_of (take l.value-index l.numbers)
