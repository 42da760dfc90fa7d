use Rattle.std.proofs.Common.{◌≡◌, map}
use Rattle.std.specs.List.{range_with_len}
use Rattle.subdiv_model.specs.Mask.{OfFace}
use Rattle.subdiv_model.specs.Refined.{source_denominator}
use Rattle.child_masks.specs.Survey.{within_bound}
use Rattle.child_masks.proofs.face.face_denominators.Given as goal

-- the denominators of the faces so far
abbrev pub invariant-loop-f : goal.invariant-loop-f
invariant-loop-f l = l.faces.items ≡ map (λ f. within_bound (source_denominator l.level.level l.dens (OfFace f))) (range_with_len 0 l.f)
