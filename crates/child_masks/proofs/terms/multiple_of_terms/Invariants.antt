use Rattle.std.proofs.Common.{◌≡◌, ℕ, map, take}
use Rattle.std.specs.List.{fold}
use Rattle.subdiv_model.specs.Mask.{SourcePoint}
use Rattle.subdiv_model.specs.Multiples.{lcm_of}
use Rattle.mask_rules.specs.View.{terms_of}
use Rattle.child_masks.specs.Survey.{within_bound}
use Rattle.child_masks.specs.Found.{HaveDenominators}
use Rattle.child_masks.proofs.terms.multiple_of_terms.Given as goal

-- the least common multiple of those so far
abbrev pub invariant-loop-term : goal.invariant-loop-term
invariant-loop-term l =
    (denominator : SourcePoint → ℕ) → HaveDenominators denominator l.dens l.faces
    → l.multiple ≡ within_bound (fold lcm_of 1 (take l.term-index (map (λ t. denominator t.source) (terms_of l.terms))))
