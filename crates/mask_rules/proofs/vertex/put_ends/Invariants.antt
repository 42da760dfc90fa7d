use Rattle.std.proofs.Common.{◌≡◌, ◌++◌, take}
use Rattle.sharpness_rules.specs.View.{rule_of}
use Rattle.mask_rules.specs.View.{terms_of}
use Rattle.mask_rules.specs.Spread.{end_share, end_terms, positive}
use Rattle.mask_rules.specs.Around.{ends_in}
use Rattle.mask_rules.specs.Growth.{Grows}
use Rattle.mask_rules.proofs.vertex.put_ends.Given as goal

abbrev pub invariant-loop-place : goal.invariant-loop-place
invariant-loop-place l =
    (terms_of l.terms.items
    ≡ terms_of l.initial.terms.items
    ++ positive (end_terms (end_share (rule_of l.parts.parent) (rule_of l.parts.child) l.parts.by l.parts.rest) 0 (take l.place (ends_in l.level l.v))))
    × Grows l.initial.terms l.place l.terms
