use Rattle.std.proofs.Common.{◌≡◌, ◌++◌, take}
use Rattle.subdiv_model.specs.Mask.{weigh_faces}
use Rattle.mask_rules.specs.View.{terms_of}
use Rattle.mask_rules.specs.Spread.{positive}
use Rattle.mask_rules.specs.Around.{faces_in}
use Rattle.mask_rules.specs.Growth.{Grows}
use Rattle.mask_rules.proofs.vertex.put_faces.Given as goal

abbrev pub invariant-loop-f : goal.invariant-loop-f
invariant-loop-f l =
    (terms_of l.terms.items ≡ terms_of l.initial.terms.items ++ positive (weigh_faces l.weight (take l.f-index (faces_in l.level l.v))))
    × Grows l.initial.terms l.f-index l.terms
