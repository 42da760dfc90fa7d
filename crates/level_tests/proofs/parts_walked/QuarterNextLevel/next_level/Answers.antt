use Rattle.std.proofs.Common.{◌≡◌, refl, sym, ◌∙◌, inr}
use Rattle.subdiv_model.specs.Mask.{CatmullClark}
use Rattle.child_masks.specs.Masks.{CanRefine}
use Rattle.level_tests.specs.Squares.{square, quarter_child, IsSquareOrQuarter}
use Rattle.level_tests.proofs.StepLemmas.{some-points, complete-is, where-made, made-or, refines}
use Rattle.level_tests.proofs.parts_walked.QuarterNextLevel.next_level.Goals as goal

pub is_complete-requires : goal.is_complete-requires
is_complete-requires g c = some-points c.args.level.now c.requires.1

pub quarter_of-requires : goal.quarter_of-requires
quarter_of-requires g c = complete-is c.args.level.now c.requires.1 (sym c.is_complete.ensures ∙ c.if-not-is_complete.false)

pub returns-clause-made : goal.returns-clause-made
returns-clause-made g c =
    made-or c.quarter_of.result (λ child. (c.args.level.now ≡ square) × (child ≡ quarter_child) × (child.topology ≡ child.topology))
    (complete-is c.args.level.now c.requires.1 (sym c.is_complete.ensures ∙ c.if-not-is_complete.false), refl, refl) c.quarter_of.ensures

pub returns-clause-child : goal.returns-clause-child
returns-clause-child g c =
    where-made c.quarter_of.result (λ child. CanRefine c.args.level.now child CatmullClark)
    (refines c.args.level.now (complete-is c.args.level.now c.requires.1 (sym c.is_complete.ensures ∙ c.if-not-is_complete.false))) c.quarter_of.ensures

pub returns-clause-ready : goal.returns-clause-ready
returns-clause-ready g c = λ left ready. where-made c.quarter_of.result (λ child. IsSquareOrQuarter child.topology) (inr refl) c.quarter_of.ensures
