use Rattle.std.proofs.Common.{◌≡◌, ◌+◌, ◌∙◌, ℕ, ap, length, arith, subst, OnOk}
use Rattle.std.proofs.lemmas.List.{length-map}
use Rattle.level_topology.specs.ChildTables.{place_of}
use Rattle.sparse_refiner.proofs.StepLemmas.{handed-on, marks-inner, refusal-is, answer-is, next-answer, steps-are}
use Rattle.sparse_refiner.proofs.refine.refine_selected.Goals as goal

pub find_places-requires : goal.find_places-requires
find_places-requires g c = marks-inner (g.T.FaceTest.meets c.args.chosen.now.1) c.args.sparse.now c.in_ok-selected.selected.items c.in_ok-selected.ensures

pub returns-in_err-present-clause-refined : goal.returns-in_err-present-clause-refined
returns-in_err-present-clause-refined g c =
    handed-on _ _ _ c.in_err-present.field-0.0 c.from_residual-in_err-present.ensures.0 c.from_residual-in_err-present.ensures.1
    (refusal-is (g.T.FaceTest.meets c.args.chosen.now.1) c.args.sparse.now c.in_ok-selected.selected.items c.in_ok-selected.ensures c.in_err-present.field-0.0 c.in_err-present.ensures)

pub returns-clause-refined : goal.returns-clause-refined
returns-clause-refined g c =
    answer-is (g.T.FaceTest.meets c.args.chosen.now.1) c.args.sparse.now c.in_ok-present.present.selected.items (c.in_ok-present.ensures.0 ∙ c.in_ok-selected.ensures) c.refine_present.result c.refine_present.ensures.made c.refine_present.ensures.selected

pub returns-clause-sparse : goal.returns-clause-sparse
returns-clause-sparse g c = λ of.
    next-answer of c.refine_present.result
    (answer-is (g.T.FaceTest.meets c.args.chosen.now.1) c.args.sparse.now c.in_ok-present.present.selected.items (c.in_ok-present.ensures.0 ∙ c.in_ok-selected.ensures) c.refine_present.result c.refine_present.ensures.made c.refine_present.ensures.selected)

pub returns-clause-steps : goal.returns-clause-steps
returns-clause-steps g c =
    omega (arith, c.refine_present.ensures.steps, steps-are (g.T.FaceTest.meets c.args.chosen.now.1) c.args.sparse.now c.in_ok-selected.selected.items c.in_ok-selected.ensures c.in_ok-present.present c.in_ok-present.ensures.0 c.in_ok-present.ensures.1)

pub returns-clause-taken : goal.returns-clause-taken
returns-clause-taken g c =
    let at = c.in_ok-present in
    subst (λ (n : ℕ). OnOk c.refine_present.result (c.refine_present.new.steps ≡ c.args.steps.now + n)) (steps-are (g.T.FaceTest.meets c.args.chosen.now.1) c.args.sparse.now c.in_ok-selected.selected.items c.in_ok-selected.ensures at.present at.ensures.0 at.ensures.1) c.refine_present.ensures.taken

pub returns-clause-early : goal.returns-clause-early
returns-clause-early g c = λ many.
    let at = c.in_ok-present in
    omega (arith, many, at.ensures.1.few, ap length at.ensures.1.places, length-map at.present.places.items place_of, steps-are (g.T.FaceTest.meets c.args.chosen.now.1) c.args.sparse.now c.in_ok-selected.selected.items c.in_ok-selected.ensures at.present at.ensures.0 at.ensures.1)
