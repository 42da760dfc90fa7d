use Rattle.std.proofs.Common.{◌≡◌, false, length, get_or, arith, ap, sym, ◌∙◌}
use Rattle.part_laws.specs.Parts.{face_in}
use Rattle.level_topology.specs.Topology.{Topology}
use Rattle.sparse_face_varying.proofs.NumberLemmas.{picked, picked-more, marked-picked, marks-selected}
use Rattle.sparse_face_varying.proofs.numbers.selected_numbers.Goals as goal

pub loop-f-preserved : goal.loop-f-preserved
loop-f-preserved c =
    picked-more (λ f. get_or c.args.step.now.selected f false) (face_in c.args.sparse.now.numbers) c.loop-f.f c.loop-f.numbers.items _ c.is_selected.result c.number.result
    c.loop-f.invariant c.in_ok-put_if.ensures c.is_selected.ensures c.number.ensures

pub returns-clause-marked : goal.returns-clause-marked
returns-clause-marked c =
    let marks = c.args.step.now.selected in
    let all : c.loop-f.f ≡ length c.args.sparse.now.topology.level.polygons = omega (arith, c.loop-f-test.false, c.loop-f.auto.f-end, c.faces-f-end.ensures, ap (λ (k : Topology). length k.level.polygons) c.level.ensures) in
    c.loop-f.invariant ∙ ap (picked (λ f. get_or marks f false) (face_in c.args.sparse.now.numbers)) (all ∙ sym c.requires) ∙ marked-picked c.args.sparse.now.numbers marks

pub returns-clause-selected : goal.returns-clause-selected
returns-clause-selected c = λ test of are. marks-selected test c.args.sparse.now c.args.step.now _ of are (returns-clause-marked c)
