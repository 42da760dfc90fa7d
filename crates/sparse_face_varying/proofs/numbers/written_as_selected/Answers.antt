use Rattle.std.proofs.Common.{◌≡◌, length, arith, ap, ◌∙◌}
use Rattle.sparse_texture_laws.specs.Selection.{is_selected_kind}
use Rattle.sparse_face_varying.proofs.NumberLemmas.{picked, picked-more, face_test, face_number, written-picked}
use Rattle.sparse_face_varying.proofs.numbers.written_as_selected.Goals as goal

pub loop-f-preserved : goal.loop-f-preserved
loop-f-preserved c =
    picked-more (face_test c.args.faces.now) (face_number c.args.faces.now) c.loop-f.f c.loop-f.numbers.items _ c.is_selected.result c.number.result
    c.loop-f.invariant c.in_ok-put_if.ensures (c.is_selected.ensures ∙ ap is_selected_kind c.kind.ensures) c.number.ensures

pub returns : goal.returns
returns c =
    let all : c.loop-f.f ≡ length c.args.faces.now.faces = omega (arith, c.loop-f-test.false, c.loop-f.auto.f-end, c.len-f-end.ensures) in
    c.loop-f.invariant ∙ ap (picked (face_test c.args.faces.now) (face_number c.args.faces.now)) all ∙ written-picked c.args.faces.now
