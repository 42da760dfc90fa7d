use Rattle.std.proofs.Common.{length, map, arith, ap, sym, ◌∙◌, subst}
use Rattle.std.proofs.lemmas.List.{length-map}
use Rattle.raw_mesh.specs.View.{point_of}
use Rattle.channel_refine.specs.Evaluated.{control_rows}
use Rattle.channel_refine.specs.Refined.{AreControls}
use Rattle.channel_tests.specs.Sparse.{channel_by, numbers_of}
use Rattle.channel_tests.proofs.SparseLemmas.{same-controls}
use Rattle.channel_tests.proofs.sparse_texture.controls_of.Goals as goal

pub returns : goal.returns
returns c =
    let channel = channel_by c.args.mesh.now in
    subst (λ controls. AreControls channel (control_rows (map numbers_of controls))) (sym (c.in_ok-vec.ensures.items_if_clones_equal (λ y h. h)))
    (same-controls _ channel (omega arith) _ (sym (length-map c.points-count.result.now point_of) ∙ ap length c.points-count.ensures))
