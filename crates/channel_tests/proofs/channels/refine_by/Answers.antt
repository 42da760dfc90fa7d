use Rattle.std.proofs.Common.{[], ◌∷◌, arith, sym, subst}
use Rattle.std.specs.List.{All}
use Rattle.ratio128.specs.declared.point.Point3.{Point3}
use Rattle.mask_rules.specs.View.{scheme_of}
use Rattle.primvar_refine.specs.View.{rows_of}
use Rattle.channel_refine.specs.Base.{channel_of}
use Rattle.channel_refine.specs.Refined.{AreControls}
use Rattle.channel_tests.specs.Controls.{IsControl}
use Rattle.channel_tests.proofs.ControlLemmas.{are-controls}
use Rattle.channel_tests.proofs.channels.refine_by.Goals as goal

pub refine_channel-requires-clause-controls : goal.refine_channel-requires-clause-controls
refine_channel-requires-clause-controls g c =
    subst (λ channel. AreControls channel (rows_of (λ (q : Point3). q.x ∷ q.y ∷ q.z ∷ []) c.args.controls.items)) (sym c.new-base.ensures)
    (are-controls (channel_of c.args.level.level (scheme_of c.args.asked.now.2) c.args.asked.now.0 c.args.asked.now.1) c.args.controls.items (omega (arith, c.assert_asked.ensures.count, c.deref.ensures.len))
    (subst (All (IsControl c.args.asked.now.0)) c.deref.ensures.value c.assert_asked.ensures.controls))
