use Rattle.std.proofs.Common.{List, false, replicate, ap, sym, ◌∙◌, subst}
use Rattle.ratio128.specs.declared.point.Point3.{Point3}
use Rattle.stencil_session.specs.Kept.{AreKept}
use Rattle.stencil_session.proofs.SessionLemmas.{kept-first}
use Rattle.stencil_session.proofs.session.Session.start.Goals as goal

pub invariant_of-result : goal.invariant_of-result
invariant_of-result g c =
    subst (λ (controls : List Point3). AreKept c.args.table c.in_ok-columns.columns controls c.evaluate.new.values.items c.in_ok-marks.marks) (sym c.in_ok-first.ensures.items)
    (kept-first c.args.table c.in_ok-columns.columns c.args.controls.now c.evaluate.new.values.items c.in_ok-marks.marks c.facts.ensures c.in_ok-columns.ensures c.requires.controls c.requires.fits (c.in_ok-marks.ensures ∙ ap (λ n. replicate n false) c.rows-2.ensures) c.evaluate.ensures.long c.evaluate.ensures.sums)
