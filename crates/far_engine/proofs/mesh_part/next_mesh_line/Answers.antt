use Rattle.std.proofs.Common.{sym, ◌∙◌}
use Rattle.far_engine.specs.MeshPart.{FindsMeshEnd}
use Rattle.far_engine.proofs.InputLemmas.{handed-on}
use Rattle.far_engine.proofs.MeshLemmas.{stands-behind, mesh-goes-on, mesh-ends-closed, mesh-ends-last, mesh-ends-unclosed, mesh-ends-input, mesh-fails, mesh-shorter}
use Rattle.far_engine.proofs.mesh_part.next_mesh_line.Goals as goal

pub returns-in_err-next-clause-found : goal.returns-in_err-next-clause-found
returns-in_err-next-clause-found g c = λ s lines at same.
    handed-on (FindsMeshEnd g.S.Source s c.next.new.source lines c.next.new.self) _ _ c.from_residual.ensures.0 c.from_residual.ensures.1
    (λ options. mesh-fails g.S.Source s _ _ lines _ _ at options _ c.in_err-next.ensures.reads)

pub returns-then-is_frames_after-clause-found : goal.returns-then-is_frames_after-clause-found
returns-then-is_frames_after-clause-found g c = λ s lines at same.
    let reads = rw c.in-Closed.is at c.in_ok-next.ensures.reads in
    let tested = c.is_frames_after.ensures lines (c.before-in-Closed.ensures ∙ stands-behind g.S.Source s _ _ lines _ _ at _ reads) in
    mesh-ends-closed g.S.Source s _ _ lines _ _ at reads _ same (rw c.line.ensures at (sym tested ∙ c.if-is_frames_after.true))

pub returns-else-is_frames_after-clause-found : goal.returns-else-is_frames_after-clause-found
returns-else-is_frames_after-clause-found g c = λ s lines at same.
    let reads = rw c.in-Closed.is at c.in_ok-next.ensures.reads in
    let tested = c.is_frames_after.ensures lines (c.before-in-Closed.ensures ∙ stands-behind g.S.Source s _ _ lines _ _ at _ reads) in
    mesh-goes-on g.S.Source s _ _ lines _ _ at reads (rw c.line.ensures at (sym tested ∙ c.if-is_frames_after.false))

pub returns-else-is_frames_after-clause-shorter : goal.returns-else-is_frames_after-clause-shorter
returns-else-is_frames_after-clause-shorter g c = λ none. mesh-shorter g.S.Source _ _ _ _ (rw c.in-Closed.is at c.in_ok-next.ensures.reads)

pub returns-then-is_frames_after-2-clause-found : goal.returns-then-is_frames_after-2-clause-found
returns-then-is_frames_after-2-clause-found g c = λ s lines at same.
    let reads = rw c.in-Last.is at c.in_ok-next.ensures.reads in
    let tested = c.is_frames_after-in-Last.ensures lines (c.before-in-Last.ensures ∙ stands-behind g.S.Source s _ _ lines _ _ at _ reads) in
    mesh-ends-last g.S.Source s _ _ lines _ _ at reads (rw c.line-in-Last.ensures at (sym tested ∙ c.if-is_frames_after-2.true))

pub returns-else-is_frames_after-2-clause-found : goal.returns-else-is_frames_after-2-clause-found
returns-else-is_frames_after-2-clause-found g c = λ s lines at same.
    let reads = rw c.in-Last.is at c.in_ok-next.ensures.reads in
    let tested = c.is_frames_after-in-Last.ensures lines (c.before-in-Last.ensures ∙ stands-behind g.S.Source s _ _ lines _ _ at _ reads) in
    mesh-ends-unclosed g.S.Source s _ _ lines _ _ at reads (rw c.line-in-Last.ensures at (sym tested ∙ c.if-is_frames_after-2.false))

pub returns-in-End-clause-found : goal.returns-in-End-clause-found
returns-in-End-clause-found g c = λ s lines at same.
    mesh-ends-input g.S.Source s _ _ lines _ _ at (rw c.in-End.is at c.in_ok-next.ensures.reads)
