use Rattle.std.proofs.Common.{ap, refl, subst, sym, ◌∙◌}
use Rattle.far_engine.specs.FrameLines.{MovesOn, next_of_code}
use Rattle.far_engine.proofs.FrameLemmas.{found-shorter, moves-on}
use Rattle.far_engine.proofs.frame_lines.FrameLines.next.Goals as goal

pub returns-clause-moved : goal.returns-clause-moved
returns-clause-moved g c = λ options s lines text at.
    subst (MovesOn g.S.Source options s c.next-found.new.source lines text c.next-found.new.self) (sym c.line_found.ensures)
    (moves-on g.S.Source options s _ _ lines text _ _ at _ refl _ c.next-found.ensures.reads)

pub returns-clause-shorter : goal.returns-clause-shorter
returns-clause-shorter g c = λ is.
    found-shorter g.S.Source _ _ _ _ _ _ (sym c.line_found.ensures ∙ ap next_of_code is) c.next-found.ensures.reads
