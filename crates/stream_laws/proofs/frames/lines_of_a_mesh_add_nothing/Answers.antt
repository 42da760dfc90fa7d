use Rattle.stream_laws.proofs.RuleLemmas.{mesh-handled, frames-line, mesh-end, unclosed-mesh}
use Rattle.stream_laws.proofs.frames.lines_of_a_mesh_add_nothing.Goals as goal

pub returns-clause-lines : goal.returns-clause-lines
returns-clause-lines c = λ asked. mesh-handled asked.depth asked.refusal asked.mesh

pub returns-clause-unclosed : goal.returns-clause-unclosed
returns-clause-unclosed c = λ asked. unclosed-mesh asked.depth asked.refusal asked.mesh

pub returns-clause-frames : goal.returns-clause-frames
returns-clause-frames c = λ asked at. frames-line asked.depth asked.refusal asked.mesh at.before at.line at.none_before at.is_frames

pub returns-clause-end : goal.returns-clause-end
returns-clause-end c = λ asked. mesh-end asked.depth asked.refusal asked.mesh
