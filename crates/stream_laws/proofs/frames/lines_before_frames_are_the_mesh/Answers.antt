use Rattle.far_model.specs.Frames.{words_of_lines}
use Rattle.stream_laws.proofs.FrameLemmas.{mesh-all, line-mesh, line-frames}
use Rattle.stream_laws.proofs.frames.lines_before_frames_are_the_mesh.Goals as goal

pub returns-clause-all : goal.returns-clause-all
returns-clause-all c = λ lines. mesh-all (words_of_lines lines)

pub returns-clause-mesh : goal.returns-clause-mesh
returns-clause-mesh c = λ at. line-mesh at.before at.line at.none_before at.is_frames

pub returns-clause-frames : goal.returns-clause-frames
returns-clause-frames c = λ at. line-frames at.before at.line at.none_before at.is_frames
