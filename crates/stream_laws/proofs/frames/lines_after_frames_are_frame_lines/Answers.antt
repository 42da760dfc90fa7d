use Rattle.stream_laws.proofs.FrameLemmas.{line-mesh_stays, line-frame, line-frame_at}
use Rattle.stream_laws.proofs.frames.lines_after_frames_are_frame_lines.Goals as goal

pub returns-clause-mesh : goal.returns-clause-mesh
returns-clause-mesh c = line-mesh_stays

pub returns-clause-frames : goal.returns-clause-frames
returns-clause-frames c = line-frame

pub returns-clause-moved : goal.returns-clause-moved
returns-clause-moved c = λ mesh before line. line-frame_at mesh before.lines line before.are
