use Rattle.texture_laws.proofs.ChannelLemmas.{cut-count, cut-corners, cut-over, cut-vertices, cut-whole, cut-used, channel-once}
use Rattle.texture_laws.proofs.cuts.cut_faces_are_the_faces_of_the_mesh.Goals as goal

pub returns-clause-faces : goal.returns-clause-faces
returns-clause-faces c = cut-count

pub returns-clause-corners : goal.returns-clause-corners
returns-clause-corners c = cut-corners

pub returns-clause-over : goal.returns-clause-over
returns-clause-over c = cut-over

pub returns-clause-vertices : goal.returns-clause-vertices
returns-clause-vertices c = cut-vertices

pub returns-clause-whole : goal.returns-clause-whole
returns-clause-whole c = cut-whole

pub returns-clause-once : goal.returns-clause-once
returns-clause-once c = channel-once

pub returns-clause-used : goal.returns-clause-used
returns-clause-used c = cut-used
