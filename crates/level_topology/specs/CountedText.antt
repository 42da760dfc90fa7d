-- Counts that exceed their limits, as in the definitions.
use Rattle.subdiv_model.specs.Fault as model
use Rattle.level_topology.specs.declared.counted.Counted.{Counted}
use Rattle.level_topology.specs.declared.counted.Counted.TheVariants.{Points, Faces, FaceSize, Valence, LevelFaces, Entries, LimitEntries, PatchEntries}

-- An excess as in the definitions.
abbrev pub counted_of : Counted → model.Counted
counted_of (Points count) = model.Points count
counted_of (Faces count) = model.Faces count
counted_of (FaceSize face size) = model.FaceSize face size
counted_of (Valence vertex count) = model.Valence vertex count
counted_of (LevelFaces level count) = model.LevelFaces level count
counted_of (Entries level) = model.Entries level
counted_of LimitEntries = model.LimitEntries
counted_of PatchEntries = model.PatchEntries
