use Rattle.std.proofs.Common.{◌≡◌}
use Rattle.subdiv_model.specs.Lists.{first_of}
use Rattle.subdiv_model.specs.Base.{base_level}
use Rattle.mesh_check.specs.Counts.{valence_faults}
use Rattle.mesh_check.proofs.ValenceLemmas.{valence_faults_from}
use Rattle.mesh_check.proofs.valence.crowded_vertex.Given as goal

-- the vertices from here on decide
abbrev pub invariant-loop-v : goal.invariant-loop-v
invariant-loop-v l = first_of (valence_faults_from (base_level l.raw) l.v) ≡ first_of (valence_faults (base_level l.raw))
