use Rattle.std.proofs.Common.{◌≡◌, ◌++◌, map, drop}
use Rattle.std.specs.List.{enumerate_from}
use Rattle.subdiv_model.specs.Base.{is_base_hole}
use Rattle.mesh_check.proofs.holes.holes_by.Given as goal

-- the marks that are there, and those of the faces from here on, are all
abbrev pub invariant-loop-f : goal.invariant-loop-f
invariant-loop-f l = l.holes.items ++ map (is_base_hole l.raw) (enumerate_from l.f (drop l.f l.raw.faces)) ≡ map (is_base_hole l.raw) (enumerate_from 0 l.raw.faces)
