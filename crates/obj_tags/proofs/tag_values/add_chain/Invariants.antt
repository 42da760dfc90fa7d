use Rattle.std.proofs.Common.{◌≡◌, ◌++◌, length, map, take, zip}
use Rattle.subdiv_model.specs.ObjTag.{for_each, chain_pairs}
use Rattle.sharpness_rules.specs.View.{sharpness_of}
use Rattle.raw_mesh.specs.View.{crease_of}
use Rattle.obj_tags.proofs.tag_values.add_chain.Given as goal

-- the pairs so far
abbrev pub invariant-loop-i : goal.invariant-loop-i
invariant-loop-i l = map crease_of l.creases.items ≡ map crease_of l.fn.creases.items ++ zip (take l.i (chain_pairs l.vertices)) (take l.i (for_each (length (chain_pairs l.vertices)) (map sharpness_of l.values)))
