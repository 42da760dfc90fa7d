use Rattle.std.proofs.Common.{ℕ, ◌∙◌, ap}
use Rattle.subdiv_model.specs.Leaf.{base_location}
use Rattle.patch_map.specs.Found.{leaf_in}
use Rattle.patch_map.proofs.FoundLemmas.{map-finds}
use Rattle.patch_map.proofs.map.PatchMap.find.Goals as goal

pub returns-clause-is : goal.returns-clause-is
returns-clause-is c = λ base predicate depth is.
    c.leaf_of.ensures
    ∙ ap (λ (n : ℕ). leaf_in c.args.self.now c.args.grid (base_location n c.args.corner (c.args.i, c.args.j))) c.from.ensures
    ∙ map-finds base predicate depth c.args.self.now is c.args.face c.args.corner c.args.i c.args.j c.args.grid c.requires.face c.requires.corner c.requires.i c.requires.j
