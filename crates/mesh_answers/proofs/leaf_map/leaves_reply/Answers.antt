use Rattle.std.proofs.Common.{None, refl}
use Rattle.far_words.specs.View.{map_of_code}
use Rattle.mesh_answers.proofs.LeafLemmas.{leaves-reply}
use Rattle.mesh_answers.proofs.leaf_map.leaves_reply.Goals as goal

pub returns : goal.returns
returns c mesh can = leaves-reply (map_of_code c.args.options.now) mesh None c.args.found.now can refl c.requires.range.2 _ refl (c.in_ok-leaves.ensures mesh can)
