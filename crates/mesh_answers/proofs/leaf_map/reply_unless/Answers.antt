use Rattle.far_words.specs.View.{map_of_code}
use Rattle.mesh_answers.proofs.LeafLemmas.{face-refused}
use Rattle.mesh_answers.proofs.leaf_map.reply_unless.Goals as goal

pub returns-in-Some : goal.returns-in-Some
returns-in-Some c mesh is = face-refused (map_of_code c.args.options.now) mesh c.args.fault c.args.found.now is _ c.in-Some.is
