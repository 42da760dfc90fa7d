use Rattle.std.proofs.Common.{map}
use Rattle.far_model.specs.Answer.{map_leaf}
use Rattle.far_words.specs.View.{map_of_code}
use Rattle.patch_map.specs.View.{location_of}
use Rattle.mesh_answers.proofs.LeafLemmas.{leaf-is, row-more}
use Rattle.mesh_answers.proofs.leaf_map.push_row.Goals as goal

pub loop-i-preserved : goal.loop-i-preserved
loop-i-preserved c mesh can =
    let options = map_of_code c.args.options.now in
    row-more (λ i. map_leaf options mesh (i, c.args.j)) (map location_of c.args.leaves.now.items) c.loop-i.leaves.items c.push.new.self.items c.find.result c.loop-i.i
    (c.loop-i.invariant mesh can) c.in_ok-push.ensures.items (leaf-is options mesh c.args.found.now can c.find.result c.loop-i.i c.args.j c.find.ensures.is)
