use Rattle.std.proofs.Common.{◌≡◌, ◌++◌, [], length, map, get_or}
use Rattle.std.specs.List.{flat_map}
use Rattle.subdiv_model.specs.ObjFault.{first_cause}
use Rattle.subdiv_model.specs.ObjWord.{corner_fault}
use Rattle.obj_tags.specs.Face.{IsFirst, named_point, named_textures}
use Rattle.obj_tags.specs.View.{counts_of}
use Rattle.obj_tags.specs.Walk.{words_left}
use Rattle.obj_tags.proofs.face.keep_face.Given as goal

-- what was kept, and what the words to come say, is what all words say
abbrev pub invariant-loop-word : goal.invariant-loop-word
invariant-loop-word l = record {
  fault : first_cause (corner_fault (counts_of l.before) (counts_of l.all) (get_or (words_left l.fn.words) 0 [])) (words_left l.words) ≡ first_cause (corner_fault (counts_of l.before) (counts_of l.all) (get_or (words_left l.fn.words) 0 [])) (words_left l.fn.words);
  points : l.faces.corners.items ++ map (named_point (counts_of l.before) (counts_of l.all)) (words_left l.words) ≡ l.fn.faces.corners.items ++ map (named_point (counts_of l.before) (counts_of l.all)) (words_left l.fn.words);
  textures : l.faces.texture_corners.items ++ flat_map (named_textures (counts_of l.before) (counts_of l.all)) (words_left l.words) ≡ l.fn.faces.texture_corners.items ++ flat_map (named_textures (counts_of l.before) (counts_of l.all)) (words_left l.fn.words);
  starts : l.faces.starts ≡ l.fn.faces.starts;
  first : IsFirst l.first (get_or (words_left l.fn.words) 0 []) (get_or (words_left l.words) 0 []);
}

abbrev pub decreases-loop-word : goal.decreases-loop-word
decreases-loop-word l = length (words_left l.words)
