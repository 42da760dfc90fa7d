use Rattle.obj_out.proofs.PutsLemmas.{puts-after, puts-cut, puts-same}
use Rattle.patch_map.specs.View.{location_of}
use Rattle.far_text.proofs.MapLemmas.{leaf-line-by-words}
use Rattle.far_text.proofs.map.put_leaf_line.Goals as goal

pub returns-in_err-put_place : goal.returns-in_err-put_place
returns-in_err-put_place g c =
    puts-same (leaf-line-by-words c.args.grid c.args.place (location_of c.args.leaf.now))
    (puts-cut _ c.from_residual.ensures.0 c.in_err-put_place.ensures)

pub returns : goal.returns
returns g c =
    puts-same (leaf-line-by-words c.args.grid c.args.place (location_of c.args.leaf.now))
    (puts-after c.in_ok-put_place.ensures c.put_leaf.ensures)
