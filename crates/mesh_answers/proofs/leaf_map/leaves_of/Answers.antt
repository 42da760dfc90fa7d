use Rattle.std.proofs.Common.{◌≡◌, ◌+◌, arith, map, subst}
use Rattle.std.specs.List.{flat_map, range_with_len}
use Rattle.far_words.specs.View.{map_of_code}
use Rattle.patch_map.specs.View.{location_of}
use Rattle.mesh_answers.specs.Leaves.{row_leaves}
use Rattle.mesh_answers.proofs.LeafLemmas.{all-rows, rows-with}
use Rattle.mesh_answers.proofs.leaf_map.leaves_of.Goals as goal

pub loop-j-preserved : goal.loop-j-preserved
loop-j-preserved c mesh can =
    rows-with (row_leaves (map_of_code c.args.options.now) mesh) (map location_of c.loop-j.leaves.items) _ c.loop-j.j (c.loop-j.invariant mesh can) (c.in_ok-push_row.ensures mesh can)

pub returns : goal.returns
returns c mesh can =
    let options = map_of_code c.args.options.now in
    let end : c.loop-j.j ≡ c.args.options.now.grid + 1 = omega (arith, c.loop-j-test.false, c.loop-j.auto.j-end) in
    all-rows options mesh (map location_of c.loop-j.leaves.items)
    (subst (λ n. map location_of c.loop-j.leaves.items ≡ flat_map (row_leaves options mesh) (range_with_len 0 n)) end (c.loop-j.invariant mesh can))
