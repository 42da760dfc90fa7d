use Rattle.patch_bspline.proofs.MaskLemmas.{across-within, along-within, puts-place}
use Rattle.patch_bspline.proofs.masks.PatchMasksPointMasks.put.Goals as goal

pub put_place-requires-clause-along : goal.put_place-requires-clause-along
put_place-requires-clause-along c =
    along-within c.self.inside.level.now c.self.inside.face c.self.inside.grid c.args.self.now c.self.view_is c.args.row c.place_of-i.result c.place_of-i.ensures c.requires

pub put_place-requires-clause-across : goal.put_place-requires-clause-across
put_place-requires-clause-across c =
    across-within c.self.inside.level.now c.self.inside.face c.self.inside.grid c.args.self.now c.self.view_is c.args.row c.place_of-i.result c.place_of-i.ensures c.requires

pub returns : goal.returns
returns c =
    puts-place c.self.inside.level.now c.self.inside.face c.self.inside.grid c.args.self.now c.self.view_is c.args.row c.place_of-i.result c.place_of-i.ensures c.requires
    c.self.inside.points c.put_place.new.weights c.put_place.result c.self.invariant c.put_place.ensures
