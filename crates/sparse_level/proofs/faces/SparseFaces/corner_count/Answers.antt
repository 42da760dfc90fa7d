use Rattle.std.proofs.Common.{◌∙◌}
use Rattle.sparse_level.proofs.CountLemmas.{corners-count}
use Rattle.sparse_level.proofs.faces.SparseFaces.corner_count.Goals as goal

pub returns : goal.returns
returns c =
    let inside = c.self.inside in
    c.count.ensures ∙ corners-count inside.kinds.items inside.numbers.items inside.corners c.args.self.now c.self.view_is c.self.invariant.corners_listed
