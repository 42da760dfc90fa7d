use Rattle.std.proofs.Common.{None, set, ap, ◌∙◌}
use Rattle.child_masks.specs.Kept.{KeptList}
use Rattle.child_masks.proofs.KeptLemmas.{left-list}
use Rattle.child_masks.proofs.kept.KeptMasks.leave.Goals as goal

pub returns : goal.returns
returns c =
    left-list c.self.inside.places.items c.self.inside.masks.items c.self.inside.terms.items c.args.v
    ∙ ap (λ (k : KeptList). record { masks = set k.masks c.args.v None; count = k.count }) c.self.view_is
