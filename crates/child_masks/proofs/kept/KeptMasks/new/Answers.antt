use Rattle.child_masks.proofs.KeptLemmas.{none-list}
use Rattle.child_masks.proofs.kept.KeptMasks.new.Goals as goal

pub returns : goal.returns
returns c =
    none-list c.in_ok-vec.field-0.items c.new.result.items c.new-2.result.items c.args.vertices (c.in_ok-vec.ensures.items_if_clones_equal (λ y h. h))
    c.new.ensures.items c.new-2.ensures.items
