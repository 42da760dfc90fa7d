use Rattle.std.proofs.Common.{◌≡◌, ◌+◌, Some, set, length, arith, ap, ◌∙◌}
use Rattle.mask_rules.specs.View.{seen_vertex}
use Rattle.child_masks.specs.Kept.{KeptList}
use Rattle.child_masks.proofs.KeptLemmas.{kept-list, kept-still}
use Rattle.child_masks.proofs.kept.KeptMasks.keep.Goals as goal

pub invariant_of-self-2 : goal.invariant_of-self-2
invariant_of-self-2 c =
    let last : c.len.result ≡ length c.push_mask.new.masks.items = omega (arith, c.len.ensures, c.push_mask.new.masks.ok.0) in
    kept-still c.self.inside.places.items c.self.inside.masks.items c.self.inside.terms.items c.args.v c.len.result (seen_vertex c.args.mask.now)
    c.push_mask.new.masks.items c.push_mask.new.terms.items c.self.invariant c.in_ok-push_mask.ensures.pushed last

pub returns : goal.returns
returns c =
    let last : c.len.result ≡ length c.push_mask.new.masks.items = omega (arith, c.len.ensures, c.push_mask.new.masks.ok.0) in
    kept-list c.self.inside.places.items c.self.inside.masks.items c.self.inside.terms.items c.args.v c.len.result (seen_vertex c.args.mask.now)
    c.push_mask.new.masks.items c.push_mask.new.terms.items c.self.invariant c.in_ok-push_mask.ensures.pushed last
    ∙ ap (λ (k : KeptList). record { masks = set k.masks c.args.v (Some (seen_vertex c.args.mask.now)); count = k.count + 1 }) c.self.view_is
