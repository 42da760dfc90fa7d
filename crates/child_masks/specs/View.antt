-- The masks of this crate in the terms of the definitions.
use Rattle.subdiv_model.specs.Mask as model
use Rattle.mask_rules.specs.View.{terms_of}
use Rattle.child_masks.specs.declared.kept.KeptMask.{KeptMask}
use Rattle.child_masks.specs.declared.masks.TermMask.{TermMask}
use Rattle.child_masks.specs.declared.masks.TermMask.TheVariants.{Made, Kept}

abbrev pub seen_kept : KeptMask → model.Mask
seen_kept m = record { terms = terms_of m.terms.now; denominator = m.denominator }

-- the mask that was made last, or a kept one
abbrev pub seen_terms : model.Mask → TermMask → model.Mask
seen_terms made Made = made
seen_terms made (Kept m) = seen_kept m
