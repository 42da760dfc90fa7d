-- A claim on the mask of an origin is a claim on the mask of its child point.
use Rattle.std.proofs.Common.{◌≡◌, Result, OnOk, subst}
use Rattle.subdiv_model.specs.Level.{Level}
use Rattle.subdiv_model.specs.Mask.{Scheme, Mask}
use Rattle.level_topology.specs.Child.{PointOrigin}
use Rattle.child_masks.specs.Masks.{mask_from}

-- A claim on the mask of an origin holds for an equal origin.
pub of-point : {E : Type 0} (r : Result (Unit {0}) E) (P : Mask → Type 0) (level : Level) (scheme : Scheme) (origin own : PointOrigin) → origin ≡ own
    → OnOk r (P (mask_from level scheme origin)) → OnOk r (P (mask_from level scheme own))
of-point r P level scheme origin own is made = subst (λ o. OnOk r (P (mask_from level scheme o))) is made
