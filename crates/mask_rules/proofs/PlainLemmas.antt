-- The mask of a plain vertex is that of the smooth rule.
use Rattle.std.proofs.Common.{◌≡◌, ℕ, ◌+◌, ◌-◌, ◌*◌, ◌<◌, [], length, arith, refl, ap, sym, ◌∙◌, subst}
use Rattle.subdiv_model.specs.Rule.{SmoothRule}
use Rattle.subdiv_model.specs.Mask.{Mask}
use Rattle.level_topology.specs.Topology.{Topology, IsTopology}
use Rattle.mask_rules.specs.Spread.{positive, terms_around, spread_mask}
use Rattle.mask_rules.specs.Masks.{IsJoinedAs}
use Rattle.mask_rules.specs.Around.{ends_in, faces_in, mask_in}
use Rattle.mask_rules.specs.Smooth.{IsSmoothAt}
use Rattle.mask_rules.proofs.SmoothLemmas.{smooth-mask}
use Rattle.mask_rules.proofs.VertexLemmas.{one-joined, ring-long}

-- by a second rule nothing is added
nothing-added : (x : ℕ) → x ≡ 1 * x + 0 * x
nothing-added x = omega arith

pub plain-joined : (t : Topology) (v : ℕ) → IsTopology t → v < t.level.point_count → IsSmoothAt t v → (m : Mask)
    → m ≡ record {
      terms = positive (terms_around (length (ends_in t v) * (length (ends_in t v) - 2)) (λ i. 1) 1 v (ends_in t v) (faces_in t v));
      denominator = length (ends_in t v) * length (ends_in t v);
    } → IsJoinedAs m (mask_in t v)
plain-joined t v is inside smooth m e =
    let ends = ends_in t v in
    let faces = faces_in t v in
    let n = length ends in
    let same : m ≡ spread_mask SmoothRule SmoothRule 1 0 (n * n) v ends faces =
    e ∙ ap (λ w. record { terms = positive (terms_around w (λ i. 1) 1 v ends faces); denominator = n * n }) (nothing-added (n * (n - 2))) in
    subst (IsJoinedAs m) (sym (smooth-mask t v smooth)) (one-joined t v is inside SmoothRule (n * n) m refl (omega (arith, smooth.some, ring-long t v)) same)
