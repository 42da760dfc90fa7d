-- The mask of a vertex, from the terms made for it.
use Rattle.std.proofs.Common.{◌≡◌, ℕ, true, false, MatchResult, ◌-◌, ◌*◌, ◌/◌, ◌<◌, Result, Ok, Err, IfOk, List, [], length, get_or, ap, sym, ◌∙◌, subst}
use Rattle.subdiv_model.specs.Multiples.{lcm_of}
use Rattle.subdiv_model.specs.Rule.{Rule}
use Rattle.subdiv_model.specs.Sharpness.{Sharpness, Smooth, half_child}
use Rattle.subdiv_model.specs.Rule.{vertex_rule, child_ring}
use Rattle.subdiv_model.specs.Mask.{Mask, CatmullClark, mask_of_rule, blend, vertex_mask}
use Rattle.subdiv_model.specs.Channel.{transition_overflows_at}
use Rattle.sharpness_laws.specs.SameWeights.{is_joined}
use Rattle.level_topology.specs.Topology.{Topology, IsTopology}
use Rattle.level_topology.proofs.LawLemmas.{faces-once}
use Rattle.std.proofs.lemmas.List.{length-map}
use Rattle.sharpness_laws.proofs.MaskOrderLemmas.{same_weights-sym, same_weights-trans}
use Rattle.mask_rules.specs.declared.vertex.VertexMask.{VertexMask}
use Rattle.mask_rules.specs.declared.mask.MaskFault.{MaskFault}
use Rattle.mask_rules.specs.declared.mask.MaskFault.TheVariants as fault
use Rattle.mask_rules.specs.View.{seen_vertex}
use Rattle.mask_rules.specs.Masks.{IsMask, IsJoinedAs}
use Rattle.mask_rules.specs.Around.{ends_in, faces_in, ring_in, end_of_edge, mask_in, is_refused_in, IsFaultWhere, HasSharpBoundaryAt}
use Rattle.mask_rules.specs.Spread.{rule_denominator, spread_mask, IsRuleAmong}
use Rattle.mask_rules.proofs.SpreadLemmas.{one-rule, two-rules, spread-joined}
use Rattle.mask_rules.proofs.AroundLemmas.{around-distinct, same-order, refused-same}
use Rattle.mask_rules.proofs.TermLemmas.{is-mask}
use Rattle.mask_rules.proofs.BoundLemmas.{rule-among}
use Rattle.mask_rules.proofs.SharpLemmas.{vertex-mean}

pub ok-weaker : {X E : Type 0} (r : Result X E) (P Q : X → Type 0) → ((x : X) → P x → Q x) → IfOk r P → IfOk r Q
ok-weaker (Ok x) P Q h p = h x p
ok-weaker (Err e) P Q h p = tt

module _ (t : Topology) (v : ℕ) (is : IsTopology t) (inside : v < t.level.point_count) where
  abbrev ends : List ℕ
  ends = ends_in t v

  abbrev faces : List ℕ
  faces = faces_in t v

  joined : (parent child : Rule) (by rest q : ℕ) → is_joined (spread_mask parent child by rest q v ends faces) ≡ true
  joined parent child by rest q = spread-joined parent child by rest q v ends faces (around-distinct t v is inside) (faces-once t v is inside)

  pub one-joined : (rule : Rule) (q : ℕ) (m : Mask) → q ≡ rule_denominator rule (length ends) → IsRuleAmong rule (length ends)
      → m ≡ spread_mask rule rule 1 0 q v ends faces → IsJoinedAs m (mask_of_rule v ends faces rule)
  one-joined rule q m e among same =
      subst (λ n. IsJoinedAs n (mask_of_rule v ends faces rule))
      (sym (same ∙ ap (λ d. spread_mask rule rule 1 0 d v ends faces) e))
      (record { same = one-rule rule rule v ends faces among; joined = joined rule rule 1 0 (rule_denominator rule (length ends)) })

  pub two-joined : (w : ℕ × ℕ) (parent child : Rule) (p r multiple : ℕ) (m : Mask) → p ≡ rule_denominator parent (length ends)
      → r ≡ rule_denominator child (length ends) → multiple ≡ lcm_of p r → IsRuleAmong parent (length ends) → IsRuleAmong child (length ends)
      → m ≡ spread_mask parent child (w.0 * (multiple / p)) ((w.1 - w.0) * (multiple / r)) (w.1 * multiple) v ends faces
      → IsJoinedAs m (blend w (mask_of_rule v ends faces parent) (mask_of_rule v ends faces child))
  two-joined w parent child p r multiple m e f g h k same =
      let n = length ends in
      let common : multiple ≡ lcm_of (rule_denominator parent n) (rule_denominator child n) = g ∙ ap (λ a. lcm_of a r) e ∙ ap (lcm_of (rule_denominator parent n)) f in
      let found = two-rules w parent child v ends faces h k multiple common in
      let by = w.0 * (multiple / rule_denominator parent n) in
      let rest = (w.1 - w.0) * (multiple / rule_denominator child n) in
      let right = same ∙ ap (λ a. spread_mask parent child (w.0 * (multiple / a)) ((w.1 - w.0) * (multiple / r)) (w.1 * multiple) v ends faces) e
      ∙ ap (λ a. spread_mask parent child by ((w.1 - w.0) * (multiple / a)) (w.1 * multiple) v ends faces) f in
      subst (λ l. IsJoinedAs l (blend w (mask_of_rule v ends faces parent) (mask_of_rule v ends faces child))) (sym right)
      (record { same = found; joined = joined parent child by rest (w.1 * multiple) })

-- the rule of a ring with as many edges as ends
pub rule-around : (rule : Rule) (vertex : Sharpness) (ring : List Sharpness) (n : ℕ) → rule ≡ vertex_rule vertex ring → length ring ≡ n → IsRuleAmong rule n
rule-around rule vertex ring n e long = rw e (subst (IsRuleAmong (vertex_rule vertex ring)) long (rule-among ring vertex))

-- as many ends as edges that are listed
pub many-ends : (t : Topology) (v n : ℕ) → n ≡ length (get_or t.edges_at v []) → n ≡ length (ends_in t v)
many-ends t v n e = e ∙ sym (length-map (get_or t.edges_at v []) (end_of_edge t.level.polygons v))

pub ring-long : (t : Topology) (v : ℕ) → length (ring_in t v) ≡ length (ends_in t v)
ring-long t v =
    let items = get_or t.edges_at v [] in
    length-map items (λ e. get_or t.level.edge_sharpness e Smooth) ∙ sym (length-map items (end_of_edge t.level.polygons v))

pub child-long : (t : Topology) (v : ℕ) → length (child_ring t.level.method (ring_in t v)) ≡ length (ends_in t v)
child-long t v = length-map (ring_in t v) (half_child t.level.method (ring_in t v)) ∙ ring-long t v

-- the mask in the order of the level's lists is the definition's
module _ (t : Topology) (v : ℕ) (is : IsTopology t) (inside : v < t.level.point_count) (sharp : HasSharpBoundaryAt t.level v) where
  pub from-joined : (m : Mask) → IsJoinedAs m (mask_in t v) → IsMask m (vertex_mask t.level CatmullClark v)
  from-joined m h =
      is-mask m (vertex_mask t.level CatmullClark v) h.joined
      (same_weights-trans m (mask_in t v) (vertex_mask t.level CatmullClark v) h.same (same_weights-sym (vertex_mask t.level CatmullClark v) (mask_in t v) (same-order t v is inside)))
      (vertex-mean t v is sharp)

  pub by-rules : (r : Result VertexMask MaskFault)
      → MatchResult r (λ m. IsJoinedAs (seen_vertex m) (mask_in t v) × (is_refused_in t v ≡ false)) (IsFaultWhere (is_refused_in t v))
      → MatchResult r (λ m. IsMask (seen_vertex m) (vertex_mask t.level CatmullClark v) × (transition_overflows_at t.level CatmullClark v ≡ false))
      (IsFaultWhere (transition_overflows_at t.level CatmullClark v))
  by-rules (Ok m) h = (from-joined (seen_vertex m) h.0, sym (refused-same t v is inside) ∙ h.1)
  by-rules (Err fault.Transition) h = sym (refused-same t v is inside) ∙ h
  by-rules (Err fault.Memory) h = tt
