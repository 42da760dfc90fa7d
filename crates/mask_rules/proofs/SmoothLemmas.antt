-- At a vertex at which nothing is sharp both rules are the smooth one.
use Rattle.std.proofs.Common.{◌≡◌, ℕ, ◌+◌, ◌<◌, ◌||◌, ◌&&◌, nat_eq, Bool, true, false, not, List, [], ◌∷◌, length, map, arith, refl, ap, sym, subst, ◌∙◌, if◌then◌else◌, Result, Ok, Err, IfOk, IfErr, MatchResult}
use Rattle.std.specs.List.{list_any}
use Rattle.std.proofs.lemmas.Bool.Decides.{nat_tests}
use Rattle.std.proofs.lemmas.List.{length-map}
use Rattle.subdiv_model.specs.Lists.{places, places_from}
use Rattle.subdiv_model.specs.Sharpness.{Sharpness, Smooth, Semi, Infinite, Method, Normal, Chaikin, is_sharp, uniform_child, half_child}
use Rattle.subdiv_model.specs.Rule.{SmoothRule, CornerRule, vertex_rule, rule_of_sharp_edges, child_ring, same_mask}
use Rattle.subdiv_model.specs.Level.{vertex_sharpness_of}
use Rattle.subdiv_model.specs.Mask.{mask_of_rule}
use Rattle.level_topology.specs.Topology.{Topology}
use Rattle.mask_rules.specs.declared.vertex.VertexMask.{VertexMask}
use Rattle.mask_rules.specs.declared.mask.MaskFault.{MaskFault}
use Rattle.mask_rules.specs.declared.mask.MaskFault.TheVariants as fault
use Rattle.mask_rules.specs.View.{seen_vertex}
use Rattle.mask_rules.specs.Masks.{IsJoinedAs}
use Rattle.mask_rules.specs.Around.{ring_in, mask_in, is_refused_in, IsFaultWhere, ends_in, faces_in}
use Rattle.mask_rules.specs.Smooth.{IsSmoothAt}

neither : (b c : Bool) → (b || c) ≡ false → (b ≡ false) × (c ≡ false)
neither false false h = (refl, refl)
neither true c h = absurd (cc)
neither false true h = absurd (cc)

-- no place is that of a sharp edge
no-places : (place : ℕ) (ring : List Sharpness) → list_any is_sharp ring ≡ false → places_from place is_sharp ring ≡ []
no-places place [] h = refl
no-places place (s ∷ ring) h =
    let parts = neither (is_sharp s) (list_any is_sharp ring) h in
    ap (λ b. if b then place ∷ places_from (place + 1) is_sharp ring else places_from (place + 1) is_sharp ring) parts.0 ∙ no-places (place + 1) ring parts.1

smooth-rule : (vertex : Sharpness) (ring : List Sharpness) → vertex ≡ Smooth → 0 < length ring → list_any is_sharp ring ≡ false → vertex_rule vertex ring ≡ SmoothRule
smooth-rule vertex [] e some h = absurd (omega (arith, some))
smooth-rule vertex (s ∷ ring) e some h =
    ap (λ v. vertex_rule v (s ∷ ring)) e
    ∙ ap (λ b. if b then CornerRule else rule_of_sharp_edges (places is_sharp (s ∷ ring))) (long (length (s ∷ ring)) some)
    ∙ ap rule_of_sharp_edges (no-places 0 (s ∷ ring) h)
  where
    long : (n : ℕ) → 0 < n → nat_eq n 0 ≡ false
    long n h = go (nat_eq n 0) refl
      where
        go : (b : Bool) → nat_eq n 0 ≡ b → nat_eq n 0 ≡ false
        go true e = absurd (grind (arith, nat_tests))
        go false e = e

half-smooth : (method : Method) (ring : List Sharpness) (s : Sharpness) → is_sharp s ≡ false → is_sharp (half_child method ring s) ≡ false
half-smooth Normal ring Smooth h = refl
half-smooth Chaikin ring Smooth h = refl
half-smooth method ring (Semi num den) h = absurd (cc)
half-smooth method ring Infinite h = absurd (cc)

halves-smooth : (method : Method) (whole ring : List Sharpness) → list_any is_sharp ring ≡ false → list_any is_sharp (map (half_child method whole) ring) ≡ false
halves-smooth method whole [] h = refl
halves-smooth method whole (s ∷ ring) h =
    let parts = neither (is_sharp s) (list_any is_sharp ring) h in
    ap (λ b. b || list_any is_sharp (map (half_child method whole) ring)) (half-smooth method whole s parts.0) ∙ halves-smooth method whole ring parts.1

chosen : {X : Type 0} (b : Bool) (x y : X) → b ≡ true → (if b then x else y) ≡ x
chosen true x y h = refl
chosen false x y h = absurd (cc)

needless : (b c : Bool) → b ≡ true → (not b && c) ≡ false
needless true c h = refl
needless false c h = absurd (cc)

module _ (t : Topology) (v : ℕ) (is : IsSmoothAt t v) where
  now : vertex_rule (vertex_sharpness_of t.level v) (ring_in t v) ≡ SmoothRule
  now = smooth-rule (vertex_sharpness_of t.level v) (ring_in t v) is.vertex is.some is.ring

  next : vertex_rule (uniform_child (vertex_sharpness_of t.level v)) (child_ring t.level.method (ring_in t v)) ≡ SmoothRule
  next =
      smooth-rule (uniform_child (vertex_sharpness_of t.level v)) (child_ring t.level.method (ring_in t v)) (ap uniform_child is.vertex)
      (omega (arith, is.some, length-map (ring_in t v) (half_child t.level.method (ring_in t v))))
      (halves-smooth t.level.method (ring_in t v) (ring_in t v) is.ring)

  same : same_mask (vertex_rule (vertex_sharpness_of t.level v) (ring_in t v)) (vertex_rule (uniform_child (vertex_sharpness_of t.level v)) (child_ring t.level.method (ring_in t v))) ≡ true
  same = ap (λ r. same_mask r (vertex_rule (uniform_child (vertex_sharpness_of t.level v)) (child_ring t.level.method (ring_in t v)))) now ∙ ap (same_mask SmoothRule) next

  pub smooth-mask : mask_in t v ≡ mask_of_rule v (ends_in t v) (faces_in t v) SmoothRule
  smooth-mask = chosen _ _ _ same ∙ ap (mask_of_rule v (ends_in t v) (faces_in t v)) now

  pub smooth-fine : is_refused_in t v ≡ false
  smooth-fine = needless _ _ same

  -- the mask of the smooth rule, or its lack of memory, is a result for the vertex
  pub smooth-made : (r : Result VertexMask MaskFault) → IfOk r (λ m. IsJoinedAs (seen_vertex m) (mask_of_rule v (ends_in t v) (faces_in t v) SmoothRule))
      → IfErr r (λ f. f ≡ fault.Memory)
      → MatchResult r (λ m. IsJoinedAs (seen_vertex m) (mask_in t v) × (is_refused_in t v ≡ false)) (IsFaultWhere (is_refused_in t v))
  smooth-made (Ok m) made none = (subst (IsJoinedAs (seen_vertex m)) (sym smooth-mask) made, smooth-fine)
  smooth-made (Err f) made is-memory = subst (IsFaultWhere (is_refused_in t v)) (sym is-memory) tt
