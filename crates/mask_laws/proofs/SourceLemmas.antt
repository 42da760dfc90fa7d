-- The sources of masks: a property of all points and faces around is one of each source.
use Rattle.std.proofs.Common.{◌≡◌, ℕ, ◌+◌, ◌-◌, ◌*◌, ◌/◌, Bool, true, nat_le, nat_eq, List, [], ◌∷◌, ◌++◌, length, get_or, refl, ◌∙◌}
use Rattle.std.specs.List.{list_all}
use Rattle.std.proofs.lemmas.Bool.{and_from, cond_both}
use Rattle.std.proofs.lemmas.List.Folds.{list_all-map}
use Rattle.subdiv_model.specs.Sharpness.{Sharpness, Smooth, Semi, Infinite}
use Rattle.subdiv_model.specs.Rule.{Rule, SmoothRule, DartRule, CreaseRule, CornerRule, vertex_rule, same_mask, transition_weight}
use Rattle.subdiv_model.specs.Mask.{SourcePoint, OfPoint, OfFace, Term, Mask, mask_of, weigh, weigh_points, weigh_faces, scaled_terms, smooth_vertex_mask, corner_mask, mask_of_rule, mask_of_vertex, sharp_edge_mask, blended_edge_mask, mask_of_edge, blend, transition_mask}
use Rattle.subdiv_model.specs.Multiples.{lcm_of}
use Rattle.mask_laws.proofs.JoinedLemmas.{joined-all}
use Rattle.mask_laws.proofs.ListLemmas.{each-passes, all-pass, all-append}
use Rattle.sharpness_laws.proofs.ProperLemmas.{all-get_or}

-- the sources of all terms pass the test
module _ (test : SourcePoint → Bool) where
  abbrev pub are_from : List Term → Bool
  are_from terms = list_all (λ t. test t.source) terms

  pub from-mask_of : (terms : List Term) (q : ℕ) → are_from terms ≡ true → are_from (mask_of terms q).terms ≡ true
  from-mask_of terms q h =
      all-pass (λ t. test t.source) (mask_of terms q).terms
      (joined-all (λ s. test s ≡ true) terms q (each-passes (λ (t : Term). test t.source) terms h))

  pub from-points : (w : ℕ) (points : List ℕ) → list_all (λ v. test (OfPoint v)) points ≡ true → are_from (weigh_points w points) ≡ true
  from-points w points h = list_all-map (λ (t : Term). test t.source) (λ v. weigh w (OfPoint v)) points ∙ h

  from-faces : (w : ℕ) (faces : List ℕ) → list_all (λ f. test (OfFace f)) faces ≡ true → are_from (weigh_faces w faces) ≡ true
  from-faces w faces h = list_all-map (λ (t : Term). test t.source) (λ f. weigh w (OfFace f)) faces ∙ h

  from-smooth : (v : ℕ) (ends faces : List ℕ) → test (OfPoint v) ≡ true → list_all (λ e. test (OfPoint e)) ends ≡ true
      → list_all (λ f. test (OfFace f)) faces ≡ true → are_from (smooth_vertex_mask v ends faces).terms ≡ true
  from-smooth v ends faces own h k =
      let n = length ends in
      from-mask_of (weigh (n * (n - 2)) (OfPoint v) ∷ (weigh_points 1 ends ++ weigh_faces 1 faces)) (n * n)
      (and_from _ _ own (all-append (λ t. test t.source) (weigh_points 1 ends) (weigh_faces 1 faces) (from-points 1 ends h) (from-faces 1 faces k)))

  pub from-corner : (v : ℕ) → test (OfPoint v) ≡ true → are_from (corner_mask v).terms ≡ true
  from-corner v h = from-mask_of (weigh 1 (OfPoint v) ∷ []) 1 (and_from _ _ h refl)

  from-rule : (v : ℕ) (ends faces : List ℕ) (rule : Rule) → test (OfPoint v) ≡ true → test (OfPoint 0) ≡ true
      → list_all (λ e. test (OfPoint e)) ends ≡ true → list_all (λ f. test (OfFace f)) faces ≡ true
      → are_from (mask_of_rule v ends faces rule).terms ≡ true
  from-rule v ends faces SmoothRule own first h k = from-smooth v ends faces own h k
  from-rule v ends faces DartRule own first h k = from-smooth v ends faces own h k
  from-rule v ends faces (CreaseRule a b) own first h k =
      from-mask_of (weigh 6 (OfPoint v) ∷ weigh_points 1 (get_or ends a 0 ∷ get_or ends b 0 ∷ [])) 8
      (and_from _ _ own (and_from _ _ (all-get_or (λ e. test (OfPoint e)) ends a 0 h first)
      (and_from _ _ (all-get_or (λ e. test (OfPoint e)) ends b 0 h first) refl)))
  from-rule v ends faces CornerRule own first h k = from-corner v own

  from-scaled : (amount : ℕ) (terms : List Term) → are_from terms ≡ true → are_from (scaled_terms amount terms) ≡ true
  from-scaled amount terms h = list_all-map (λ (t : Term). test t.source) (λ t. weigh (amount * t.weight) t.source) terms ∙ h

  from-blend : (w : ℕ × ℕ) (parent child : Mask) → are_from parent.terms ≡ true → are_from child.terms ≡ true
      → are_from (blend w parent child).terms ≡ true
  from-blend w parent child h k =
      let multiple = lcm_of parent.denominator child.denominator in
      let a = w.0 * (multiple / parent.denominator) in
      let b = (w.1 - w.0) * (multiple / child.denominator) in
      from-mask_of (scaled_terms a parent.terms ++ scaled_terms b child.terms) (w.1 * multiple)
      (all-append (λ t. test t.source) (scaled_terms a parent.terms) (scaled_terms b child.terms)
      (from-scaled a parent.terms h) (from-scaled b child.terms k))

  pub from-sharp : (edge : ℕ × ℕ) → test (OfPoint edge.0) ≡ true → test (OfPoint edge.1) ≡ true
      → are_from (sharp_edge_mask edge).terms ≡ true
  from-sharp edge h k = from-mask_of (weigh_points 1 (edge.0 ∷ edge.1 ∷ [])) 2 (and_from _ _ h (and_from _ _ k refl))

  pub from-vertex : (vertex vertex_child : Sharpness) (ring ring_child : List Sharpness) (v : ℕ) (ends faces : List ℕ)
      → test (OfPoint v) ≡ true → test (OfPoint 0) ≡ true → list_all (λ e. test (OfPoint e)) ends ≡ true
      → list_all (λ f. test (OfFace f)) faces ≡ true
      → are_from (mask_of_vertex vertex vertex_child ring ring_child v ends faces).terms ≡ true
  from-vertex vertex vertex_child ring ring_child v ends faces own first h k =
      let parent = vertex_rule vertex ring in
      let child = vertex_rule vertex_child ring_child in
      let w = transition_weight vertex vertex_child ring ring_child in
      let here = mask_of_rule v ends faces parent in
      let there = mask_of_rule v ends faces child in
      let one = from-rule v ends faces parent own first h k in
      let two = from-rule v ends faces child own first h k in
      cond_both (same_mask parent child) here (transition_mask w here there) (λ mask. are_from mask.terms ≡ true) (λ _. one)
      (λ _. cond_both (nat_eq w.0 w.1) here (blend w here there) (λ mask. are_from mask.terms ≡ true) (λ _. one) (λ _. from-blend w here there one two))

  pub from-edge : (s : Sharpness) (edge : ℕ × ℕ) (faces : List ℕ) → test (OfPoint edge.0) ≡ true → test (OfPoint edge.1) ≡ true
      → list_all (λ f. test (OfFace f)) faces ≡ true → are_from (mask_of_edge s edge faces).terms ≡ true
  from-edge Smooth edge faces h k all =
      from-mask_of (weigh_points 1 (edge.0 ∷ edge.1 ∷ []) ++ weigh_faces 1 faces) 4
      (and_from _ _ h (and_from _ _ k (from-faces 1 faces all)))
  from-edge (Semi x y) edge faces h k all =
      cond_both (nat_le y x) (sharp_edge_mask edge) (blended_edge_mask x y edge faces) (λ mask. are_from mask.terms ≡ true)
      (λ _. from-sharp edge h k)
      (λ _. from-mask_of (weigh_points (y + x) (edge.0 ∷ edge.1 ∷ []) ++ weigh_faces (y - x) faces) (4 * y)
      (and_from _ _ h (and_from _ _ k (from-faces (y - x) faces all))))
  from-edge Infinite edge faces h k all = from-sharp edge h k
