-- Labels of corners, one corner more at a time, and one vertex more.
use Rattle.std.proofs.Common.{◌≡◌, ◌≢◌, ℕ, ◌+◌, ◌<◌, Bool, true, false, nat_eq, List, length, get_or, slice_set, arith, refl, ap, sym, ◌∙◌, subst}
use Rattle.std.specs.List.{sum_by}
use Rattle.std.proofs.lemmas.Bool.{eqb-true, eq-eqb}
use Rattle.std.proofs.lemmas.List.{get_or-set_same, get_or-set_other}
use Rattle.subdiv_model.specs.Polygons.{polygon_at}
use Rattle.level_topology.specs.Topology.{Topology, IsTopology, corner_of}
use Rattle.face_varying.specs.CornerPlaces.{start_of}
use Rattle.face_varying.specs.Fans.{HasRuns, corner_in, face_count, is_cut, last_run, run_of}
use Rattle.face_varying.proofs.FanPlaceLemmas.{face_in, face-there, corner-below, corner-once, corner-vertex}
use Rattle.face_varying.proofs.RunLemmas.{last-within}

-- the corners at other vertices have the same labels in both lists
abbrev pub HasOthers : Topology → ℕ → List ℕ → List ℕ → Type 0
HasOthers t v old new =
    (f c : ℕ) → f < length t.level.polygons → c < length (polygon_at t.level.polygons f) → get_or (polygon_at t.level.polygons f) c 0 ≢ v
    → get_or new (start_of t.level.polygons f + c) 0 ≡ get_or old (start_of t.level.polygons f + c) 0

module _ (t : Topology) (is : IsTopology t) (v : ℕ) (inside : v < t.level.point_count) (apart : List Bool) where
  -- the run of each face begins at a face
  pub run-within : (i : ℕ) → i < face_count t v → run_of t apart v i < face_count t v
  run-within i h =
      last-within (is_cut t apart v) (last_run t apart v) (i + 1) (face_count t v) (last-within (is_cut t apart v) 0 (face_count t v) (face_count t v) (omega arith) (omega arith)) (omega arith)

  pub start-within : (i start : ℕ) → i < face_count t v → start ≡ run_of t apart v i → start < face_count t v
  start-within i start h e = omega (arith, e, run-within i h)

  -- the label of one face more
  pub runs-more : (labels : List ℕ) (i place label : ℕ) → length labels ≡ sum_by length t.level.polygons → i < face_count t v → place ≡ corner_in t v i → label ≡ corner_in t v (run_of t apart v i) → HasRuns t apart v i labels → HasRuns t apart v (i + 1) (slice_set labels place label)
  runs-more labels i place label size h place_is label_is before = record { each = λ j hj. which j hj (nat_eq j i) refl }
    where
      which : (j : ℕ) → j < i + 1 → (b : Bool) → nat_eq j i ≡ b → get_or (slice_set labels place label) (corner_in t v j) 0 ≡ corner_in t v (run_of t apart v j)
      which j hj true e =
          let same = eqb-true _ _ e in
          ap (λ (k : ℕ). get_or (slice_set labels place label) k 0) (ap (corner_in t v) same ∙ sym place_is)
          ∙ get_or-set_same labels place label 0 (omega (arith, corner-below t is v inside i h, place_is, size))
          ∙ label_is
          ∙ ap (λ (k : ℕ). corner_in t v (run_of t apart v k)) (sym same)
      which j hj false e =
          let other : j ≢ i = λ same. absurd (let yes = eq-eqb _ _ same in cc) in
          let less : j < i = omega arith in
          get_or-set_other labels place (corner_in t v j) label 0 (λ same. other (corner-once t is v inside j i (omega arith) h (same ∙ place_is)))
          ∙ before.each j less

  -- the labels of corners at other vertices stay
  pub others-more : (old labels : List ℕ) (i place label : ℕ) → i < face_count t v → place ≡ corner_in t v i → HasOthers t v old labels → HasOthers t v old (slice_set labels place label)
  others-more old labels i place label h place_is before f c exists within other =
      get_or-set_other labels place (start_of t.level.polygons f + c) label 0 (λ same. other (corner-vertex t is v inside i f c h exists within (same ∙ place_is)))
      ∙ before f c exists within other

  -- the labels at another vertex stay
  runs-stay : (old new : List ℕ) (w : ℕ) → w < t.level.point_count → w ≢ v → HasOthers t v old new → HasRuns t apart w (face_count t w) old → HasRuns t apart w (face_count t w) new
  runs-stay old new w inside_w apart_w others runs = record {
    each = λ i h.
        let at = face-there t is w inside_w i h in
        others (face_in t is w inside_w i) (corner_of t.level.polygons w (face_in t is w inside_w i)) at.exists at.within (λ e. apart_w (sym at.there ∙ e)) ∙ runs.each i h;
  }

  -- one vertex more
  pub vertices-more : (old new : List ℕ) → HasOthers t v old new → HasRuns t apart v (face_count t v) new → ((w : ℕ) → w < v → HasRuns t apart w (face_count t w) old) → (w : ℕ) → w < v + 1 → HasRuns t apart w (face_count t w) new
  vertices-more old new others here before w hw = which (nat_eq w v) refl
    where
      which : (b : Bool) → nat_eq w v ≡ b → HasRuns t apart w (face_count t w) new
      which true e = subst (λ (n : ℕ). HasRuns t apart n (face_count t n) new) (sym (eqb-true _ _ e)) here
      which false e =
          let other : w ≢ v = λ same. absurd (let yes = eq-eqb _ _ same in cc) in
          let less : w < v = omega arith in
          runs-stay old new w (omega arith) other others (before w less)
