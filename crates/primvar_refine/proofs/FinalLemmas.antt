-- The list that is made is that of the values of the child points.
use Rattle.std.proofs.Common.{◌≡◌, ℕ, zero, suc, ◌+◌, ◌*◌, ◌<◌, ◌≤◌, Bool, true, false, nat_lt, not, ◌&&◌, ℤ, pos, ◌*ℤ◌, List, [], ◌∷◌, ◌++◌, length, map, take, get_or, arith, refl, ap, sym, ◌∙◌, subst, length-append}
use Rattle.std.specs.List.{All, sum_by, range_with_len, list_all, list_any, filter}
use Rattle.std.proofs.lemmas.Bool.{and_parts}
use Rattle.std.proofs.lemmas.Bool.Decides.{nat_tests}
use Rattle.std.proofs.lemmas.List.{get_or-map, length-map, get_or_default, take-append-le, take_all, get_or-take, length-take-le, get_or_append_left}
use Rattle.std.proofs.lemmas.Grind.{same_number_lists}
use Rattle.std.proofs.Math.IntN.{*ℤ_comm}
use Rattle.subdiv_model.specs.Polygons.{polygon_at}
use Rattle.subdiv_model.specs.Edges.{edges_of}
use Rattle.subdiv_model.specs.Level.{Level}
use Rattle.subdiv_model.specs.Mask.{Scheme, Mask, OfFace, has_source, face_mask}
use Rattle.subdiv_model.specs.Value.{Value, IsSameValue, whole_value}
use Rattle.subdiv_model.specs.Refined.{mask_value, source_value, point_value, mask_denominator, source_denominator}
use Rattle.subdiv_model.specs.Channel.{number_bound}
use Rattle.mask_laws.proofs.SumLemmas.{IsOver}
use Rattle.level_topology.specs.Topology.{Topology, IsTopology}
use Rattle.level_topology.specs.Child.{PointOrigin, FromVertex, FromFace, FromEdge, IsOriginWithin, ChildTopology, HasParent}
use Rattle.primvar_refine.specs.Rows.{Row, row_at, dens_of, StandFor, value_at, least_bound, greatest_of}
use Rattle.child_masks.specs.Masks.{has_origin, mask_from, masks_from, CanRefine, values_from, HasNoTransition, step_terms, hidden_faces, origin_at, is_from_face}
use Rattle.primvar_refine.specs.Step.{refined_dens, AreRefined}
use Rattle.child_masks.specs.Survey.{IsSurvey}
use Rattle.child_masks.specs.declared.survey.Survey.{Survey}
use Rattle.primvar_refine.specs.Made.{IsMade}
use Rattle.primvar_refine.specs.Places.{all_origins}
use Rattle.primvar_refine.specs.Ready.{AreAllMade}
use Rattle.child_masks.proofs.SourceLemmas.{test-at, edges-inside}
use Rattle.child_masks.proofs.OriginLemmas.{some-corners, is-over, origin-within}

abbrev blank : Row
blank = record { numbers = []; den = 1 }

-- each child point is made
module _ (parent : Topology) (child : ChildTopology) (scheme : Scheme) (rows : List Row) (hidden : List ℕ) (made : List Row) (is : AreAllMade parent child scheme rows hidden made) where
  from-face : (p : ℕ) → p < length child.origins → (o : PointOrigin) → origin_at child.origins p ≡ o → is_from_face o ≡ true
      → IsMade parent.level rows (mask_from parent.level scheme o) (row_at made p)
  from-face p inside (FromVertex v) e h = absurd (cc)
  from-face p inside (FromFace f) e h =
      let among : p < length (all_origins child.origins hidden) = omega (arith, inside, length-append child.origins (map FromFace hidden)) in
      is.faces.each p f among among (get_or_append_left child.origins (map FromFace hidden) (FromVertex 0) p inside ∙ e)
  from-face p inside (FromEdge d) e h = absurd (cc)

  -- each child point is made, whatever its origin
  pub each-made : (p : ℕ) → p < length child.origins → IsMade parent.level rows (mask_from parent.level scheme (origin_at child.origins p)) (row_at made p)
  each-made p inside = at (is_from_face (origin_at child.origins p)) refl
    where
      at : (b : Bool) → is_from_face (origin_at child.origins p) ≡ b → IsMade parent.level rows (mask_from parent.level scheme (origin_at child.origins p)) (row_at made p)
      at true h = from-face p inside (origin_at child.origins p) refl h
      at false h = is.others.each p inside inside h

-- rows that are made are refined
module _ (level : Level) (scheme : Scheme) (origins : List PointOrigin) (rows refined : List Row) (count : length refined ≡ length origins)
    (made : (p : ℕ) → p < length origins → IsMade level rows (mask_from level scheme (origin_at origins p)) (row_at refined p))
    (fine : HasNoTransition level scheme origins) (short : All (λ den. den ≤ number_bound) (refined_dens level scheme origins rows))
    (kept : greatest_of (refined_dens level scheme origins rows) * least_bound rows ≤ number_bound) where
  none : Mask
  none = record { terms = []; denominator = 0 }

  -- the row at a place is the same at any default
  made-at : (p : ℕ) (d : Row) → p < length refined → IsMade level rows (mask_from level scheme (origin_at origins p)) (get_or refined p d)
  made-at p d inside =
      let below : p < length origins = omega (arith, inside, count) in
      subst (IsMade level rows (mask_from level scheme (origin_at origins p))) (get_or_default refined p blank d inside) (made p below)

  -- the denominators are those of the step
  same-dens : dens_of refined ≡ refined_dens level scheme origins rows
  same-dens =
      same_number_lists (dens_of refined) (refined_dens level scheme origins rows)
      (length-map refined (λ (r : Row). r.den) ∙ count ∙ sym (length-map origins (mask_from level scheme))
      ∙ sym (length-map (masks_from level scheme origins) (mask_denominator (source_denominator level (dens_of rows)))))
      (λ k inside.
      let below : k < length refined = subst (λ n. k < n) (length-map refined (λ (r : Row). r.den)) inside in
      let among : k < length origins = omega (arith, below, count) in
      get_or-map (λ (r : Row). r.den) refined k blank 0 below ∙ (made k among).den_is
      ∙ ap (mask_denominator (source_denominator level (dens_of rows))) (sym (get_or-map (mask_from level scheme) origins k (FromVertex 0) (mask_from level scheme (FromVertex 0)) among))
      ∙ sym (get_or-map (mask_denominator (source_denominator level (dens_of rows))) (masks_from level scheme origins) k (mask_from level scheme (FromVertex 0)) 0
      (subst (λ n. k < n) (sym (length-map origins (mask_from level scheme))) among)))

  -- each column has the refined values
  stands : (column : ℕ) (values : List Value) → StandFor rows column values → StandFor refined column (values_from level scheme origins values)
  stands column values stand = record {
    count = length-map (masks_from level scheme origins) (mask_value (source_value level values)) ∙ length-map origins (mask_from level scheme) ∙ sym count;
    same = λ p inside.
        let among : p < length origins = omega (arith, inside, count) in
        let here : point_value (values_from level scheme origins values) p ≡ mask_value (source_value level values) (mask_from level scheme (origin_at origins p)) =
        get_or-map (mask_value (source_value level values)) (masks_from level scheme origins) p (mask_from level scheme (FromVertex 0)) (whole_value (pos 0))
        (subst (λ n. p < n) (sym (length-map origins (mask_from level scheme))) among)
        ∙ ap (mask_value (source_value level values)) (get_or-map (mask_from level scheme) origins p (FromVertex 0) (mask_from level scheme (FromVertex 0)) among) in
        subst (λ x. IsSameValue x (value_at refined column p)) (sym here)
        (turned (mask_value (source_value level values) (mask_from level scheme (origin_at origins p))) (get_or (row_at refined p).numbers column (pos 0)) (row_at refined p).den
        ((made p among).over column values stand));
  }
    where
      turned : (x : Value) (n : ℤ) (c : ℕ) → IsOver c x n → x.num *ℤ pos c ≡ n *ℤ pos x.den
      turned x n c e = *ℤ_comm x.num (pos c) ∙ e ∙ *ℤ_comm (pos x.den) n

  -- all clauses of the result
  pub are-refined : AreRefined level scheme origins rows refined
  are-refined = record {
    dens = same-dens;
    values = stands;
    within = λ m within. λ p d inside. (made-at p d inside).within m within;
    alike = λ p d inside. (made-at p d inside).alike;
    fine = fine;
    short = subst (All (λ den. den ≤ number_bound)) (sym same-dens) short;
    kept = subst (λ l. greatest_of l * least_bound rows ≤ number_bound) (sym same-dens) kept;
  }

-- the first of a list that was written back whole
pub cut-back : {X : Type 0} (n m : ℕ) (xs rest ys : List X) → length xs ≡ m → ys ≡ take n (take m (xs ++ rest)) → ys ≡ take n xs
cut-back n m xs rest ys same e =
    e ∙ ap (take n) (take-append-le m xs rest (omega (arith, same)) ∙ take_all m xs (omega (arith, same)))

-- in the new list the child points come first
pub cut-refined : (parent : Topology) (child : ChildTopology) (scheme : Scheme) (rows : List Row) (survey : Survey) (hidden : List ℕ) (made refined : List Row) (n : ℕ)
    → IsSurvey parent scheme child.origins (dens_of rows) survey → greatest_of survey.dens.items * least_bound rows ≤ number_bound
    → AreAllMade parent child scheme rows hidden made → n ≡ length child.origins → n ≤ length made → refined ≡ take n made
    → AreRefined parent.level scheme child.origins rows refined
cut-refined parent child scheme rows survey hidden made refined n survey_is kept is counted enough cut =
    are-refined parent.level scheme child.origins rows refined
    (ap length cut ∙ length-take-le n made enough ∙ counted)
    (λ p inside.
    let here : row_at refined p ≡ row_at made p = ap (λ l. row_at l p) cut ∙ get_or-take n made p blank (omega (arith, inside, counted)) in
    subst (IsMade parent.level rows (mask_from parent.level scheme (origin_at child.origins p))) (sym here) (each-made parent child scheme rows hidden made is p inside))
    survey_is.fine survey_is.short
    (subst (λ l. greatest_of l * least_bound rows ≤ number_bound) survey_is.dens kept)

-- a level without points has no child point
no-faces : (parent : Topology) → IsTopology parent → parent.level.point_count ≡ 0 → (f : ℕ) → f < length parent.level.polygons → ⊥
no-faces parent is empty f inside =
    let some = some-corners parent is f inside in
    let corners = test-at (list_all (λ v. nat_lt v parent.level.point_count)) parent.level.polygons f [] (is-over parent is) inside in
    let first = test-at (λ v. nat_lt v parent.level.point_count) (polygon_at parent.level.polygons f) 0 0 corners some in
    wrong (get_or (polygon_at parent.level.polygons f) 0 0) parent.level.point_count empty first
  where
    wrong : (v n : ℕ) → n ≡ 0 → nat_lt v n ≡ true → ⊥
    wrong v n e h = grind (arith, nat_tests, e, h)

-- no point comes from anywhere
no-origin : (parent : Topology) → IsTopology parent → parent.level.point_count ≡ 0 → (o : PointOrigin)
    → IsOriginWithin parent.level.point_count (length parent.level.polygons) (length (edges_of parent.level.polygons)) o → ⊥
no-origin parent is empty (FromVertex v) within = omega (arith, within, empty)
no-origin parent is empty (FromFace f) within = no-faces parent is empty f within
no-origin parent is empty (FromEdge e) within =
    let inside = test-at _ (edges_of parent.level.polygons) e (0, 0) (edges-inside parent.level (is-over parent is)) within in
    wrong _ parent.level.point_count empty (and_parts _ _ inside).0
  where
    wrong : (v n : ℕ) → n ≡ 0 → nat_lt v n ≡ true → ⊥
    wrong v n e h = grind (arith, nat_tests, e, h)

-- without points there is no origin
pub no-origins : (parent : Topology) (child : ChildTopology) (scheme : Scheme) → IsTopology parent → HasParent child → CanRefine parent child scheme
    → parent.level.point_count ≡ 0 → length child.origins ≡ 0
no-origins parent child scheme is has can empty = at (length child.origins) refl
  where
    at : (n : ℕ) → length child.origins ≡ n → n ≡ 0
    at zero e = refl
    at (suc n) e =
        let inside : 0 < length child.origins = omega (arith, e) in
        absurd (no-origin parent is empty (origin_at child.origins 0) (origin-within parent child scheme has can 0 inside))

-- for no origin the refined values are an empty list
pub empty-refined : (parent : Topology) (child : ChildTopology) (scheme : Scheme) (rows refined : List Row) (survey : Survey) → IsTopology parent → HasParent child → CanRefine parent child scheme
    → IsSurvey parent scheme child.origins (dens_of rows) survey → greatest_of survey.dens.items * least_bound rows ≤ number_bound
    → parent.level.point_count ≡ 0 → length refined ≡ 0 → AreRefined parent.level scheme child.origins rows refined
empty-refined parent child scheme rows refined survey is has can survey_is kept empty nothing =
    let none = no-origins parent child scheme is has can empty in
    are-refined parent.level scheme child.origins rows refined (nothing ∙ sym none)
    (λ p inside. absurd (omega (arith, inside, none)))
    survey_is.fine survey_is.short (subst (λ l. greatest_of l * least_bound rows ≤ number_bound) survey_is.dens kept)

-- in no step
pub empty-terms : (parent : Topology) (child : ChildTopology) (scheme : Scheme) → IsTopology parent → HasParent child → CanRefine parent child scheme
    → parent.level.point_count ≡ 0 → step_terms parent.level scheme child.origins ≡ 0
empty-terms parent child scheme is has can empty =
    let origins : child.origins ≡ [] = gone child.origins (no-origins parent child scheme is has can empty) in
    let faces : parent.level.polygons ≡ [] = gone parent.level.polygons (few (length parent.level.polygons) refl) in
    ap (step_terms parent.level scheme) origins ∙ hidden-none faces
  where
    gone : {X : Type 0} (xs : List X) → length xs ≡ 0 → xs ≡ []
    gone [] e = refl
    gone (x ∷ xs) e = absurd (omega (arith, e))

    few : (n : ℕ) → length parent.level.polygons ≡ n → length parent.level.polygons ≡ 0
    few zero e = e
    few (suc n) e = absurd (no-faces parent is empty 0 (omega (arith, e)))

    hidden-none : parent.level.polygons ≡ [] → step_terms parent.level scheme [] ≡ 0
    hidden-none e =
        let nothing : hidden_faces parent.level scheme [] ≡ [] =
        ap (λ n. filter (λ f. list_any (λ (mask : Mask). has_source mask.terms (OfFace f)) [] && not (has_origin [] (FromFace f))) (range_with_len 0 n)) (ap length e) in
        ap (λ l. 0 + sum_by (λ f. length (face_mask parent.level f).terms) l) nothing
