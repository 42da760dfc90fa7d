-- The quarter of the square as a step of a walk, and the values that it is walked with.
use Rattle.std.proofs.Common.{◌≡◌, ℕ, ◌*◌, ◌<◌, ◌≤◌, inl, inr, Result, Ok, Err, IfOk, MatchResult, true, false, ◌||◌, nat_eq, List, [], ◌∷◌, length, get_or, arith, refl, ap, sym, ◌∙◌, subst}
use Rattle.std.specs.List.{All}
use Rattle.std.proofs.lemmas.Bool.Decides.{nat_tests}
use Rattle.std.proofs.lemmas.List.{length-map}
use Rattle.std.proofs.lemmas.Result.{IfOk-weaker}
use Rattle.ratio128.specs.Numbers.{greatest_amount}
use Rattle.ratio128.specs.declared.point.Point3.{Point3}
use Rattle.ratio128.specs.declared.valued.Valued.{Valued}
use Rattle.subdiv_model.specs.Sharpness.{Smooth, Infinite}
use Rattle.subdiv_model.specs.Mask.{CatmullClark}
use Rattle.level_topology.specs.Topology.{Topology}
use Rattle.level_topology.specs.Child.{FromVertex, FromEdge, ChildTopology}
use Rattle.mask_rules.specs.Masks.{is_at_least_one}
use Rattle.primvar_refine.specs.View.{row_of, rows_of}
use Rattle.primvar_refine.specs.Rows.{Row}
use Rattle.child_masks.specs.Masks.{has_origin, CanRefine}
use Rattle.channel_refine.specs.Step.{AreValues}
use Rattle.level_tests.specs.Squares.{square, quarter, square_rows, quarter_origins, quarter_child, IsSquareOrQuarter}
use Rattle.level_tests.specs.Values.{IsNearPoint}
use Rattle.level_tests.proofs.QuarterLemmas.{by-four, square-is, square-points, quarter-points}
use Rattle.level_tests.proofs.ValueLemmas.{all-near, amount-below, good-rows}

-- the one vertex with a child point
vertex-is : (v : ℕ) → has_origin quarter_origins (FromVertex v) ≡ true → v ≡ 1
vertex-is v h =
    let e : (nat_eq v 1 || (false || (false || (false || false)))) ≡ true = h in
    grind (arith, nat_tests)

edge-below : (e : ℕ) → has_origin quarter_origins (FromEdge e) ≡ true → e < 4
edge-below e h =
    let k : (false || (false || (nat_eq e 0 || (nat_eq e 1 || false)))) ≡ true = h in
    grind (arith, nat_tests)

-- the one vertex with a child point is complete, and all edges are infinitely sharp
whole : (v : ℕ) → has_origin quarter_origins (FromVertex v) ≡ true → get_or square_rows.complete v false ≡ true
whole v h = subst (λ u. get_or square_rows.complete u false ≡ true) (sym (vertex-is v h)) refl

outer : (e : ℕ) → e < 4 → get_or square_rows.edge_sharpness e Smooth ≡ Infinite
outer = by-four (λ e. get_or square_rows.edge_sharpness e Smooth ≡ Infinite) refl refl refl refl

pub quarter-can-refine : CanRefine square quarter_child CatmullClark
quarter-can-refine = rw (square-is) record {
  vertices = refl;
  faces = refl;
  edges = refl;
  complete = whole;
  inside = λ same e h. inr (ap is_at_least_one (outer e (edge-below e h)));
  boundary = λ same v h e within ends one-face. outer e within;
  fine = λ same v h. refl;
}

pub refines : (level : Topology) → level ≡ square → CanRefine level quarter_child CatmullClark
refines level e = subst (λ (t : Topology). CanRefine t quarter_child CatmullClark) (sym e) quarter-can-refine

-- the square and the quarter have a point 0, which is complete only in the square
quarter-first : get_or quarter.complete 0 false ≡ false
unfolding quarter
quarter-first = refl

pub some-points : (level : Topology) → IsSquareOrQuarter level → 0 < level.level.point_count
some-points level (inl e) = subst (λ (t : Topology). 0 < t.level.point_count) (sym e) (omega (arith, square-points))
some-points level (inr e) = subst (λ (t : Topology). 0 < t.level.point_count) (sym e) (omega (arith, quarter-points))

pub complete-is : (level : Topology) → IsSquareOrQuarter level → get_or level.complete 0 false ≡ true → level ≡ square
complete-is level (inl e) h = e
complete-is level (inr e) h =
    let no : false ≡ true = sym (ap (λ (t : Topology). get_or t.complete 0 false) e ∙ quarter-first) ∙ h in absurd (cc)

-- a claim about the quarter holds for the result of the step
pub where-made : {E : Type 0} (r : Result ChildTopology E) (Q : ChildTopology → Type 0) → Q quarter_child → IfOk r (λ child. child ≡ quarter_child) → IfOk r Q
where-made r Q q made = IfOk-weaker r (λ child. child ≡ quarter_child) Q (λ child e. subst Q (sym e) q) made

pub made-or : {E : Type 0} (r : Result ChildTopology E) (Q : ChildTopology → Type 0) → Q quarter_child → IfOk r (λ child. child ≡ quarter_child)
    → MatchResult r Q (λ _. Unit {0})
made-or (Ok child) Q q made = subst Q (sym made) q
made-or (Err fault) Q q made = tt

-- points over 1, of numbers up to 8, are values of the square
pub near-values : (points : List (Valued Point3)) → length points ≡ 4 → All IsNearPoint points
    → AreValues 8 square (rows_of (λ (q : Point3). q.x ∷ q.y ∷ q.z ∷ []) points)
near-values points count near = record {
  each = length-map points (row_of (λ (q : Point3). q.x ∷ q.y ∷ q.z ∷ [])) ∙ count ∙ sym square-points;
  good = good-rows points near;
  within = all-near (λ (row : Row). greatest_amount row.numbers ≤ row.den * 8)
      (λ p h. let below = amount-below p.value.x p.value.y p.value.z h.x h.y h.z in omega (arith, h.one, below)) points near;
}
