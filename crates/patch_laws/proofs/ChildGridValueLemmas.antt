-- The points of the grid about a child have the values of the grid about its parent, by the weights of subdivision.
use Rattle.std.proofs.Common.{◌≡◌, ℕ, ◌+◌, ◌*◌, ◌<◌, true, ℤ, pos, ◌+ℤ◌, ◌*ℤ◌, List, arith, ap, sym, ◌∙◌, ◌⊎◌, inl, inr}
use Rattle.std.specs.List.{All}
use Rattle.std.proofs.lemmas.Int.{ints}
use Rattle.subdiv_model.specs.Level.{Level}
use Rattle.subdiv_model.specs.Mask.{CatmullClark, SourcePoint}
use Rattle.subdiv_model.specs.Value.{Value, IsSameValue}
use Rattle.subdiv_model.specs.Refined.{point_value, source_value, child_values}
use Rattle.subdiv_model.specs.Patch.{is_regular_in_quads}
use Rattle.number_laws.proofs.MultipleLemmas.{product-positive}
use Rattle.mask_laws.specs.Laws.{IsManifoldWithSharpBoundary}
use Rattle.mask_laws.proofs.SumLemmas.{IsOver}
use Rattle.limit_laws.specs.Laws.{value_in}
use Rattle.limit_laws.proofs.NumberLemmas.{same-number, of_points}
use Rattle.grid_laws.specs.Grids.{IsGrid, grid_at, listed_grid, middle_of, along_of, across_of, child_grid}
use Rattle.grid_laws.proofs.QuadLemmas.{turned-quad}
use Rattle.grid_laws.proofs.GridLemmas.{four-pass, grid-star}
use Rattle.patch_laws.specs.Tensors.{tensor_mask, subdivision_weights}
use Rattle.patch_laws.proofs.CombinationLemmas.{weights-listed}
use Rattle.patch_laws.proofs.TensorLemmas.{number_at, tensor_sum, four-places, tensor-over}
use Rattle.patch_laws.proofs.WholeValueLemmas.{AreWhole, have-numbers, each-all}
use Rattle.patch_laws.proofs.NewPointLemmas.{next_value, middle-point, edge-middle}
use Rattle.patch_laws.proofs.VertexPointLemmas.{vertex-point}

module _ (level : Level) (well : IsManifoldWithSharpBoundary level) (values : List Value) (m : ℕ) (g : ℕ → ℤ) (are : AreWhole values m g) where
  -- the number of a source, which is a point
  abbrev f : SourcePoint → ℤ
  f = of_points g

  -- the weights of subdivision at a place of the next level
  abbrev weights_sum : List (List ℕ) → ℕ → ℕ → ℤ
  weights_sum grid i j = tensor_sum (subdivision_weights i) (subdivision_weights j) (number_at f grid)

  -- the value x is that of the mask of this place
  abbrev IsAt : List (List ℕ) → ℕ → ℕ → Value → Type 0
  IsAt grid i j x = IsSameValue x (value_in level values (tensor_mask (subdivision_weights i) (subdivision_weights j) grid 64))

  -- the value is that of the mask if both are one number
  mask-at : (grid : List (List ℕ)) (i j : ℕ) (x : Value) (n : ℤ) → grid ≡ listed_grid grid → IsOver (64 * m) x n → n ≡ weights_sum grid i j → IsAt grid i j x
  mask-at grid i j x n listed over same =
      let along = subdivision_weights i in
      let across = subdivision_weights j in
      let mask : Value = value_in level values (tensor_mask along across grid 64) in
      same-number (64 * m) x mask n (product-positive 64 m (omega arith) are.some) over
      (tensor-over 64 m (source_value level values) f along across grid (weights-listed i) (weights-listed j) listed (each-all _ (each-all _ are.each) grid)
      ∙ ap (λ z. pos mask.den *ℤ z) (sym same))

  -- The sixteen places.

  module _ (grid : List (List ℕ)) (is : IsGrid level grid) where
    abbrev child : ℕ → ℕ → Value
    child i j = next_value level values (grid_at (child_grid level grid) i j)

    abbrev number : ℕ → ℕ → ℤ
    number i j = number_at f grid i j

    abbrev IsRegularAt : ℕ → ℕ → Type 0
    IsRegularAt i j = is_regular_in_quads level (grid_at grid i j) ≡ true

    -- the four inner points are regular, in the order of the corners
    regular : IsRegularAt 1 1 × IsRegularAt 2 1 × IsRegularAt 2 2 × IsRegularAt 1 2
    regular = four-pass (is_regular_in_quads level) (grid_at grid 1 1) (grid_at grid 2 1) (grid_at grid 2 2) (grid_at grid 1 2) is.regular

    -- the middle of a quad
    middle : (i j : ℕ) → i < 3 → j < 3
        → IsOver (64 * m) (next_value level values (middle_of level grid i j)) (pos 16 *ℤ ((number i j +ℤ number (i + 1) j) +ℤ (number (i + 1) (j + 1) +ℤ number i (j + 1))))
    middle i j below_i below_j = middle-point level well values m g are _ _ _ _ (is.quads i j below_i below_j)

    -- an edge along the rows, between a quad below and one above
    along : (i j : ℕ) → i < 3 → j < 2 → IsRegularAt i (j + 1) ⊎ IsRegularAt (i + 1) (j + 1)
        → IsOver (64 * m) (next_value level values (along_of level grid i (j + 1)))
        (pos 24 *ℤ (number i (j + 1) +ℤ number (i + 1) (j + 1))
        +ℤ pos 4 *ℤ ((number (i + 1) (j + 1 + 1) +ℤ number i (j + 1 + 1)) +ℤ (number i j +ℤ number (i + 1) j)))
    along i j below_i below_j end =
        edge-middle level well values m g are _ _ _ _ _ _ (is.quads i (j + 1) below_i (omega arith)) (turned-quad (turned-quad (is.quads i j below_i (omega arith)))) end

    -- an edge across the rows, between a quad on the left and one on the right
    across : (i j : ℕ) → i < 2 → j < 3 → IsRegularAt (i + 1) j ⊎ IsRegularAt (i + 1) (j + 1)
        → IsOver (64 * m) (next_value level values (across_of level grid (i + 1) j))
        (pos 24 *ℤ (number (i + 1) j +ℤ number (i + 1) (j + 1))
        +ℤ pos 4 *ℤ ((number i (j + 1) +ℤ number i j) +ℤ (number (i + 1 + 1) j +ℤ number (i + 1 + 1) (j + 1))))
    across i j below_i below_j end =
        edge-middle level well values m g are _ _ _ _ _ _ (turned-quad (is.quads i j (omega arith) below_j))
        (turned-quad (turned-quad (turned-quad (is.quads (i + 1) j (omega arith) below_j)))) end

    -- an inner point
    inner : (i j : ℕ) → i < 2 → j < 2 → IsRegularAt (i + 1) (j + 1)
        → IsOver (64 * m) (next_value level values (grid_at grid (i + 1) (j + 1)))
        (pos 36 *ℤ number (i + 1) (j + 1)
        +ℤ (pos 6 *ℤ ((number (i + 1 + 1) (j + 1) +ℤ number (i + 1) (j + 1 + 1)) +ℤ (number i (j + 1) +ℤ number (i + 1) j))
        +ℤ ((number (i + 1 + 1) (j + 1 + 1) +ℤ number i (j + 1 + 1)) +ℤ (number i j +ℤ number (i + 1 + 1) j))))
    inner i j below_i below_j is_regular =
        vertex-point level well values m g are _ _ _ _ _ _ _ _ _ (grid-star level grid is i j below_i below_j is_regular)

    middle-00 : IsAt grid 0 0 (child 0 0)
    middle-00 = mask-at grid 0 0 (child 0 0) _ is.listed (middle 0 0 (omega arith) (omega arith)) (omega (arith, ints))

    middle-20 : IsAt grid 2 0 (child 2 0)
    middle-20 = mask-at grid 2 0 (child 2 0) _ is.listed (middle 1 0 (omega arith) (omega arith)) (omega (arith, ints))

    middle-02 : IsAt grid 0 2 (child 0 2)
    middle-02 = mask-at grid 0 2 (child 0 2) _ is.listed (middle 0 1 (omega arith) (omega arith)) (omega (arith, ints))

    middle-22 : IsAt grid 2 2 (child 2 2)
    middle-22 = mask-at grid 2 2 (child 2 2) _ is.listed (middle 1 1 (omega arith) (omega arith)) (omega (arith, ints))

    across-10 : IsAt grid 1 0 (child 1 0)
    across-10 = mask-at grid 1 0 (child 1 0) _ is.listed (across 0 0 (omega arith) (omega arith) (inr regular.0)) (omega (arith, ints))

    across-30 : IsAt grid 3 0 (child 3 0)
    across-30 = mask-at grid 3 0 (child 3 0) _ is.listed (across 1 0 (omega arith) (omega arith) (inr regular.1)) (omega (arith, ints))

    across-12 : IsAt grid 1 2 (child 1 2)
    across-12 = mask-at grid 1 2 (child 1 2) _ is.listed (across 0 1 (omega arith) (omega arith) (inl regular.0)) (omega (arith, ints))

    across-32 : IsAt grid 3 2 (child 3 2)
    across-32 = mask-at grid 3 2 (child 3 2) _ is.listed (across 1 1 (omega arith) (omega arith) (inl regular.1)) (omega (arith, ints))

    along-01 : IsAt grid 0 1 (child 0 1)
    along-01 = mask-at grid 0 1 (child 0 1) _ is.listed (along 0 0 (omega arith) (omega arith) (inr regular.0)) (omega (arith, ints))

    along-21 : IsAt grid 2 1 (child 2 1)
    along-21 = mask-at grid 2 1 (child 2 1) _ is.listed (along 1 0 (omega arith) (omega arith) (inl regular.0)) (omega (arith, ints))

    along-03 : IsAt grid 0 3 (child 0 3)
    along-03 = mask-at grid 0 3 (child 0 3) _ is.listed (along 0 1 (omega arith) (omega arith) (inr regular.3)) (omega (arith, ints))

    along-23 : IsAt grid 2 3 (child 2 3)
    along-23 = mask-at grid 2 3 (child 2 3) _ is.listed (along 1 1 (omega arith) (omega arith) (inl regular.3)) (omega (arith, ints))

    inner-11 : IsAt grid 1 1 (child 1 1)
    inner-11 = mask-at grid 1 1 (child 1 1) _ is.listed (inner 0 0 (omega arith) (omega arith) regular.0) (omega (arith, ints))

    inner-31 : IsAt grid 3 1 (child 3 1)
    inner-31 = mask-at grid 3 1 (child 3 1) _ is.listed (inner 1 0 (omega arith) (omega arith) regular.1) (omega (arith, ints))

    inner-13 : IsAt grid 1 3 (child 1 3)
    inner-13 = mask-at grid 1 3 (child 1 3) _ is.listed (inner 0 1 (omega arith) (omega arith) regular.3) (omega (arith, ints))

    inner-33 : IsAt grid 3 3 (child 3 3)
    inner-33 = mask-at grid 3 3 (child 3 3) _ is.listed (inner 1 1 (omega arith) (omega arith) regular.2) (omega (arith, ints))

    abbrev HasRow : ℕ → Type 0
    HasRow j = (i : ℕ) → i < 4 → IsAt grid i j (child i j)

    row : (j : ℕ) → IsAt grid 0 j (child 0 j) → IsAt grid 1 j (child 1 j) → IsAt grid 2 j (child 2 j) → IsAt grid 3 j (child 3 j) → HasRow j
    row j first second third fourth = four-places (λ i. IsAt grid i j (child i j)) (λ i. i) (first, (second, (third, (fourth, tt))))

    rows : (j : ℕ) → j < 4 → HasRow j
    rows =
        four-places HasRow (λ j. j) (
          row 0 middle-00 across-10 middle-20 across-30,
          (row 1 along-01 inner-11 along-21 inner-31, (row 2 middle-02 across-12 middle-22 across-32, (row 3 along-03 inner-13 along-23 inner-33, tt))),
        )

-- each point of the grid about the child of the first corner has the value of the mask with its weights
pub child-grid-value : (level : Level) → IsManifoldWithSharpBoundary level → (grid : List (List ℕ)) → IsGrid level grid → (values : List Value)
    → All (λ x. 0 < x.den) values → (i j : ℕ) → i < 4 → j < 4
    → IsSameValue (point_value (child_values level CatmullClark values) (grid_at (child_grid level grid) i j))
    (value_in level values (tensor_mask (subdivision_weights i) (subdivision_weights j) grid 64))
child-grid-value level well grid is values above_zero i j below_i below_j =
    let have = have-numbers values above_zero in rows level well values have.m have.number have.are grid is j below_j i below_i
