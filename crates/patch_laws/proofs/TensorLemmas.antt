-- Masks over a grid: their sums by rows, and grids that are turned.
use Rattle.std.proofs.Common.{◌≡◌, ℕ, zero, suc, ◌-◌, ◌*◌, ◌<◌, ◌≤◌, ℤ, pos, ◌*ℤ◌, List, [], ◌∷◌, ◌++◌, map, reverse, arith, refl, ap, sym, ◌∙◌, subst}
use Rattle.std.specs.Prelude.{zip}
use Rattle.std.specs.List.{AllByRecursion, flat_map}
use Rattle.subdiv_model.specs.Mask.{SourcePoint, OfPoint, Term, mask_of, weigh}
use Rattle.subdiv_model.specs.Value.{Value, IsSameValue}
use Rattle.subdiv_model.specs.Refined.{mask_value}
use Rattle.subdiv_model.specs.Patch.{spline_weights, row_terms}
use Rattle.number_laws.proofs.WholeNumberLemmas.{pos-assoc}
use Rattle.number_laws.proofs.MultipleLemmas.{product-positive}
use Rattle.mask_laws.proofs.SumLemmas.{sum_ℤ, weighted_sum, IsOver}
use Rattle.limit_laws.proofs.SumExchangeLemmas.{sum-same, sum-times, sum-map, sum-flat}
use Rattle.limit_laws.proofs.NumberLemmas.{same-number}
use Rattle.limit_laws.proofs.CommonOverLemmas.{all-split, all-joined, all-of_map, whole, common, mask-over}
use Rattle.grid_laws.specs.Grids.{grid_at, grid_row, listed_grid, turned_grid, grid_from}
use Rattle.patch_laws.specs.Tensors.{tensor_mask}
use Rattle.subdiv_model.specs.Leaf.{in_quad}
use Rattle.patch_laws.proofs.SplineLemmas.{weights-reversed}
use Rattle.patch_laws.proofs.CombinationLemmas.{combined, listed_weights, combined-same, combined-exchange, combined-reversed}

-- the terms that the mask is made of
abbrev pub tensor_terms : List ℕ → List ℕ → List (List ℕ) → List Term
tensor_terms along across grid = flat_map (row_terms along) (zip across grid)

-- Sums.

-- a row by its weights
abbrev row_sum : (SourcePoint → ℤ) → List ℕ → List ℕ → ℤ
row_sum f along row = sum_ℤ (λ (point : ℕ × ℕ). pos point.0 *ℤ f (OfPoint point.1)) (zip along row)

times-row : (f : SourcePoint → ℤ) (along : List ℕ) (row : ℕ × List ℕ) → weighted_sum f (row_terms along row) ≡ pos row.0 *ℤ row_sum f along row.1
times-row f along row =
    let points = zip along row.1 in
    sum-map (λ t. pos t.weight *ℤ f t.source) (λ (point : ℕ × ℕ). weigh (point.0 * row.0) (OfPoint point.1)) points
    ∙ sum-same (λ (point : ℕ × ℕ). pos (point.0 * row.0) *ℤ f (OfPoint point.1)) (λ point. pos row.0 *ℤ (pos point.0 *ℤ f (OfPoint point.1)))
    (λ point. ap (λ n. pos n *ℤ f (OfPoint point.1)) (other_order point.0 row.0) ∙ sym (pos-assoc row.0 point.0 (f (OfPoint point.1)))) points
    ∙ sum-times row.0 (λ (point : ℕ × ℕ). pos point.0 *ℤ f (OfPoint point.1)) points
  where
    other_order : (a b : ℕ) → a * b ≡ b * a
    other_order a b = omega arith

rows-sum : (f : SourcePoint → ℤ) (along across : List ℕ) (grid : List (List ℕ))
    → weighted_sum f (tensor_terms along across grid) ≡ sum_ℤ (λ (row : ℕ × List ℕ). pos row.0 *ℤ row_sum f along row.1) (zip across grid)
rows-sum f along across grid =
    sum-flat (λ t. pos t.weight *ℤ f t.source) (row_terms along) (zip across grid)
    ∙ sum-same (λ row. weighted_sum f (row_terms along row)) (λ row. pos row.0 *ℤ row_sum f along row.1) (times-row f along) (zip across grid)

-- the number of a place of the grid, by the numbers of its points
abbrev pub number_at : (SourcePoint → ℤ) → List (List ℕ) → ℕ → ℕ → ℤ
number_at f grid i j = f (OfPoint (grid_at grid i j))

-- the sum along the rows and across them
abbrev pub tensor_sum : List ℕ → List ℕ → (ℕ → ℕ → ℤ) → ℤ
tensor_sum along across x = combined across (λ j. combined along (λ i. x i j))

pub tensor-sum : (f : SourcePoint → ℤ) (along across : List ℕ) (grid : List (List ℕ))
    → along ≡ listed_weights along → across ≡ listed_weights across → grid ≡ listed_grid grid
    → weighted_sum f (tensor_terms along across grid) ≡ tensor_sum along across (number_at f grid)
tensor-sum f along across grid first second listed =
    (λ k. weighted_sum f (tensor_terms (first k) (second k) (listed k)))
    ∙ rows-sum f (listed_weights along) (listed_weights across) (listed_grid grid)
    ∙ (λ k. tensor_sum (sym first k) (sym second k) (number_at f grid))

-- A property of each point of the grid is one of each source of the terms.

abbrev pub AllInGrid : (SourcePoint → Type 0) → List (List ℕ) → Type 0
AllInGrid P grid = AllByRecursion (λ row. AllByRecursion (λ v. P (OfPoint v)) row) grid

module _ (P : SourcePoint → Type 0) where
  row-all : (b : ℕ) (along row : List ℕ) → AllByRecursion (λ v. P (OfPoint v)) row → AllByRecursion (λ t. P t.source) (row_terms along (b, row))
  row-all b [] row h = tt
  row-all b (a ∷ along) [] h = tt
  row-all b (a ∷ along) (v ∷ row) h = (h.0, row-all b along row h.1)

  pub tensor-all : (along across : List ℕ) (grid : List (List ℕ)) → AllInGrid P grid → AllByRecursion (λ t. P t.source) (tensor_terms along across grid)
  tensor-all along [] grid h = tt
  tensor-all along (b ∷ across) [] h = tt
  tensor-all along (b ∷ across) (row ∷ grid) h =
      all-joined (λ t. P t.source) (row_terms along (b, row)) (tensor_terms along across grid) (row-all b along row h.0) (tensor-all along across grid h.1)

-- a property of four items holds for each
pub four-places : {X : Type 0} (P : X → Type 0) (item : ℕ → X) → AllByRecursion P (item 0 ∷ item 1 ∷ item 2 ∷ item 3 ∷ []) → (i : ℕ) → i < 4 → P (item i)
four-places P item h zero below = h.0
four-places P item h (suc zero) below = h.1.0
four-places P item h (suc (suc zero)) below = h.1.1.0
four-places P item h (suc (suc (suc zero))) below = h.1.1.1.0
four-places P item h (suc (suc (suc (suc i)))) below = absurd (omega arith)

-- a property of the grid holds for each place
pub each-place : (P : SourcePoint → Type 0) (grid : List (List ℕ)) → grid ≡ listed_grid grid → AllInGrid P grid → (i j : ℕ) → i < 4 → j < 4
    → P (OfPoint (grid_at grid i j))
each-place P grid listed h i j below_i below_j =
    let rows = subst (AllInGrid P) listed h in
    four-places (λ v. P (OfPoint v)) (λ k. grid_at grid k j)
    (four-places (λ (row : List ℕ). AllByRecursion (λ v. P (OfPoint v)) row) (grid_row grid) rows j below_j) i below_i

-- Values.

-- a denominator above 0 over which the points of the grid are whole
pub record IsGridOver (value : SourcePoint → Value) (grid : List (List ℕ)) : Type 0 where
  pub m : ℕ
  pub some : 0 < m
  pub each : AllInGrid (λ s. IsOver m (value s) (whole value m s)) grid

pub grid-over : (value : SourcePoint → Value) → ((s : SourcePoint) → 0 < (value s).den) → (grid : List (List ℕ)) → IsGridOver value grid
grid-over value positive grid =
    let whole_over = common value positive (flat_map (map OfPoint) grid) in
    record { m = whole_over.m; some = whole_over.some; each = rows (λ s. IsOver whole_over.m (value s) (whole value whole_over.m s)) grid whole_over.each }
  where
    rows : (P : SourcePoint → Type 0) (some : List (List ℕ)) → AllByRecursion P (flat_map (map OfPoint) some) → AllInGrid P some
    rows P [] h = tt
    rows P (row ∷ some) h =
        let parts = all-split P (map OfPoint row) (flat_map (map OfPoint) some) h in (all-of_map P OfPoint row parts.0, rows P some parts.1)

-- the value of a mask over a multiple, where each point of the grid is whole over m
pub tensor-over : (q m : ℕ) (value : SourcePoint → Value) (f : SourcePoint → ℤ) (along across : List ℕ) (grid : List (List ℕ))
    → along ≡ listed_weights along → across ≡ listed_weights across → grid ≡ listed_grid grid → AllInGrid (λ s. IsOver m (value s) (f s)) grid
    → IsOver (q * m) (mask_value value (tensor_mask along across grid q)) (tensor_sum along across (number_at f grid))
tensor-over q m value f along across grid first second listed each =
    let x = mask_value value (tensor_mask along across grid q) in
    mask-over q m value f (tensor_terms along across grid) (tensor-all (λ s. IsOver m (value s) (f s)) along across grid each)
    ∙ ap (λ n. pos x.den *ℤ n) (tensor-sum f along across grid first second listed)

-- terms with one sum, whatever the numbers of the sources, make masks with one value
pub same-sums : (value : SourcePoint → Value) → ((s : SourcePoint) → 0 < (value s).den) → (first second : List Term) (q : ℕ) → 0 < q
    → ((f : SourcePoint → ℤ) → weighted_sum f first ≡ weighted_sum f second)
    → IsSameValue (mask_value value (mask_of first q)) (mask_value value (mask_of second q))
same-sums value positive first second q some same =
    let source : Term → SourcePoint = λ t. t.source in
    let over = common value positive (map source (first ++ second)) in
    let P : SourcePoint → Type 0 = λ s. IsOver over.m (value s) (whole value over.m s) in
    let each = all-split (λ t. P (source t)) first second (all-of_map P source (first ++ second) over.each) in
    let f = whole value over.m in
    let x = mask_value value (mask_of first q) in
    same-number (q * over.m) x (mask_value value (mask_of second q)) (weighted_sum f second) (product-positive q over.m some over.some)
    (mask-over q over.m value f first each.0 ∙ ap (λ n. pos x.den *ℤ n) (same f))
    (mask-over q over.m value f second each.1)

-- Turned grids.

turned-sum : (along across : List ℕ) (x : ℕ → ℕ → ℤ) → across ≡ listed_weights across
    → tensor_sum along across (λ i j. x (3 - j) i) ≡ tensor_sum (reverse across) along x
turned-sum along across x listed =
    combined-exchange along across (λ i j. x (3 - j) i)
    ∙ combined-same along (λ i. combined across (λ j. x (3 - j) i)) (λ i. combined (reverse across) (λ j. x j i))
    (λ i. ap (λ w. combined w (λ j. x (3 - j) i)) listed ∙ combined-reversed across (λ j. x j i) listed)

reversed-listed : (weights : List ℕ) → weights ≡ listed_weights weights → reverse weights ≡ listed_weights (reverse weights)
reversed-listed weights h = ap reverse h ∙ sym (ap (λ w. listed_weights (reverse w)) h)

-- over a turned grid the weights across are those along, from the other side
pub turned-terms : (f : SourcePoint → ℤ) (along across : List ℕ) (grid : List (List ℕ))
    → along ≡ listed_weights along → across ≡ listed_weights across → grid ≡ listed_grid grid
    → weighted_sum f (tensor_terms along across (turned_grid grid)) ≡ weighted_sum f (tensor_terms (reverse across) along grid)
turned-terms f along across grid first second listed =
    tensor-sum f along across (turned_grid grid) first second refl
    ∙ places
    ∙ turned-sum along across (number_at f grid) second
    ∙ sym (tensor-sum f (reverse across) along grid (reversed-listed across second) first listed)
  where
    places : tensor_sum along across (number_at f (turned_grid grid)) ≡ tensor_sum along across (λ i j. number_at f grid (3 - j) i)
    places = (λ k. tensor_sum (first k) (second k) (number_at f (turned_grid grid))) ∙ (λ k. tensor_sum (sym first k) (sym second k) (λ i j. number_at f grid (3 - j) i))

-- Places of a patch of m steps, from each corner.

abbrev pub place_terms : ℕ → ℕ → ℕ → List (List ℕ) → List Term
place_terms steps p q grid = tensor_terms (spline_weights steps p) (spline_weights steps q) grid

module _ (f : SourcePoint → ℤ) (steps : ℕ) where
  pub next-corner : (p q : ℕ) (grid : List (List ℕ)) → q ≤ steps → grid ≡ listed_grid grid
      → weighted_sum f (place_terms steps p q (turned_grid grid)) ≡ weighted_sum f (place_terms steps (steps - q) p grid)
  next-corner p q grid below listed =
      turned-terms f (spline_weights steps p) (spline_weights steps q) grid refl refl listed
      ∙ ap (λ w. weighted_sum f (tensor_terms w (spline_weights steps p) grid)) (sym (weights-reversed steps q below))

  pub second-corner : (p q : ℕ) (grid : List (List ℕ)) → p ≤ steps → q ≤ steps → grid ≡ listed_grid grid
      → weighted_sum f (place_terms steps p q (turned_grid (turned_grid grid))) ≡ weighted_sum f (place_terms steps (steps - p) (steps - q) grid)
  second-corner p q grid below_p below_q listed =
      next-corner p q (turned_grid grid) below_q refl ∙ next-corner (steps - q) p grid below_p listed

  pub third-corner : (p q : ℕ) (grid : List (List ℕ)) → p ≤ steps → q ≤ steps → grid ≡ listed_grid grid
      → weighted_sum f (place_terms steps p q (turned_grid (turned_grid (turned_grid grid)))) ≡ weighted_sum f (place_terms steps q (steps - p) grid)
  third-corner p q grid below_p below_q listed =
      let back : steps - (steps - q) ≡ q = omega arith in
      second-corner p q (turned_grid grid) below_p below_q refl
      ∙ next-corner (steps - p) (steps - q) grid (omega arith) listed
      ∙ ap (λ n. weighted_sum f (place_terms steps n (steps - p) grid)) back

-- the places of the child of a corner are places of its parent
pub from-corner : (f : SourcePoint → ℤ) (m c p q : ℕ) (grid : List (List ℕ)) → c < 4 → p ≤ m → q ≤ m → grid ≡ listed_grid grid
    → weighted_sum f (place_terms (2 * m) p q (grid_from c grid))
    ≡ weighted_sum f (place_terms (2 * m) (in_quad m c (p, q)).0 (in_quad m c (p, q)).1 grid)
from-corner f m zero p q grid below below_p below_q listed = refl
from-corner f m (suc zero) p q grid below below_p below_q listed = next-corner f (2 * m) p q grid (omega arith) listed
from-corner f m (suc (suc zero)) p q grid below below_p below_q listed = second-corner f (2 * m) p q grid (omega arith) (omega arith) listed
from-corner f m (suc (suc (suc zero))) p q grid below below_p below_q listed = third-corner f (2 * m) p q grid (omega arith) (omega arith) listed
from-corner f m (suc (suc (suc (suc c)))) p q grid below below_p below_q listed = absurd (omega arith)

-- a turned grid has four rows of four
pub from-listed : (c : ℕ) (grid : List (List ℕ)) → grid ≡ listed_grid grid → grid_from c grid ≡ listed_grid (grid_from c grid)
from-listed zero grid listed = listed
from-listed (suc c) grid listed = refl
