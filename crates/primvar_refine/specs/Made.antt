-- Rows that have the values of sources and masks.
use Rattle.std.specs.Prelude.{ℕ, ◌≡◌, ◌≢◌, ◌+◌, ◌*◌, ◌<◌, ◌≤◌, false, pos, List, [], length, get_or}
use Rattle.std.specs.List.{All}
use Rattle.subdiv_model.specs.Level.{Level}
use Rattle.subdiv_model.specs.Value.{Value}
use Rattle.subdiv_model.specs.Mask.{Scheme, SourcePoint, Term, Mask, face_mask, edge_mask, vertex_mask}
use Rattle.subdiv_model.specs.Refined.{mask_value, source_value, mask_denominator, source_denominator}
use Rattle.number_width.specs.declared.width.Width.{Width}
use Rattle.mask_laws.proofs.SumLemmas.{IsOver}
use Rattle.ratio128.specs.Numbers.{greatest_amount}
use Rattle.level_topology.specs.Topology.{edge_at}
use Rattle.level_topology.specs.Child.{PointOrigin, FromVertex, FromFace, FromEdge}
use Rattle.primvar_refine.specs.Rows.{Row, row_at, dens_of, StandFor, AreWithin, AreGood, least_bound}
use Rattle.child_masks.specs.Masks.{mask_from, origin_at, is_from_face}
use Rattle.primvar_refine.specs.Sums.{source_row, HasRow}
use Rattle.primvar_refine.specs.Width.{sum_bound}

-- Over this denominator the row has the values that follow from those of the level. If no value of the level exceeds a whole
-- number in amount, none of the row does.
pub record HasValues (rows : List Row) (value : List Value → Value) (den : ℕ) (row : Row) : Type 0 where
  pub den_is : row.den ≡ den
  pub over : (column : ℕ) (values : List Value) → StandFor rows column values → IsOver row.den (value values) (get_or row.numbers column (pos 0))
  pub within : (most : ℕ) → AreWithin most rows → greatest_amount row.numbers ≤ row.den * most
  pub alike : length row.numbers ≡ length (row_at rows 0).numbers

-- the row of a source of the level, and that of a mask over its sources
abbrev pub IsRowOf : Level → List Row → SourcePoint → Row → Type 0
IsRowOf level rows source row = HasValues rows (λ values. source_value level values source) (source_denominator level (dens_of rows) source) row

abbrev pub IsMade : Level → List Row → Mask → Row → Type 0
IsMade level rows mask row =
    HasValues rows (λ values. mask_value (source_value level values) mask) (mask_denominator (source_denominator level (dens_of rows)) mask) row

-- each source of the terms has a row of its own
pub record AreHeld (level : Level) (rows made : List Row) (places : List ℕ) (terms : List Term) : Type 0 where
  pub there : All (λ t. HasRow rows made places t.source) terms
  pub held : All (λ t. IsRowOf level rows t.source (source_row rows made places t.source)) terms
  pub positive : All (λ t. 0 < (source_row rows made places t.source).den) terms

-- a mask can be summed: its common denominator, and all numbers over it, are within the bound of sums of a width
pub record CanMake (width : Width) (level : Level) (rows made : List Row) (places : List ℕ) (mask : Mask) (den : ℕ) : Type 0 where
  pub good : AreGood rows
  pub den_is : den ≡ mask_denominator (source_denominator level (dens_of rows)) mask
  pub short : den ≤ sum_bound width
  pub kept : den * least_bound rows ≤ sum_bound width
  pub sources : AreHeld level rows made places mask.terms

-- one row gets new numbers over its denominator, and all others are unchanged
pub record IsPut (before : List Row) (p : ℕ) (after : List Row) : Type 0 where
  pub count : length after ≡ length before
  pub den : (row_at after p).den ≡ (row_at before p).den
  pub others : (q : ℕ) → q ≢ p → row_at after q ≡ row_at before q

-- the faces can be summed over these denominators, with sums of a width
abbrev pub CanMakeFaces : Width → Level → List Row → List PointOrigin → List Row → Type 0
CanMakeFaces width level rows origins made =
    (p f : ℕ) → p < length origins → origin_at origins p ≡ FromFace f → CanMake width level rows [] [] (face_mask level f) (row_at made p).den

-- the hidden faces can be summed over the denominators from a place on, with sums of a width
abbrev pub CanMakeHidden : Width → Level → List Row → ℕ → List ℕ → List Row → Type 0
CanMakeHidden width level rows first hidden made =
    (i : ℕ) → i < length hidden → CanMake width level rows [] [] (face_mask level (get_or hidden i 0)) (row_at made (first + i)).den

-- the mask of this point can be summed over its denominator, with sums of a width
abbrev pub CanMakePoint : Width → Level → Scheme → List Row → List PointOrigin → List ℕ → List Row → ℕ → Type 0
CanMakePoint width level scheme rows origins places made p =
    CanMake width level rows made places (mask_from level scheme (origin_at origins p)) (row_at made p).den

-- the point has its value, unless it comes from a face
abbrev pub IsOtherMade : Level → Scheme → List Row → List PointOrigin → List Row → ℕ → Type 0
IsOtherMade level scheme rows origins made p =
    is_from_face (origin_at origins p) ≡ false → IsMade level rows (mask_from level scheme (origin_at origins p)) (row_at made p)

-- of the first `count` points, those that come from a face have their values
pub record AreFacesMade (level : Level) (rows : List Row) (origins : List PointOrigin) (count : ℕ) (made : List Row) : Type 0 where
  pub each : (p f : ℕ) → p < count → p < length origins → origin_at origins p ≡ FromFace f → IsMade level rows (face_mask level f) (row_at made p)

-- all points that come from a face have their values
abbrev pub AreAllFacesMade : Level → List Row → List PointOrigin → List Row → Type 0
AreAllFacesMade level rows origins made = AreFacesMade level rows origins (length origins) made

-- of the first `count` points, those that do not come from a face have their values too
pub record AreOthersMade (level : Level) (scheme : Scheme) (rows : List Row) (origins : List PointOrigin) (count : ℕ) (made : List Row) : Type 0 where
  pub each : (p : ℕ) → p < count → p < length origins → is_from_face (origin_at origins p) ≡ false
      → IsMade level rows (mask_from level scheme (origin_at origins p)) (row_at made p)

-- the first `count` hidden faces have their values, from a place on
pub record AreHiddenMade (level : Level) (rows : List Row) (first : ℕ) (hidden : List ℕ) (count : ℕ) (made : List Row) : Type 0 where
  pub each : (i : ℕ) → i < count → i < length hidden → IsMade level rows (face_mask level (get_or hidden i 0)) (row_at made (first + i))

-- the denominators are unchanged
pub record KeepDens (before after : List Row) : Type 0 where
  pub count : length after ≡ length before
  pub dens : (p : ℕ) → (row_at after p).den ≡ (row_at before p).den

-- the number of terms of a point that comes from a face, and of one that does not
abbrev pub terms_of_face : Level → PointOrigin → ℕ
terms_of_face level (FromVertex v) = 0
terms_of_face level (FromFace f) = length (face_mask level f).terms
terms_of_face level (FromEdge e) = 0

abbrev pub terms_of_other : Level → Scheme → PointOrigin → ℕ
terms_of_other level scheme (FromVertex v) = length (vertex_mask level scheme v).terms
terms_of_other level scheme (FromFace f) = 0
terms_of_other level scheme (FromEdge e) = length (edge_mask level scheme (edge_at level.polygons e)).terms

-- the number of terms of a hidden face
abbrev pub terms_of_hidden : Level → ℕ → ℕ
terms_of_hidden level f = length (face_mask level f).terms
