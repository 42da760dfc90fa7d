-- Equal controls, levels around the features, and the faces that these levels select.
use Rattle.std.proofs.Common.{◌≡◌, ℕ, zero, suc, ◌*◌, ◌≤◌, List, ◌∷◌, length, map, replicate, Result, Ok, Err, MatchResult, Vec, Global, arith, refl, ap, sym, subst, ◌∙◌}
use Rattle.std.specs.List.{All}
use Rattle.std.specs.Result.{IfOk}
use Rattle.std.proofs.lemmas.List.{length-replicate}
use Rattle.std.proofs.lemmas.List.Elements.{All-replicate}
use Rattle.ratio128.specs.Numbers.{greatest_amount}
use Rattle.ratio128.specs.declared.point.Point3.{Point3}
use Rattle.subdiv_model.specs.Level.{Level}
use Rattle.subdiv_model.specs.Feature.{is_feature}
use Rattle.subdiv_model.specs.Channel.{Channel}
use Rattle.subdiv_model.specs.Sparse.{predicate_to}
use Rattle.subdiv_model.specs.SparseTexture.{selected_to}
use Rattle.primvar_refine.specs.Rows.{Row, row_at}
use Rattle.channel_refine.specs.Evaluated.{control_rows}
use Rattle.channel_refine.specs.Refined.{AreControls}
use Rattle.sparse_level.specs.declared.values.SparseValues.{SparseValues}
use Rattle.level_walk.specs.declared.fault.WalkFault.{WalkFault}
use Rattle.channel_refine.specs.SparseRefined.{AreSparseTo, IsSparseFaultTo}
use Rattle.channel_refine.specs.SparseView.{sparse_rows}
use Rattle.sparse_texture_laws.specs.Selection.{IsSelection}
use Rattle.sparse_texture_laws.proofs.SelectionLemmas.{cut-selection}
use Rattle.sparse_face_varying.proofs.WrittenLemmas.{levels-count, levels-written}
use Rattle.channel_tests.specs.Sparse.{AreFeatureLevels, numbers_of}

-- the row of a control
abbrev row_by : Point3 → Row
row_by p = record { numbers = numbers_of p; den = 1 }

rows-alike : (p : Point3) (count : ℕ) → control_rows (map numbers_of (replicate count p)) ≡ replicate count (row_by p)
rows-alike p zero = refl
rows-alike p (suc count) = ap (λ rows. row_by p ∷ rows) (rows-alike p count)

module _ (p : Point3) (channel : Channel) (few : greatest_amount (numbers_of p) ≤ channel.greatest) where
  rows-controls : (count : ℕ) → count ≡ channel.base.point_count → AreControls channel (replicate count (row_by p))
  rows-controls count same =
      let n = length (row_at (replicate count (row_by p)) 0).numbers in
      record {
        each = length-replicate count (row_by p) ∙ same;
        whole = All-replicate (λ (row : Row). row.den ≡ 1) count (row_by p) refl;
        within = All-replicate (λ (row : Row). greatest_amount row.numbers ≤ row.den * channel.greatest) count (row_by p) (omega (arith, few));
        alike = alike count;
      }
    where
      alike : (count : ℕ) → All (λ (row : Row). length row.numbers ≡ length (row_at (replicate count (row_by p)) 0).numbers) (replicate count (row_by p))
      alike zero = λ k d lt. absurd (omega (arith, lt))
      alike (suc count) = All-replicate (λ (row : Row). length row.numbers ≡ 3) (suc count) (row_by p) refl

  -- for each point the same control
  pub same-controls : (count : ℕ) → count ≡ channel.base.point_count → AreControls channel (control_rows (map numbers_of (replicate count p)))
  same-controls count same = subst (AreControls channel) (sym (rows-alike p count)) (rows-controls count same)

pub feature-levels : (base : Channel) (controls : List Row) (depth : ℕ) (levels : List (SparseValues Point3)) → AreSparseTo is_feature base controls depth (map (sparse_rows numbers_of) levels)
    → AreFeatureLevels base.base depth levels
feature-levels base controls depth levels are = record {
  count = levels-count numbers_of base (predicate_to is_feature base.base depth) controls depth levels are;
  written = levels-written numbers_of base (predicate_to is_feature base.base depth) controls depth levels are;
}

pub feature-result : (base : Channel) (controls : List Row) (depth : ℕ) (result : Result (Vec (SparseValues Point3) Global) WalkFault)
    → MatchResult result (λ levels. AreSparseTo is_feature base controls depth (map (sparse_rows numbers_of) levels.items)) (λ fault. IsSparseFaultTo is_feature base depth fault)
    → IfOk result (λ levels. AreFeatureLevels base.base depth levels.items)
feature-result base controls depth (Ok levels) are = feature-levels base controls depth levels.items are
feature-result base controls depth (Err fault) are = tt

-- the faces that a level selects are a selection of the level
pub own-selection : (base : Level) (depth : ℕ) → IsSelection base depth (selected_to base (predicate_to is_feature base depth) depth)
own-selection base depth = cut-selection base base (record { sizes = refl; holes = refl }) (predicate_to is_feature base depth) depth
