-- The denominators of good values.
use Rattle.std.proofs.Common.{◌≡◌, ℕ, ◌<◌, ◌≤◌, ℤ, List, length, sym, ◌∙◌, subst}
use Rattle.std.specs.List.{All}
use Rattle.std.proofs.lemmas.List.Elements.{All-map}
use Rattle.std.proofs.lemmas.List.{length-map}
use Rattle.subdiv_model.specs.Level.{Level}
use Rattle.subdiv_model.specs.Channel.{number_bound}
use Rattle.child_masks.specs.Found.{ArePointDenominators}
use Rattle.ratio128.specs.declared.valued.Valued.{Valued}
use Rattle.primvar_refine.specs.Rows.{Row, dens_of, AreGood}
use Rattle.primvar_refine.specs.View.{row_of, rows_of}

-- the denominators of good rows are above 0
pub good-positive : (rows : List Row) → AreGood rows → All (λ den. 0 < den) (dens_of rows)
good-positive rows good = All-map (λ den. 0 < den) (λ (row : Row). row.den) rows good.positive

-- the denominators of good values are above 0 and within their bound
pub good-dens : {P : Type 0} (numbers : P → List ℤ) (values : List (Valued P)) (level : Level) (dens : List ℕ) → AreGood (rows_of numbers values)
    → length values ≡ level.point_count → dens ≡ dens_of (rows_of numbers values) → ArePointDenominators level dens
good-dens numbers values level dens good count e = subst (ArePointDenominators level) (sym e) (record {
  count = length-map (rows_of numbers values) (λ (row : Row). row.den) ∙ length-map values (row_of numbers) ∙ count;
  positive = good-positive (rows_of numbers values) good;
  short = All-map (λ den. den ≤ number_bound) (λ (row : Row). row.den) (rows_of numbers values) good.short;
})
