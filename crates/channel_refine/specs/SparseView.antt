-- The results of this crate as records of the definitions.
use Rattle.std.specs.Prelude.{ℕ, ℤ, Bool, List, map}
use Rattle.subdiv_model.specs.Feature.{FaceFacts}
use Rattle.subdiv_model.specs.Channel.{Channel}
use Rattle.subdiv_model.specs.Sparse.{FacePredicate}
use Rattle.primvar_refine.specs.View.{rows_of}
use Rattle.channel_refine.specs.Evaluated.{control_rows}
use Rattle.channel_refine.specs.SparseRefined.{SparseRows, AreSparseLevels, predicate_of}
use Rattle.sparse_level.specs.declared.values.SparseValues.{SparseValues}

-- a sparse level with values as one with rows
abbrev pub sparse_rows : {P : Type 0} → (P → List ℤ) → SparseValues P → SparseRows
sparse_rows numbers level = record { written = level.faces; rows = rows_of numbers level.values.items }

-- sparse levels with values as levels with rows
abbrev pub all_rows : {P : Type 0} → (P → List ℤ) → List (SparseValues P) → List SparseRows
all_rows numbers levels = map (sparse_rows numbers) levels

-- the values are those of the sparse levels up to a depth
abbrev pub AreValuesTo : {P : Type 0} → (P → List ℤ) → Channel → FacePredicate → List P → ℕ → List (SparseValues P) → Type 0
AreValuesTo numbers channel predicate controls depth levels = AreSparseLevels channel predicate (control_rows (map numbers controls)) depth (all_rows numbers levels)

-- the values are those of the sparse levels for the predicate of a test
abbrev pub AreSparseValuesTo : {P : Type 0} → (P → List ℤ) → (FaceFacts → Bool) → Channel → List P → ℕ → List (SparseValues P) → Type 0
AreSparseValuesTo numbers test channel controls depth levels = AreValuesTo numbers channel (predicate_of test channel depth) controls depth levels
