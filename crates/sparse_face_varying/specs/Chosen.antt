-- The faces that numbers choose, and the lists of numbers of selected faces.
use Rattle.std.specs.Prelude.{ℕ, ◌≡◌, ◌≤◌, Bool, false, List, length, map, get_or, Option, Some, None}
use Rattle.std.specs.List.{All, range_with_len}
use Rattle.std.specs.List.Sorted.{IsStrictlyIncreasing}
use Rattle.subdiv_model.specs.Level.{Level}
use Rattle.subdiv_model.specs.Feature.{FaceFacts}
use Rattle.subdiv_model.specs.Sparse.{FacePredicate}
use Rattle.subdiv_model.specs.SparseText.{written_level}
use Rattle.sparse_laws.specs.Selected.{is_selected_in}
use Rattle.sparse_level.specs.View.{SparseTopology, SparseChild, level_of}
use Rattle.sparse_level.specs.declared.values.SparseValues.{SparseValues}
use Rattle.sparse_texture_laws.specs.Selection.{is_chosen, is_chosen_in}

-- a face is chosen by its number; without numbers none is
abbrev pub chosen_by : Option (List ℕ) → FaceFacts → Bool
chosen_by None facts = false
chosen_by (Some numbers) facts = is_chosen numbers facts

-- a face is chosen by its level and number; without numbers none is
abbrev pub chosen_in : Option (List (List ℕ)) → FaceFacts → Bool
chosen_in None facts = false
chosen_in (Some numbers) facts = is_chosen_in numbers facts

-- the step marks exactly the faces that the test selects
abbrev pub AreMarkedBy : (FaceFacts → Bool) → SparseTopology → SparseChild → Type 0
AreMarkedBy test t step = step.selected ≡ map (is_selected_in test (level_of t)) (range_with_len 0 (length t.topology.level.polygons))

-- the numbers of each level ascend
abbrev pub AreAscending : List (List ℕ) → Type 0
AreAscending numbers = All IsStrictlyIncreasing numbers

-- each level up to a depth is written as the definitions say
abbrev pub AreWritten : {P : Type 0} → List (SparseValues P) → Level → FacePredicate → ℕ → Type 0
AreWritten {P} levels base predicate depth = (k : ℕ) (d : SparseValues P) → k ≤ depth → (get_or levels k d).faces ≡ written_level base predicate k
