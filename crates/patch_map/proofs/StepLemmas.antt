-- A step of the definitions makes the map of the next depth.
use Rattle.std.proofs.Common.{◌≡◌, ℕ, Bool, List, map, Result, Ok, Err, IfOk, ap, sym, ◌∙◌, subst}
use Rattle.subdiv_model.specs.Polygons.{is_among}
use Rattle.subdiv_model.specs.Level.{Level}
use Rattle.subdiv_model.specs.Sparse.{FacePredicate, selected, present}
use Rattle.sparse_level.specs.View.{SparseTopology, SparseChild}
use Rattle.patch_map.specs.Map.{LevelMap, grown}
use Rattle.patch_map.specs.Is.{IsMapOf, IsStepOf}
use Rattle.patch_map.proofs.MapLemmas.{map-grown}

module _ (base : Level) (predicate : FacePredicate) (sparse : SparseTopology) (step : SparseChild) (before : LevelMap) (is : IsMapOf base predicate sparse.depth before) (by : IsStepOf base predicate sparse step) where
  pub step-mapped : IsMapOf base predicate step.depth (grown before step.selected step.depth step.numbers)
  step-mapped =
      subst (λ n. IsMapOf base predicate n (grown before step.selected step.depth step.numbers)) (sym by.depth)
      (map-grown base predicate sparse.depth before is step.selected (by.selected ∙ ap (map (is_among (selected base predicate sparse.depth))) by.from.numbers)
      step.numbers (by.next.numbers ∙ ap (present base predicate) by.depth) step.depth by.depth)

  pub if-mapped : {T E : Type 0} (marks : List Bool) (depth : ℕ) (numbers : List ℕ) → marks ≡ step.selected → depth ≡ step.depth → numbers ≡ step.numbers
      → (result : Result T E) (after : LevelMap) → IfOk result (λ _. after ≡ grown before marks depth numbers) → IfOk result (λ _. IsMapOf base predicate step.depth after)
  if-mapped marks depth numbers e f g (Ok value) after same =
      subst (IsMapOf base predicate step.depth) (sym (same ∙ ap (λ ms. grown before ms depth numbers) e ∙ ap (λ n. grown before step.selected n numbers) f ∙ ap (grown before step.selected step.depth) g)) step-mapped
  if-mapped marks depth numbers e f g (Err fault) after same = same
