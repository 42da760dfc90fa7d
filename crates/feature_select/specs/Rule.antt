-- The condition that a rule puts on its closure.
use Rattle.std.specs.Prelude.{Bool, ◌&&◌, ◌≡◌, ◌≤◌}
use Rattle.std.specs.Fn.{Shared, FnReturnsAt}
use Rattle.std.specs.Borrow.{Bor}
use Rattle.subdiv_model.specs.Feature as feature
use Rattle.level_topology.specs.declared.facts.FaceFacts.{FaceFacts}
use Rattle.level_topology.specs.View.{facts_of_code}

-- A face is selected if it passes the test and is not a hole.
abbrev pub selects : (feature.FaceFacts → Bool) → feature.FaceFacts → Bool
selects meets facts = meets facts && feature.is_selectable facts

-- The closure may be called on each face with at least three corners, and returns whether the face is selected.
pub record AnswersTest {F : Type 0} (call : Shared F (Bor FaceFacts × Unit {0}) Bool) (select : F) (meets : feature.FaceFacts → Bool) : Type 0 where
  pub may_ask : (shown : Bor FaceFacts) → 3 ≤ shown.now.size → call.pre select (shown, tt)
  pub answers : (facts : FaceFacts) (answer : Bool) → 3 ≤ facts.size → FnReturnsAt call select facts answer → answer ≡ selects meets (facts_of_code facts)
