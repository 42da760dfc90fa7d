-- An answer: a text, then perhaps a refusal.
-- Source: Drillolive.
use Rattle.std.specs.Prelude.{ℕ, List, [], ◌++◌, Option, Some, None}
use Rattle.subdiv_model.specs.Fault.{Fault}

-- The text comes before the refusal, if there is one.
pub record Answer : Type 0 where
  pub text : List ℕ
  pub refusal : Option Fault

-- an answer of a refusal only
abbrev pub refused : Fault → Answer
refused fault = record { text = []; refusal = Some fault }

-- an answer of a text only, or of a fault only if there is one
abbrev pub answer_unless : Option Fault → List ℕ → Answer
answer_unless None text = record { text = text; refusal = None }
answer_unless (Some fault) text = refused fault

-- a text before an answer
abbrev pub after_text : List ℕ → Answer → Answer
after_text text next = record { text = text ++ next.text; refusal = next.refusal }

-- one answer, given as its parts, then the next, unless the first ends with a refusal
abbrev pub answer_unless_refused : Option Fault → List ℕ → Answer → Answer
answer_unless_refused None text next = after_text text next
answer_unless_refused (Some fault) text next = record { text = text; refusal = Some fault }

-- one answer, then the next, unless the first ends with a refusal
abbrev pub then_answer : Answer → Answer → Answer
then_answer first next = answer_unless_refused first.refusal first.text next
