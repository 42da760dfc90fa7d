-- The answer of a sparse refinement as that of a step of a walk.
use Rattle.std.proofs.Common.{◌≡◌, ℕ, suc, ◌<◌, Bool, [], Result, Ok, Err, IfOk, MatchResult, arith, sym, subst}
use Rattle.std.specs.Fn.{Shared}
use Rattle.std.specs.Borrow.{Bor}
use Rattle.std.proofs.lemmas.List.FromFn.{get_or-map-range_with_len}
use Rattle.subdiv_model.specs.Level.{Level}
use Rattle.subdiv_model.specs.Feature as feature
use Rattle.subdiv_model.specs.Mask.{CatmullClark}
use Rattle.subdiv_model.specs.Sparse.{FacePredicate, predicate_of, predicate_to}
use Rattle.level_topology.specs.Topology.{IsTopology}
use Rattle.level_topology.specs.declared.facts.FaceFacts.{FaceFacts}
use Rattle.child_masks.specs.Masks.{CanRefine}
use Rattle.level_walk.specs.declared.fault.Cause.{Cause}
use Rattle.sparse_laws.specs.Selected.{Agrees}
use Rattle.sparse_laws.proofs.NextSparseLemmas.{next-sparse}
use Rattle.sparse_level.specs.View.{SparseTopology, SparseChild, level_of, next_of}
use Rattle.sparse_refiner.specs.Refined.{IsRefined, IsRefusal, SparseOf}
use Rattle.uniform_refiner.specs.declared.fault.RefineFault.{RefineFault}
use Rattle.uniform_refiner.specs.declared.fault.RefineFault.TheVariants.{TooLarge, Chaikin, Memory}
use Rattle.level_walk.specs.UniformStep.{cause_of}
use Rattle.sparse_walk.specs.Step.{AgreesBefore, StandsFor, IsReadyFor, IsSparseCause}
use Rattle.sparse_walk.proofs.MaskLemmas.{kept, by, can-refine}

-- a weaker claim about the value of a result
pub where-made : {T : Type 0} (from : Result T RefineFault) (r : Result T Cause) (P : T → Type 0) (Q : RefineFault → Type 0) (P' : T → Type 0)
    → MatchResult from (λ next. r ≡ Ok next) (λ fault. r ≡ Err (cause_of fault)) → MatchResult from P Q → ((next : T) → P next → P' next) → IfOk r P'
where-made (Ok next) r P Q P' is p made = subst (λ r. IfOk r P') (sym is) (made next p)
where-made (Err fault) r P Q P' is q made = subst (λ r. IfOk r P') (sym is) tt

-- the cause is that of the refusal
pub sparse-cause : (test : feature.FaceFacts → Bool) (t : SparseTopology) (fault : RefineFault) → IsRefusal test t fault → IsSparseCause test t (cause_of fault)
sparse-cause test t (TooLarge count) is = is
sparse-cause test t (Chaikin v) is = record { few = is.few; v = v; overflows = is.overflows }
sparse-cause test t Memory is = tt

-- the predicate of a test agrees with the test on the levels before its depth
pub agrees-to : (test : feature.FaceFacts → Bool) (base : Level) (depth k : ℕ) → k < depth → Agrees test base (predicate_to test base depth) k
agrees-to test base depth k within = get_or-map-range_with_len (predicate_of test base) 0 depth k k [] within (omega arith)

module _ (test : feature.FaceFacts → Bool) (base : Level) (t : SparseTopology) (stands : StandsFor test base t) where
  -- by a predicate that agrees with the test on the level too, it is a sparse level of the definitions
  abbrev pub sparse-by : (predicate : FacePredicate) → AgreesBefore test base predicate (suc t.depth) → SparseOf test t
  sparse-by predicate agrees = record {
    base = base;
    predicate = predicate;
    over = stands.over;
    is = stands.is predicate (λ k h. agrees k (omega (arith, h)));
    agrees = agrees t.depth (omega arith);
  }

  abbrev pub sparse-here : SparseOf test t
  sparse-here = sparse-by (predicate_to test base (suc t.depth)) (λ k h. agrees-to test base (suc t.depth) k h)

  -- the next level is a sparse level of the definitions too
  pub stands-next : (step : SparseChild) → IsRefined test t step → StandsFor test base (next_of step)
  stands-next step refined = record {
    over = stands.over;
    boundary = stands.boundary;
    is = λ predicate agrees.
        let of = sparse-by predicate (λ k h. agrees k (omega (arith, h, refined.next.depth))) in
        next-sparse (kept test t of) (record { by = by test t of; next = level_of (next_of step); is_next = refined.next });
  }

  -- each mask can be had
  pub masks-here : (step : SparseChild) → IsRefined test t step → IsTopology t.topology → CanRefine t.topology step.child CatmullClark
  masks-here step refined is = can-refine test t sparse-here step refined stands.boundary is

-- one level less is left
pub ready-next : {F : Type 0} (call : Shared F (Bor FaceFacts × Unit {0}) Bool) (select : F) (test : feature.FaceFacts → Bool) (t : SparseTopology) (left : ℕ) (step : SparseChild)
    → IsReadyFor call select test t (suc left) → IsRefined test t step → IsReadyFor call select test (next_of step) left
ready-next call select test t left step ready refined = record {
  answers = ready.answers;
  deep = omega (arith, ready.deep, refined.next.depth);
  base = ready.base;
  stands = stands-next test ready.base t ready.stands step refined;
}
