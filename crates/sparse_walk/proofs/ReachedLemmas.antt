-- The facts of the level after k steps over sparse levels, for any data and any visitor.
use Rattle.std.proofs.Common.{◌≡◌, ℕ, zero, suc, ◌+◌, ◌<◌, Bool, true, false, nat_lt, List, [], ◌∷◌, length, map, arith, refl, ap, sym, ◌∙◌, subst}
use Rattle.std.specs.List.{filter, range_with_len}
use Rattle.std.proofs.lemmas.Bool.Decides.{nat_tests}
use Rattle.std.proofs.lemmas.List.FromFn.{length-map-range_with_len}
use Rattle.std.proofs.Math.ListN.{get_or-eq_default}
use Rattle.subdiv_model.specs.Lists.{places_from}
use Rattle.subdiv_model.specs.Level.{Level}
use Rattle.subdiv_model.specs.Feature.{FaceFacts}
use Rattle.subdiv_model.specs.Sparse.{FacePredicate, predicate_of, predicate_to}
use Rattle.subdiv_model.specs.SparseFaults.{present_faces}
use Rattle.subdiv_model.specs.SparseText.{written_level}
use Rattle.subdiv_model.specs.Channel.{Channel, Sharpnesses}
use Rattle.level_topology.specs.Topology.{Topology}
use Rattle.level_topology.specs.Child.{ChildTopology}
use Rattle.level_walk.specs.declared.fault.Cause.{Cause}
use Rattle.level_walk.specs.declared.fault.Cause.TheVariants.{Memory}
use Rattle.sparse_laws.specs.Selected.{is_selected_in}
use Rattle.sparse_laws.specs.Written.{written_here}
use Rattle.sparse_laws.proofs.OverflowLemmas.{faces-counted}
use Rattle.sparse_laws.proofs.WrittenLemmas.{written-refined, written-last}
use Rattle.sparse_level.specs.View.{SparseTopology, SparseChild, level_of, next_of}
use Rattle.sparse_level.specs.Places.{marked}
use Rattle.sparse_refiner.specs.Refined.{IsRefined, SparseOf, places_for}
use Rattle.sparse_walk.specs.View.{Walked}
use Rattle.sparse_walk.specs.Step.{StandsFor, IsMade, IsSparseCause}
use Rattle.sparse_walk.specs.Faults.{HasNoFaultTo, IsFaultAt}
use Rattle.sparse_walk.proofs.MaskLemmas.{kept, by}
use Rattle.sparse_walk.proofs.StepLemmas.{agrees-to, sparse-by, stands-next}
use Rattle.sparse_walk.proofs.FaultLemmas.{AreFine, HasCause, IsFine, sparse-none, memory-next, refused-first, fine-here, cause-here}

plus-one : (k : ℕ) → k + 1 ≡ suc k
plus-one k = omega arith

-- the numbers that are marked are those that pass the test
marked-from : (test : ℕ → Bool) (a n : ℕ) → places_from a (λ mark. mark) (map test (range_with_len a n)) ≡ filter test (range_with_len a n)
marked-from test a zero = refl
marked-from test a (suc n) = go (test a) refl (marked-from test (a + 1) n)
  where
    go : (b : Bool) → test a ≡ b → places_from (a + 1) (λ mark. mark) (map test (range_with_len (a + 1) n)) ≡ filter test (range_with_len (a + 1) n)
        → places_from a (λ mark. mark) (map test (range_with_len a (suc n))) ≡ filter test (range_with_len a (suc n))
    go true e rest = rw e (ap (λ (ns : List ℕ). a ∷ ns) rest)
    go false e rest = rw e rest

-- the written form of a level, once its selected faces are known
here-written : (test : FaceFacts → Bool) (t : SparseTopology) (of : SparseOf test t) (step : SparseChild) → IsRefined test t step
    → written_here (level_of t) (marked step.selected) ≡ written_level of.base of.predicate t.depth
here-written test t of step refined =
    ap (λ marks. written_here (level_of t) (marked marks)) refined.selected
    ∙ ap (written_here (level_of t)) (marked-from (is_selected_in test (level_of t)) 0 (length t.topology.level.polygons))
    ∙ written-refined (kept test t of) (by test t of)

-- the level of a state of the walk
abbrev pub topology_of : Walked → Topology
topology_of walked = walked.sparse.topology

module _ (test : FaceFacts → Bool) (base : Level) (depth : ℕ) where
  abbrev predicate : FacePredicate
  predicate = predicate_to test base depth

  -- the level after k steps, none of which was refused
  pub record IsReached (k : ℕ) (t : SparseTopology) : Type 0 where
    pub deep : t.depth ≡ k
    pub stands : StandsFor test base t
    pub fine : AreFine base predicate k

  pub reached-none : (t : SparseTopology) → t.depth ≡ 0 → StandsFor test base t → IsReached 0 t
  reached-none t deep stands = record { deep = deep; stands = stands; fine = λ k h. absurd (omega (arith, h)) }

  -- the levels up to it have no fault
  pub none-to : (k : ℕ) (t : SparseTopology) → IsReached k t → (channel : Channel) → channel.base ≡ base → HasNoFaultTo Sharpnesses channel predicate k
  none-to k t is = λ channel same track. sparse-none channel predicate track k (subst (λ b. AreFine b predicate k) (sym same) is.fine)

  module _ (k : ℕ) (t : SparseTopology) (is : IsReached k t) (within : k < depth) where
    -- by the predicate to the depth the level is one of the definitions
    abbrev pub sparse-in : SparseOf test t
    sparse-in = sparse-by test base t is.stands predicate (λ j h. agrees-to test base depth j (omega (arith, h, is.deep, within)))

    -- the number of present faces of the next level
    pub next-counted : length (places_for test t) ≡ present_faces base predicate (suc k)
    next-counted = faces-counted (kept test t sparse-in) (by test t sparse-in) ∙ ap (λ n. present_faces base predicate (suc n)) is.deep

    -- the written form of the level, once the next one is made
    pub level-written : (step : SparseChild) → IsRefined test t step → written_here (level_of t) (marked step.selected) ≡ written_level base predicate k
    level-written step refined = here-written test t sparse-in step refined ∙ ap (written_level base predicate) is.deep

    -- one level more
    pub reached-next : (step : SparseChild) → IsRefined test t step → IsReached (k + 1) (next_of step)
    reached-next step refined = record {
      deep = refined.next.depth ∙ ap suc is.deep ∙ sym (plus-one k);
      stands = stands-next test base t is.stands step refined;
      fine = λ j h. go j h (nat_lt j k) refl;
    }
      where
        go : (j : ℕ) → j < k + 1 → (b : Bool) → nat_lt j k ≡ b → IsFine base predicate j
        go j h true e = is.fine j (grind (arith, nat_tests))
        go j h false e =
            let same : k ≡ j = grind (arith, nat_tests) in
            subst (IsFine base predicate) same (subst (IsFine base predicate) is.deep (fine-here test t sparse-in step refined))

    -- if the step refuses the next level, its fault is the first of all
    pub fault-here : (cause : Cause) → IsSparseCause test t cause → IsFaultAt Sharpnesses base predicate depth (k + 1) cause
    fault-here cause refused = λ channel same.
        refused-first channel predicate k depth within (subst (λ b. AreFine b predicate k) (sym same) is.fine) cause
        (subst (λ b. HasCause b predicate k cause) (sym same) (subst (λ n. HasCause base predicate n cause) is.deep (cause-here test t sparse-in cause refused)))

    -- memory runs out on the way to the next level
    pub memory-here : (cause : Cause) → cause ≡ Memory → IsFaultAt Sharpnesses base predicate depth (k + 1) cause
    memory-here cause ran_out = λ channel same. memory-next Sharpnesses channel predicate k depth cause within (none-to k t is channel same) ran_out

  -- the written form of the last level, which has no selected face
  pub last-written : (t : SparseTopology) → IsReached depth t → written_here (level_of t) [] ≡ written_level base predicate depth
  last-written t is =
      written-last (record { base = base; predicate = predicate; sparse = level_of t; over = is.stands.over; is = is.stands.is predicate (λ j h. agrees-to test base depth j (omega (arith, h, is.deep))) })
      (get_or-eq_default predicate [] (omega (arith, is.deep, length-map-range_with_len (predicate_of test base) 0 depth)))
      ∙ ap (written_level base predicate) is.deep

  -- a step of the walk
  pub made-next : (k : ℕ) (from : Walked) (child : ChildTopology) (next : Walked) (old new : ℕ) → k < depth → IsReached k from.sparse → IsMade test from child next old new → IsReached (k + 1) next.sparse
  made-next k from child next old new within is made =
      subst (λ (w : Walked). IsReached (k + 1) w.sparse) (sym made.next_is) (reached-next k from.sparse is within made.step made.refined)
