-- The level from which a walk over sparse levels starts.
use Rattle.std.proofs.Common.{◌≡◌, ℕ, ◌<◌, ◌≤◌, Bool, true, false, [], length, get_or, replicate, arith, refl, ap, sym, ◌∙◌, subst}
use Rattle.std.specs.Fn.{Shared}
use Rattle.std.specs.Borrow.{Bor}
use Rattle.std.specs.List.{range_with_len}
use Rattle.std.proofs.lemmas.List.{get_or-replicate}
use Rattle.subdiv_model.specs.Feature as feature
use Rattle.level_laws.proofs.WellFormedLemmas.{first-of-six}
use Rattle.level_topology.specs.Topology.{Topology, IsTopology}
use Rattle.level_topology.specs.declared.facts.FaceFacts.{FaceFacts}
use Rattle.feature_select.specs.Rule.{AnswersTest}
use Rattle.sparse_laws.specs.SparseLevels.{IsSparse, SparseLevel, whole_base}
use Rattle.sparse_laws.proofs.BaseLemmas.{base-sparse}
use Rattle.sparse_level.specs.View.{base_of, level_of}
use Rattle.sparse_walk.specs.View.{Walked, walked}
use Rattle.sparse_walk.specs.Base.{IsSparseBase}
use Rattle.sparse_walk.specs.Step.{StandsFor, IsReadyFor}
use Rattle.sparse_walk.proofs.ReachedLemmas as levels

-- each of its vertices is complete
pub each-complete : (base : Topology) → IsSparseBase base → (v : ℕ) → v < base.level.point_count → get_or base.complete v false ≡ true
each-complete base is v h = ap (λ marks. get_or marks v false) is.complete ∙ get_or-replicate base.level.point_count v true false h

module _ (test : feature.FaceFacts → Bool) (base : Topology) (is : IsSparseBase base) (formed : IsTopology base) where
  same-base : whole_base base.level ≡ level_of (base_of base)
  same-base = ap (λ marks. let s : SparseLevel = record { level = base.level; complete = marks; numbers = range_with_len 0 (length base.level.polygons); inner = replicate (length base.level.polygons) true; depth = 0 } in s) (sym is.complete)

  -- the base is a sparse level of itself
  pub stands-base : StandsFor test base.level (base_of base)
  stands-base = record {
    over = first-of-six _ _ _ _ _ _ formed.formed;
    boundary = record { simple = formed.simple; distinct = formed.sides_once; sharp = is.boundary };
    is = λ predicate agrees. subst (IsSparse base.level predicate) same-base (base-sparse base.level predicate (first-of-six _ _ _ _ _ _ formed.formed));
  }

  -- ten levels can be made after it, or fewer
  pub ready-base : {F : Type 0} (call : Shared F (Bor FaceFacts × Unit {0}) Bool) (select : F) (start : Walked) (depth : ℕ) → start ≡ walked (base_of base) [] → depth ≤ 10 → AnswersTest call select test
      → IsReadyFor call select test start.sparse depth
  ready-base call select start depth same deep answers = subst (λ (w : Walked). IsReadyFor call select test w.sparse depth) (sym same) (record {
    answers = answers;
    deep = omega (arith, deep);
    base = base.level;
    stands = stands-base;
  })

  pub reached-start : (depth : ℕ) (start : Walked) → start ≡ walked (base_of base) [] → levels.IsReached test base.level depth 0 start.sparse
  reached-start depth start same = subst (λ (w : Walked). levels.IsReached test base.level depth 0 w.sparse) (sym same) (levels.reached-none test base.level depth (base_of base) refl stands-base)
