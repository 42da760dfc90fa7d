-- The levels from 0 on, each made from the one before it.
use Rattle.std.proofs.Common.{◌≡◌, ℕ, zero, suc, ◌+◌, ◌-◌, ◌≤◌, Bool, true, false, nat_lt, List, [], ◌∷◌, ◌++◌, length, map, arith, refl, ap, sym, ◌∙◌, subst}
use Rattle.std.specs.List.{sum_by, range_with_len}
use Rattle.std.proofs.lemmas.Bool.Decides.{nat_tests}
use Rattle.std.proofs.lemmas.List.FromFn.{map-range_with_len_more}
use Rattle.std.proofs.lemmas.List.Sums.{sum_by_push}
use Rattle.subdiv_model.specs.Level.{Level}
use Rattle.subdiv_model.specs.Child.{child_level, refined_level}
use Rattle.level_laws.proofs.FaceLemmas.{child_polygons-length}
use Rattle.level_topology.specs.Topology.{Topology}
use Rattle.level_topology.specs.Child.{ChildTopology}
use Rattle.uniform_refiner.specs.Refined.{IsRefined}
use Rattle.level_walk.specs.UniformLevels.{CanBeRefined, AreMade, faces_to}

-- the level after k steps, each of which could be made
pub record IsReached (base : Level) (k : ℕ) (t : Topology) : Type 0 where
  pub level : t.level ≡ refined_level base k
  pub made : AreMade base k

plus-one : (k : ℕ) → k + 1 ≡ suc k
plus-one k = omega arith

-- level 0
pub reached-none : (t : Topology) → IsReached t.level 0 t
reached-none t = record { level = refl; made = λ k h. absurd (omega (arith, h)) }

-- one level more
made-more : (base : Level) (k : ℕ) → AreMade base k → CanBeRefined (refined_level base k) → AreMade base (k + 1)
made-more base k made here j h = go (nat_lt j k) refl
  where
    go : (b : Bool) → nat_lt j k ≡ b → CanBeRefined (refined_level base j)
    go true e = made j (grind (arith, nat_tests))
    go false e = let same : k ≡ j = grind (arith, nat_tests) in subst (λ n. CanBeRefined (refined_level base n)) same here

pub reached-next : (base : Level) (k : ℕ) (t next : Topology) (child : ChildTopology) → IsReached base k t → IsRefined t child → next ≡ child.topology → IsReached base (k + 1) next
reached-next base k t next child is refined same = record {
  level = ap (λ (t : Topology). t.level) same ∙ refined.uniform.level ∙ ap child_level is.level ∙ ap (refined_level base) (sym (plus-one k));
  made = made-more base k is.made (subst CanBeRefined is.level (record { few = refined.few; fine = refined.fine }));
}

-- the faces of one level more
range-more : (a n : ℕ) → range_with_len a (n + 1) ≡ range_with_len a n ++ (a + n) ∷ []
range-more a n = sym (same (range_with_len a (n + 1))) ∙ map-range_with_len_more (λ k. k) a n (a + n) refl ∙ ap (λ (ks : List ℕ). ks ++ (a + n) ∷ []) (same (range_with_len a n))
  where
    same : (ks : List ℕ) → map (λ k. k) ks ≡ ks
    same [] = refl
    same (k ∷ ks) = ap (λ (rest : List ℕ). k ∷ rest) (same ks)

pub faces-more : (base : Level) (k : ℕ) → faces_to base (k + 1) ≡ faces_to base k + sum_by length (refined_level base k).polygons
faces-more base k =
    let number : 1 + k ≡ suc k = omega arith in
    let faces : ℕ → ℕ = λ n. length (refined_level base n).polygons in
    ap (sum_by faces) (range-more 1 k) ∙ sum_by_push faces (range_with_len 1 k) (1 + k)
    ∙ ap (λ n. faces_to base k + n) (ap faces number ∙ child_polygons-length (refined_level base k).point_count (refined_level base k).polygons)

-- more levels have no fewer faces
pub faces-rise : (base : Level) (k more : ℕ) → faces_to base k ≤ faces_to base (k + more)
faces-rise base k zero = let same : faces_to base (k + 0) ≡ faces_to base k = ap (faces_to base) (none k) in omega (arith, same)
  where
    none : (n : ℕ) → n + 0 ≡ n
    none n = omega arith
faces-rise base k (suc more) =
    let next : faces_to base (k + suc more) ≡ faces_to base (k + more + 1) = ap (faces_to base) (shift k more) in
    omega (arith, next, faces-more base (k + more), faces-rise base k more)
  where
    shift : (n m : ℕ) → n + suc m ≡ n + m + 1
    shift n m = omega arith

pub faces-within : (base : Level) (k depth : ℕ) → k ≤ depth → faces_to base k ≤ faces_to base depth
faces-within base k depth h = let whole : k + (depth - k) ≡ depth = omega (arith, h) in omega (arith, ap (faces_to base) whole, faces-rise base k (depth - k))

-- the faces of the next level are those of one level more
pub faces-next : (base : Level) (k : ℕ) (t : Topology) → IsReached base k t → faces_to base (k + 1) ≡ faces_to base k + sum_by length t.level.polygons
faces-next base k t is =
    let here = ap (λ (level : Level). sum_by length level.polygons) is.level in
    omega (arith, here, faces-more base k)
