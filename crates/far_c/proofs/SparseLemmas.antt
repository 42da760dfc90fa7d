-- The result of the call for sparse levels: it wrote, or it was refused.
use Rattle.std.proofs.Common.{◌≡◌, ℕ, suc, ◌+◌, ◌*◌, ◌<◌, Bool, true, false, List, [], ◌∷◌, ◌++◌, length, map, get_or, inl, inr, arith, refl, ap, sym, subst, ◌∙◌, if◌then◌else◌}
use Rattle.std.specs.List.{flat_map, range_with_len}
use Rattle.std.proofs.lemmas.List.{map-append}
use Rattle.far_model.specs.Answer.{positions_of, predicate_for}
use Rattle.far_model.specs.Command.{SparseOptions}
use Rattle.flat_arrays.specs.Words.{natural_of}
use Rattle.ratio128.specs.declared.point.Point3.{Point3}
use Rattle.sparse_level.specs.declared.values.SparseValues.{SparseValues}
use Rattle.mesh_answers.specs.SparseLevels.{written_denominators}
use Rattle.mesh_arrays.specs.Arrays.{mesh_of_arrays}
use Rattle.mesh_arrays.specs.declared.arrays.MeshArrays.{MeshArrays}
use Rattle.mesh_arrays.specs.SparseFlat.{denominators_of, with_front}
use Rattle.mesh_arrays.specs.SparsePlaces.{counts_of, are_long_enough, IsWritten}
use Rattle.mesh_arrays.specs.declared.sparse_counts.SparseCounts.{SparseCounts}
use Rattle.mesh_arrays.specs.declared.sparse_places.SparsePlaces.{SparsePlaces}
use Rattle.array_answers.specs.declared.record.FaultRecord.{FaultRecord}
use Rattle.array_answers.specs.Sparse.{AreSparseAsked, AreSparseIn, IsSparseRefused, sparse_asked}
use Rattle.array_answers.specs.declared.sparse.SparseArrays.{SparseArrays}
use Rattle.array_answers.specs.declared.sparse.SparseRequest.{SparseRequest}
use Rattle.far_c.specs.Sparse.{AnswersSparse, AreLevelsWritten, sparse_point_denominators}
use Rattle.far_c.proofs.RefusalLemmas.{sparse-status}
use Rattle.far_c.proofs.StatusLemmas.{own-denominators}

-- the own denominators of the values of a level
abbrev level_dens : SparseValues Point3 → List ℕ
level_dens level = map (λ value. value.den) level.values.items

-- the denominators of all levels are their own ones, times a common one
own-times : (common : ℕ) (levels : List (SparseValues Point3)) → denominators_of common levels ≡ map (λ den. den * common) (flat_map level_dens levels)
own-times common [] = refl
own-times common (level ∷ levels) =
    ap (λ dens. dens ++ denominators_of common levels) (own-denominators common level.values.items)
    ∙ ap (λ dens. map (λ den. den * common) (level_dens level) ++ dens) (own-times common levels)
    ∙ sym (map-append (λ den. den * common) (level_dens level) (flat_map level_dens levels))

-- parts one after another, each equal to the definition of its number
parts-in-order : {X Y : Type 0} (part : X → List Y) (defined : ℕ → List Y) (first : ℕ) (xs : List X)
    → ((k j : ℕ) (d : X) → k < length xs → first + k ≡ j → part (get_or xs k d) ≡ defined j) → flat_map part xs ≡ flat_map defined (range_with_len first (length xs))
parts-in-order part defined first [] each = refl
parts-in-order part defined first (x ∷ xs) each =
    ap (λ ys. ys ++ flat_map part xs) (each 0 first x (omega arith) (omega arith))
    ∙ ap (λ ys. defined first ++ ys) (parts-in-order part defined (first + 1) xs (λ k j d h e. each (suc k) j d (omega (arith, h)) (omega (arith, e))))

-- the denominators of the levels are those of the definitions
defined-denominators : (options : SparseOptions) (mesh : MeshArrays) (sparse : SparseArrays) → AreSparseIn options mesh sparse
    → denominators_of sparse.common sparse.levels.items ≡ sparse_point_denominators options (mesh_of_arrays mesh)
defined-denominators options mesh sparse is =
    let are = is.are in
    let read = mesh_of_arrays mesh in
    let written = written_denominators (positions_of read) (predicate_for options read) in
    let times = λ (common : ℕ) (count : ℕ). map (λ den. den * common) (flat_map written (range_with_len 0 count)) in
    own-times sparse.common sparse.levels.items
    ∙ ap (map (λ den. den * sparse.common)) (parts-in-order level_dens written 0 sparse.levels.items
    (λ k j d h e. let same : k ≡ j = omega (arith, e) in (are.levels.each k d h).dens ∙ ap written same))
    ∙ ap (times sparse.common) are.levels.count
    ∙ ap (λ common. times common (options.depth + 1)) are.common

-- the levels are written over the denominators of the definitions
levels-defined : (options : SparseOptions) (mesh : MeshArrays) (sparse : SparseArrays) (old new : SparsePlaces) → AreSparseIn options mesh sparse
    → IsWritten sparse.levels.items sparse.common old new → AreLevelsWritten options mesh sparse old new
levels-defined options mesh sparse old new is written = record {
  written = written;
  defined = written.denominators ∙ ap (λ dens. with_front dens (map natural_of old.denominators.now)) (defined-denominators options mesh sparse is);
}

module _ (mesh : MeshArrays) (request : SparseRequest) (fault : FaultRecord) where
  -- the levels are written, or an array is too short
  levels-answered : (old new : SparsePlaces) (sparse : SparseArrays) (counts : SparseCounts) (ok : Bool) (status : ℕ)
      → AreSparseAsked request mesh sparse → counts ≡ counts_of sparse.levels.items → ok ≡ are_long_enough (counts_of sparse.levels.items) old
      → (ok ≡ true → IsWritten sparse.levels.items sparse.common old new) → (ok ≡ false → new ≡ old) → status ≡ (if ok then 0 else 1)
      → AnswersSparse mesh request status counts old new fault
  levels-answered old new sparse counts true status are counted enough written kept done =
      inl (done, record { sparse = sparse; are = are; counted = counted; holds = levels-defined are.options mesh sparse old new are.are (written refl) })
  levels-answered old new sparse counts false status are counted enough written kept done =
      inr (inl (done, record { sparse = sparse; are = are; counted = counted; holds = (sym enough, kept refl) }))

  -- The calls see the levels as slices.
  pub sparse-answered : (old new : SparsePlaces) (sparse : SparseArrays) (first second : List (SparseValues Point3)) (counts : SparseCounts) (ok : Bool) (status : ℕ)
      → AreSparseAsked request mesh sparse → first ≡ sparse.levels.items → second ≡ sparse.levels.items → counts ≡ counts_of first → ok ≡ are_long_enough (counts_of second) old
      → (ok ≡ true → IsWritten second sparse.common old new) → (ok ≡ false → new ≡ old) → status ≡ (if ok then 0 else 1)
      → AnswersSparse mesh request status counts old new fault
  sparse-answered old new sparse first second counts ok status are is_first is_second counted enough written kept done =
      levels-answered old new sparse counts ok status are (counted ∙ ap counts_of is_first) (enough ∙ ap (λ levels. are_long_enough (counts_of levels) old) is_second)
      (λ yes. subst (λ levels. IsWritten levels sparse.common old new) is_second (written yes)) kept done

  pub sparse-refused : (old : SparsePlaces) (counts : SparseCounts) → IsSparseRefused (sparse_asked request) mesh fault → AnswersSparse mesh request fault.status counts old old fault
  sparse-refused old counts is = inr (inr (sparse-status (sparse_asked request) mesh fault is, refl, (is, refl)))
