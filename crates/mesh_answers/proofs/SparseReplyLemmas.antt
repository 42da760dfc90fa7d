-- The text of the sparse levels of a mesh, and the refusals of the mesh.
use Rattle.std.proofs.Common.{◌≡◌, ℕ, suc, ◌+◌, ◌<◌, ◌≤◌, List, [], ◌∷◌, length, map, get_or, Some, None, IfSome, Result, Ok, Err, IsOkAnd, MatchResult, arith, ap, sym, subst, ◌∙◌}
use Rattle.std.specs.List.{All, AllZip, range_with_len}
use Rattle.std.proofs.lemmas.List.Elements.{All-from_get_or}
use Rattle.subdiv_model.specs.Lists.{first_of}
use Rattle.subdiv_model.specs.Base.{base_level}
use Rattle.subdiv_model.specs.Cut.{cut_level}
use Rattle.subdiv_model.specs.Fault.{Fault}
use Rattle.subdiv_model.specs.ObjMesh.{ObjMesh}
use Rattle.subdiv_model.specs.SparseText.{sparse_text}
use Rattle.subdiv_model.specs.SparseTexture.{texture_part, textured_sparse_text}
use Rattle.far_model.specs.Command.{SparseOptions, Uv}
use Rattle.far_model.specs.Command as command
use Rattle.far_model.specs.Answer.{predicate_for, points_after, seams_of, sparse_mesh_faults, sparse_mesh_text, sparse_positions, sparse_texture, sparse_texture_faults, sparse_uv, texture_predicate}
use Rattle.ratio128.specs.StepsTaken.{StepsTaken}
use Rattle.ratio128.specs.declared.point.Point2.{Point2}
use Rattle.ratio128.specs.declared.point.Point3.{Point3}
use Rattle.sparse_level.specs.declared.values.SparseValues.{SparseValues}
use Rattle.level_walk.proofs.UniformFaultLemmas.{first-behind}
use Rattle.far_fault.specs.View.{fault_of}
use Rattle.far_fault.specs.declared.fault.FarFault.{FarFault}
use Rattle.far_text.specs.Points.{CanBeWritten}
use Rattle.far_text.specs.SparseLines.{level_over}
use Rattle.far_text.specs.TexturedLines.{CanLevelBePut, texture_part_over}
use Rattle.far_text.specs.declared.sparse.SparseMesh.{SparseMesh}
use Rattle.far_text.specs.declared.textured_sparse.TexturedSparse.{TexturedSparse}
use Rattle.far_text.specs.declared.reply.Reply.{Reply}
use Rattle.far_text.specs.declared.reply.Reply.TheVariants as reply
use Rattle.far_text.proofs.SameTextLemmas.{written-denominators}
use Rattle.far_text.proofs.SameTextureLemmas.{written-texture-denominators}
use Rattle.far_text.proofs.SparseLemmas.{AreSameLevels, defined_level, sparse-text-same}
use Rattle.far_text.proofs.TexturedLemmas.{AreSameTextures, textured-sparse-text-same}
use Rattle.mesh_answers.specs.Refusals.{IsFound, refusal_of_mesh}
use Rattle.mesh_answers.specs.Replies.{IsAnswerTo, IsReplyTo, written_text}
use Rattle.mesh_answers.specs.SparseLevels.{ArePointsLevels, AreTextureLevels, IsWithinLimits, sparse_position_faults, sparse_position_refusal, sparse_texture_refusal}
use Rattle.mesh_answers.specs.StepCounts.{sparse_cut_steps, sparse_later_steps, step_limit}
use Rattle.mesh_answers.proofs.CutLemmas.{cut-alike}
use Rattle.mesh_answers.proofs.FacesAlikeLemmas.{faces-alike}
use Rattle.mesh_answers.proofs.RefusalLemmas.{found-here, refusal-of-small}
use Rattle.mesh_answers.proofs.ReplyLemmas.{any-steps}

-- levels one after another, each equal to the definition of its number
levels-zip : {X Y : Type 0} (R : Y → Y → Type 0) (shown : X → Y) (defined : ℕ → Y) (first : ℕ) (xs : List X) →
    ((k j : ℕ) (d : X) → k < length xs → first + k ≡ j → R (shown (get_or xs k d)) (defined j)) → AllZip R (map shown xs) (map defined (range_with_len first (length xs)))
levels-zip R shown defined first [] each = tt
levels-zip R shown defined first (x ∷ xs) each = (
  each 0 first x (omega arith) (omega arith),
  levels-zip R shown defined (first + 1) xs (λ k j d h e. each (suc k) j d (omega (arith, h)) (omega (arith, e))),
)

-- the number of levels is the requested one
levels-zip-to : {X Y : Type 0} (R : Y → Y → Type 0) (shown : X → Y) (defined : ℕ → Y) (xs : List X) (count : ℕ) → length xs ≡ count →
    ((k : ℕ) (d : X) → k < length xs → R (shown (get_or xs k d)) (defined k)) → AllZip R (map shown xs) (map defined (range_with_len 0 count))
levels-zip-to {X} R shown defined xs count same each =
    subst (λ n. AllZip R (map shown xs) (map defined (range_with_len 0 n))) same
    (levels-zip R shown defined 0 xs (λ k j d h e. subst (λ i. R (shown (get_or xs k d)) (defined i)) (ends k j e) (each k d h)))
  where
    ends : (k j : ℕ) → 0 + k ≡ j → k ≡ j
    ends k j e = omega (arith, e)

module _ (options : SparseOptions) (mesh : ObjMesh) where
  -- a mesh within its limits is refused for the first fault of its sparse levels
  refusal-is : IsWithinLimits mesh → refusal_of_mesh (command.Sparse options) mesh ≡ first_of (sparse_mesh_faults options mesh)
  refusal-is within = refusal-of-small mesh within.manifold (sparse_mesh_faults options mesh) within.small

  -- the first fault of the positions
  pub position-refused : IsWithinLimits mesh → (fault : Fault) → IsFound fault (sparse_position_refusal options mesh) → IsFound fault (refusal_of_mesh (command.Sparse options) mesh)
  position-refused within fault found =
      subst (IsFound fault) (sym (refusal-is within))
      (found-here fault (sparse_position_faults options mesh) (sparse_texture_faults options mesh (sparse_uv options mesh)) found)

  -- if the positions have none, the first fault of the texture
  refusal-of-texture : (levels : List (SparseValues Point3)) → ArePointsLevels options mesh levels → refusal_of_mesh (command.Sparse options) mesh ≡ sparse_texture_refusal options mesh
  refusal-of-texture levels are =
      refusal-is are.mesh_is
      ∙ first-behind (sparse_position_faults options mesh) (sparse_texture_faults options mesh (sparse_uv options mesh)) (ap first_of are.fine)

  pub texture-refused : (levels : List (SparseValues Point3)) → ArePointsLevels options mesh levels → (fault : Fault) →
      IsFound fault (sparse_texture_refusal options mesh) → IsFound fault (refusal_of_mesh (command.Sparse options) mesh)
  texture-refused levels are fault found = subst (IsFound fault) (sym (refusal-of-texture levels are)) found

  module _ (levels : List (SparseValues Point3)) (are : ArePointsLevels options mesh levels) where
    same-points : AllZip AreSameLevels (map (level_over mesh.common) levels)
        (map (defined_level (points_after mesh) (base_level mesh) (predicate_for options mesh)) (range_with_len 0 (options.depth + 1)))
    same-points =
        levels-zip-to AreSameLevels (level_over mesh.common) (defined_level (points_after mesh) (base_level mesh) (predicate_for options mesh)) levels (options.depth + 1) are.count
        (λ k d h. record {
          written = (are.each k d h).faces;
          above = written-denominators mesh.common (get_or levels k d).values.items (are.each k d h).written;
          below = (are.each k d h).positive;
          same = (are.each k d h).same;
        })

    all-written : All (λ level. All (CanBeWritten mesh.common) level.values.items) levels
    all-written = λ k d h.
        All-from_get_or (λ (level : SparseValues Point3). All (CanBeWritten mesh.common) level.values.items) levels d (λ j within. (are.each j d within).written) k d h

    -- without texture the positions are the reply
    pub points-reply : sparse_uv options mesh ≡ None → IfSome options.decimals (λ digits. digits ≤ 18) → (sparse : SparseMesh) → sparse.levels.items ≡ levels →
        sparse.common ≡ mesh.common → sparse.decimals ≡ options.decimals → IsReplyTo (command.Sparse options) mesh (reply.Sparse sparse)
    unfolding written_text
    points-reply none short sparse kept over rounded =
        let base = base_level mesh in
        let predicate = predicate_for options mesh in
        record {
          good = refusal-of-texture levels are ∙ ap (λ uv. first_of (sparse_texture_faults options mesh uv)) none;
          says =
              sparse-text-same sparse (points_after mesh) base predicate options.depth
              (rw (over, kept) same-points)
              ∙ ap (λ decimals. sparse_text decimals (points_after mesh) base predicate options.depth) rounded
              ∙ ap (sparse_mesh_text options mesh) (sym none);
          put = record {
            written = rw (over, kept) all-written;
            decimals = rw rounded short;
          };
        }

    -- with texture both are the reply
    module _ (mode : Uv) (asked : sparse_uv options mesh ≡ Some mode) (textures : List (SparseValues Point2)) (textured : AreTextureLevels options mesh mode textures) where
      same-textures : AllZip AreSameTextures (map (texture_part_over mesh.texture_common) textures) (map (texture_part (sparse_texture options mesh mode)) (range_with_len 0 (options.depth + 1)))
      same-textures =
          levels-zip-to AreSameTextures (texture_part_over mesh.texture_common) (texture_part (sparse_texture options mesh mode)) textures (options.depth + 1) textured.count
          (λ k d h. record {
            level = (textured.each k d h).faces;
            above = written-texture-denominators mesh.texture_common (get_or textures k d).values.items (textured.each k d h).written;
            below = (textured.each k d h).positive;
            same = (textured.each k d h).same;
          })

      can-be-put : (k : ℕ) (d : SparseValues Point3) (e : SparseValues Point2) → k < length levels → CanLevelBePut mesh.common mesh.texture_common (get_or levels k d) (get_or textures k e)
      can-be-put k d e h =
          let inside : k < length textures = omega (arith, h, are.count, textured.count) in
          let cut = cut_level (seams_of mode) mesh in
          record {
            written = (are.each k d h).written;
            texture_written = (textured.each k e inside).written;
            faces = rw ((are.each k d h).faces, (textured.each k e inside).faces)
                (faces-alike (base_level mesh) cut (predicate_for options mesh) (texture_predicate options mesh) k (cut-alike (seams_of mode) mesh k));
          }

      pub textured-reply : IfSome options.decimals (λ digits. digits ≤ 18) → (sparse : TexturedSparse) → sparse.mesh.levels.items ≡ levels → sparse.mesh.common ≡ mesh.common →
          sparse.mesh.decimals ≡ options.decimals → sparse.texture.levels.items ≡ textures → sparse.texture.common ≡ mesh.texture_common →
          IsReplyTo (command.Sparse options) mesh (reply.TexturedSparse sparse)
      unfolding written_text
      textured-reply short sparse kept over rounded texture_kept texture_over =
          record {
            good = refusal-of-texture levels are ∙ ap (λ uv. first_of (sparse_texture_faults options mesh uv)) asked ∙ ap first_of textured.fine;
            says =
                textured-sparse-text-same sparse (sparse_positions options mesh) (sparse_texture options mesh mode) options.depth
                (rw (over, kept) same-points) (rw (texture_over, texture_kept) same-textures)
                ∙ ap (λ decimals. textured_sparse_text decimals (sparse_positions options mesh) (sparse_texture options mesh mode) options.depth) rounded
                ∙ ap (sparse_mesh_text options mesh) (sym asked);
            put = record {
              as_many = rw (kept, texture_kept) (textured.count ∙ sym are.count);
              each = rw (kept, texture_kept, over, texture_over) can-be-put;
              decimals = rw rounded short;
            };
          }

  -- the reply from the levels of the texture, if they were found
  pub textured-replied : {X : Type 0} (levels : List (SparseValues Point3)) → ArePointsLevels options mesh levels → (found : Result X FarFault) (r : Result Reply FarFault) (made : X → Reply) (P : X → Type 0) →
      MatchResult found (λ x. IsOkAnd r (λ reply. reply ≡ made x)) (λ fault. r ≡ Err fault) → MatchResult found P (λ fault. IsFound (fault_of fault) (sparse_texture_refusal options mesh)) →
      ((x : X) → P x → IsReplyTo (command.Sparse options) mesh (made x)) →
      MatchResult r (λ reply. IsReplyTo (command.Sparse options) mesh reply) (λ fault. IsFound (fault_of fault) (refusal_of_mesh (command.Sparse options) mesh))
  textured-replied levels are (Ok x) (Ok reply) made P is p answers = subst (IsReplyTo (command.Sparse options) mesh) (sym is) (answers x p)
  textured-replied levels are (Ok x) (Err fault) made P is p answers = absurd is
  textured-replied levels are (Err fault) r made P same found answers =
      subst (λ r. MatchResult r (λ reply. IsReplyTo (command.Sparse options) mesh reply) (λ fault. IsFound (fault_of fault) (refusal_of_mesh (command.Sparse options) mesh))) (sym same)
      (texture-refused levels are (fault_of fault) found)

  -- The steps of level 0 and of the cut mesh, and of the levels after the first.
  pub sparse-end : (old middle new : ℕ) (r : Result Reply FarFault) → old ≤ middle → middle ≤ old + (length mesh.faces + sparse_cut_steps mesh (sparse_uv options mesh)) →
      MatchResult r (λ reply. IsReplyTo (command.Sparse options) mesh reply) (λ fault. IsFound (fault_of fault) (refusal_of_mesh (command.Sparse options) mesh)) →
      StepsTaken r middle new 0 (sparse_later_steps options mesh) → IsAnswerTo (command.Sparse options) mesh r old new
  sparse-end old middle new r later few reply taken =
      record { reply = reply; steps = any-steps r old new 0 (step_limit (command.Sparse options) mesh) (omega (arith, later, taken.later)) (omega (arith, later, taken.later)) (omega (arith, few, taken.most)) }
