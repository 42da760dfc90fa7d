-- The sparse levels of the texture of a mesh, and their refusals.
use Rattle.std.proofs.Common.{◌≡◌, ℕ, zero, suc, ◌+◌, ◌<◌, pos, List, [], ◌∷◌, length, map, get_or, Some, Result, arith, refl, ap, sym, subst, ◌∙◌}
use Rattle.std.specs.Prelude.{zip}
use Rattle.std.specs.List.{AllZip, AllByRecursion}
use Rattle.std.proofs.lemmas.List.{length-map, get_or-map}
use Rattle.std.proofs.lemmas.List.Elements.{All-from_recursion}
use Rattle.subdiv_model.specs.Lists.{first_of}
use Rattle.subdiv_model.specs.Value.{Value, IsSameValue, whole_value}
use Rattle.subdiv_model.specs.ObjMesh.{ObjMesh}
use Rattle.subdiv_model.specs.Base.{base_level}
use Rattle.subdiv_model.specs.Cut.{channel_values, cut_level}
use Rattle.subdiv_model.specs.Channel.{Channel, Tables}
use Rattle.subdiv_model.specs.Fault.{Texture}
use Rattle.subdiv_model.specs.Refined.{over_common, point_value}
use Rattle.subdiv_model.specs.Sparse.{FacePredicate}
use Rattle.subdiv_model.specs.SparseText.{written_points}
use Rattle.subdiv_model.specs.SparseTexture.{texture_part, texture_with}
use Rattle.far_model.specs.Command.{SparseOptions, Uv}
use Rattle.far_model.specs.Answer.{predicate_for, scheme_of, seams_of, sparse_texture, sparse_texture_faults, sparse_uv, texture_predicate, texture_of}
use Rattle.number_laws.proofs.MultipleLemmas.{product-positive}
use Rattle.level_walk.specs.declared.fault.WalkFault.{WalkFault}
use Rattle.raw_mesh.specs.View.{texture_of as value_of}
use Rattle.ratio128.specs.StepsTaken.{StepsTaken}
use Rattle.ratio128.specs.declared.point.Point2.{Point2}
use Rattle.ratio128.specs.declared.valued.Valued.{Valued}
use Rattle.channel_refine.specs.Refined.{AreControls}
use Rattle.channel_refine.specs.Evaluated.{control_rows}
use Rattle.channel_refine.proofs.ValueLemmas.{dens-of-rows}
use Rattle.channel_refine.specs.SparseRefined.{AreSparseLevels, IsSparseFault, IsSparseLevel}
use Rattle.channel_refine.specs.SparseView.{sparse_rows}
use Rattle.sparse_level.specs.declared.values.SparseValues.{SparseValues}
use Rattle.sparse_face_varying.specs.Steps.{ArePredicateSteps}
use Rattle.sparse_texture_laws.specs.Selection.{IsSelection}
use Rattle.sparse_texture_laws.proofs.CutLemmas.{mesh-same}
use Rattle.sparse_texture_laws.proofs.SelectionLemmas.{cut-selection}
use Rattle.far_fault.specs.Walk.{walk_fault_of}
use Rattle.far_text.specs.Texture.{texture_points_of, HasTextureDenominators, IsSameTexturePoint}
use Rattle.mesh_answers.specs.Refusals.{IsFound}
use Rattle.mesh_answers.specs.SparseLevels.{AreTextureLevels, IsTextureLevel, sparse_texture_refusal, written_denominators}
use Rattle.mesh_answers.specs.StepCounts.{sparse_texture_steps, where_sparse_texture}
use Rattle.mesh_answers.proofs.ReplyLemmas.{any-steps}
use Rattle.mesh_answers.proofs.ColumnLemmas.{IsColumn, scaled, column-behind, column-seen, can-be-written}
use Rattle.mesh_answers.proofs.SparseLemmas.{found-of-cause, no_rows}
use Rattle.mesh_answers.proofs.TextureLemmas.{numbers, texture-column, value-controls, written-value}
use Rattle.mesh_answers.proofs.WrittenLemmas.{ArePositive, nothing-scaled, same-count, sparse-column, values_at}

-- the texture points of two columns over a common denominator
abbrev texture_over : ℕ → List Value → List Value → List (Value × Value)
texture_over common us vs = zip (map (over_common common) us) (map (over_common common) vs)

abbrev corner_value : Value × Value
corner_value = (whole_value (pos 0), whole_value (pos 0))

-- values are the texture point with a number if they are the values with that number
same-at : (common : ℕ) (us vs : List Value) → length us ≡ length vs → (p : ℕ) (u v : Value) → IsSameValue (point_value us p) u → IsSameValue (point_value vs p) v →
    IsSameTexturePoint (over_common common u, over_common common v) (get_or (texture_over common us vs) p corner_value)
same-at common [] [] alike p u v hu hv = record { u = sym (nothing-scaled common u hu); v = sym (nothing-scaled common v hv) }
same-at common [] (b ∷ vs) alike p u v hu hv = absurd (omega (arith, alike))
same-at common (a ∷ us) [] alike p u v hu hv = absurd (omega (arith, alike))
same-at common (a ∷ us) (b ∷ vs) alike zero u v hu hv = record { u = sym (scaled common a u hu); v = sym (scaled common b v hv) }
same-at common (a ∷ us) (b ∷ vs) alike (suc p) u v hu hv = same-at common us vs (omega (arith, alike)) p u v hu hv

-- a texture point has denominators of at least 1 if its values have
positive-at : (common : ℕ) → 0 < common → (us vs : List Value) (p : ℕ) → 0 < (point_value us p).den → 0 < (point_value vs p).den →
    HasTextureDenominators (get_or (texture_over common us vs) p corner_value)
positive-at common some [] vs p hu hv = record { u = omega arith; v = omega arith }
positive-at common some (a ∷ us) [] p hu hv = record { u = omega arith; v = omega arith }
positive-at common some (a ∷ us) (b ∷ vs) zero hu hv = record { u = product-positive a.den common hu some; v = product-positive b.den common hv some }
positive-at common some (a ∷ us) (b ∷ vs) (suc p) hu hv = positive-at common some us vs p hu hv

module _ (common : ℕ) (us vs : List Value) where
  -- two columns of values at the written points, and these texture points
  same-written : length us ≡ length vs → (written : List ℕ) (values : List (Valued Point2)) → IsColumn numbers values 0 (values_at written us) →
      IsColumn numbers values 1 (values_at written vs) → AllZip IsSameTexturePoint (texture_points_of common values) (texture_with (texture_over common us vs) written)
  same-written alike [] [] hu hv = tt
  same-written alike [] (p ∷ values) hu hv = absurd (omega (arith, hu.count))
  same-written alike (n ∷ written) [] hu hv = absurd (omega (arith, hu.count))
  same-written alike (n ∷ written) (p ∷ values) hu hv = (
    same-at common us vs alike n (record { num = p.value.u; den = p.den }) (record { num = p.value.v; den = p.den }) (hu.same 0 (omega arith)) (hv.same 0 (omega arith)),
    same-written alike written values (column-behind numbers p values 0 (point_value us n) (values_at written us) hu)
        (column-behind numbers p values 1 (point_value vs n) (values_at written vs) hv),
  )

  positive-by : 0 < common → (written : List ℕ) → ArePositive (values_at written us) → ArePositive (values_at written vs) →
      AllByRecursion HasTextureDenominators (texture_with (texture_over common us vs) written)
  positive-by some [] hu hv = tt
  positive-by some (n ∷ written) hu hv = (positive-at common some us vs n (hu 0) (hv 0), positive-by some written (λ p. hu (suc p)) (λ p. hv (suc p)))

-- a level with its values is one
level-written : (options : SparseOptions) (mesh : ObjMesh) (mode : Uv) (values : List Point2) (k : ℕ) (level : SparseValues Point2) → map value_of values ≡ channel_values mesh →
    0 < mesh.texture_common → IsSparseLevel (texture_of mesh mode) (texture_predicate options mesh) (control_rows (map numbers values)) k (sparse_rows numbers level) →
    IsTextureLevel mesh.texture_common (written_denominators (texture_of mesh mode) (texture_predicate options mesh) k) level (texture_part (sparse_texture options mesh mode) k)
level-written options mesh mode values k level said some is =
    let channel = texture_of mesh mode in
    let predicate = texture_predicate options mesh in
    let written = written_points channel.base predicate k in
    let points = level.values.items in
    let us = texture-column mesh mode k (λ p. p.0) in
    let vs = texture-column mesh mode k (λ p. p.1) in
    let u : IsColumn numbers points 0 (values_at written us) =
    sparse-column numbers channel predicate values k level.faces points 0 _ (column-seen numbers value_of 0 (λ p. p.0) (λ p. refl) values ∙ ap (map (λ p. p.0)) said) is in
    let v : IsColumn numbers points 1 (values_at written vs) =
    sparse-column numbers channel predicate values k level.faces points 1 _ (column-seen numbers value_of 1 (λ p. p.1) (λ p. refl) values ∙ ap (map (λ p. p.1)) said) is in
    let alike : length us ≡ length vs =
    same-count (cut_level (seams_of mode) mesh) (scheme_of mode) (map (λ p. p.0) (channel_values mesh)) (map (λ p. p.1) (channel_values mesh)) k
    (length-map (channel_values mesh) (λ p. p.0) ∙ sym (length-map (channel_values mesh) (λ p. p.1))) in
    record {
      faces = is.written;
      dens = dens-of-rows numbers points ∙ is.dens;
      same = same-written mesh.texture_common us vs alike written points u v;
      positive = All-from_recursion HasTextureDenominators _ (positive-by mesh.texture_common us vs some written u.positive v.positive);
      written = can-be-written numbers mesh.texture_common channel.greatest _ (written-value mesh.texture_common) some points is.positive is.short is.within;
    }

-- The result of the walk over the sparse levels of a mesh's texture.
module _ (options : SparseOptions) (mesh : ObjMesh) (mode : Uv) (asked : sparse_uv options mesh ≡ Some mode) (values : List Point2) (said : map value_of values ≡ channel_values mesh)
    (base : Channel) (same : base ≡ texture_of mesh mode) (numbers-of : FacePredicate) (named : numbers-of ≡ texture_predicate options mesh) where
  pub texture-controls : AreControls base (control_rows (map numbers values))
  texture-controls = subst (λ b. AreControls b (control_rows (map numbers values))) (sym same) (value-controls mesh mode values said)

  pub texture-selection : IsSelection base.base options.depth numbers-of
  texture-selection =
      let is : IsSelection (texture_of mesh mode).base options.depth (texture_predicate options mesh) =
      cut-selection (base_level mesh) (cut_level (seams_of mode) mesh) (mesh-same (seams_of mode) mesh) (predicate_for options mesh) options.depth in
      subst (λ m. IsSelection base.base options.depth m) (sym named) (subst (λ b. IsSelection b.base options.depth (texture_predicate options mesh)) (sym same) is)

  -- the steps are those of the levels after the first
  pub texture-steps : {X E : Type 0} (old new : ℕ) (r : Result X E) → ArePredicateSteps base numbers-of options.depth old new →
      StepsTaken r old new 0 (where_sparse_texture options mesh (sparse_uv options mesh))
  texture-steps old new r taken =
      let is : ArePredicateSteps (texture_of mesh mode) (texture_predicate options mesh) options.depth old new =
      subst (λ m. ArePredicateSteps (texture_of mesh mode) m options.depth old new) named (subst (λ b. ArePredicateSteps b numbers-of options.depth old new) same taken) in
      let here : StepsTaken r old new 0 (sparse_texture_steps options mesh mode) =
      any-steps r old new 0 (sparse_texture_steps options mesh mode) (omega (arith, is.later)) is.later (omega (arith, is.most)) in
      subst (λ uv. StepsTaken r old new 0 (where_sparse_texture options mesh uv)) (sym asked) here

  pub texture-failed : (fault : WalkFault) → IsSparseFault base numbers-of options.depth fault → IsFound (walk_fault_of Texture fault) (sparse_texture_refusal options mesh)
  texture-failed fault is =
      let found : IsFound (walk_fault_of Texture fault) (first_of (sparse_texture_faults options mesh (Some mode))) =
      found-of-cause Tables (texture_of mesh mode) (texture_predicate options mesh) Texture options.depth fault.level fault.cause
      (subst (λ m. IsSparseFault (texture_of mesh mode) m options.depth fault) named (subst (λ b. IsSparseFault b numbers-of options.depth fault) same is)).is in
      subst (λ uv. IsFound (walk_fault_of Texture fault) (first_of (sparse_texture_faults options mesh uv))) (sym asked) found

  -- the levels are those of the definitions
  pub texture-found : 0 < mesh.texture_common → (levels : List (SparseValues Point2)) →
      AreSparseLevels base numbers-of (control_rows (map numbers values)) options.depth (map (sparse_rows numbers) levels) → AreTextureLevels options mesh mode levels
  texture-found common levels is =
      let are : AreSparseLevels (texture_of mesh mode) (texture_predicate options mesh) (control_rows (map numbers values)) options.depth (map (sparse_rows numbers) levels) =
      subst (λ m. AreSparseLevels (texture_of mesh mode) m (control_rows (map numbers values)) options.depth (map (sparse_rows numbers) levels)) named
      (subst (λ b. AreSparseLevels b numbers-of (control_rows (map numbers values)) options.depth (map (sparse_rows numbers) levels)) same is) in
      let count : length levels ≡ options.depth + 1 = sym (length-map levels (sparse_rows numbers)) ∙ are.count in
      record {
        fine = are.fine Texture;
        count = count;
        each = λ k d h.
            level-written options mesh mode values k (get_or levels k d) said common
            (subst (IsSparseLevel (texture_of mesh mode) (texture_predicate options mesh) (control_rows (map numbers values)) k)
            (get_or-map (sparse_rows numbers) levels k d no_rows h) (are.each k (omega (arith, h, count))));
      }
