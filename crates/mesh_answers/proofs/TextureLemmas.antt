-- The texture of a mesh as a channel over its cut mesh, and the result of its refinement.
use Rattle.std.proofs.Common.{◌≡◌, ℕ, zero, suc, ◌+◌, ◌*◌, ◌<◌, ◌≤◌, ◌^◌, max, Bool, true, cond, not, ℤ, pos, unsigned_abs, List, [], ◌∷◌, length, map, get_or, replicate, Some, Result, OnOk, arith, refl, ap, sym, subst, ◌∙◌}
use Rattle.std.specs.Prelude.{zip}
use Rattle.std.specs.List.{All, AllZip, AllByRecursion, filter, flat_map, sum_by, range_with_len}
use Rattle.std.proofs.Math.Nat.{le-max_left, le-max_right, max-le}
use Rattle.std.proofs.lemmas.List.{length-append, length-map}
use Rattle.std.proofs.lemmas.List.Elements.{All-from_recursion, recursion_from_All}
use Rattle.std.proofs.lemmas.List.Filters.{length-filter_both}
use Rattle.std.proofs.lemmas.List.Sums.{sum_by-cons}
use Rattle.subdiv_model.specs.Lists.{each_once_by}
use Rattle.subdiv_model.specs.Polygons.{Polygon, same_side}
use Rattle.subdiv_model.specs.Manifold.{IsManifold}
use Rattle.subdiv_model.specs.ObjMesh.{ObjMesh}
use Rattle.subdiv_model.specs.Cut.{SeamMode, texture_number, channel_point, channel_points, channel_values, cut_level}
use Rattle.subdiv_model.specs.Mask.{Scheme}
use Rattle.far_model.specs.Command.{Uv, By, ByTable, ByLevel, RefineOptions}
use Rattle.subdiv_model.specs.Fault.{Texture}
use Rattle.subdiv_model.specs.Channel.{Channel, Asked, greatest_amount, number_bound}
use Rattle.subdiv_model.specs.Value.{Value}
use Rattle.subdiv_model.specs.Refined.{point_value, over_common, refined_values, control_values}
use Rattle.far_model.specs.Answer.{asked_of, texture_numbers, texture_of, seams_of, scheme_of}
use Rattle.number_laws.proofs.MultipleLemmas.{product-positive}
use Rattle.mesh_laws.proofs.Laws.{all-simple}
use Rattle.subdiv_model.specs.Feature.{is_infinite}
use Rattle.mask_laws.specs.SharpBoundary.{has_sharp_boundary}
use Rattle.mask_laws.proofs.BoundaryLemmas.{boundary-named, sharp-from}
use Rattle.texture_laws.specs.CutMesh.{cut_faces, cut_point_count}
use Rattle.texture_laws.proofs.ChannelLemmas.{over_corners}
use Rattle.texture_laws.proofs.CutFanLemmas.{cut-manifold}
use Rattle.texture_laws.proofs.CutLevelLemmas.{cut-boundary}
use Rattle.level_topology.specs.Topology.{Topology}
use Rattle.raw_mesh.specs.Laws.{IsWithin}
use Rattle.raw_mesh.specs.View.{texture_of as value_of}
use Rattle.subdiv_model.specs.Short.{IsShortTexture}
use Rattle.ratio128.specs.declared.point.Point2.{Point2}
use Rattle.ratio128.specs.Numbers as primvar
use Rattle.ratio128.specs.declared.valued.Valued.{Valued}
use Rattle.primvar_refine.specs.View.{rows_of}
use Rattle.face_varying.specs.Cut.{CutChannel, IsCut}
use Rattle.far_text.specs.Texture.{texture_points_of, CanTextureBeWritten, IsSameTexturePoint, HasTextureDenominators}
use Rattle.level_walk.specs.declared.fault.WalkFault.{WalkFault}
use Rattle.level_walk.specs.UniformLevels.{faces_to}
use Rattle.level_walk.specs.UniformFaults.{IsChannelFault}
use Rattle.channel_refine.specs.Base.{IsBase, channel_of}
use Rattle.channel_refine.specs.Refined.{AreControls, AreRefineSteps, IsRefinedTo, path_steps}
use Rattle.channel_refine.specs.View.{refined_of}
use Rattle.channel_refine.specs.Evaluated.{control_rows}
use Rattle.channel_refine.specs.declared.refine.RefinedChannel.{RefinedChannel}
use Rattle.ratio128.specs.StepsTaken.{StepsTaken}
use Rattle.far_fault.specs.Walk.{walk_fault_of}
use Rattle.mesh_answers.specs.Levels.{IsSmallManifold}
use Rattle.mesh_answers.specs.StepCounts.{channel_steps, later_faces, texture_steps, where_textured}
use Rattle.mesh_answers.specs.Tracks.{IsTextureFault, IsTextureOf, IsTextureRefined}
use Rattle.mesh_answers.proofs.LevelLemmas.{found-of-walk, steps-of-levels, sum-same}
use Rattle.mesh_answers.proofs.CutLemmas.{cut-faces-after}
use Rattle.mesh_answers.proofs.ColumnLemmas.{IsColumn, scaled, fold-at-most, column-behind, column-seen, controls-of, refined-column, can-be-written}

-- the numbers of a texture value
abbrev pub numbers : Point2 → List ℤ
numbers p = p.u ∷ p.v ∷ []

-- the numbers of all texture values are the coordinates
value-numbers : (values : List Point2) → flat_map numbers values ≡ texture_numbers (map value_of values)
value-numbers [] = refl
value-numbers (p ∷ values) = ap (λ ns. p.u ∷ p.v ∷ ns) (value-numbers values)

-- texture values are the controls of a channel
pub are-controls : (values : List Point2) (channel : Channel) → length values ≡ channel.base.point_count → channel.greatest ≡ greatest_amount (texture_numbers (map value_of values)) →
    AreControls channel (control_rows (map numbers values))
are-controls values channel many is = controls-of numbers 2 (λ p. refl) values channel many (is ∙ ap greatest_amount (sym (value-numbers values)))

-- Two columns of values, and the texture points that have them.
same-texture : (common : ℕ) (values : List (Valued Point2)) (us vs : List Value) → IsColumn numbers values 0 us → IsColumn numbers values 1 vs →
    AllZip IsSameTexturePoint (zip (map (over_common common) us) (map (over_common common) vs)) (texture_points_of common values)
same-texture common [] [] [] hu hv = tt
same-texture common [] (u ∷ us) vs hu hv = absurd (omega (arith, hu.count))
same-texture common [] [] (v ∷ vs) hu hv = absurd (omega (arith, hv.count))
same-texture common (p ∷ values) [] vs hu hv = absurd (omega (arith, hu.count))
same-texture common (p ∷ values) (u ∷ us) [] hu hv = absurd (omega (arith, hv.count))
same-texture common (p ∷ values) (u ∷ us) (v ∷ vs) hu hv = (
  record {
    u = scaled common u (record { num = p.value.u; den = p.den }) (hu.same 0 (omega arith));
    v = scaled common v (record { num = p.value.v; den = p.den }) (hv.same 0 (omega arith));
  },
  same-texture common values us vs (column-behind numbers p values 0 u us hu) (column-behind numbers p values 1 v vs hv),
)

-- their denominators are at least 1
abbrev ArePositive : List Value → Type 0
ArePositive xs = (p : ℕ) → 0 < (point_value xs p).den

positive-by : (common : ℕ) (us vs : List Value) → 0 < common → ArePositive us → ArePositive vs →
    AllByRecursion HasTextureDenominators (zip (map (over_common common) us) (map (over_common common) vs))
positive-by common [] vs some hu hv = tt
positive-by common (u ∷ us) [] some hu hv = tt
positive-by common (u ∷ us) (v ∷ vs) some hu hv = (
  record { u = product-positive u.den common (hu 0) some; v = product-positive v.den common (hv 0) some },
  positive-by common us vs some (λ p. hu (suc p)) (λ p. hv (suc p)),
)

-- a texture value with short numbers can be written
pub written-value : (common : ℕ) (p : Valued Point2) → 0 < p.den * common → p.den * common ≤ number_bound → primvar.greatest_amount (numbers p.value) ≤ number_bound → CanTextureBeWritten common p
written-value common p positive short most =
    let rest = max (unsigned_abs p.value.v) 0 in
    let first : unsigned_abs p.value.u ≤ number_bound = omega (arith, most, le-max_left (unsigned_abs p.value.u) rest) in
    let second : unsigned_abs p.value.v ≤ number_bound = omega (arith, most, le-max_right (unsigned_abs p.value.u) rest, le-max_left (unsigned_abs p.value.v) 0) in
    record {
      positive = positive;
      short = omega (arith, short);
      u = omega (arith, first);
      v = omega (arith, second);
    }

-- The greatest amount of short values.
short-by : (values : List (ℤ × ℤ)) → AllByRecursion IsShortTexture values → AllByRecursion (λ x. x ≤ 10 ^ 37) (map unsigned_abs (texture_numbers values))
short-by [] all = tt
short-by (p ∷ values) all = (omega (arith, all.0.0), (omega (arith, all.0.1), short-by values all.1))

-- a value of the mesh, or 0 where it has none
value-short : (values : List (ℤ × ℤ)) (k : ℕ) → AllByRecursion IsShortTexture values → IsShortTexture (get_or values k (pos 0, pos 0))
value-short [] k all = (omega arith, omega arith)
value-short (p ∷ values) zero all = all.0
value-short (p ∷ values) (suc k) all = value-short values k all.1

channel-short-by : (mesh : ObjMesh) (points : List (ℕ × ℕ)) → AllByRecursion IsShortTexture mesh.texture →
    AllByRecursion IsShortTexture (map (λ point. get_or mesh.texture (texture_number mesh point.1 point.0) (pos 0, pos 0)) points)
channel-short-by mesh [] all = tt
channel-short-by mesh (point ∷ points) all = (value-short mesh.texture (texture_number mesh point.1 point.0) all, channel-short-by mesh points all)

greatest-short : (mesh : ObjMesh) → All IsShortTexture mesh.texture → greatest_amount (texture_numbers (channel_values mesh)) ≤ 10 ^ 37
greatest-short mesh all =
    fold-at-most 0 (10 ^ 37) (map unsigned_abs (texture_numbers (channel_values mesh))) (omega arith)
    (short-by (channel_values mesh) (channel-short-by mesh (channel_points mesh) (recursion_from_All IsShortTexture mesh.texture all)))

-- The channel has no more points than the faces have corners.
filter-few : (keep : ℕ × ℕ → Bool) (xs : List (ℕ × ℕ)) → length (filter keep xs) ≤ length xs
filter-few keep xs = omega (arith, length-filter_both keep (λ x. not (keep x)) (λ x. refl) xs)

once-few : (same : ℕ × ℕ → ℕ × ℕ → Bool) (xs : List (ℕ × ℕ)) → length (each_once_by same xs) ≤ length xs
once-few same [] = omega arith
once-few same (x ∷ xs) = omega (arith, filter-few (λ y. not (same x y)) (each_once_by same xs), once-few same xs)

corners-length : {X : Type 0} (f : ℕ → ℕ → X) (n : ℕ) (polygons : List Polygon) → length (over_corners f n polygons) ≡ sum_by length polygons
corners-length f n [] = refl
corners-length f n (polygon ∷ polygons) =
    omega (arith, length-append (map (f n) polygon) (over_corners f (n + 1) polygons), length-map polygon (f n), corners-length f (n + 1) polygons, sum_by-cons length polygon polygons)

few-points : (mesh : ObjMesh) → IsWithin mesh → length (channel_points mesh) ≤ 2 ^ 27
few-points mesh within =
    omega (arith, once-few same_side (over_corners (channel_point mesh) 0 mesh.faces), corners-length (channel_point mesh) 0 mesh.faces, within.few_corners)

-- the boundary of the cut mesh is infinitely sharp
sharp-cut : (mode : SeamMode) (mesh : ObjMesh) → IsManifold (cut_point_count mesh) (cut_faces mesh) → has_sharp_boundary (cut_level mode mesh) ≡ true
sharp-cut mode mesh is =
    sharp-from (cut_level mode mesh) (λ t single.
    ap is_infinite (cut-boundary mesh mode t (boundary-named (cut_level mode mesh) (all-simple (cut_point_count mesh) (cut_faces mesh) is) t single) single))

-- The parts of a mesh's cut mesh: a level that can be refined, and its values, which are the channel of the definitions within the
-- bounds.
module _ (mesh : ObjMesh) (uv : Uv) (channel : CutChannel) (level : Topology) (cut : IsCut (seams_of uv) mesh channel) (part : level ≡ channel.level) where
  level-is : level.level ≡ cut_level (seams_of uv) mesh
  level-is = ap (λ t. t.level) part ∙ cut.level_is

  level-points : level.level.point_count ≡ length (channel_points mesh)
  level-points = ap (λ l. l.point_count) level-is

  pub cut-base : IsWithin mesh → IsManifold (length mesh.points) mesh.faces → IsBase level
  cut-base within manifold =
      let is = cut-manifold mesh manifold.simple manifold.sides_once in
      record {
        points = omega (arith, level-points, few-points mesh within);
        complete = ap (λ t. t.complete) part ∙ cut.complete ∙ ap (λ n. replicate n true) (sym level-points);
        manifold = rw level-is is;
        boundary = rw level-is (sharp-cut (seams_of uv) mesh is);
      }

  module _ (points : List Point2) (same : points ≡ channel.points) where
    pub points-are : map value_of points ≡ channel_values mesh
    points-are = ap (map value_of) same ∙ cut.values

    module _ (greatest common : ℕ) (most : greatest ≡ greatest_amount (texture_numbers (map value_of points))) (over : common ≡ mesh.texture_common) where
      pub texture-channel : (scheme : Scheme) → scheme ≡ scheme_of uv → channel_of level.level scheme greatest common ≡ texture_of mesh uv
      texture-channel scheme by =
          ap (λ b. channel_of b scheme greatest common) level-is
          ∙ ap (λ s. channel_of (cut_level (seams_of uv) mesh) s greatest common) by
          ∙ ap (λ g. channel_of (cut_level (seams_of uv) mesh) (scheme_of uv) g common) (most ∙ ap (λ vs. greatest_amount (texture_numbers vs)) points-are)
          ∙ ap (channel_of (cut_level (seams_of uv) mesh) (scheme_of uv) (greatest_amount (texture_numbers (channel_values mesh)))) over

      pub short-texture : IsWithin mesh → max greatest common ≤ number_bound
      short-texture within =
          let first : greatest ≤ number_bound = omega (arith, most, ap (λ vs. greatest_amount (texture_numbers vs)) points-are, greatest-short mesh within.texture) in
          let second : common ≤ number_bound = omega (arith, over, within.texture_common_short) in
          max-le first second

-- a coordinate of the refined texture
abbrev pub texture-column : ObjMesh → Uv → ℕ → (ℤ × ℤ → ℤ) → List Value
texture-column mesh uv depth coordinate = refined_values (cut_level (seams_of uv) mesh) (scheme_of uv) (control_values (map coordinate (channel_values mesh))) depth

-- The refined texture, by the record of the refined channel.
refined-texture : (asked : Asked) (uv : Uv) (mesh : ObjMesh) (points : List Point2) (depth : ℕ) (last : Topology) (values : List (Valued Point2)) → map value_of points ≡ channel_values mesh → 0 < mesh.texture_common →
    IsRefinedTo asked (texture_of mesh uv) (control_rows (map numbers points)) depth (record { level = last; rows = rows_of numbers values }) → IsTextureRefined asked uv mesh depth last values
refined-texture asked uv mesh points depth last values said some is =
    let us = texture-column mesh uv depth (λ p. p.0) in
    let vs = texture-column mesh uv depth (λ p. p.1) in
    let u : IsColumn numbers values 0 us =
    refined-column numbers asked (texture_of mesh uv) points depth last values 0 _ (column-seen numbers value_of 0 (λ p. p.0) (λ p. refl) points ∙ ap (map (λ p. p.0)) said) is in
    let v : IsColumn numbers values 1 vs =
    refined-column numbers asked (texture_of mesh uv) points depth last values 1 _ (column-seen numbers value_of 1 (λ p. p.1) (λ p. refl) points ∙ ap (map (λ p. p.1)) said) is in
    record {
      fine = is.fine Texture;
      level_is = is.level_is;
      same = same-texture mesh.texture_common values us vs u v;
      positive = All-from_recursion HasTextureDenominators _ (positive-by mesh.texture_common us vs some u.positive v.positive);
      written = can-be-written numbers mesh.texture_common (texture_of mesh uv).greatest _ (written-value mesh.texture_common) some values is.positive is.short is.within;
    }

-- the steps of a path
asked-steps : (options : RefineOptions) (mesh : ObjMesh) → path_steps (asked_of options.by) (texture_of mesh options.uv) options.depth ≡ texture_steps options mesh
asked-steps options mesh = go options.by
  where
    go : (by : By) → path_steps (asked_of by) (texture_of mesh options.uv) options.depth ≡ channel_steps by (cut_level (seams_of options.uv) mesh) (scheme_of options.uv) options.depth
    go ByTable = refl
    go ByLevel = refl

-- The values of a texture are its controls.
pub value-controls : (mesh : ObjMesh) (uv : Uv) (values : List Point2) → map value_of values ≡ channel_values mesh → AreControls (texture_of mesh uv) (control_rows (map numbers values))
value-controls mesh uv values said =
    are-controls values (texture_of mesh uv)
    (sym (length-map values value_of) ∙ ap length said ∙ length-map (channel_points mesh) (λ point. get_or mesh.texture (texture_number mesh point.1 point.0) (pos 0, pos 0)))
    (ap (λ vs. greatest_amount (texture_numbers vs)) (sym said))

-- The result of a refinement of the texture.
module _ (mesh : ObjMesh) (options : RefineOptions) (base : Channel) (values : List Point2) (fine : IsSmallManifold options.depth mesh) (textured : mesh.has_texture ≡ true)
    (same : base ≡ texture_of mesh options.uv) (said : map value_of values ≡ channel_values mesh) where
  pub texture-controls : AreControls base (control_rows (map numbers values))
  texture-controls = subst (λ b. AreControls b (control_rows (map numbers values))) (sym same) (value-controls mesh options.uv values said)

  pub texture-refined : 0 < mesh.texture_common → (refined : RefinedChannel Point2) (common : ℕ) → common ≡ mesh.texture_common →
      IsRefinedTo (asked_of options.by) base (control_rows (map numbers values)) options.depth (refined_of numbers refined) →
      IsTextureOf options mesh (Some (record { level = refined.level; values = refined.values; common = common }))
  texture-refined some refined common over is = (
    textured,
    over,
    refined-texture (asked_of options.by) options.uv mesh values options.depth refined.level refined.values.items said some
        (subst (λ b. IsRefinedTo (asked_of options.by) b (control_rows (map numbers values)) options.depth (refined_of numbers refined)) same is),
  )

  pub texture-failed : (fault : WalkFault) → IsChannelFault (asked_of options.by) base options.depth fault → IsTextureFault options mesh (walk_fault_of Texture fault)
  texture-failed fault is = (
    textured,
    found-of-walk (asked_of options.by) (texture_of mesh options.uv) mesh options.depth fine.few (cut-faces-after mesh) Texture fault.level fault.cause
        (subst (λ b. IsChannelFault (asked_of options.by) b options.depth fault) same is),
  )

  -- the steps of a refinement: those of its levels, which have as many faces as the levels of the mesh, and those of its terms or entries
  pub texture-taken : {X E : Type 0} (old new : ℕ) (r : Result X E) → AreRefineSteps (asked_of options.by) base options.depth r old new →
      StepsTaken r old new (where_textured mesh (texture_steps options mesh)) (where_textured mesh (later_faces options.depth mesh + texture_steps options mesh))
  texture-taken old new r taken =
      let is = subst (λ b. AreRefineSteps (asked_of options.by) b options.depth r old new) same taken in
      let all : (n : ℕ) → where_textured mesh n ≡ n = λ n. ap (λ b. cond b n 0) textured in
      let faces : faces_to (cut_level (seams_of options.uv) mesh) options.depth ≡ later_faces options.depth mesh =
      steps-of-levels (cut_level (seams_of options.uv) mesh) options.depth ∙ sum-same _ _ (cut-faces-after mesh) (range_with_len 1 options.depth) in
      record {
        least = subst (λ n. OnOk r (old + n ≤ new)) (asked-steps options mesh ∙ sym (all (texture_steps options mesh))) is.least;
        most = omega (arith, is.most, asked-steps options mesh, faces, all (later_faces options.depth mesh + texture_steps options mesh));
        later = is.later;
      }
