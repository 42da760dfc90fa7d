-- The limit points of a mesh where they and their denominators fit 64 bits.
use Rattle.std.proofs.Common.{◌≡◌, ℕ, ◌+◌, ◌*◌, ◌<◌, ◌≤◌, max, ℤ, List, [], length, map, get_or, true, Option, Some, None, Result, Ok, Err, OnOk, IfSome, IsOkAnd, IsErrAnd, MatchResult, arith, refl, ap, sym, subst, ◌∙◌}
use Rattle.std.specs.Prelude.{Vec, is_some}
use Rattle.std.specs.Global.{Global}
use Rattle.std.specs.List.{All}
use Rattle.std.proofs.Math.ListN.{get_or-map as get_or-map_all}
use Rattle.std.proofs.Math.Nat.{mul-le-mul_left, mul-le-mul_right}
use Rattle.std.proofs.lemmas.List.{length-map}
use Rattle.std.proofs.lemmas.List.Elements.{recursion_from_All}
use Rattle.std.proofs.lemmas.Simd.{map-map}
use Rattle.subdiv_model.specs.Level.{Level}
use Rattle.subdiv_model.specs.ObjMesh.{ObjMesh}
use Rattle.subdiv_model.specs.Fault.{LimitEntries, LimitRows}
use Rattle.subdiv_model.specs.Channel.{Channel, number_bound, channel_level}
use Rattle.subdiv_model.specs.Limit.{limit_masks}
use Rattle.far_model.specs.Command.{Limit, LimitOptions}
use Rattle.far_model.specs.Answer.{positions_of}
use Rattle.raw_mesh.specs.View as reader
use Rattle.ratio128.specs.Numbers.{greatest_amount}
use Rattle.ratio128.specs.StepsTaken.{StepsTaken}
use Rattle.ratio128.specs.declared.point.Point3.{Point3}
use Rattle.ratio128.specs.declared.valued.Valued.{Valued}
use Rattle.primvar_refine.specs.Rows.{Row}
use Rattle.primvar_refine.specs.View.{rows_of}
use Rattle.stencil_apply.specs.Table.{Table, greatest_of}
use Rattle.stencil_apply.specs.Means.{word_bound}
use Rattle.stencil_factory.specs.Rows.{dens_of}
use Rattle.stencil_factory.specs.MaskRows.{mask_entries}
use Rattle.stencil_factory.specs.MaskValues.{CanEvaluateMasks, row_value}
use Rattle.limit_stencils.specs.Limits.{AreLimitPoints, IsDenominatorBound, IsQuadFault}
use Rattle.limit_stencils.specs.declared.fault.QuadFault.{QuadFault}
use Rattle.channel_refine.specs.Evaluated.{CanEvaluate, control_rows, evaluated}
use Rattle.channel_refine.specs.declared.compose.ComposedChannel.{ComposedChannel}
use Rattle.channel_refine.proofs.EvaluatedLemmas.{can-evaluate-by}
use Rattle.far_fault.specs.View.{fault_of}
use Rattle.far_fault.specs.declared.fault.FarFault.{FarFault}
use Rattle.far_text.specs.declared.reply.Reply.{Reply}
use Rattle.mesh_answers.specs.Limits.{AreLimitRows, HasShortLimits, limit_fault_of, limit_refusal, limit_reply}
use Rattle.mesh_answers.specs.Refusals.{IsFound}
use Rattle.mesh_answers.specs.Replies.{IsReplyTo}
use Rattle.mesh_answers.specs.StepCounts.{limit_steps}
use Rattle.mesh_answers.specs.Tables.{IsComposedOf}
use Rattle.mesh_answers.proofs.ColumnLemmas.{fold-at-most}
use Rattle.mesh_answers.proofs.LimitLemmas.{limit-failed, limits-tested, quads-there}
use Rattle.mesh_answers.proofs.LimitPointLemmas as point
use Rattle.mesh_answers.proofs.MaskTableLemmas.{entries-are}
use Rattle.mesh_answers.proofs.PointLemmas.{numbers}
use Rattle.mesh_answers.proofs.PositionLemmas.{point-controls}

-- the amounts in the points of a mesh
points-within : (mesh : ObjMesh) (points : List Point3) → map reader.point_of points ≡ mesh.points
    → All (λ ns. greatest_amount ns ≤ (positions_of mesh).greatest) (map numbers points)
points-within mesh points said k d h =
    let most = (positions_of mesh).greatest in
    let row : List ℤ → Row = λ ns. record { numbers = ns; den = 1 } in
    let controls = map numbers points in
    let inside : k < length (control_rows controls) = omega (arith, h, length-map controls row) in
    let one : greatest_amount (get_or controls k d) ≤ 1 * most =
    subst (λ (r : Row). greatest_amount r.numbers ≤ r.den * most) (get_or-map_all row controls k d) ((point-controls mesh points said).within k (row d) inside) in
    omega (arith, one)

-- a product that passes no bound
pub short-found : (mesh : ObjMesh) (composed : ComposedChannel) (bound most : ℕ) (product : Option ℕ) → IsDenominatorBound composed.level.level composed.table bound
    → most ≡ max (positions_of mesh).greatest (positions_of mesh).common → IfSome product (λ p. p ≡ bound * most) → IfSome product (λ p. p ≤ word_bound)
    → is_some product ≡ true → HasShortLimits mesh composed
short-found mesh composed bound most None is all made word holds = absurd (cc)
short-found mesh composed bound most (Some p) is all made word holds = record {
  bound = bound;
  is = is;
  fits = subst (λ n. bound * n ≤ word_bound) all (subst (λ n. n ≤ word_bound) made word);
}

-- steps that follow others
pub steps-behind : {T E : Type 0} (r : Result T E) (old mid new first count : ℕ) → old ≤ mid → mid ≤ old + first → StepsTaken r mid new count count
    → StepsTaken r old new count (first + count)
steps-behind (Ok x) old mid new first count later most steps =
    let least : mid + count ≤ new = steps.least in
    record { least = omega (arith, least, later); most = omega (arith, steps.most, most); later = omega (arith, steps.later, later) }
steps-behind (Err e) old mid new first count later most steps =
    record { least = tt; most = omega (arith, steps.most, most); later = omega (arith, steps.later, later) }

module _ (mesh : ObjMesh) (depth : ℕ) (composed : ComposedChannel) (is : IsComposedOf mesh depth composed) (short : HasShortLimits mesh composed) where
  abbrev channel : Channel
  channel = positions_of mesh

  abbrev level : Level
  level = composed.level.level

  abbrev most : ℕ
  most = max channel.greatest channel.common

  -- the limit points can be evaluated over the points of the mesh
  pub short-can : (points : List Point3) → map reader.point_of points ≡ mesh.points → CanEvaluateMasks level (limit_masks level) composed.table (map numbers points)
  short-can points said =
      let controls = map numbers points in
      let can : CanEvaluate composed.table controls = can-evaluate-by channel composed.table is.composed.controls is.composed.fits controls (point-controls mesh points said) in
      record {
        each = can.each;
        alike = can.alike;
        bound = short.bound;
        short = short.is.short;
        dens = short.is.dens;
        room = λ k d h. times short.bound (greatest_amount (get_or controls k d)) channel.greatest channel.common (points-within mesh points said k d h) short.fits;
      }
    where
      times : (bound amount greatest common : ℕ) → amount ≤ greatest → bound * max greatest common ≤ word_bound → bound * amount ≤ word_bound
      times bound amount greatest common le fits =
          let least : amount ≤ max greatest common = omega (arith, le) in omega (arith, fits, mul-le-mul_left bound least)

  -- the limit points have a table
  module _ (after : 1 ≤ depth) (controls : List (List ℤ)) (values : List (List ℤ × ℕ)) (found : AreLimitPoints level composed.table controls values) where
    abbrev table : Table
    table = found.values.composed

    dens-within : greatest_of table ≤ short.bound
    dens-within =
        fold-at-most 1 short.bound (dens_of table) (omega (arith, short.is.some))
        (recursion_from_All (λ den. den ≤ short.bound) (dens_of table) (subst (λ dens. All (λ den. den ≤ short.bound) dens) (sym found.values.rows.dens) short.is.dens))

    fits : greatest_of table * most ≤ number_bound
    fits = within (greatest_of table) short.bound most dens-within short.fits
      where
        within : (great bound n : ℕ) → great ≤ bound → bound * n ≤ word_bound → great * n ≤ number_bound
        within great bound n le word = omega (arith, word, mul-le-mul_right n le)

    pub short-rows : AreLimitRows mesh depth (record { level = composed.level; table = table })
    short-rows =
        limits-tested mesh depth composed is table (record { quads = quads-there mesh depth composed is after; fine = found.fine; rows = found.values.rows }) most (Ok table) refl
        (refl, found.values.formed, fits)

  short-made : (points : List Point3) (values : List (Valued Point3)) (found : AreLimitPoints level composed.table (map numbers points) (map (λ v. (numbers v.value, v.den)) values))
      → rows_of numbers values ≡ evaluated found.values.composed (map numbers points)
  short-made points values found =
      let pack : List ℤ × ℕ → Row = λ p. record { numbers = p.0; den = p.1 } in
      sym (map-map pack (λ (v : Valued Point3). (numbers v.value, v.den)) values)
      ∙ ap (map pack) found.values.each
      ∙ map-map pack (row_value (map numbers points)) found.values.composed.rows

  entries-there : mask_entries level composed.table (limit_masks level) ≡ limit_steps depth mesh
  entries-there =
      ap (λ (l : Level). mask_entries l composed.table (limit_masks l)) is.composed.level_is
      ∙ entries-are mesh depth composed is (limit_masks (channel_level channel depth)) LimitRows LimitEntries []

  -- the fault of a run for that of the limit points
  abbrev pub IsPassedOn : Result (Vec (Valued Point3) Global) QuadFault → Result (Vec (Valued Point3) Global) FarFault → Type 0
  IsPassedOn found passed = MatchResult found (λ values. passed ≡ Ok values) (λ fault. IsErrAnd passed (λ f. fault_of f ≡ limit_fault_of depth fault))

  pub short-taken : {X : Type 0} (Made : Vec (Valued Point3) Global → X → Type 0) (found : Result (Vec (Valued Point3) Global) QuadFault) (passed : Result (Vec (Valued Point3) Global) FarFault)
      (r : Result X FarFault) (old new : ℕ) → IsPassedOn found passed → MatchResult passed (λ values. IsOkAnd r (Made values)) (λ fault. r ≡ Err fault)
      → OnOk found (new ≡ old + mask_entries level composed.table (limit_masks level)) → new ≤ old + mask_entries level composed.table (limit_masks level) → old ≤ new
      → StepsTaken r old new (limit_steps depth mesh) (limit_steps depth mesh)
  short-taken Made (Ok values) passed (Ok x) old new same made all within later =
      record { least = omega (arith, all, entries-there); most = omega (arith, within, entries-there); later = later }
  short-taken Made found passed (Err fault) old new same made all within later = record { least = tt; most = omega (arith, within, entries-there); later = later }
  short-taken Made (Err e) (Ok values) (Ok x) old new same made all within later = absurd same
  short-taken Made (Err e) (Err fault) (Ok x) old new same made all within later = absurd (cc)

-- the reply with the limit points, or the refusal of the mesh
module _ (mesh : ObjMesh) (options : LimitOptions) (composed : ComposedChannel) (is : IsComposedOf mesh options.depth composed) (short : HasShortLimits mesh composed) (after : 1 ≤ options.depth)
    (points : List Point3) (said : map reader.point_of points ≡ mesh.points) (some : 0 < mesh.common) (rounded : IfSome options.decimals (λ digits. digits ≤ 18)) where
  pub short-replied : (found : Result (Vec (Valued Point3) Global) QuadFault) (passed : Result (Vec (Valued Point3) Global) FarFault) (r : Result Reply FarFault)
      → MatchResult found (λ values. AreLimitPoints composed.level.level composed.table (map numbers points) (map (λ v. (numbers v.value, v.den)) values.items))
      (IsQuadFault composed.level.level composed.table)
      → IsPassedOn mesh options.depth composed is short found passed
      → MatchResult passed (λ values. IsOkAnd r (λ reply. reply ≡ limit_reply mesh options.decimals composed.level values)) (λ fault. r ≡ Err fault)
      → MatchResult r (λ reply. IsReplyTo (Limit options) mesh reply) (λ fault. IsFound (fault_of fault) (limit_refusal options.depth mesh))
  short-replied (Ok values) (Ok others) (Ok reply) points_are same made =
      let limits : AreLimitRows mesh options.depth (record { level = composed.level; table = points_are.values.composed }) =
      short-rows mesh options.depth composed is short after (map numbers points) (map (λ v. (numbers v.value, v.den)) values.items) points_are in
      let equal : others ≡ values = cc in
      let here : reply ≡ limit_reply mesh options.decimals composed.level values = made ∙ ap (limit_reply mesh options.decimals composed.level) equal in
      subst (IsReplyTo (Limit options) mesh) (sym here)
      (point.limit-reply mesh options _ limits points said some _ _ refl refl refl refl refl (short-made mesh options.depth composed is short points values.items points_are) rounded)
  short-replied (Ok values) (Ok others) (Err fault) points_are same made = absurd made
  short-replied (Ok values) (Err fault) r points_are same made = absurd (cc)
  short-replied (Err e) (Ok values) r failed same made = absurd same
  short-replied (Err e) (Err fault) r failed same made =
      subst (λ r. MatchResult r (λ reply. IsReplyTo (Limit options) mesh reply) (λ fault. IsFound (fault_of fault) (limit_refusal options.depth mesh))) (sym made)
      (subst (λ f. IsFound f (limit_refusal options.depth mesh)) (sym same) (limit-failed mesh options.depth composed is e failed))
