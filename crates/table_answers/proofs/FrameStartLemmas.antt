-- A mesh before any move.
use Rattle.std.proofs.Common.{◌≡◌, ℕ, ◌+◌, ◌*◌, ◌<◌, ◌≤◌, ◌^◌, max, false, ℤ, List, [], ◌∷◌, length, map, get_or, replicate, None, Result, Ok, Err, IsErr, IsErrAnd, MatchResult, arith, refl, ap, sym, ◌∙◌, subst}
use Rattle.std.specs.List.{All}
use Rattle.std.proofs.Math.ListN.{get_or-map}
use Rattle.std.proofs.Math.Nat.{mul-le-mul_left, le-max_right}
use Rattle.std.proofs.lemmas.List.{length-map}
use Rattle.subdiv_model.specs.ObjMesh.{ObjMesh}
use Rattle.subdiv_model.specs.Channel.{number_bound}
use Rattle.far_model.specs.Command.{Stencils}
use Rattle.far_model.specs.Answer.{positions_of}
use Rattle.far_model.specs.Frames as model
use Rattle.raw_mesh.specs.View.{point_of}
use Rattle.ratio128.specs.Numbers.{greatest_amount}
use Rattle.ratio128.specs.StepsTaken.{StepsTaken}
use Rattle.ratio128.specs.declared.point.Point3.{Point3}
use Rattle.stencil_apply.specs.Table.{Table, greatest_of}
use Rattle.stencil_session.specs.Session.{State, IsState, numbers_of}
use Rattle.channel_refine.specs.Evaluated.{CanEvaluate}
use Rattle.channel_refine.specs.View.{composed_of}
use Rattle.channel_refine.specs.declared.compose.ComposedChannel.{ComposedChannel}
use Rattle.channel_refine.proofs.EvaluatedLemmas.{can-evaluate, entries-are}
use Rattle.far_fault.specs.View.{fault_of}
use Rattle.far_fault.specs.declared.fault.FarFault.{FarFault}
use Rattle.far_fault.specs.declared.fault.FarFault.TheVariants as answered
use Rattle.mesh_answers.specs.Refusals.{IsFound, refusal_of_mesh}
use Rattle.mesh_answers.specs.Tables.{IsComposedOf}
use Rattle.mesh_answers.specs.StepCounts.{level_faces_to}
use Rattle.mesh_answers.proofs.ColumnLemmas.{controls-of}
use Rattle.table_answers.specs.FrameAnswers.{IsStart}
use Rattle.table_answers.specs.FramesKept.{IsTableWithin}
use Rattle.table_answers.specs.Posed.{Posed, IsPosedAfter, IsTableOf}
use Rattle.table_answers.specs.FrameStepCounts.{start_least}
use Rattle.table_answers.proofs.FrameMarkLemmas.{marks-none, is_moved}

-- the table that was composed
pub table-within : (mesh : ObjMesh) (depth : ℕ) (channel : ComposedChannel) → IsComposedOf mesh depth channel → IsTableWithin mesh depth channel.table
table-within mesh depth channel is =
    let base = positions_of mesh in
    let most : greatest_of channel.table * max base.greatest base.common ≤ number_bound = is.composed.fits in
    let evaluates : CanEvaluate channel.table (map model.numbers_of mesh.points) =
    can-evaluate base depth (composed_of channel) is.composed is.made (map model.numbers_of mesh.points)
    (controls-of model.numbers_of 3 (λ p. refl) mesh.points base refl refl) in
    record {
      table_is = record { controls = is.composed.controls; dens = is.composed.dens; supports = is.composed.supports; values = is.composed.values };
      made = is.made;
      points = λ k d h.
          subst (λ numbers. greatest_of channel.table * greatest_amount numbers ≤ number_bound) (get_or-map model.numbers_of mesh.points k d)
          (evaluates.fits k (model.numbers_of d) (omega (arith, h, length-map mesh.points model.numbers_of)));
      common = omega (arith, most, mul-le-mul_left (greatest_of channel.table) (le-max_right base.greatest base.common));
      entries = entries-are base depth (composed_of channel) is.composed is.made;
    }

-- the points as the session needs them
pub points-fit : (table : Table) (points : List Point3) (seen : List (ℤ × ℤ × ℤ)) → map point_of points ≡ seen → All (λ p. greatest_of table * greatest_amount (model.numbers_of p) ≤ number_bound) seen →
    (k : ℕ) (d : Point3) → k < length points → greatest_of table * greatest_amount (numbers_of (get_or points k d)) ≤ number_bound
points-fit table points seen said fits k d h =
    subst (λ p. greatest_of table * greatest_amount (model.numbers_of p) ≤ number_bound) (ap (λ ps. get_or ps k (point_of d)) (sym said) ∙ get_or-map point_of points k d)
    (fits k (point_of d) (omega (arith, h, ap length said, length-map points point_of)))

pub points-count : (mesh : ObjMesh) (points : List Point3) → map point_of points ≡ mesh.points → length points ≡ length mesh.points
points-count mesh points said = sym (length-map points point_of) ∙ ap length said

-- the session at its start
pub posed-at-rest : (mesh : ObjMesh) (depth common : ℕ) (table : Table) (points : List Point3) (session : State) → IsTableWithin mesh depth table → map point_of points ≡ mesh.points →
    session ≡ record { table = table; controls = map numbers_of points; marks = replicate (length table.rows) false } → IsState session → common ≡ mesh.common → 0 < mesh.common → mesh.common ≤ 10 ^ 37 →
    IsPosedAfter mesh [] (record { session = session; common = common; depth = depth })
posed-at-rest mesh depth common table points session is said begun state over some short = record {
  table = subst (IsTableOf mesh depth) (sym table-same) is.table_is;
  state = state;
  controls = ap (λ s. s.controls) begun ∙ numbers points ∙ ap (map model.numbers_of) said;
  marks = ap (λ s. s.marks) begun ∙ marks-none table.rows ∙ ap (map (is_moved [])) is.table_is.supports;
  common = over;
  some = omega (arith, over, some);
  short = omega (arith, over, short);
  fits = subst (λ n. greatest_of session.table * n ≤ number_bound) (sym over) (subst (λ (t : Table). greatest_of t * mesh.common ≤ number_bound) (sym table-same) is.common);
}
  where
    table-same : session.table ≡ table
    table-same = ap (λ s. s.table) begun

    numbers : (points : List Point3) → map numbers_of points ≡ map model.numbers_of (map point_of points)
    numbers [] = refl
    numbers (p ∷ points) = ap (λ rest. numbers_of p ∷ rest) (numbers points)

-- the answer of a start, from the answer of the session
pub started : {X : Type 0} (mesh : ObjMesh) (depth : ℕ) (shown : X → Posed) (r : Result X FarFault) (old mid new : ℕ) → refusal_of_mesh (Stencils depth) mesh ≡ None →
    MatchResult r (λ x. ((shown x).depth ≡ depth) × IsPosedAfter mesh [] (shown x)) (λ fault. fault ≡ answered.Memory) →
    old ≤ mid → mid ≤ old + level_faces_to depth mesh → StepsTaken r mid new (start_least depth mesh) (start_least depth mesh) → IsStart mesh depth r shown old new
started mesh depth shown (Ok x) old mid new good posed later most steps = record {
  posed = (good, posed.0, posed.1);
  steps = record { least = omega (arith, steps.least, later); most = omega (arith, steps.most, most); later = omega (arith, steps.later, later) };
}
started mesh depth shown (Err fault) old mid new good memory later most steps = record {
  posed = subst (λ f. IsFound (fault_of f) (refusal_of_mesh (Stencils depth) mesh)) (sym memory) tt;
  steps = record { least = tt; most = omega (arith, steps.most, most); later = omega (arith, steps.later, later) };
}

-- the answer of a start without a table
pub refused : {X : Type 0} (mesh : ObjMesh) (depth : ℕ) (shown : X → Posed) (r : Result X FarFault) (fault : FarFault) (old new : ℕ) → IsErr r → IsErrAnd r (λ f. f ≡ fault) →
    IsFound (fault_of fault) (refusal_of_mesh (Stencils depth) mesh) → old ≤ new → new ≤ old + level_faces_to depth mesh → IsStart mesh depth r shown old new
refused mesh depth shown (Ok x) fault old new err same found later most = absurd (cc)
refused mesh depth shown (Err other) fault old new err same found later most = record {
  posed = subst (λ f. IsFound (fault_of f) (refusal_of_mesh (Stencils depth) mesh)) (sym same) found;
  steps = record { least = tt; most = omega (arith, most); later = later };
}
