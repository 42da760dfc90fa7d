-- The refusals of a mesh by the command for limit points, and the table of these.
use Rattle.std.proofs.Common.{◌≡◌, ℕ, zero, suc, ◌*◌, ◌<◌, ◌≤◌, true, max, List, [], ◌∷◌, map, option_map, None, Result, Ok, Err, IsOkAnd, MatchResult, arith, refl, ap, sym, subst, ◌∙◌}
use Rattle.subdiv_model.specs.Lists.{first_of}
use Rattle.subdiv_model.specs.Level.{Level}
use Rattle.subdiv_model.specs.Base.{base_level}
use Rattle.subdiv_model.specs.Child.{refined_level}
use Rattle.subdiv_model.specs.Mask.{Mask}
use Rattle.subdiv_model.specs.ObjMesh.{ObjMesh}
use Rattle.subdiv_model.specs.Channel.{Channel, number_bound, channel_level}
use Rattle.subdiv_model.specs.Fault as model
use Rattle.subdiv_model.specs.Fault.{Fault, LimitCause, Limit, LimitEntries, Overflow, LimitRows, ValueOverflow}
use Rattle.subdiv_model.specs.Limit.{has_quads, limit_causes, limit_masks}
use Rattle.far_model.specs.Answer.{positions_of}
use Rattle.level_topology.specs.Topology.{Topology}
use Rattle.limit_laws.proofs.LevelLemmas.{child-quads}
use Rattle.stencil_apply.specs.Table.{Table, IsTable, greatest_of}
use Rattle.limit_stencils.specs.Limits.{IsLimitTable, IsQuadFault}
use Rattle.limit_stencils.specs.declared.fault.QuadFault.{QuadFault}
use Rattle.limit_stencils.specs.declared.fault.QuadFault.TheVariants.{Dart, SemiSharp, Denominator, TooManyEntries, Memory}
use Rattle.channel_refine.specs.declared.compose.ComposedChannel.{ComposedChannel}
use Rattle.far_fault.specs.View.{fault_of}
use Rattle.far_fault.specs.declared.fault.FarFault.{FarFault}
use Rattle.mesh_answers.specs.Limits.{AreLimitRows, limit_fault_of, limit_refusal}
use Rattle.mesh_answers.specs.Refusals.{IsFound}
use Rattle.mesh_answers.specs.Tables.{IsComposedOf}
use Rattle.mesh_answers.proofs.MaskTableLemmas.{denominator-failed, entries-failed, refusal-of-cause, rows-tested}

-- Each face of a level after the first is a quad.
quads-after : (level : Level) (k : ℕ) → 1 ≤ k → has_quads (refined_level level k) ≡ true
quads-after level zero h = absurd (omega (arith, h))
quads-after level (suc k) h = child-quads (refined_level level k)

-- the first cause as a fault
first-cause : (causes : List LimitCause) → first_of (map Limit causes) ≡ option_map Limit (first_of causes)
first-cause [] = refl
first-cause (cause ∷ causes) = refl

-- The table of a mesh at a depth, and the limit points of this level.
module _ (mesh : ObjMesh) (depth : ℕ) (composed : ComposedChannel) (is : IsComposedOf mesh depth composed) where
  abbrev channel : Channel
  channel = positions_of mesh

  abbrev last : Level
  last = channel_level channel depth

  abbrev masks : List Mask
  masks = limit_masks last

  abbrev causes : List Fault
  causes = map Limit (limit_causes last)

  -- all faces are quads
  pub quads-there : 1 ≤ depth → has_quads composed.level.level ≡ true
  quads-there after = ap has_quads is.composed.level_is ∙ quads-after (base_level mesh) depth after

  no-cause : limit_causes last ≡ [] → first_of causes ≡ None
  no-cause fine = ap (λ cs. first_of (map Limit cs)) fine

  failed-there : (fault : QuadFault) → IsQuadFault last composed.table fault → IsFound (limit_fault_of depth fault) (limit_refusal depth mesh)
  failed-there (Dart v) found =
      refusal-of-cause mesh depth composed is masks LimitRows LimitEntries causes (Limit (model.Dart v)) (first-cause (limit_causes last) ∙ ap (option_map Limit) found.1)
  failed-there (SemiSharp v) found =
      refusal-of-cause mesh depth composed is masks LimitRows LimitEntries causes (Limit (model.SemiSharp v)) (first-cause (limit_causes last) ∙ ap (option_map Limit) found.1)
  failed-there (Denominator v) found = denominator-failed mesh depth composed is masks LimitRows LimitEntries causes (no-cause found.1) v found.2.exists found.2.great
  failed-there TooManyEntries found = entries-failed mesh depth composed is masks LimitRows LimitEntries causes (no-cause found.1) found.2 found.3
  failed-there Memory found = tt

  -- the mesh is refused for the fault of the table of limit points
  pub limit-failed : (fault : QuadFault) → IsQuadFault composed.level.level composed.table fault → IsFound (limit_fault_of depth fault) (limit_refusal depth mesh)
  limit-failed fault found = failed-there fault (subst (λ level. IsQuadFault level composed.table fault) is.composed.level_is found)

  -- if there is a table, the test of its numerators decides
  pub limits-tested : (table : Table) → IsLimitTable composed.level.level composed.table table → (amount : ℕ) (r : Result Table FarFault) → amount ≡ max channel.greatest channel.common
      → MatchResult r (λ found. (found ≡ table) × IsTable table × (greatest_of table * amount ≤ number_bound))
      (λ fault. (fault_of fault ≡ Overflow LimitRows depth ValueOverflow) × IsTable table × (number_bound < greatest_of table * amount))
      → MatchResult r (λ limits. AreLimitRows mesh depth (record { level = composed.level; table = limits })) (λ fault. IsFound (fault_of fault) (limit_refusal depth mesh))
  limits-tested table limits =
      let here : IsLimitTable last composed.table table = subst (λ level. IsLimitTable level composed.table table) is.composed.level_is limits in
      rows-tested mesh depth composed is masks LimitRows LimitEntries causes (no-cause here.fine) table here.rows
      (λ limits. AreLimitRows mesh depth (record { level = composed.level; table = limits }))
      (λ good rows. record { good = good; level_is = is.composed.level_is; complete = is.composed.complete; rows = rows })

-- the level with its table, or the fault unchanged
pub with-limits : (mesh : ObjMesh) (depth : ℕ) (level : Topology) (found : Result Table FarFault) (r : Result ComposedChannel FarFault)
    → MatchResult found (λ table. IsOkAnd r (λ limits. limits ≡ record { level = level; table = table })) (λ fault. r ≡ Err fault)
    → MatchResult found (λ table. AreLimitRows mesh depth (record { level = level; table = table })) (λ fault. IsFound (fault_of fault) (limit_refusal depth mesh))
    → MatchResult r (AreLimitRows mesh depth) (λ fault. IsFound (fault_of fault) (limit_refusal depth mesh))
with-limits mesh depth level (Ok table) (Ok limits) made is = subst (AreLimitRows mesh depth) (sym made) is
with-limits mesh depth level (Ok table) (Err fault) made is = absurd made
with-limits mesh depth level (Err fault) r same found =
    subst (λ r. MatchResult r (AreLimitRows mesh depth) (λ fault. IsFound (fault_of fault) (limit_refusal depth mesh))) (sym same) found
