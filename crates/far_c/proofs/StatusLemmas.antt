-- The result of a call: it wrote, or it was refused.
use Rattle.std.proofs.Common.{◌≡◌, ◌≤◌, ℕ, ◌*◌, Bool, true, false, nat_le, List, [], ◌∷◌, length, map, take, Option, Some, None, MatchOption, inl, inr, refl, ap, sym, ◌∙◌, subst, if◌then◌else◌}
use Rattle.std.proofs.lemmas.Bool.{leb-false}
use Rattle.subdiv_model.specs.Table.{Table}
use Rattle.subdiv_model.specs.Channel.{denominators_after}
use Rattle.far_model.specs.Answer.{positions_of, table_faults}
use Rattle.ratio128.specs.declared.point.Point3.{Point3}
use Rattle.ratio128.specs.declared.valued.Valued.{Valued}
use Rattle.nearest_float.specs.Binary.{Format}
use Rattle.nearest_float.specs.NearestArrays.{AreNearest}
use Rattle.flat_arrays.specs.declared.wide.Wide.{Wide}
use Rattle.mesh_arrays.specs.Arrays.{mesh_of_arrays}
use Rattle.mesh_arrays.specs.declared.arrays.MeshArrays.{MeshArrays}
use Rattle.array_answers.specs.declared.record.FaultRecord.{FaultRecord}
use Rattle.table_arrays.specs.Places as table
use Rattle.table_arrays.specs.declared.places.TableCounts.{TableCounts}
use Rattle.mesh_arrays.specs.Places as level
use Rattle.mesh_arrays.specs.declared.level_counts.LevelCounts.{LevelCounts}
use Rattle.mesh_arrays.specs.declared.level_places.LevelPlaces.{LevelPlaces}
use Rattle.mesh_arrays.specs.Points.{coordinates, all_denominators}
use Rattle.array_answers.specs.Asked.{rows_asked}
use Rattle.array_answers.specs.Rows.{AreRowsAsked, IsRequestRefused}
use Rattle.array_answers.specs.Composed.{IsRefinedOf, ArePointsOf}
use Rattle.array_answers.specs.declared.compose.RefinedArrays.{RefinedArrays}
use Rattle.array_answers.specs.declared.points.RefinedPoints.{RefinedPoints}
use Rattle.array_answers.specs.declared.request.RowRequest.{RowRequest}
use Rattle.row_arrays.specs.Fractions.{fraction_fault, fractions_of}
use Rattle.row_arrays.specs.declared.fraction_fault.FractionFault.{FractionFault}
use Rattle.row_arrays.specs.declared.fractions.FractionArrays.{FractionArrays}
use Rattle.far_c.specs.Status.{AnswersFault}
use Rattle.far_c.proofs.RefusalLemmas.{refusal-status, request-status}
use Rattle.far_c.specs.Fractions.{AnswersFractions, record_of_fraction_fault}
use Rattle.far_c.specs.Answers.{AnswersTable, AnswersLevel, AnswersPoints, AnswersExactPoints, AreExactPoints, AreExactPointsOf, are_exact_long_enough, IsRefusedAt}

-- there is no fault
pub none-answered : {F : Type 0} (record_of : F → FaultRecord) (fault : Option F) (held : FaultRecord) → fault ≡ None → AnswersFault record_of fault 0 held
none-answered record_of None held e = refl
none-answered record_of (Some found) held e = cc

-- there is this fault
pub fault-answered : {F : Type 0} (record_of : F → FaultRecord) (fault : Option F) (found : F) (held : FaultRecord) → fault ≡ Some found → held ≡ record_of found → 1 ≤ held.status
    → AnswersFault record_of fault held.status held
fault-answered record_of None found held e is many = cc
fault-answered record_of (Some other) found held e is many = (many, is ∙ ap record_of (some-same found other (sym e)), refl)
  where
    some-same : {F : Type 0} (a b : F) → Some a ≡ Some b → a ≡ b
    some-same a b e = cc

-- fractions are rounded
pub fractions-answered : (f : Format) (fractions : FractionArrays) (old new : List ℕ) (held : FaultRecord) → fraction_fault fractions (length old) ≡ None
    → AreNearest f (fractions_of fractions) (take (length fractions.numerators.now) new) → AnswersFractions f fractions 0 old new held
fractions-answered f fractions old new held none nearest = (none-answered record_of_fraction_fault (fraction_fault fractions (length old)) held none, by (fraction_fault fractions (length old)) none)
  where
    by : (fault : Option FractionFault) → fault ≡ None → MatchOption fault (AreNearest f (fractions_of fractions) (take (length fractions.numerators.now) new)) (λ _. new ≡ old)
    by None e = nearest
    by (Some found) e = cc

pub fractions-refused : (f : Format) (fractions : FractionArrays) (old new : List ℕ) (found : FractionFault) (held : FaultRecord) → fraction_fault fractions (length old) ≡ Some found
    → held ≡ record_of_fraction_fault found → 1 ≤ held.status → new ≡ old → AnswersFractions f fractions held.status old new held
fractions-refused f fractions old new found held some is many kept =
    (fault-answered record_of_fraction_fault (fraction_fault fractions (length old)) found held some is many, by (fraction_fault fractions (length old)) some)
  where
    by : (fault : Option FractionFault) → fault ≡ Some found → MatchOption fault (AreNearest f (fractions_of fractions) (take (length fractions.numerators.now) new)) (λ _. new ≡ old)
    by None e = cc
    by (Some other) e = kept

-- a table is written, or an array is too short
module _ (mesh : MeshArrays) (request : RowRequest) (fault : FaultRecord) where
  pub table-answered : {P : Type 0} (long_enough : TableCounts → P → Bool) (Written : Table → P → Type 0) (old new : P) (rows : Table) (counts : TableCounts) (ok : Bool) (status : ℕ)
      → AreRowsAsked request mesh rows → counts ≡ table.counts_of rows → ok ≡ long_enough (table.counts_of rows) old
      → (ok ≡ true → Written rows new) → (ok ≡ false → new ≡ old) → status ≡ (if ok then 0 else 1)
      → AnswersTable long_enough Written mesh request status counts old new fault
  table-answered long_enough Written old new rows counts true status are counted enough written kept done =
      inl (done, record { table = rows; are = are; holds = (counted, written refl) })
  table-answered long_enough Written old new rows counts false status are counted enough written kept done =
      inr (inl (done, record { table = rows; are = are; holds = (counted, sym enough, kept refl) }))

  pub table-refused : {P : Type 0} (long_enough : TableCounts → P → Bool) (Written : Table → P → Type 0) (old : P) (counts : TableCounts) → IsRequestRefused (rows_asked request) mesh fault
      → AnswersTable long_enough Written mesh request fault.status counts old old fault
  table-refused long_enough Written old counts is = inr (inr (request-status (rows_asked request) mesh fault is, refl, (is, refl)))

-- the own denominators of points, times a common one
pub own-denominators : (common : ℕ) (points : List (Valued Point3)) → all_denominators common points ≡ map (λ den. den * common) (map (λ point. point.den) points)
own-denominators common [] = refl
own-denominators common (point ∷ points) = ap (λ dens. point.den * common ∷ dens) (own-denominators common points)

module _ (mesh : MeshArrays) (depth : ℕ) (fault : FaultRecord) where
  pub refused-at-status : IsRefusedAt mesh depth fault → 2 ≤ fault.status
  refused-at-status is = refusal-status depth (table_faults depth (mesh_of_arrays mesh)) mesh fault is

  -- a level is written, or an array is too short
  pub level-answered : (old new : LevelPlaces) (refined : RefinedArrays) (counts : LevelCounts) (ok : Bool) (status : ℕ)
      → IsRefinedOf mesh depth refined → counts ≡ level.counts_of refined.composed.level → ok ≡ level.are_long_enough (level.counts_of refined.composed.level) old
      → (ok ≡ true → level.IsWritten refined.composed.level.level new) → (ok ≡ false → new ≡ old) → status ≡ (if ok then 0 else 1)
      → AnswersLevel mesh depth status counts old new fault
  level-answered old new refined counts true status is counted enough written kept done =
      inl (done, record { refined = refined; is = is; holds = (counted, written refl) })
  level-answered old new refined counts false status is counted enough written kept done =
      inr (inl (done, record { refined = refined; is = is; holds = (counted, sym enough, kept refl) }))

  pub level-refused : (old : LevelPlaces) (counts : LevelCounts) → IsRefusedAt mesh depth fault → AnswersLevel mesh depth fault.status counts old old fault
  level-refused old counts is = inr (inr (refused-at-status is, refl, (is, refl)))

  -- points are written, or the array is too short
  points-written : (f : Format) (old new : List ℕ) (refined : RefinedPoints) (ok : Bool) (status : ℕ)
      → ArePointsOf mesh depth refined → ok ≡ nat_le (3 * length refined.points.items) (length old)
      → (ok ≡ true → AreNearest f (coordinates refined.common refined.points.items) (take (3 * length refined.points.items) new)) → (ok ≡ false → new ≡ old) → status ≡ (if ok then 0 else 1)
      → AnswersPoints f mesh depth status (length refined.points.items) old new fault
  points-written f old new refined true status are enough written kept done =
      inl (done, record { refined = refined; are = are; counted = refl; holds = written refl })
  points-written f old new refined false status are enough written kept done =
      inr (inl (done, record { refined = refined; are = are; counted = refl; holds = (leb-false (3 * length refined.points.items) (length old) (sym enough), kept refl) }))

  pub points-answered : (f : Format) (old new : List ℕ) (refined : RefinedPoints) (count : ℕ) (ok : Bool) (status : ℕ)
      → ArePointsOf mesh depth refined → count ≡ length refined.points.items → ok ≡ nat_le (3 * length refined.points.items) (length old)
      → (ok ≡ true → AreNearest f (coordinates refined.common refined.points.items) (take (3 * length refined.points.items) new)) → (ok ≡ false → new ≡ old) → status ≡ (if ok then 0 else 1)
      → AnswersPoints f mesh depth status count old new fault
  points-answered f old new refined count ok status are counted enough written kept done =
      subst (λ (n : ℕ). AnswersPoints f mesh depth status n old new fault) (sym counted) (points-written f old new refined ok status are enough written kept done)

  pub points-refused : (f : Format) (count : ℕ) (old : List ℕ) → IsRefusedAt mesh depth fault → AnswersPoints f mesh depth fault.status count old old fault
  points-refused f count old is = inr (inr (refused-at-status is, refl, (is, refl)))

  exact-defined : (count : ℕ) (nums dens : List Wide) (refined : RefinedPoints) → ArePointsOf mesh depth refined → AreExactPoints count nums dens refined → AreExactPointsOf mesh depth count nums dens refined
  exact-defined count nums dens refined are written = record {
    written = written;
    defined = written.dens ∙ own-denominators refined.common refined.points.items
        ∙ ap (λ own. map (λ den. den * refined.common) own) are.dens
        ∙ ap (λ common. map (λ den. den * common) (denominators_after (positions_of (mesh_of_arrays mesh)) depth)) are.common;
  }

  exact-written : (old_nums nums old_dens dens : List Wide) (refined : RefinedPoints) (ok : Bool) (status : ℕ)
      → ArePointsOf mesh depth refined → ok ≡ are_exact_long_enough (length refined.points.items) old_nums old_dens
      → (ok ≡ true → AreExactPoints (length refined.points.items) nums dens refined) → (ok ≡ false → (nums ≡ old_nums) × (dens ≡ old_dens)) → status ≡ (if ok then 0 else 1)
      → AnswersExactPoints mesh depth status (length refined.points.items) old_nums nums old_dens dens fault
  exact-written old_nums nums old_dens dens refined true status are enough written kept done =
      inl (done, record { refined = refined; are = are; counted = refl; holds = exact-defined (length refined.points.items) nums dens refined are (written refl) })
  exact-written old_nums nums old_dens dens refined false status are enough written kept done =
      inr (inl (done, record { refined = refined; are = are; counted = refl; holds = (sym enough, (kept refl).0, (kept refl).1) }))

  pub exact-answered : (old_nums nums old_dens dens : List Wide) (refined : RefinedPoints) (count : ℕ) (ok : Bool) (status : ℕ)
      → ArePointsOf mesh depth refined → count ≡ length refined.points.items → ok ≡ are_exact_long_enough (length refined.points.items) old_nums old_dens
      → (ok ≡ true → AreExactPoints (length refined.points.items) nums dens refined) → (ok ≡ false → (nums ≡ old_nums) × (dens ≡ old_dens)) → status ≡ (if ok then 0 else 1)
      → AnswersExactPoints mesh depth status count old_nums nums old_dens dens fault
  exact-answered old_nums nums old_dens dens refined count ok status are counted enough written kept done =
      subst (λ (n : ℕ). AnswersExactPoints mesh depth status n old_nums nums old_dens dens fault) (sym counted) (exact-written old_nums nums old_dens dens refined ok status are enough written kept done)

  pub exact-refused : (count : ℕ) (nums dens : List Wide) → IsRefusedAt mesh depth fault → AnswersExactPoints mesh depth fault.status count nums nums dens dens fault
  exact-refused count nums dens is = inr (inr (refused-at-status is, refl, (is, refl, refl)))
