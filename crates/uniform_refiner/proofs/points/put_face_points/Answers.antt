use Rattle.std.proofs.Common.{rules, ◌≡◌, ◌+◌, ◌∙◌, sym, subst, arith, length, ℕ}
use Rattle.level_laws.proofs.NewPointLemmas.{new-smooth}
use Rattle.uniform_refiner.specs.Points.{ArePoints}
use Rattle.uniform_refiner.proofs.points.put_face_points.Goals as goal

pub loop-f-init : goal.loop-f-init
loop-f-init c =
    let first : c.args.level.now.level.point_count ≡ c.args.level.now.level.point_count + 0 = omega arith in
    record {
      put = subst (λ (k : ℕ). ArePoints c.args.level.now.level k c.args.rows.now) first c.requires.before;
      rest = search rules;
    }

pub put_row-requires-clause-sharp : goal.put_row-requires-clause-sharp
put_row-requires-clause-sharp c = sym (new-smooth c.args.level.now.level (c.points.result + c.loop-f.f) (omega (arith, c.points.ensures)))

pub loop-f-preserved : goal.loop-f-preserved
loop-f-preserved c =
    let next : c.points.result + c.loop-f.f + 1 ≡ c.args.level.now.level.point_count + (c.loop-f.f + 1) = omega (arith, c.points.ensures) in
    record {
      put = subst (λ (k : ℕ). ArePoints c.args.level.now.level k c.put_row.new.rows) next c.put_row.ensures.put;
      rest = c.put_row.ensures.rest ∙ c.loop-f.invariant.rest;
    }

pub returns-clause-put : goal.returns-clause-put
returns-clause-put c =
    let last : c.args.level.now.level.point_count + c.loop-f.f ≡ c.args.level.now.level.point_count + length c.args.level.now.level.polygons = omega (arith, c.loop-f-test.false, c.loop-f.auto.f-end, c.faces-f-end.ensures) in
    subst (λ (k : ℕ). ArePoints c.args.level.now.level k c.loop-f.rows) last c.loop-f.invariant.put
