use Rattle.std.proofs.Common.{◌≡◌, ◌+◌, ◌∙◌, sym, subst, arith, length, ℕ}
use Rattle.level_laws.proofs.NewPointLemmas.{new-smooth}
use Rattle.uniform_refiner.specs.Points.{ArePoints}
use Rattle.uniform_refiner.proofs.points.put_edge_points.Goals as goal

pub put_row-requires-clause-sharp : goal.put_row-requires-clause-sharp
put_row-requires-clause-sharp c = sym (new-smooth c.args.level.now.level c.edge_point_of.result (omega (arith, c.edge_point_of.ensures)))

pub loop-e-preserved : goal.loop-e-preserved
loop-e-preserved c =
    let next : c.edge_point_of.result + 1 ≡ c.args.level.now.level.point_count + length c.args.level.now.level.polygons + (c.loop-e.e + 1) = omega (arith, c.edge_point_of.ensures) in
    record {
      put = subst (λ (k : ℕ). ArePoints c.args.level.now.level k c.put_row.new.rows) next c.put_row.ensures.put;
      rest = c.put_row.ensures.rest ∙ c.loop-e.invariant.rest;
    }
