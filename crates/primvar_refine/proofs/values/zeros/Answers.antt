use Rattle.std.proofs.Common.{arith, ◌++◌, ◌∷◌, [], length, map, get_or, ap, sym, ◌∙◌}
use Rattle.std.proofs.lemmas.List.{take_all, take_more}
use Rattle.primvar_refine.specs.Rows.{dens_of}
use Rattle.primvar_refine.specs.View.{rows_of}
use Rattle.primvar_refine.proofs.values.zeros.Goals as goal

pub loop-den-init : goal.loop-den-init
loop-den-init g c =
    let none = c.in_ok-made.ensures.items in record {
      dens_are = ap (λ l. dens_of (rows_of g.P.Primvar.numbers l)) none;
      count = ap length none;
      fits = c.in_ok-made.ensures.capacity;
    }

pub loop-den-preserved : goal.loop-den-preserved
loop-den-preserved g c = record {
  dens_are = c.push_zero.ensures.dens ∙ ap (λ l. l ++ get_or c.args.dens.now c.loop-den.den-index 0 ∷ []) c.loop-den.invariant.dens_are
      ∙ sym (take_more c.args.dens.now c.loop-den.den-index 0 c.loop-den-test.true);
  count = omega (arith, c.push_zero.ensures.count, c.loop-den.invariant.count);
  fits = omega (arith, c.push_zero.ensures.capacity, c.loop-den.invariant.fits);
}

pub returns : goal.returns
returns g c =
    c.push_hidden.ensures
    ∙ ap (λ l. l ++ map (λ f. get_or c.args.of_faces.now f 0) c.args.hidden.now)
    (c.loop-den.invariant.dens_are ∙ take_all c.loop-den.den-index c.args.dens.now c.loop-den-test.false)
