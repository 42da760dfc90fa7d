use Rattle.std.proofs.Common.{arith, ◌+◌, [], get_or, refl, sym, subst}
use Rattle.std.proofs.lemmas.List.Sums.{sum_by_more}
use Rattle.primvar_refine.specs.View.{rows_of}
use Rattle.subdiv_model.specs.Mask.{face_mask}
use Rattle.primvar_refine.specs.Made.{CanMake, terms_of_hidden}
use Rattle.primvar_refine.proofs.PutLemmas.{dens-put, hidden-put, kept-put, still-inside, none-put, none-hidden, hidden-all, terms-all}
use Rattle.primvar_refine.proofs.face_puts.put_hidden.Goals as goal

pub loop-i-init : goal.loop-i-init
loop-i-init g c = record {
  dens = none-put (rows_of g.P.Primvar.numbers c.args.made.now);
  kept = λ q below. refl;
  faces = none-hidden c.args.parent.now.level (rows_of g.P.Primvar.numbers c.args.values.now) c.args.first c.args.hidden.now (rows_of g.P.Primvar.numbers c.args.made.now);
  taken = omega arith;
}

pub put_face-requires-clause-known : goal.put_face-requires-clause-known
put_face-requires-clause-known g c = c.requires.known c.loop-i.i 0 c.loop-i-test.true

pub put_face-requires-clause-inside : goal.put_face-requires-clause-inside
put_face-requires-clause-inside g c =
    still-inside g.P.Primvar.numbers c.args.made.now c.loop-i.made (c.args.first + c.loop-i.i) c.loop-i.invariant.dens (omega (arith, c.requires.len, c.loop-i-test.true))

pub put_face-requires-clause-can : goal.put_face-requires-clause-can
put_face-requires-clause-can g c =
    subst (CanMake c.args.start.now.width c.args.parent.now.level (rows_of g.P.Primvar.numbers c.args.values.now) [] [] (face_mask c.args.parent.now.level (get_or c.args.hidden.now c.loop-i.i 0)))
    (sym (c.loop-i.invariant.dens.dens (c.args.first + c.loop-i.i))) (c.requires.can c.loop-i.i c.loop-i-test.true)

pub put_face-requires-clause-alike : goal.put_face-requires-clause-alike
put_face-requires-clause-alike g c = c.requires.alike

pub loop-i-preserved : goal.loop-i-preserved
loop-i-preserved g c = record {
  dens = dens-put (rows_of g.P.Primvar.numbers c.args.made.now) (rows_of g.P.Primvar.numbers c.loop-i.made) (rows_of g.P.Primvar.numbers c.put_face.new.made)
      (c.args.first + c.loop-i.i) c.loop-i.invariant.dens c.put_face.ensures.put;
  kept = kept-put c.args.first c.loop-i.i (rows_of g.P.Primvar.numbers c.args.made.now) (rows_of g.P.Primvar.numbers c.loop-i.made) (rows_of g.P.Primvar.numbers c.put_face.new.made)
      c.loop-i.invariant.kept c.put_face.ensures.put;
  faces = hidden-put c.args.parent.now.level (rows_of g.P.Primvar.numbers c.args.values.now) c.args.first c.loop-i.i c.args.hidden.now
      (rows_of g.P.Primvar.numbers c.loop-i.made) (rows_of g.P.Primvar.numbers c.put_face.new.made) c.loop-i.invariant.faces c.put_face.ensures.put c.put_face.ensures.made;
  taken = omega (arith, c.put_face.ensures.steps, c.loop-i.invariant.taken, sum_by_more (terms_of_hidden c.args.parent.now.level) c.args.hidden.now c.loop-i.i 0 c.loop-i-test.true);
}

pub returns-clause-dens : goal.returns-clause-dens
returns-clause-dens g c = c.loop-i.invariant.dens

pub returns-clause-kept : goal.returns-clause-kept
returns-clause-kept g c = c.loop-i.invariant.kept

pub returns-clause-made : goal.returns-clause-made
returns-clause-made g c =
    hidden-all c.args.parent.now.level (rows_of g.P.Primvar.numbers c.args.values.now) c.args.first c.loop-i.i c.args.hidden.now (rows_of g.P.Primvar.numbers c.loop-i.made) c.loop-i-test.false c.loop-i.invariant.faces

pub returns-clause-steps : goal.returns-clause-steps
returns-clause-steps g c =
    let all = terms-all (terms_of_hidden c.args.parent.now.level) c.args.hidden.now c.loop-i.i c.loop-i-test.false in
    omega (arith, c.loop-i.invariant.taken, all)
