use Rattle.std.proofs.Common.{arith, ◌<◌, ◌≤◌, length, refl, ap, sym, subst}
use Rattle.mask_rules.specs.View.{scheme_of}
use Rattle.primvar_refine.specs.Rows.{row_at}
use Rattle.primvar_refine.specs.View.{rows_of}
use Rattle.child_masks.specs.Masks.{mask_from, origin_at}
use Rattle.primvar_refine.specs.Made.{CanMake, terms_of_other}
use Rattle.primvar_refine.specs.Places.{all_origins}
use Rattle.primvar_refine.proofs.PutLemmas.{dens-put, none-put, terms-all, terms-more}
use Rattle.primvar_refine.proofs.ReadyLemmas.{ready-kept, all-can, faces-stay, others-put, point-inside, none-made, others-all}
use Rattle.child_masks.proofs.OriginLemmas.{origin-within}
use Rattle.primvar_refine.proofs.point_puts.put_points.Goals as goal

pub loop-p-init : goal.loop-p-init
loop-p-init g c = record {
  dens = none-put (rows_of g.P.Primvar.numbers c.args.made.now);
  faces = c.requires.faces;
  others = none-made c.args.parent.now.level (scheme_of c.args.scheme) (rows_of g.P.Primvar.numbers c.args.values.now) c.args.child.now.origins (rows_of g.P.Primvar.numbers c.args.made.now);
  taken = omega arith;
}

pub put_point-requires-clause-inside : goal.put_point-requires-clause-inside
put_point-requires-clause-inside g c =
    let inside : c.loop-p.p < length c.args.child.now.origins =
    omega (arith, c.loop-p-test.true, c.points-p-end.ensures, c.facts-2.ensures.is.each_point, ap (λ t. t.level.point_count) c.level.ensures) in
    point-inside g.P.Primvar.numbers c.args.start.now.width c.args.parent.now c.args.child.now (scheme_of c.args.scheme) (rows_of g.P.Primvar.numbers c.args.values.now) c.args.survey.now.named.items c.args.places.now.hidden.items
    c.args.places.now.of_faces.items c.args.made.now c.loop-p.made c.loop-p.p c.requires.ready c.loop-p.invariant.dens inside

pub put_point-requires-clause-alike : goal.put_point-requires-clause-alike
put_point-requires-clause-alike g c = c.requires.alike

pub put_point-requires-clause-child : goal.put_point-requires-clause-child
put_point-requires-clause-child g c = c.requires.ready.can

pub put_point-requires-clause-known : goal.put_point-requires-clause-known
put_point-requires-clause-known g c = omega (arith, c.loop-p-test.true, c.points-p-end.ensures, c.facts-2.ensures.is.each_point, ap (λ t. t.level.point_count) c.level.ensures)

pub put_point-requires-clause-can : goal.put_point-requires-clause-can
put_point-requires-clause-can g c =
    let inside : c.loop-p.p < length c.args.child.now.origins =
    omega (arith, c.loop-p-test.true, c.points-p-end.ensures, c.facts-2.ensures.is.each_point, ap (λ t. t.level.point_count) c.level.ensures) in
    let rows = rows_of g.P.Primvar.numbers c.args.values.now in
    let made = rows_of g.P.Primvar.numbers c.loop-p.made in
    let scheme = scheme_of c.args.scheme in
    subst (λ places. CanMake c.args.start.now.width c.args.parent.now.level rows made places (mask_from c.args.parent.now.level scheme (origin_at c.args.child.now.origins c.loop-p.p)) (row_at made c.loop-p.p).den)
    (sym c.deref.ensures.value)
    (all-can c.args.start.now.width c.args.parent.now c.args.child.now scheme rows c.args.survey.now.named.items c.args.places.now.hidden.items c.args.places.now.of_faces.items c.facts.ensures
    made
    (ready-kept c.args.start.now.width c.args.parent.now c.args.child.now scheme rows c.args.survey.now.named.items c.args.places.now.hidden.items c.args.places.now.of_faces.items
    (rows_of g.P.Primvar.numbers c.args.made.now) made c.requires.ready c.loop-p.invariant.dens)
    c.loop-p.invariant.faces c.loop-p.p inside
    (origin-within c.args.parent.now c.args.child.now scheme c.facts-2.ensures c.requires.ready.can c.loop-p.p inside))

pub loop-p-preserved : goal.loop-p-preserved
loop-p-preserved g c =
    let inside : c.loop-p.p < length c.args.child.now.origins =
    omega (arith, c.loop-p-test.true, c.points-p-end.ensures, c.facts-2.ensures.is.each_point, ap (λ t. t.level.point_count) c.level.ensures) in
    let rows = rows_of g.P.Primvar.numbers c.args.values.now in
    let start = rows_of g.P.Primvar.numbers c.args.made.now in
    let before = rows_of g.P.Primvar.numbers c.loop-p.made in
    let after = rows_of g.P.Primvar.numbers c.put_point.new.made in
    let level = c.args.parent.now.level in
    let origins = c.args.child.now.origins in
    let origin = origin_at origins c.loop-p.p in
    let put = c.put_point.ensures.put in
    record {
      dens = dens-put start before after c.loop-p.p c.loop-p.invariant.dens put;
      faces = faces-stay level rows origins c.args.places.now.hidden.items (length (all_origins origins c.args.places.now.hidden.items)) c.loop-p.p before after origin refl inside
          (λ face. ap (rows_of g.P.Primvar.numbers) (c.put_point.ensures.same face)) put c.loop-p.invariant.faces;
      others = others-put level (scheme_of c.args.scheme) rows origins c.loop-p.p before after origin refl put c.put_point.ensures.made c.loop-p.invariant.others;
      taken = omega (arith, c.put_point.ensures.steps, c.loop-p.invariant.taken, terms-more (terms_of_other level (scheme_of c.args.scheme)) origins c.loop-p.p origin inside refl);
    }

pub returns-clause-dens : goal.returns-clause-dens
returns-clause-dens g c = c.loop-p.invariant.dens

pub returns-clause-faces : goal.returns-clause-faces
returns-clause-faces g c = c.loop-p.invariant.faces

pub returns-clause-made : goal.returns-clause-made
returns-clause-made g c =
    let past : length c.args.child.now.origins ≤ c.loop-p.p =
    omega (arith, c.loop-p-test.false, c.points-p-end.ensures, c.facts-2.ensures.is.each_point, ap (λ t. t.level.point_count) c.level.ensures) in
    others-all c.args.parent.now.level (scheme_of c.args.scheme) (rows_of g.P.Primvar.numbers c.args.values.now) c.args.child.now.origins c.loop-p.p (rows_of g.P.Primvar.numbers c.loop-p.made)
    past c.loop-p.invariant.others

pub returns-clause-steps : goal.returns-clause-steps
returns-clause-steps g c =
    let past : length c.args.child.now.origins ≤ c.loop-p.p =
    omega (arith, c.loop-p-test.false, c.points-p-end.ensures, c.facts-2.ensures.is.each_point, ap (λ t. t.level.point_count) c.level.ensures) in
    let all = terms-all (terms_of_other c.args.parent.now.level (scheme_of c.args.scheme)) c.args.child.now.origins c.loop-p.p past in
    omega (arith, c.loop-p.invariant.taken, all)
