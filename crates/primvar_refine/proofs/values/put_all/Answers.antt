use Rattle.std.proofs.Common.{arith, ◌≤◌, length, ap, sym, ◌∙◌, subst}
use Rattle.mask_rules.specs.View.{scheme_of}
use Rattle.primvar_refine.specs.View.{row_of, rows_of}
use Rattle.std.proofs.lemmas.List.{length-map}
use Rattle.std.specs.List.{sum_by}
use Rattle.primvar_refine.specs.Made.{terms_of_hidden}
use Rattle.primvar_refine.proofs.ReadyLemmas.{ready-kept, faces-can, all-made, child-fits, keeps, hidden-len, first-hidden-can, first-together}
use Rattle.primvar_refine.proofs.values.put_all.Goals as goal

pub put_faces-requires-clause-can : goal.put_faces-requires-clause-can
put_faces-requires-clause-can g c =
    faces-can c.args.start.now.width c.args.parent.now c.args.child.now (scheme_of c.args.scheme) (rows_of g.P.Primvar.numbers c.args.values.now) c.args.survey.now.named.items
    c.args.places.now.hidden.items c.args.places.now.of_faces.items (rows_of g.P.Primvar.numbers c.args.made.now) c.facts.ensures c.requires.ready c.facts-2.ensures

pub put_faces-requires-clause-fits : goal.put_faces-requires-clause-fits
put_faces-requires-clause-fits g c =
    subst (λ n. length c.args.child.now.origins ≤ n) (length-map c.args.made.now (row_of g.P.Primvar.numbers))
    (child-fits c.args.start.now.width c.args.parent.now c.args.child.now (scheme_of c.args.scheme) (rows_of g.P.Primvar.numbers c.args.values.now) c.args.survey.now.named.items
    c.args.places.now.hidden.items c.args.places.now.of_faces.items (rows_of g.P.Primvar.numbers c.args.made.now) c.facts.ensures c.requires.ready)

pub put_hidden-requires-clause-len : goal.put_hidden-requires-clause-len
put_hidden-requires-clause-len g c =
    hidden-len g.P.Primvar.numbers c.args.start.now.width c.args.parent.now c.args.child.now (scheme_of c.args.scheme) (rows_of g.P.Primvar.numbers c.args.values.now) c.args.survey.now.named.items
    c.args.places.now.hidden.items c.args.places.now.of_faces.items c.args.made.now c.put_faces.new.made c.deref.result.now c.points-first.result c.requires.ready c.put_faces.ensures.dens
    c.deref.ensures.value (c.points-first.ensures ∙ ap (λ t. t.level.point_count) c.level.ensures ∙ sym c.facts-2.ensures.is.each_point)

pub put_hidden-requires-clause-can : goal.put_hidden-requires-clause-can
put_hidden-requires-clause-can g c =
    first-hidden-can c.args.start.now.width c.args.parent.now c.args.child.now (scheme_of c.args.scheme) (rows_of g.P.Primvar.numbers c.args.values.now) c.args.survey.now.named.items
    c.args.places.now.hidden.items c.args.places.now.of_faces.items (rows_of g.P.Primvar.numbers c.args.made.now) (rows_of g.P.Primvar.numbers c.put_faces.new.made) c.facts.ensures c.requires.ready c.put_faces.ensures.dens
    c.deref.result.now c.points-first.result c.deref.ensures.value (c.points-first.ensures ∙ ap (λ t. t.level.point_count) c.level.ensures ∙ sym c.facts-2.ensures.is.each_point)

pub put_points-requires-clause-ready : goal.put_points-requires-clause-ready
put_points-requires-clause-ready g c =
    ready-kept c.args.start.now.width c.args.parent.now c.args.child.now (scheme_of c.args.scheme) (rows_of g.P.Primvar.numbers c.args.values.now) c.args.survey.now.named.items
    c.args.places.now.hidden.items c.args.places.now.of_faces.items (rows_of g.P.Primvar.numbers c.args.made.now) (rows_of g.P.Primvar.numbers c.put_hidden.new.made) c.requires.ready
    (keeps (rows_of g.P.Primvar.numbers c.args.made.now) (rows_of g.P.Primvar.numbers c.put_faces.new.made) (rows_of g.P.Primvar.numbers c.put_hidden.new.made) c.put_faces.ensures.dens c.put_hidden.ensures.dens)

pub put_points-requires-clause-faces : goal.put_points-requires-clause-faces
put_points-requires-clause-faces g c =
    first-together c.args.parent.now c.args.child.now (rows_of g.P.Primvar.numbers c.args.values.now) c.args.places.now.hidden.items
    (rows_of g.P.Primvar.numbers c.put_faces.new.made) (rows_of g.P.Primvar.numbers c.put_hidden.new.made) c.deref.result.now c.points-first.result c.deref.ensures.value
    (c.points-first.ensures ∙ ap (λ t. t.level.point_count) c.level.ensures ∙ sym c.facts-2.ensures.is.each_point)
    c.put_faces.ensures.made c.put_hidden.ensures.kept c.put_hidden.ensures.made

pub returns-clause-dens : goal.returns-clause-dens
returns-clause-dens g c =
    keeps (rows_of g.P.Primvar.numbers c.args.made.now) (rows_of g.P.Primvar.numbers c.put_hidden.new.made) (rows_of g.P.Primvar.numbers c.put_points.new.made)
    (keeps (rows_of g.P.Primvar.numbers c.args.made.now) (rows_of g.P.Primvar.numbers c.put_faces.new.made) (rows_of g.P.Primvar.numbers c.put_hidden.new.made) c.put_faces.ensures.dens c.put_hidden.ensures.dens)
    c.put_points.ensures.dens

pub returns-clause-made : goal.returns-clause-made
returns-clause-made g c =
    all-made c.args.parent.now c.args.child.now (scheme_of c.args.scheme) (rows_of g.P.Primvar.numbers c.args.values.now) c.args.places.now.hidden.items (rows_of g.P.Primvar.numbers c.put_points.new.made)
    c.put_points.ensures.faces c.put_points.ensures.made

pub returns-clause-steps : goal.returns-clause-steps
returns-clause-steps g c = omega (arith, c.put_points.ensures.steps, c.put_hidden.ensures.steps, c.put_faces.ensures.steps, ap (sum_by (terms_of_hidden c.args.parent.now.level)) c.deref.ensures.value)
