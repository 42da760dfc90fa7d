use Rattle.std.proofs.Common.{arith, ◌≡◌, ◌+◌, ◌<◌, ◌++◌, ℕ, length, map, take, drop, get_or, ap, sym, ◌∙◌, subst}
use Rattle.std.specs.List.{All, take-map}
use Rattle.std.proofs.lemmas.List.{length-map}
use Rattle.mask_rules.specs.View.{scheme_of}
use Rattle.primvar_refine.specs.Rows.{dens_of}
use Rattle.primvar_refine.specs.View.{rows_of, row_of}
use Rattle.primvar_refine.specs.Ready.{IsReady}
use Rattle.primvar_refine.proofs.LaidLemmas.{hidden-inside, laid, dens-counted, first-count, terms-all-made}
use Rattle.primvar_refine.proofs.FinalLemmas.{cut-refined, cut-back}
use Rattle.primvar_refine.proofs.WidthLemmas.{sums-kept}
use Rattle.primvar_refine.proofs.values.make_values.Goals as goal

pub zeros-requires : goal.zeros-requires
zeros-requires g c =
    subst (λ xs. All (λ f. f < length xs) c.deref-3.result.now) (sym c.deref-2.ensures.value)
    (subst (λ ys. All (λ f. f < length c.args.survey.now.faces.items) ys) (sym c.deref-3.ensures.value)
    (subst (λ n. All (λ f. f < n) c.in_ok-places.places.hidden.items) (sym c.requires.survey.face_count)
    (hidden-inside c.args.start.now.width c.args.parent.now c.args.child.now (scheme_of c.args.scheme) (rows_of g.P.Primvar.numbers c.args.values.now) c.args.survey.now c.facts.ensures c.facts-2.ensures
    c.requires.child c.requires.good c.requires.survey c.requires.sums c.in_ok-places.places.hidden.items c.in_ok-places.ensures.hidden)))

pub put_all-requires-clause-ready : goal.put_all-requires-clause-ready
put_all-requires-clause-ready g c =
    let dens = c.args.survey.now.dens.items in
    let dens_is : dens_of (rows_of g.P.Primvar.numbers c.in_ok-made.made.items) ≡ dens ++ map (λ f. get_or c.args.survey.now.faces.items f 0) c.in_ok-places.places.hidden.items =
    c.in_ok-made.ensures
    ∙ ap (λ l. l ++ map (λ f. get_or c.deref-2.result.now f 0) c.deref-3.result.now) c.deref.ensures.value
    ∙ ap (λ xs. dens ++ map (λ f. get_or xs f 0) c.deref-3.result.now) c.deref-2.ensures.value
    ∙ ap (λ ys. dens ++ map (λ f. get_or c.args.survey.now.faces.items f 0) ys) c.deref-3.ensures.value in
    subst (λ l. IsReady c.args.start.now.width c.args.parent.now c.args.child.now (scheme_of c.args.scheme) (rows_of g.P.Primvar.numbers c.args.values.now) c.args.survey.now.named.items
    c.in_ok-places.places.hidden.items c.in_ok-places.places.of_faces.items (rows_of g.P.Primvar.numbers l)) (sym c.deref_mut.ensures.value)
    (laid c.args.start.now.width c.args.parent.now c.args.child.now (scheme_of c.args.scheme) (rows_of g.P.Primvar.numbers c.args.values.now) c.args.survey.now c.facts.ensures c.facts-2.ensures
    c.requires.child c.requires.good c.requires.survey c.requires.sums c.in_ok-places.places.hidden.items c.in_ok-places.ensures.hidden
    (rows_of g.P.Primvar.numbers c.in_ok-made.made.items) c.in_ok-places.places.of_faces.items
    (length-map c.args.values.now (row_of g.P.Primvar.numbers) ∙ c.requires.each) c.in_ok-places.ensures.places dens_is)

pub returns-clause-refined : goal.returns-clause-refined
returns-clause-refined g c =
    let rows = rows_of g.P.Primvar.numbers c.args.values.now in
    let after = rows_of g.P.Primvar.numbers c.put_all.new.made in
    let n : ℕ = c.len.result in
    let many : n ≡ length c.args.survey.now.dens.items = c.len.ensures ∙ sym c.deref.ensures.len ∙ ap length c.deref.ensures.value in
    let cut : c.truncate.new.self.items ≡ take n c.put_all.new.made =
    cut-back n c.in_ok-made.made.len c.put_all.new.made (drop (length c.put_all.new.made) c.in_ok-made.made.items) c.truncate.new.self.items
    (c.put_all.auto.made ∙ c.deref_mut.ensures.len) c.truncate.ensures.items in
    let count : length after ≡ length (rows_of g.P.Primvar.numbers c.in_ok-made.made.items) =
    c.put_all.ensures.dens.count ∙ ap (λ l. length (rows_of g.P.Primvar.numbers l)) c.deref_mut.ensures.value in
    let counted = dens-counted c.args.start.now.width c.args.parent.now c.args.child.now (scheme_of c.args.scheme) rows c.args.survey.now c.facts.ensures c.facts-2.ensures
    c.requires.child c.requires.good c.requires.survey c.requires.sums in
    cut-refined c.args.parent.now c.args.child.now (scheme_of c.args.scheme) rows c.args.survey.now c.in_ok-places.places.hidden.items after (rows_of g.P.Primvar.numbers c.truncate.new.self.items) n
    c.requires.survey (sums-kept c.args.start.now.width _ rows c.requires.sums) c.put_all.ensures.made (many ∙ counted)
    (first-count (rows_of g.P.Primvar.numbers c.in_ok-made.made.items) after c.deref.result.now _ n c.in_ok-made.ensures count
    (many ∙ ap length (sym c.deref.ensures.value)))
    (ap (rows_of g.P.Primvar.numbers) cut ∙ sym (take-map (row_of g.P.Primvar.numbers) n c.put_all.new.made))

pub returns-clause-taken : goal.returns-clause-taken
returns-clause-taken g c =
    let terms = terms-all-made c.args.start.now.width c.args.parent.now c.args.child.now (scheme_of c.args.scheme) (rows_of g.P.Primvar.numbers c.args.values.now) c.args.survey.now c.facts.ensures c.facts-2.ensures
    c.requires.child c.requires.good c.requires.survey c.requires.sums c.in_ok-places.places.hidden.items c.in_ok-places.ensures.hidden in
    c.put_all.ensures.steps ∙ ap (λ n. c.args.steps.now + n) terms

pub returns-clause-steps : goal.returns-clause-steps
returns-clause-steps g c =
    let terms = terms-all-made c.args.start.now.width c.args.parent.now c.args.child.now (scheme_of c.args.scheme) (rows_of g.P.Primvar.numbers c.args.values.now) c.args.survey.now c.facts.ensures c.facts-2.ensures
    c.requires.child c.requires.good c.requires.survey c.requires.sums c.in_ok-places.places.hidden.items c.in_ok-places.ensures.hidden in
    omega (arith, terms, c.put_all.ensures.steps)

pub returns-clause-later : goal.returns-clause-later
returns-clause-later g c = omega (arith, c.put_all.ensures.steps)
