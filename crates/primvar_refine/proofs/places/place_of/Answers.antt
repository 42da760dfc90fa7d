use Rattle.std.proofs.Common.{arith, ap, sym, ◌∙◌}
use Rattle.primvar_refine.proofs.PlaceLemmas.{place-found, place-pushed, kept-found, kept-none}
use Rattle.primvar_refine.proofs.places.place_of.Goals as goal

pub returns-in-Some-clause-hidden : goal.returns-in-Some-clause-hidden
returns-in-Some-clause-hidden c =
    kept-found c.args.child.now.origins c.args.hidden.now.items c.args.f c.in-Some.p c.args.named (sym c.face_point.ensures ∙ c.in-Some.is)

pub returns-in-Some-clause-place : goal.returns-in-Some-clause-place
returns-in-Some-clause-place c =
    place-found c.args.child.now.origins c.args.hidden.now.items c.args.f c.in-Some.p c.args.named (sym c.face_point.ensures ∙ c.in-Some.is)

pub returns-in_ok-push-in-None-clause-hidden : goal.returns-in_ok-push-in-None-clause-hidden
returns-in_ok-push-in-None-clause-hidden c =
    kept-none c.args.child.now.origins c.args.hidden.now.items c.push.new.self.items c.args.f c.args.named (sym c.face_point.ensures ∙ c.in-None.is)
    c.if-not-named.false c.in_ok-push-in-None.ensures.items

pub returns-in_ok-push-in-None-clause-place : goal.returns-in_ok-push-in-None-clause-place
returns-in_ok-push-in-None-clause-place c =
    place-pushed c.args.child.now.origins c.args.hidden.now.items c.push.new.self.items c.args.f _ c.args.named c.in_ok-push-in-None.ensures.items
    (omega (arith, c.points.ensures, c.len.ensures, c.facts.ensures.is.each_point, ap (λ t. t.level.point_count) c.level.ensures))
