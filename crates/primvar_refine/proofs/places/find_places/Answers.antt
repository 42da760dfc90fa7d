use Rattle.std.proofs.Common.{arith, ◌<◌, false, length, ◌∙◌}
use Rattle.std.proofs.lemmas.List.{get_or_default}
use Rattle.primvar_refine.proofs.PlaceLemmas.{hidden-goes_on, places-go_on, hidden-short}
use Rattle.primvar_refine.proofs.places.find_places.Goals as goal

pub place_of-requires-clause-few : goal.place_of-requires-clause-few
place_of-requires-clause-few c =
    let short = hidden-short c.args.child.now.origins c.args.survey.now.named.items c.loop-f.hidden.items c.loop-f.f c.loop-f.invariant.hidden_are in
    omega (arith, short, c.facts.ensures.is.each_point, c.facts.ensures.level_is.small.points, c.requires.few, c.requires.each, c.len-f-end.ensures, c.loop-f-test.true)

pub loop-f-preserved : goal.loop-f-preserved
loop-f-preserved c =
    let inside : c.loop-f.f < length c.args.survey.now.named.items = omega (arith, c.loop-f-test.true, c.len-f-end.ensures) in
    let named = c.index.ensures ∙ get_or_default c.args.survey.now.named.items c.loop-f.f c.index.result.now false inside in
    record {
      hidden_are = hidden-goes_on c.args.child.now.origins c.args.survey.now.named.items c.loop-f.hidden.items c.place_of.new.hidden.items c.loop-f.f c.index.result.now named c.loop-f.invariant.hidden_are c.in_ok-place.ensures.hidden;
      places_are = places-go_on c.args.child.now.origins c.args.survey.now.named.items c.loop-f.hidden.items c.place_of.new.hidden.items _ c.loop-f.f c.in_ok-place.place
          c.loop-f.of_faces.items c.push.new.self.items c.index.result.now named c.in_ok-place.ensures.hidden c.in_ok-push.ensures.items c.loop-f.invariant.places_are c.in_ok-place.ensures.place;
    }
