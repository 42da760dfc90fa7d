use Rattle.std.proofs.Common.{◌<◌, ◌≤◌, arith, length, ap, ◌∙◌}
use Rattle.level_topology.specs.Topology.{Topology}
use Rattle.mask_rules.specs.View.{scheme_of}
use Rattle.level_topology.specs.ChildTables.{origin_of}
use Rattle.child_masks.proofs.OriginLemmas.{origin-known}
use Rattle.child_masks.proofs.NextLemmas.{can-add, survey-more}
use Rattle.child_masks.proofs.SurveyLemmas.{survey-whole, survey-over, survey-short}
use Rattle.child_masks.proofs.survey.survey_over.Goals as goal

pub loop-p-init : goal.loop-p-init
loop-p-init c = c.in_ok-survey.ensures (scheme_of c.args.scheme)

pub add_point-requires-clause-known : goal.add_point-requires-clause-known
add_point-requires-clause-known c =
    let points = c.points-points.ensures ∙ ap (λ (t : Topology). t.level.point_count) c.level.ensures in
    let inside : c.loop-p.p < length c.args.child.now.origins = omega (arith, c.loop-p-test.true, points, c.facts-2.ensures.is.each_point) in
    origin-known c.args.parent.now c.args.child.now (scheme_of c.args.scheme) c.loop-p.p c.facts-2.ensures c.requires.child inside (origin_of c.origin-origin.result) c.origin-origin.ensures

pub add_point-requires-clause-can : goal.add_point-requires-clause-can
add_point-requires-clause-can c =
    let points = c.points-points.ensures ∙ ap (λ (t : Topology). t.level.point_count) c.level.ensures in
    let inside : c.loop-p.p < length c.args.child.now.origins = omega (arith, c.loop-p-test.true, points, c.facts-2.ensures.is.each_point) in
    can-add c.args.parent.now (scheme_of c.args.scheme) c.args.child.now.origins c.args.dens.now c.loop-p.p c.loop-p.survey inside c.loop-p.invariant c.requires.dens
    (omega (arith, c.facts-2.ensures.is.each_point, c.facts-2.ensures.level_is.small.points))

pub loop-p-preserved : goal.loop-p-preserved
loop-p-preserved c =
    let points = c.points-points.ensures ∙ ap (λ (t : Topology). t.level.point_count) c.level.ensures in
    let inside : c.loop-p.p < length c.args.child.now.origins = omega (arith, c.loop-p-test.true, points, c.facts-2.ensures.is.each_point) in
    survey-more c.args.parent.now (scheme_of c.args.scheme) c.args.child.now.origins c.args.dens.now c.loop-p.p c.loop-p.survey inside c.loop-p.invariant
    (origin_of c.origin-origin.result) c.add_point.new.self c.origin-origin.ensures c.in_default.ensures

pub first_zero-requires : goal.first_zero-requires
first_zero-requires c =
    let short = survey-short c.args.parent.now (scheme_of c.args.scheme) c.args.child.now.origins c.args.dens.now c.loop-p.p c.loop-p.survey c.loop-p.invariant in
    omega (arith, short, c.facts-2.ensures.is.each_point, c.facts-2.ensures.level_is.small.points)

pub returns-in-Err : goal.returns-in-Err
returns-in-Err c = c.fault_of_all.ensures c.args.dens.now

pub returns-in-Some : goal.returns-in-Some
returns-in-Some c =
    let points = c.points-points.ensures ∙ ap (λ (t : Topology). t.level.point_count) c.level.ensures in
    let past : length c.args.child.now.origins ≤ c.loop-p.p = omega (arith, c.loop-p-test.false, points, c.facts-2.ensures.is.each_point) in
    survey-over c.args.parent.now (scheme_of c.args.scheme) c.args.child.now.origins c.args.dens.now c.loop-p.p c.loop-p.survey past c.loop-p.invariant
    c.in-Some.p c.in-Some.ensures.0 c.in-Some.ensures.1 c.in-Some.ensures.2

pub returns-in-None : goal.returns-in-None
returns-in-None c =
    let points = c.points-points.ensures ∙ ap (λ (t : Topology). t.level.point_count) c.level.ensures in
    let past : length c.args.child.now.origins ≤ c.loop-p.p = omega (arith, c.loop-p-test.false, points, c.facts-2.ensures.is.each_point) in
    survey-whole c.args.parent.now (scheme_of c.args.scheme) c.args.child.now.origins c.args.dens.now c.loop-p.p c.loop-p.survey past c.loop-p.invariant
    c.in-None.ensures
