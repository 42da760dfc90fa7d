use Rattle.std.proofs.Common.{◌∙◌, ap, ◌≡◌, ◌≤◌, ◌+◌, ◌++◌, arith, rules, length, take}
use Rattle.std.proofs.lemmas.List.{length-take, take_all}
use Rattle.subdiv_model.specs.Polygons.{sides_of}
use Rattle.level_laws.proofs.FaceLemmas.{sides_of-length}
use Rattle.level_topology.specs.Numbering.{Numbered, number_in, with_side, with_sides}
use Rattle.level_builder.specs.NumberedEdges.{numbers_in}
use Rattle.level_builder.proofs.NumberedSideLemmas.{sides-length, sides-limit, sides-more, numbers-more}
use Rattle.level_builder.proofs.edges.NumberedEdges.number_all.Goals as goal

pub number-requires : goal.number-requires
number-requires c =
    let sides = take c.loop-c.c (sides_of c.args.corners.now) in
    let long : length c.loop-c.self.ends ≤ length c.args.self.now.ends + length sides = rw c.loop-c.invariant.numbered (sides-length c.args.face c.args.self.now sides) in
    let limit : c.loop-c.self.limit ≡ c.args.self.now.limit = ap (λ (n : Numbered). n.limit) c.loop-c.invariant.numbered ∙ sides-limit c.args.face c.args.self.now sides in
    omega (arith, long, limit, length-take c.loop-c.c (sides_of c.args.corners.now), sides_of-length c.args.corners.now, c.requires.room, c.loop-c-test.true)

pub loop-c-preserved : goal.loop-c-preserved
loop-c-preserved c = record {
  numbered = sides-more c.args.face c.args.self.now c.loop-c.self c.number.new.self c.args.corners.now c.loop-c.c c.loop-c-test.true c.loop-c.invariant.numbered (c.number.ensures.numbered ∙ ap (with_side c.args.face c.loop-c.self) c.side_of.ensures);
  numbers = numbers-more c.args.face c.args.self.now c.loop-c.self c.args.numbers.now.items c.loop-c.numbers.items c.push_reserved.new.self.items c.args.corners.now c.loop-c.c c.number.result c.loop-c-test.true c.loop-c.invariant.numbered c.loop-c.invariant.numbers (c.number.ensures.number ∙ ap (number_in c.loop-c.self.ends) c.side_of.ensures) c.push_reserved.ensures.items;
  room = search rules;
  count = search rules;
}

pub returns-clause-numbered : goal.returns-clause-numbered
returns-clause-numbered c =
    let whole : take c.loop-c.c (sides_of c.args.corners.now) ≡ sides_of c.args.corners.now = take_all c.loop-c.c (sides_of c.args.corners.now) (omega (arith, sides_of-length c.args.corners.now, c.loop-c-test.false)) in
    c.loop-c.invariant.numbered ∙ ap (with_sides c.args.face c.args.self.now) whole

pub returns-clause-numbers : goal.returns-clause-numbers
returns-clause-numbers c =
    let whole : take c.loop-c.c (sides_of c.args.corners.now) ≡ sides_of c.args.corners.now = take_all c.loop-c.c (sides_of c.args.corners.now) (omega (arith, sides_of-length c.args.corners.now, c.loop-c-test.false)) in
    c.loop-c.invariant.numbers ∙ ap (λ sides. c.args.numbers.now.items ++ numbers_in c.args.self.now.ends sides) whole
