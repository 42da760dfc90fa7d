use Rattle.std.proofs.Common.{◌≡◌, ◌≤◌, ◌^◌, ◌∙◌, ap, sym, subst, arith, length, map}
use Rattle.std.proofs.lemmas.List.{length-map}
use Rattle.std.proofs.lemmas.Result.{IfOk-weaker}
use Rattle.subdiv_model.specs.Level.{Level}
use Rattle.subdiv_model.specs.Child.{child_level}
use Rattle.sharpness_rules.specs.View.{sharpness_of, method_of}
use Rattle.part_laws.specs.LevelParts.{IsLevelPart}
use Rattle.level_topology.specs.Topology.{Topology}
use Rattle.level_topology.specs.ChildTables.{place_of}
use Rattle.child_slots.specs.Parts.{part}
use Rattle.point_fans.specs.Built.{Built, AreFans}
use Rattle.sparse_refiner.specs.Shapes.{children_in, name_in}
use Rattle.sparse_refiner.proofs.PartLemmas.{is-built, are-fans, level-part}
use Rattle.sparse_refiner.proofs.part.part_level.Goals as goal

pub of-requires : goal.of-requires
of-requires g c =
    let t = c.args.shape.now.level.now in
    let p = part (map place_of c.args.shape.now.places.now) (g.P.ChildPoints.has c.args.shape.now.points.now) (g.P.ChildPoints.number c.args.shape.now.points.now) in
    let few : length p.places ≤ 2 ^ 22 = omega (arith, c.requires.few, length-map c.args.shape.now.places.now place_of) in
    is-built t c.facts.ensures p c.args.edges c.requires.edges c.args.shape.now.names.now c.requires.names few c.args.complete.items c.requires.marks (map sharpness_of c.args.halves.now) c.in_ok-tables.tables c.in_ok-tables.ensures.tables (method_of c.method.result)
    c.into_parts-edge_ends.result.0.items c.into_parts-edge_ends.result.1.items (length c.into_parts-edge_ends.result.0.items) c.into_parts-edge_ends.ensures.ends c.into_parts-edge_ends.ensures.faces

pub finish-requires : goal.finish-requires
finish-requires g c =
    let t = c.args.shape.now.level.now in
    let p = part (map place_of c.args.shape.now.places.now) (g.P.ChildPoints.has c.args.shape.now.points.now) (g.P.ChildPoints.number c.args.shape.now.points.now) in
    let few : length p.places ≤ 2 ^ 22 = omega (arith, c.requires.few, length-map c.args.shape.now.places.now place_of) in
    record { fans = subst (λ (b : Built). AreFans b) (sym c.of.ensures) (are-fans t c.facts.ensures p c.args.edges c.requires.edges c.args.shape.now.names.now c.requires.names few c.args.complete.items c.requires.marks (map sharpness_of c.args.halves.now) c.in_ok-tables.tables c.in_ok-tables.ensures.tables (method_of c.method.result)) }

pub returns-clause-part : goal.returns-clause-part
returns-clause-part g c =
    let t = c.args.shape.now.level.now in
    let p = part (map place_of c.args.shape.now.places.now) (g.P.ChildPoints.has c.args.shape.now.points.now) (g.P.ChildPoints.number c.args.shape.now.points.now) in
    let few : length p.places ≤ 2 ^ 22 = omega (arith, c.requires.few, length-map c.args.shape.now.places.now place_of) in
    let is = level-part t c.facts.ensures p c.args.edges c.requires.edges c.args.shape.now.names.now c.requires.names few c.args.complete.items c.requires.marks (map sharpness_of c.args.halves.now) c.in_ok-tables.tables c.in_ok-tables.ensures.tables (method_of c.method.result) c.requires.halves c.method.ensures in
    IfOk-weaker c.finish.result (λ (next : Topology). next.level ≡ c.of.result.level) (λ (next : Topology). IsLevelPart (name_in c.args.shape.now.names.now) (children_in c.args.shape.now) next.level (child_level t.level))
    (λ next e. subst (λ (level : Level). IsLevelPart (name_in c.args.shape.now.names.now) (children_in c.args.shape.now) level (child_level t.level)) (sym (e ∙ ap (λ (b : Built). b.level) c.of.ensures)) is) c.finish.ensures.level
