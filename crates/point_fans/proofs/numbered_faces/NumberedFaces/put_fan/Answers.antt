use Rattle.std.proofs.Common.{subst, ◌≡◌, ◌∙◌, ℕ, true, false, ap, sym, rules, length, map, get_or}
use Rattle.subdiv_model.specs.Polygons.{is_among}
use Rattle.subdiv_model.specs.Edges.{faces_of_point}
use Rattle.subdiv_model.specs.Manifold.{IsSuccessor}
use Rattle.mesh_laws.proofs.FanLemmas.{faces-among}
use Rattle.level_topology.specs.Topology.{corner_of}
use Rattle.level_topology.specs.PointRows.{IsTurned}
use Rattle.point_fans.proofs.TurnLemmas.{listed-there, inside-there, turned}
use Rattle.point_fans.proofs.numbered_faces.NumberedFaces.put_fan.Goals as goal

pub note_corners-requires-clause-inside : goal.note_corners-requires-clause-inside
note_corners-requires-clause-inside c =
    inside-there c.args.self.now.level.polygons c.facts.ensures.simple c.facts.ensures.sides_once c.args.v c.deref.result.now (length c.args.corners.now.items) c.requires.size
    (listed-there c.args.self.now.level.polygons c.facts.ensures.simple c.facts.ensures.sides_once c.args.v c.deref.result.now (c.deref.ensures.value ∙ c.requires.listed))

pub first_of_fan-first-requires-clause-there : goal.first_of_fan-first-requires-clause-there
first_of_fan-first-requires-clause-there c =
    listed-there c.args.self.now.level.polygons c.facts.ensures.simple c.facts.ensures.sides_once c.args.v c.deref-3.result.now (c.deref-3.ensures.value ∙ c.requires.listed)

pub walk-requires-clause-corners : goal.walk-requires-clause-corners
walk-requires-clause-corners c = λ f has. ap (λ xs. get_or xs f 0) c.deref-5.ensures.value ∙ c.note_corners.ensures.corners (corner_of c.args.self.now.level.polygons c.args.v)
    (c.deref-2.ensures.value ∙ c.requires.at ∙ ap (map (corner_of c.args.self.now.level.polygons c.args.v)) (sym c.deref.ensures.value)) f
    (ap (λ xs. is_among xs f) (c.deref.ensures.value ∙ c.requires.listed) ∙ faces-among c.args.self.now.level.polygons c.args.v f ∙ has)

pub returns-in_err-walk-clause-corners : goal.returns-in_err-walk-clause-corners
returns-in_err-walk-clause-corners c = λ f has.
    c.note_corners.ensures.corners (corner_of c.args.self.now.level.polygons c.args.v)
    (c.deref-2.ensures.value ∙ c.requires.at ∙ ap (map (corner_of c.args.self.now.level.polygons c.args.v)) (sym c.deref.ensures.value)) f
    (ap (λ xs. is_among xs f) (c.deref.ensures.value ∙ c.requires.listed) ∙ faces-among c.args.self.now.level.polygons c.args.v f ∙ has)

pub returns-clause-turned : goal.returns-clause-turned
returns-clause-turned c =
    let polygons = c.args.self.now.level.polygons in
    let led : c.first_of_fan-first.result.1 ≡ false → (f : ℕ) → is_among (faces_of_point polygons c.args.v) f ≡ true → (g : ℕ) × IsSuccessor polygons c.args.v g f =
    λ no f there. c.first_of_fan-first.ensures.led no f (ap (λ xs. is_among xs f) (c.deref-3.ensures.value ∙ c.requires.listed) ∙ there) in
    let found = turned polygons c.facts.ensures.simple c.facts.ensures.sides_once c.args.v c.first_of_fan-first.result.0 c.first_of_fan-first.result.1 c.requires.fan c.first_of_fan-first.ensures.there c.first_of_fan-first.ensures.no_predecessor led in
    let n : c.len.result ≡ length c.args.listed.now.faces.items = search rules in
    let walked = c.in_ok-walk.ensures found.0 found.2 (found.1 ∙ ap length (sym c.requires.listed) ∙ sym n) in
    subst (λ xs. IsTurned polygons c.args.v c.first_of_fan-first.result.1 xs) (sym walked) found.3

pub returns-clause-corners : goal.returns-clause-corners
returns-clause-corners c = λ f has.
    c.note_corners.ensures.corners (corner_of c.args.self.now.level.polygons c.args.v)
    (c.deref-2.ensures.value ∙ c.requires.at ∙ ap (map (corner_of c.args.self.now.level.polygons c.args.v)) (sym c.deref.ensures.value)) f
    (ap (λ xs. is_among xs f) (c.deref.ensures.value ∙ c.requires.listed) ∙ faces-among c.args.self.now.level.polygons c.args.v f ∙ has)
