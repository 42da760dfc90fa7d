use Rattle.std.proofs.Common.{subst, ℕ, ◌≡◌, ◌<◌, ◌+◌, ◌++◌, ◌∷◌, ◌∙◌, ◌^◌, [], List, Bool, ap, sym, arith, length, map, IsTrue}
use Rattle.std.specs.List.{All, sum_by}
use Rattle.subdiv_model.specs.Polygons.{Polygon, sides_of}
use Rattle.level_laws.proofs.FaceLemmas.{sides_of-length}
use Rattle.sharpness_rules.specs.View.{sharpness_of, method_of}
use Rattle.level_topology.specs.Packed.{Paired}
use Rattle.level_builder.specs.NumberedEdges.{numbers_in}
use Rattle.point_fans.specs.Built.{Built}
use Rattle.point_fans.proofs.PointPlaceLemmas.{edges-few}
use Rattle.level_builder.specs.Builder.{has_new_sides}
use Rattle.level_builder.proofs.BuilderLemmas.{numbers-length, built-added, built-same}
use Rattle.level_builder.proofs.builder.LevelBuilder.add_face.Goals as goal

pub make_room-requires-clause-few_edges : goal.make_room-requires-clause-few_edges
make_room-requires-clause-few_edges g c =
    let polygons = c.self.inside.faces.lists in
    let short : sum_by length polygons + length c.args.corners.now < 2 ^ 28 = subst (λ (b : Built). sum_by length b.level.polygons + length c.args.corners.now < 2 ^ 28) (sym c.self.view_is) c.requires.short in
    omega (arith, short, edges-few polygons c.self.inside.edges c.self.invariant.numbering)

pub push-requires-clause-equal : goal.push-requires-clause-equal
push-requires-clause-equal g c =
    let these = numbers_in c.make_room.new.edges.ends (sides_of c.args.corners.now) in
    let numbers : c.deref.result.now ≡ these = c.deref.ensures.value ∙ c.number_all.ensures.numbers ∙ ap (λ (xs : List ℕ). xs ++ these) (c.make_room.ensures.numbers ∙ c.clear.ensures.items) in
    ap length numbers ∙ numbers-length c.make_room.new.edges.ends (sides_of c.args.corners.now) ∙ sides_of-length c.args.corners.now

pub invariant_of-self-2 : goal.invariant_of-self-2
invariant_of-self-2 g c =
    let these = numbers_in c.make_room.new.edges.ends (sides_of c.args.corners.now) in
    let numbers : c.deref.result.now ≡ these = c.deref.ensures.value ∙ c.number_all.ensures.numbers ∙ ap (λ (xs : List ℕ). xs ++ these) (c.make_room.ensures.numbers ∙ c.clear.ensures.items) in
    built-added (length c.self.inside.complete.items) c.self.inside.faces.lists c.self.inside.holes.items c.self.inside.edges (map sharpness_of c.self.inside.vertex_sharpness.items) (method_of c.self.inside.method) c.self.inside.complete.items c.self.inside.faces.beside c.self.invariant
    c.make_room.new.edges c.number_all.new.self c.args.corners.now c.args.hole c.len-face.result c.push.new.self.lists c.push_reserved.new.self.items c.push.new.self.beside c.deref.result.now
    c.make_room.ensures.ends c.make_room.ensures.faces c.make_room.ensures.sharpness
    (c.len-face.ensures.count ∙ ap length c.make_room.ensures.lists)
    c.number_all.ensures.numbered
    numbers
    (ap (λ (p : Paired ℕ). p.lists) c.push.ensures ∙ ap (λ (ls : List Polygon). ls ++ c.args.corners.now ∷ []) c.make_room.ensures.lists)
    (c.push_reserved.ensures.items ∙ ap (λ (hs : List Bool). hs ++ c.args.hole ∷ []) c.make_room.ensures.holes)
    (ap (λ (p : Paired ℕ). p.beside) c.push.ensures ∙ ap (λ (ls : List (List ℕ)). ls ++ c.deref.result.now ∷ []) c.make_room.ensures.beside)
    c.requires.simple
    (subst (λ (b : Built). All (λ v. v < b.level.point_count) c.args.corners.now) (sym c.self.view_is) c.requires.inside)
    c.requires.size
    (subst (λ (b : Built). length b.level.polygons < 2 ^ 22) (sym c.self.view_is) c.requires.few)
    (subst (λ (b : Built). sum_by length b.level.polygons + length c.args.corners.now < 2 ^ 28) (sym c.self.view_is) c.requires.short)
    (subst (λ (b : Built). IsTrue (has_new_sides b.level.polygons c.args.corners.now)) (sym c.self.view_is) c.requires.new_sides)

pub returns-clause-added : goal.returns-clause-added
returns-clause-added g c =
    rw (← c.self.view_is)
    (built-same (length c.self.inside.complete.items) c.self.inside.faces.lists c.self.inside.holes.items c.self.inside.edges (map sharpness_of c.self.inside.vertex_sharpness.items) (method_of c.self.inside.method) c.self.inside.complete.items c.self.inside.faces.beside c.self.invariant
    c.make_room.new.edges c.number_all.new.self c.args.corners.now c.args.hole c.len-face.result c.push.new.self.lists c.push_reserved.new.self.items
    c.make_room.ensures.ends c.make_room.ensures.faces c.make_room.ensures.sharpness
    (c.len-face.ensures.count ∙ ap length c.make_room.ensures.lists)
    c.number_all.ensures.numbered
    (ap (λ (p : Paired ℕ). p.lists) c.push.ensures ∙ ap (λ (ls : List Polygon). ls ++ c.args.corners.now ∷ []) c.make_room.ensures.lists)
    (c.push_reserved.ensures.items ∙ ap (λ (hs : List Bool). hs ++ c.args.hole ∷ []) c.make_room.ensures.holes))
