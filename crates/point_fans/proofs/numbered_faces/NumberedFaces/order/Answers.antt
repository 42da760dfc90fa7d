use Rattle.std.proofs.Common.{subst, ◌≡◌, ◌<◌, ◌∙◌, Bool, false, ap, sym, rules, length, get_or}
use Rattle.std.proofs.lemmas.List.{get_or_default}
use Rattle.level_topology.specs.PointRows.{IsRow}
use Rattle.point_fans.specs.Built.{Built}
use Rattle.level_topology.specs.declared.point_lists.PointLists.{PointLists}
use Rattle.point_fans.proofs.TurnLemmas.{plain-row}
use Rattle.level_topology.proofs.TurnLemmas.{empty-row, nothing-there}
use Rattle.point_fans.proofs.numbered_faces.NumberedFaces.order.Goals as goal

pub returns-then-not-index-clause-row : goal.returns-then-not-index-clause-row
returns-then-not-index-clause-row c =
    let now = c.args.self.now in
    let same : c.self.inside.parts.complete.items ≡ now.complete = ap (λ (b : Built). b.complete) c.self.view_is in
    let below : c.args.v < length c.self.inside.parts.complete.items = subst (λ (b : Built). c.args.v < b.level.point_count) (sym c.self.view_is) c.requires.point in
    let mark : get_or now.complete c.args.v false ≡ c.index.result.now = ap (λ xs. get_or xs c.args.v false) (sym same) ∙ sym (c.index.ensures ∙ get_or_default c.self.inside.parts.complete.items c.args.v c.index.result.now false below) in
    subst (λ (b : Bool). IsRow now.level.polygons c.args.v b c.args.row.now.faces.items c.args.row.now.faces_at.items c.args.row.now.edges.items c.args.row.now.edges_at.items) (sym (mark ∙ c.if-not-index.true))
    (plain-row now.level.polygons c.args.v c.args.row.now.faces.items c.args.row.now.faces_at.items c.args.row.now.edges.items c.args.row.now.edges_at.items c.requires.faces c.requires.at c.requires.edges c.requires.ends)

pub returns-then-is_empty-clause-row : goal.returns-then-is_empty-clause-row
returns-then-is_empty-clause-row c =
    let n : length c.args.row.now.faces.items ≡ 0 = search rules in
    empty-row c.args.self.now.level.polygons c.args.v (get_or c.args.self.now.complete c.args.v false) c.args.row.now.faces.items c.args.row.now.faces_at.items c.args.row.now.edges.items c.args.row.now.edges_at.items (nothing-there c.args.row.now.faces.items n) c.requires.faces c.requires.at c.requires.edges c.requires.ends

pub returns-clause-row : goal.returns-clause-row
returns-clause-row c =
    let now = c.args.self.now in
    let same : c.self.inside.parts.complete.items ≡ now.complete = ap (λ (b : Built). b.complete) c.self.view_is in
    let below : c.args.v < length c.self.inside.parts.complete.items = subst (λ (b : Built). c.args.v < b.level.point_count) (sym c.self.view_is) c.requires.point in
    let mark : get_or now.complete c.args.v false ≡ c.index.result.now = ap (λ xs. get_or xs c.args.v false) (sym same) ∙ sym (c.index.ensures ∙ get_or_default c.self.inside.parts.complete.items c.args.v c.index.result.now false below) in
    let kept : IsRow now.level.polygons c.args.v (get_or now.complete c.args.v false) c.turn.new.turned.faces.items c.turn.new.turned.faces_at.items c.turn.new.turned.edges.items c.turn.new.turned.edges_at.items =
    subst (λ (b : Bool). IsRow now.level.polygons c.args.v b c.turn.new.turned.faces.items c.turn.new.turned.faces_at.items c.turn.new.turned.edges.items c.turn.new.turned.edges_at.items) (sym (mark ∙ c.if-not-index.false)) c.in_ok-turn.ensures.row in
    subst (λ (r : PointLists). IsRow now.level.polygons c.args.v (get_or now.complete c.args.v false) r.faces.items r.faces_at.items r.edges.items r.edges_at.items) (sym c.swap.ensures.x_after) kept
