use Rattle.std.proofs.Common.{◌∙◌, ap, refl, length}
use Rattle.std.specs.List.{sum_by}
use Rattle.level_topology.specs.Topology.{Topology}
use Rattle.uniform_refiner.specs.Put.{with_children, with_child_edges}
use Rattle.uniform_refiner.specs.Points.{counts_for, without_points}
use Rattle.uniform_refiner.proofs.RefineLemmas.{points-before}
use Rattle.uniform_refiner.proofs.WholeLemmas.{all-put, rows-of-level, level-is}
use Rattle.uniform_refiner.proofs.level.put_level.Goals as goal

pub put_points-requires-clause-before : goal.put_points-requires-clause-before
put_points-requires-clause-before g c =
    let level = c.args.level.now.level in
    let count = length c.args.edges.now.ends in
    points-before c.args.level.now c.facts.ensures c.args.edges.now c.requires.numbered.edges c.put_edges.new.rows
    (c.put_edges.ensures ∙ ap (with_child_edges level count) (c.put_faces.ensures.put ∙ ap (with_children level (sum_by length level.polygons)) c.requires.empty))

pub finish-requires-clause-all : goal.finish-requires-clause-all
finish-requires-clause-all g c =
    let level = c.args.level.now.level in
    let count = length c.args.edges.now.ends in
    let rest = c.put_points.ensures.rest ∙ ap without_points (c.put_edges.ensures ∙ ap (with_child_edges level count) (c.put_faces.ensures.put ∙ ap (with_children level (sum_by length level.polygons)) c.requires.empty)) in
    all-put c.args.level.now c.facts.ensures c.requires.numbered.refinable.few c.requires.numbered.refinable.short c.args.edges.now c.requires.numbered.edges c.put_points.new.rows (counts_for level count) rest c.in_ok-put_points.ensures.put refl refl

pub finish-requires-clause-of_level : goal.finish-requires-clause-of_level
finish-requires-clause-of_level g c =
    let level = c.args.level.now.level in
    let count = length c.args.edges.now.ends in
    let rest = c.put_points.ensures.rest ∙ ap without_points (c.put_edges.ensures ∙ ap (with_child_edges level count) (c.put_faces.ensures.put ∙ ap (with_children level (sum_by length level.polygons)) c.requires.empty)) in
    rows-of-level c.args.level.now c.facts.ensures c.requires.numbered.refinable.few c.requires.numbered.refinable.short c.args.edges.now c.requires.numbered.edges c.put_points.new.rows (counts_for level count) rest c.in_ok-put_points.ensures.put

pub returns-clause-level : goal.returns-clause-level
returns-clause-level g c =
    let level = c.args.level.now.level in
    let count = length c.args.edges.now.ends in
    let rest = c.put_points.ensures.rest ∙ ap without_points (c.put_edges.ensures ∙ ap (with_child_edges level count) (c.put_faces.ensures.put ∙ ap (with_children level (sum_by length level.polygons)) c.requires.empty)) in
    ap (λ (k : Topology). k.level) c.finish.ensures ∙ level-is c.args.level.now c.facts.ensures c.requires.numbered.refinable.few c.requires.numbered.refinable.short c.args.edges.now c.requires.numbered.edges c.put_points.new.rows (counts_for level count) rest c.in_ok-put_points.ensures.put

pub returns-clause-complete : goal.returns-clause-complete
returns-clause-complete g c = ap (λ (k : Topology). k.complete) c.finish.ensures ∙ c.in_ok-put_points.ensures.put.complete
