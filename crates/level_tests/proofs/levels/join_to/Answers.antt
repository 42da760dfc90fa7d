use Rattle.std.proofs.Common.{ap, sym, ◌∙◌, subst, length, map}
use Rattle.subdiv_model.specs.Edges.{edges_of}
use Rattle.level_topology.specs.Topology.{Topology}
use Rattle.level_topology.specs.Child.{IsChild, ChildTopology, child_of}
use Rattle.level_tests.specs.Squares.{square, quarter_origins, quarter_places}
use Rattle.level_tests.proofs.QuarterLemmas.{quarter-child, square-points, square-sizes, square-edges, quarter-points}
use Rattle.level_tests.proofs.levels.join_to.Goals as goal

pub join-requires : goal.join-requires
join-requires g c =
    subst (λ (p : Topology). IsChild p c.in_ok-level.level quarter_origins quarter_places) (sym c.requires)
    (subst (λ (l : Topology). IsChild square l quarter_origins quarter_places) (sym c.in_ok-level.ensures) quarter-child)

pub returns-clause-parts : goal.returns-clause-parts
returns-clause-parts g c = record {
  vertices = ap (λ (x : ChildTopology). x.parent_points) c.in_ok-child.ensures ∙ ap (λ (p : Topology). p.level.point_count) c.requires ∙ square-points;
  faces = ap (λ (x : ChildTopology). x.parent_sizes) c.in_ok-child.ensures ∙ ap (λ (p : Topology). map length p.level.polygons) c.requires ∙ square-sizes;
  edges = ap (λ (x : ChildTopology). x.parent_edges) c.in_ok-child.ensures ∙ ap (λ (p : Topology). length (edges_of p.level.polygons)) c.requires ∙ square-edges;
  points = ap (λ (x : ChildTopology). x.topology.level.point_count) c.in_ok-child.ensures ∙ ap (λ (l : Topology). l.level.point_count) c.in_ok-level.ensures ∙ quarter-points;
}

pub returns-clause-child : goal.returns-clause-child
returns-clause-child g c =
    c.in_ok-child.ensures
    ∙ ap (λ (p : Topology). child_of p c.in_ok-level.level quarter_origins quarter_places) c.requires
    ∙ ap (λ (l : Topology). child_of square l quarter_origins quarter_places) c.in_ok-level.ensures
