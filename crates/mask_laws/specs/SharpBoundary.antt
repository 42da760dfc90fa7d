-- Levels whose boundary edges are infinitely sharp.
-- Source: Drillolive.
use Rattle.std.specs.Prelude.{Bool, not, ◌||◌}
use Rattle.std.specs.List.{list_all}
use Rattle.subdiv_model.specs.Edges.{edges_of, is_boundary}
use Rattle.subdiv_model.specs.Level.{Level, edge_sharpness_of}
use Rattle.subdiv_model.specs.Feature.{is_infinite}

-- each edge of one face is infinitely sharp
abbrev pub has_sharp_boundary : Level → Bool
has_sharp_boundary level =
    list_all (λ edge. not (is_boundary level.polygons edge) || is_infinite (edge_sharpness_of level edge)) (edges_of level.polygons)
