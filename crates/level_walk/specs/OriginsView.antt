-- The origins of this crate in the terms of the definitions.
use Rattle.std.specs.Prelude.{map}
use Rattle.level_walk.specs.Origins as model
use Rattle.level_walk.specs.declared.origin.Origin.{Origin}
use Rattle.level_walk.specs.declared.origin.Origin.TheVariants.{Point, Edge, Face}
use Rattle.level_walk.specs.declared.origin.Origins.{Origins}

abbrev pub seen_origin : Origin → model.Origin
seen_origin (Point v) = model.OnPoint v
seen_origin (Edge e) = model.OnEdge e
seen_origin (Face f) = model.OnFace f

abbrev pub seen_origins : Origins → model.Origins
seen_origins origins = record {
  points = map seen_origin origins.points.items;
  edges = map seen_origin origins.edges.items;
  faces = origins.faces.items;
}
