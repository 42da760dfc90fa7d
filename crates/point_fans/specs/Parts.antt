-- The parts of numbered faces, as a level with marks and as a table of edges.
use Rattle.std.specs.Prelude.{length, map}
use Rattle.sharpness_rules.specs.View.{sharpness_of, method_of}
use Rattle.level_topology.specs.Numbering.{Numbered}
use Rattle.point_fans.specs.declared.parts.FaceParts.{FaceParts}
use Rattle.point_fans.specs.Built.{Built, IsBuilt, built_of}

-- The level of the parts, with the marks of its points.
abbrev pub built_in : FaceParts → Built
built_in p = built_of (length p.complete.items) p.faces.lists p.holes.items (map sharpness_of p.edge_sharpness.items) (map sharpness_of p.vertex_sharpness.items) (method_of p.method) p.complete.items

-- The edges of the parts, with no room for further ones.
abbrev pub edges_in : FaceParts → Numbered
edges_in p = record {
  ends = p.edge_ends.items;
  faces = p.edge_faces.items;
  sharpness = map sharpness_of p.edge_sharpness.items;
  limit = length p.edge_ends.items;
}

-- The parts are those of a level, and its edges are numbered as its faces first name them.
abbrev pub AreLevelParts : FaceParts → Type 0
AreLevelParts p = IsBuilt (built_in p) (edges_in p) p.faces.beside
