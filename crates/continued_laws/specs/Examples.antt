-- Two meshes: the second continues from level 1 of the first.
use Rattle.std.specs.Prelude.{pos, false, [], ◌∷◌}
use Rattle.subdiv_model.specs.Sharpness.{Semi, Infinite, Normal}
use Rattle.subdiv_model.specs.Boundary.{EdgeOnly}
use Rattle.subdiv_model.specs.ObjMesh.{ObjMesh}

-- two quads that share an edge: this edge has sharpness 5/2, vertex 0 is a corner, and the second face is a hole
abbrev pub tagged_quads : ObjMesh
tagged_quads = record {
  points =
      (pos 0, pos 0, pos 0)
      ∷ (pos 1, pos 0, pos 0)
      ∷ (pos 1, pos 1, pos 0)
      ∷ (pos 0, pos 1, pos 0)
      ∷ (pos 2, pos 0, pos 0)
      ∷ (pos 2, pos 1, pos 0)
      ∷ [];
  common = 1;
  texture = [];
  texture_common = 1;
  faces = (0 ∷ 1 ∷ 2 ∷ 3 ∷ []) ∷ (1 ∷ 4 ∷ 5 ∷ 2 ∷ []) ∷ [];
  has_texture = false;
  texture_corners = [];
  creases = ((1, 2), Semi 5 2) ∷ [];
  corner_tags = (0, Infinite) ∷ [];
  holes = 1 ∷ [];
  boundary = EdgeOnly;
  method = Normal;
}

-- level 1 of the two quads as a mesh, over 8
abbrev pub quads_after_a_step : ObjMesh
quads_after_a_step = record {
  points =
      (pos 0, pos 0, pos 0)
      ∷ (pos 8, pos 0, pos 0)
      ∷ (pos 8, pos 8, pos 0)
      ∷ (pos 1, pos 7, pos 0)
      ∷ (pos 15, pos 1, pos 0)
      ∷ (pos 15, pos 7, pos 0)
      ∷ (pos 4, pos 4, pos 0)
      ∷ (pos 12, pos 4, pos 0)
      ∷ (pos 4, pos 0, pos 0)
      ∷ (pos 8, pos 4, pos 0)
      ∷ (pos 4, pos 8, pos 0)
      ∷ (pos 0, pos 4, pos 0)
      ∷ (pos 12, pos 0, pos 0)
      ∷ (pos 16, pos 4, pos 0)
      ∷ (pos 12, pos 8, pos 0)
      ∷ [];
  common = 8;
  texture = [];
  texture_common = 1;
  faces =
      (0 ∷ 8 ∷ 6 ∷ 11 ∷ [])
      ∷ (1 ∷ 9 ∷ 6 ∷ 8 ∷ [])
      ∷ (2 ∷ 10 ∷ 6 ∷ 9 ∷ [])
      ∷ (3 ∷ 11 ∷ 6 ∷ 10 ∷ [])
      ∷ (1 ∷ 12 ∷ 7 ∷ 9 ∷ [])
      ∷ (4 ∷ 13 ∷ 7 ∷ 12 ∷ [])
      ∷ (5 ∷ 14 ∷ 7 ∷ 13 ∷ [])
      ∷ (2 ∷ 9 ∷ 7 ∷ 14 ∷ [])
      ∷ [];
  has_texture = false;
  texture_corners = [];
  creases = ((1, 9), Semi 3 2) ∷ ((9, 2), Semi 3 2) ∷ [];
  corner_tags = (0, Infinite) ∷ [];
  holes = 4 ∷ 5 ∷ 6 ∷ 7 ∷ [];
  boundary = EdgeOnly;
  method = Normal;
}
