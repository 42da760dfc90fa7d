-- Names that agree at all corners of a part make it the same part.
use Rattle.std.proofs.Common.{◌≡◌, ℕ, List, map, ap, sym, ◌∙◌, IsTrue}
use Rattle.std.specs.List.{list_all}
use Rattle.subdiv_model.specs.Polygons.{Polygon}
use Rattle.subdiv_model.specs.Level.{Level, edge_sharpness_of, vertex_sharpness_of}
use Rattle.part_laws.specs.Parts.{IsPart, is_corner}
use Rattle.part_laws.specs.LevelParts.{IsLevelPart}
use Rattle.part_laws.proofs.ListLemmas.{map-agree}
use Rattle.part_laws.proofs.PartLemmas.{own-corners, edge-ends}

-- polygons that are a part under one name are one under each name that agrees at all corners
polygons-renamed : (f g : ℕ → ℕ) (faces : List ℕ) (part whole : List Polygon) → ((p : ℕ) → IsTrue (is_corner part p) → f p ≡ g p) → IsPart f faces part whole → IsPart g faces part whole
polygons-renamed f g faces part whole agree is = record {
  ascending = is.ascending;
  inside = is.inside;
  same =
      sym (map-agree (list_all (is_corner part)) (map f) (map g) (λ polygon own. map-agree (is_corner part) f g agree polygon own) part (own-corners part))
      ∙ is.same;
  apart = λ p q h k e. is.apart p q h k (agree p h ∙ e ∙ sym (agree q k));
}

pub part-renamed : (f g : ℕ → ℕ) (faces : List ℕ) (part whole : Level) → ((p : ℕ) → IsTrue (is_corner part.polygons p) → f p ≡ g p) → IsLevelPart f faces part whole → IsLevelPart g faces part whole
part-renamed f g faces part whole agree is = record {
  polygons = polygons-renamed f g faces part.polygons whole.polygons agree is.polygons;
  method = is.method;
  holes = is.holes;
  edges = λ edge h.
      let ends = edge-ends f faces part.polygons whole.polygons is.polygons edge h in
      is.edges edge h
      ∙ ap (λ (n : ℕ). edge_sharpness_of whole (n, f edge.1)) (agree edge.0 ends.first)
      ∙ ap (λ (n : ℕ). edge_sharpness_of whole (g edge.0, n)) (agree edge.1 ends.second);
  vertices = λ p h. is.vertices p h ∙ ap (vertex_sharpness_of whole) (agree p h);
}
