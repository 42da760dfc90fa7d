-- What the lines of the tags of a level are read as: its sharpnesses, its holes, its boundary mode and its method.
use Rattle.std.proofs.Common.{◌≡◌, ℕ, true, List, [], ◌∷◌, map, refl, ap, ◌∙◌}
use Rattle.std.specs.Prelude.{unsigned_abs}
use Rattle.std.specs.List.{list_all, flat_map}
use Rattle.std.proofs.lemmas.List.Folds.{flat_map-map}
use Rattle.std.proofs.lemmas.List.{map-id}
use Rattle.subdiv_model.specs.Lists.{last_of}
use Rattle.subdiv_model.specs.Edges.{edge_number}
use Rattle.subdiv_model.specs.Index.{index_of}
use Rattle.subdiv_model.specs.Numeral.{numeral_amount}
use Rattle.subdiv_model.specs.NumberText.{number_text}
use Rattle.subdiv_model.specs.Sharpness.{Sharpness, Smooth, Method, Normal, Chaikin, sharpness_of_fraction, is_proper_sharpness}
use Rattle.subdiv_model.specs.Level.{Level, edge_sharpness_of, vertex_sharpness_of}
use Rattle.subdiv_model.specs.Text.{sharpness_text}
use Rattle.subdiv_model.specs.ObjTag.{tag_creases, tag_corners, tag_indices, tag_method}
use Rattle.text_laws.specs.Laws.{words_of}
use Rattle.text_laws.specs.MeshLines.{method_tags}
use Rattle.text_laws.proofs.ListLemmas.{all-at, flat-ones}
use Rattle.text_laws.proofs.NumberLemmas.{index-back}
use Rattle.text_laws.proofs.SharpnessLemmas.{sharpness-back}
use Rattle.text_laws.proofs.KeptLemmas.{crease_words, tag_words, hole_words}

-- the numbers of edges and vertices, and a sharpness
place-back : (n : ℕ) → unsigned_abs (index_of (number_text n)) ≡ n
place-back n = ap unsigned_abs (index-back n)

abbrev read_sharpness : List ℕ → Sharpness
read_sharpness word = sharpness_of_fraction (numeral_amount word)

edge-proper : (level : Level) (edge : ℕ × ℕ) → list_all is_proper_sharpness level.edge_sharpness ≡ true → is_proper_sharpness (edge_sharpness_of level edge) ≡ true
edge-proper level edge all = all-at is_proper_sharpness Smooth level.edge_sharpness (edge_number level.polygons edge) all refl

vertex-proper : (level : Level) (v : ℕ) → list_all is_proper_sharpness level.vertex_sharpness ≡ true → is_proper_sharpness (vertex_sharpness_of level v) ≡ true
vertex-proper level v all = all-at is_proper_sharpness Smooth level.vertex_sharpness v all refl

crease-back : (level : Level) (edge : ℕ × ℕ) → list_all is_proper_sharpness level.edge_sharpness ≡ true
    → tag_creases (crease_words level edge) ≡ (edge, edge_sharpness_of level edge) ∷ []
crease-back level edge all =
    let s = edge_sharpness_of level edge in
    ap (λ (i : ℕ). ((i, unsigned_abs (index_of (number_text edge.1))), read_sharpness (sharpness_text s)) ∷ []) (place-back edge.0)
    ∙ ap (λ (j : ℕ). ((edge.0, j), read_sharpness (sharpness_text s)) ∷ []) (place-back edge.1)
    ∙ ap (λ t. (edge, t) ∷ []) (sharpness-back s (edge-proper level edge all))

pub creases-back : (level : Level) (edges : List (ℕ × ℕ)) → list_all is_proper_sharpness level.edge_sharpness ≡ true
    → flat_map tag_creases (map (crease_words level) edges) ≡ map (λ edge. (edge, edge_sharpness_of level edge)) edges
creases-back level edges all =
    flat_map-map tag_creases (crease_words level) edges
    ∙ flat-ones (λ edge. tag_creases (crease_words level edge)) (λ edge. (edge, edge_sharpness_of level edge)) (λ edge. crease-back level edge all) edges

corner-back : (level : Level) (v : ℕ) → list_all is_proper_sharpness level.vertex_sharpness ≡ true
    → tag_corners (tag_words level v) ≡ (v, vertex_sharpness_of level v) ∷ []
corner-back level v all =
    let s = vertex_sharpness_of level v in
    ap (λ (i : ℕ). (i, read_sharpness (sharpness_text s)) ∷ []) (place-back v)
    ∙ ap (λ t. (v, t) ∷ []) (sharpness-back s (vertex-proper level v all))

pub corners-back : (level : Level) (vertices : List ℕ) → list_all is_proper_sharpness level.vertex_sharpness ≡ true
    → flat_map tag_corners (map (tag_words level) vertices) ≡ map (λ v. (v, vertex_sharpness_of level v)) vertices
corners-back level vertices all =
    flat_map-map tag_corners (tag_words level) vertices
    ∙ flat-ones (λ v. tag_corners (tag_words level v)) (λ v. (v, vertex_sharpness_of level v)) (λ v. corner-back level v all) vertices

hole-back : (face : ℕ) → tag_indices (hole_words face) ≡ face ∷ []
hole-back face = ap (λ (i : ℕ). i ∷ []) (place-back face)

pub holes-back : (holes : List ℕ) → flat_map tag_indices (map hole_words holes) ≡ holes
holes-back holes =
    flat_map-map tag_indices hole_words holes ∙ flat-ones (λ face. tag_indices (hole_words face)) (λ face. face) hole-back holes ∙ map-id holes

pub method-back : (method : Method) → last_of Normal (map tag_method (map words_of (method_tags method))) ≡ method
method-back Normal = refl
method-back Chaikin = refl
