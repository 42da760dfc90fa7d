-- At a point all of whose faces a part has, the rules of the part are those of the whole.
use Rattle.std.proofs.Common.{length, nat_le, nat_eq, ◌≡◌, ℕ, Bool, true, not, ◌&&◌, List, map, get_or, refl, ap, sym, ◌∙◌, IsTrue}
use Rattle.std.specs.List.{list_any, list_all}
use Rattle.std.proofs.lemmas.List.{length-map}
use Rattle.std.proofs.lemmas.List.Folds.{list_any_at}
use Rattle.std.proofs.lemmas.List.Sums.{list_all-from_AllPass}
use Rattle.subdiv_model.specs.Polygons.{same_edge}
use Rattle.subdiv_model.specs.Edges.{edges_of, has_end}
use Rattle.subdiv_model.specs.Sharpness.{Sharpness, is_chaikin, half_child, uniform_child, chaikin_overflows}
use Rattle.subdiv_model.specs.Rule.{vertex_rule, child_ring, same_mask, transition_weight, transition_overflows}
use Rattle.subdiv_model.specs.Level.{Level, edge_sharpness_of, vertex_sharpness_of, edges_at, faces_at, ring_at}
use Rattle.subdiv_model.specs.Child.{half_sharpness}
use Rattle.subdiv_model.specs.Mask.{Scheme, CatmullClark, Linear, is_interior, rule_at, child_rule_at}
use Rattle.subdiv_model.specs.Channel.{chaikin_overflows_at, transition_overflows_at}
use Rattle.mesh_laws.proofs.SideLemmas.{same_edge-refl}
use Rattle.part_laws.specs.Parts.{IsWholeAt, is_corner, renamed, face_in}
use Rattle.part_laws.specs.LevelParts.{IsLevelPart, weight_at}
use Rattle.part_laws.proofs.ListLemmas.{map-agree, map-twice, all-filtered}
use Rattle.part_laws.proofs.PartLemmas.{same-edges, same-faces}

-- each edge is listed
pub all-listed : (edges : List (ℕ × ℕ)) → list_all (λ e. list_any (same_edge e) edges) edges ≡ true
all-listed edges =
    list_all-from_AllPass (λ e. list_any (same_edge e) edges) edges (λ k d h. list_any_at (same_edge (get_or edges k d)) edges k d h (same_edge-refl (get_or edges k d)))

module _ (name : ℕ → ℕ) (faces : List ℕ) (part whole : Level) (is : IsLevelPart name faces part whole) (p : ℕ) (there : IsTrue (is_corner part.polygons p)) (all : IsWholeAt faces whole.polygons (name p)) where
  pub same-ring : ring_at part p ≡ ring_at whole (name p)
  same-ring =
      let listed : ℕ × ℕ → Bool = λ e. list_any (same_edge e) (edges_of part.polygons) in
      map-agree listed (edge_sharpness_of part) (λ e. edge_sharpness_of whole (renamed name e)) is.edges (edges_at part p) (all-filtered (has_end p) listed (edges_of part.polygons) (all-listed (edges_of part.polygons)))
      ∙ sym (map-twice (renamed name) (edge_sharpness_of whole) (edges_at part p))
      ∙ ap (map (edge_sharpness_of whole)) (same-edges name faces part.polygons whole.polygons is.polygons p there all)

  pub same-vertex : vertex_sharpness_of part p ≡ vertex_sharpness_of whole (name p)
  same-vertex = is.vertices p there

  pub same-child-ring : child_ring part.method (ring_at part p) ≡ child_ring whole.method (ring_at whole (name p))
  same-child-ring = ap (λ m. child_ring m (ring_at part p)) is.method ∙ ap (child_ring whole.method) same-ring

  pub same-rule : rule_at part p ≡ rule_at whole (name p)
  same-rule = ap (λ s. vertex_rule s (ring_at part p)) same-vertex ∙ ap (vertex_rule (vertex_sharpness_of whole (name p))) same-ring

  pub same-child-rule : child_rule_at part p ≡ child_rule_at whole (name p)
  same-child-rule =
      ap (λ s. vertex_rule (uniform_child s) (child_ring part.method (ring_at part p))) same-vertex
      ∙ ap (vertex_rule (uniform_child (vertex_sharpness_of whole (name p)))) same-child-ring

  pub same-half : (edge : ℕ × ℕ) → IsTrue (list_any (same_edge edge) (edges_of part.polygons)) → half_sharpness part edge p ≡ half_sharpness whole (renamed name edge) (name p)
  same-half edge listed =
      ap (λ m. half_child m (ring_at part p) (edge_sharpness_of part edge)) is.method
      ∙ ap (λ ring. half_child whole.method ring (edge_sharpness_of part edge)) same-ring
      ∙ ap (half_child whole.method (ring_at whole (name p))) (is.edges edge listed)

  pub same-chaikin : chaikin_overflows_at part p ≡ chaikin_overflows_at whole (name p)
  same-chaikin = ap (λ m. is_chaikin m && chaikin_overflows (ring_at part p)) is.method ∙ ap (λ ring. is_chaikin whole.method && chaikin_overflows ring) same-ring

  -- a function of the sharpness of the vertex and of its ring, in the level and in the next
  same-of : {X : Type 0} (f : Sharpness → List Sharpness → List Sharpness → X) → f (vertex_sharpness_of part p) (ring_at part p) (child_ring part.method (ring_at part p)) ≡ f (vertex_sharpness_of whole (name p)) (ring_at whole (name p)) (child_ring whole.method (ring_at whole (name p)))
  same-of f =
      ap (λ s. f s (ring_at part p) (child_ring part.method (ring_at part p))) same-vertex
      ∙ ap (λ ring. f (vertex_sharpness_of whole (name p)) ring (child_ring part.method (ring_at part p))) same-ring
      ∙ ap (f (vertex_sharpness_of whole (name p)) (ring_at whole (name p))) same-child-ring

  pub same-weight : weight_at part p ≡ weight_at whole (name p)
  same-weight = same-of (λ s ring next. transition_weight s (uniform_child s) ring next)

  pub same-transition : (scheme : Scheme) → transition_overflows_at part scheme p ≡ transition_overflows_at whole scheme (name p)
  same-transition CatmullClark = same-of (λ s ring next. not (same_mask (vertex_rule s ring) (vertex_rule (uniform_child s) next)) && transition_overflows s (uniform_child s) ring next)
  same-transition Linear = refl

  -- the point has as many edges and faces in the part as in the whole
  pub same-interior : is_interior part p ≡ is_interior whole (name p)
  same-interior =
      let edges = sym (length-map (edges_at part p) (renamed name)) ∙ ap length (same-edges name faces part.polygons whole.polygons is.polygons p there all) in
      let some = sym (length-map (faces_at part p) (face_in faces)) ∙ ap length (same-faces name faces part.polygons whole.polygons is.polygons p there all) in
      ap (λ n. nat_le 2 n && nat_eq (length (faces_at part p)) n) edges ∙ ap (λ n. nat_le 2 (length (edges_at whole (name p))) && nat_eq n (length (edges_at whole (name p)))) some
