-- The lines of each kind among those of a mesh and its tags.
use Rattle.std.proofs.Common.{◌≡◌, ℕ, Bool, false, List, [], ◌∷◌, ◌++◌, map, refl, ap, ◌∙◌, append-nil, append_assoc}
use Rattle.std.specs.Prelude.{codes}
use Rattle.std.specs.List.{filter}
use Rattle.std.proofs.lemmas.Bool.{cond-false}
use Rattle.std.proofs.lemmas.List.{map-append}
use Rattle.subdiv_model.specs.Sharpness.{Method, Normal, Chaikin}
use Rattle.subdiv_model.specs.Level.{Level}
use Rattle.subdiv_model.specs.Value.{Value}
use Rattle.subdiv_model.specs.Refined.{Point}
use Rattle.subdiv_model.specs.ObjLine.{is_vertex_line, is_face_line}
use Rattle.subdiv_model.specs.ObjTag.{is_tag}
use Rattle.subdiv_model.specs.ReadObj.{is_texture_line}
use Rattle.text_laws.specs.Laws.{Line, words_of}
use Rattle.text_laws.specs.MeshLines.{vertex_line, texture_value_line, mode_tag, method_tags, crease_tag, vertex_tag, hole_tag, written_edges, written_vertices, written_holes, tag_lines, lines_of_faces}
use Rattle.text_laws.proofs.ListLemmas.{kept-all, kept-none, kept-both, map-twice}

abbrev pub Words : Type 0
Words = List (List ℕ)

-- each line as its words
abbrev pub vertex_words : Point → Words
vertex_words point = words_of (vertex_line point)

abbrev pub texture_words : Value × Value → Words
texture_words value = words_of (texture_value_line value)

abbrev pub crease_words : Level → ℕ × ℕ → Words
crease_words level edge = words_of (crease_tag level edge)

abbrev pub tag_words : Level → ℕ → Words
tag_words level v = words_of (vertex_tag level v)

abbrev pub hole_words : ℕ → Words
hole_words face = words_of (hole_tag face)

abbrev pub words_of_tags : Level → List Words
words_of_tags level =
    (words_of mode_tag ∷ [])
    ++ (map words_of (method_tags level.method)
    ++ (map (crease_words level) (written_edges level) ++ (map (tag_words level) (written_vertices level) ++ map hole_words (written_holes level))))

split-tags : (level : Level) → map words_of (tag_lines level) ≡ words_of_tags level
split-tags level =
    let creases = map (crease_tag level) (written_edges level) in
    let vertices = map (vertex_tag level) (written_vertices level) in
    let holes = map hole_tag (written_holes level) in
    let start : List Words → List Words = λ rest. words_of mode_tag ∷ (map words_of (method_tags level.method) ++ rest) in
    ap (λ rest. words_of mode_tag ∷ rest) (map-append words_of (method_tags level.method) (creases ++ (vertices ++ holes)))
    ∙ ap start (map-append words_of creases (vertices ++ holes))
    ∙ ap (λ rest. start (map words_of creases ++ rest)) (map-append words_of vertices holes)
    ∙ ap (λ rest. start (rest ++ (map words_of vertices ++ map words_of holes))) (map-twice (crease_tag level) words_of (written_edges level))
    ∙ ap (λ rest. start (map (crease_words level) (written_edges level) ++ (rest ++ map words_of holes))) (map-twice (vertex_tag level) words_of (written_vertices level))
    ∙ ap (λ rest. start (map (crease_words level) (written_edges level) ++ (map (tag_words level) (written_vertices level) ++ rest))) (map-twice hole_tag words_of (written_holes level))

-- no line of tags passes a test that lines of tags fail
methods-none : (test : Words → Bool) → ((words : Words) → test (codes "t" ∷ words) ≡ false) → (method : Method) → filter test (map words_of (method_tags method)) ≡ []
methods-none test none Normal = refl
methods-none test none Chaikin = cond-false _ _ _ (none _)

no-tags : (level : Level) (test : Words → Bool) → ((words : Words) → test (codes "t" ∷ words) ≡ false) → filter test (words_of_tags level) ≡ []
no-tags level test none =
    let creases = map (crease_words level) (written_edges level) in
    let vertices = map (tag_words level) (written_vertices level) in
    let holes = map hole_words (written_holes level) in
    let methods = map words_of (method_tags level.method) in
    kept-both test (words_of mode_tag ∷ []) (methods ++ (creases ++ (vertices ++ holes))) [] [] (cond-false _ _ _ (none _))
    (kept-both test methods (creases ++ (vertices ++ holes)) [] [] (methods-none test none level.method)
    (kept-both test creases (vertices ++ holes) [] [] (kept-none test (crease_words level) (λ edge. none _) (written_edges level))
    (kept-both test vertices holes [] [] (kept-none test (tag_words level) (λ v. none _) (written_vertices level)) (kept-none test hole_words (λ face. none _) (written_holes level)))))

-- the lines of each tag
methods-other : (name : List ℕ) → ((words : Words) → is_tag name (codes "t" ∷ codes "creasemethod" ∷ words) ≡ false) → (method : Method)
    → filter (is_tag name) (map words_of (method_tags method)) ≡ []
methods-other name none Normal = refl
methods-other name none Chaikin = cond-false _ _ _ (none (codes "0/0/1" ∷ codes "chaikin" ∷ []))

methods-all : (method : Method) → filter (is_tag (codes "creasemethod")) (map words_of (method_tags method)) ≡ map words_of (method_tags method)
methods-all Normal = refl
methods-all Chaikin = refl

module _ (level : Level) (name : List ℕ) where
  -- the kept lines of each part of the tags
  pub record AreKept (mode methods creases vertices holes : List Words) : Type 0 where
    pub mode_kept : filter (is_tag name) (words_of mode_tag ∷ []) ≡ mode
    pub methods_kept : filter (is_tag name) (map words_of (method_tags level.method)) ≡ methods
    pub creases_kept : filter (is_tag name) (map (crease_words level) (written_edges level)) ≡ creases
    pub vertices_kept : filter (is_tag name) (map (tag_words level) (written_vertices level)) ≡ vertices
    pub holes_kept : filter (is_tag name) (map hole_words (written_holes level)) ≡ holes

  are-kept : (mode methods creases vertices holes : List Words) → AreKept mode methods creases vertices holes
      → filter (is_tag name) (words_of_tags level) ≡ mode ++ (methods ++ (creases ++ (vertices ++ holes)))
  are-kept mode methods creases vertices holes is =
      let third = map (crease_words level) (written_edges level) in
      let fourth = map (tag_words level) (written_vertices level) in
      let fifth = map hole_words (written_holes level) in
      let second = map words_of (method_tags level.method) in
      kept-both (is_tag name) (words_of mode_tag ∷ []) (second ++ (third ++ (fourth ++ fifth))) mode (methods ++ (creases ++ (vertices ++ holes))) is.mode_kept
      (kept-both (is_tag name) second (third ++ (fourth ++ fifth)) methods (creases ++ (vertices ++ holes)) is.methods_kept
      (kept-both (is_tag name) third (fourth ++ fifth) creases (vertices ++ holes) is.creases_kept
      (kept-both (is_tag name) fourth fifth vertices holes is.vertices_kept is.holes_kept)))

mode-tags : (level : Level) → filter (is_tag (codes "interpolateboundary")) (words_of_tags level) ≡ words_of mode_tag ∷ []
mode-tags level = are-kept level (codes "interpolateboundary") (words_of mode_tag ∷ []) [] [] [] [] (record {
  mode_kept = refl;
  methods_kept = methods-other (codes "interpolateboundary") (λ words. refl) level.method;
  creases_kept = kept-none _ (crease_words level) (λ edge. refl) (written_edges level);
  vertices_kept = kept-none _ (tag_words level) (λ v. refl) (written_vertices level);
  holes_kept = kept-none _ hole_words (λ face. refl) (written_holes level);
})

method-tags : (level : Level) → filter (is_tag (codes "creasemethod")) (words_of_tags level) ≡ map words_of (method_tags level.method)
method-tags level =
    are-kept level (codes "creasemethod") [] (map words_of (method_tags level.method)) [] [] [] (record {
      mode_kept = refl;
      methods_kept = methods-all level.method;
      creases_kept = kept-none _ (crease_words level) (λ edge. refl) (written_edges level);
      vertices_kept = kept-none _ (tag_words level) (λ v. refl) (written_vertices level);
      holes_kept = kept-none _ hole_words (λ face. refl) (written_holes level);
    })
    ∙ append-nil (map words_of (method_tags level.method))

crease-tags : (level : Level) → filter (is_tag (codes "crease")) (words_of_tags level) ≡ map (crease_words level) (written_edges level)
crease-tags level =
    are-kept level (codes "crease") [] [] (map (crease_words level) (written_edges level)) [] [] (record {
      mode_kept = refl;
      methods_kept = methods-other (codes "crease") (λ words. refl) level.method;
      creases_kept = kept-all _ (crease_words level) (λ edge. refl) (written_edges level);
      vertices_kept = kept-none _ (tag_words level) (λ v. refl) (written_vertices level);
      holes_kept = kept-none _ hole_words (λ face. refl) (written_holes level);
    })
    ∙ append-nil (map (crease_words level) (written_edges level))

corner-tags : (level : Level) → filter (is_tag (codes "corner")) (words_of_tags level) ≡ map (tag_words level) (written_vertices level)
corner-tags level =
    are-kept level (codes "corner") [] [] [] (map (tag_words level) (written_vertices level)) [] (record {
      mode_kept = refl;
      methods_kept = methods-other (codes "corner") (λ words. refl) level.method;
      creases_kept = kept-none _ (crease_words level) (λ edge. refl) (written_edges level);
      vertices_kept = kept-all _ (tag_words level) (λ v. refl) (written_vertices level);
      holes_kept = kept-none _ hole_words (λ face. refl) (written_holes level);
    })
    ∙ append-nil (map (tag_words level) (written_vertices level))

hole-tags : (level : Level) → filter (is_tag (codes "hole")) (words_of_tags level) ≡ map hole_words (written_holes level)
hole-tags level = are-kept level (codes "hole") [] [] [] [] (map hole_words (written_holes level)) (record {
  mode_kept = refl;
  methods_kept = methods-other (codes "hole") (λ words. refl) level.method;
  creases_kept = kept-none _ (crease_words level) (λ edge. refl) (written_edges level);
  vertices_kept = kept-none _ (tag_words level) (λ v. refl) (written_vertices level);
  holes_kept = kept-all _ hole_words (λ face. refl) (written_holes level);
})

-- the lines of faces whose corners are words
module _ {Face : Type 0} (points : List Point) (texture : List (Value × Value)) (corners : Face → List (List ℕ)) (faces : List Face) (level : Level) where
  abbrev pub face_words : Face → Words
  face_words face = codes "f" ∷ corners face

  -- all lines as their words
  abbrev pub all_words : List Words
  all_words = map vertex_words points ++ (map texture_words texture ++ (map face_words faces ++ words_of_tags level))

  pub split-words : map words_of (lines_of_faces points texture (λ face. (codes "f", corners face)) faces ++ tag_lines level) ≡ all_words
  split-words =
      let face_line : Face → Line = λ face. (codes "f", corners face) in
      let first = map vertex_line points in
      let second = map texture_value_line texture in
      let third = map face_line faces in
      map-append words_of (first ++ (second ++ third)) (tag_lines level)
      ∙ ap (λ l. l ++ map words_of (tag_lines level)) (map-append words_of first (second ++ third) ∙ ap (λ l. map words_of first ++ l) (map-append words_of second third))
      ∙ joined (map words_of first) (map words_of second) (map words_of third) (map words_of (tag_lines level))
      ∙ ap (λ l. l ++ (map words_of second ++ (map words_of third ++ map words_of (tag_lines level)))) (map-twice vertex_line words_of points)
      ∙ ap (λ l. map vertex_words points ++ (l ++ (map words_of third ++ map words_of (tag_lines level)))) (map-twice texture_value_line words_of texture)
      ∙ ap (λ l. map vertex_words points ++ (map texture_words texture ++ (l ++ map words_of (tag_lines level)))) (map-twice face_line words_of faces)
      ∙ ap (λ l. map vertex_words points ++ (map texture_words texture ++ (map face_words faces ++ l))) (split-tags level)
    where
      joined : (a b c d : List Words) → (a ++ (b ++ c)) ++ d ≡ a ++ (b ++ (c ++ d))
      joined a b c d = append_assoc a (b ++ c) d ∙ ap (λ l. a ++ l) (append_assoc b c d)

  -- the kept lines of each part of a text
  kept-of-all : (test : Words → Bool) (first second third rest : List Words) → filter test (map vertex_words points) ≡ first
      → filter test (map texture_words texture) ≡ second → filter test (map face_words faces) ≡ third → filter test (words_of_tags level) ≡ rest
      → filter test all_words ≡ first ++ (second ++ (third ++ rest))
  kept-of-all test first second third rest one two three four =
      kept-both test (map vertex_words points) (map texture_words texture ++ (map face_words faces ++ words_of_tags level)) first (second ++ (third ++ rest)) one
      (kept-both test (map texture_words texture) (map face_words faces ++ words_of_tags level) second (third ++ rest) two
      (kept-both test (map face_words faces) (words_of_tags level) third rest three four))

  pub vertices-kept : filter is_vertex_line all_words ≡ map vertex_words points
  vertices-kept =
      kept-of-all is_vertex_line (map vertex_words points) [] [] []
      (kept-all is_vertex_line vertex_words (λ p. refl) points) (kept-none is_vertex_line texture_words (λ p. refl) texture)
      (kept-none is_vertex_line face_words (λ f. refl) faces) (no-tags level is_vertex_line (λ words. refl))
      ∙ append-nil (map vertex_words points)

  pub texture-kept : filter is_texture_line all_words ≡ map texture_words texture
  texture-kept =
      kept-of-all is_texture_line [] (map texture_words texture) [] []
      (kept-none is_texture_line vertex_words (λ p. refl) points) (kept-all is_texture_line texture_words (λ p. refl) texture)
      (kept-none is_texture_line face_words (λ f. refl) faces) (no-tags level is_texture_line (λ words. refl))
      ∙ append-nil (map texture_words texture)

  pub faces-kept : filter is_face_line all_words ≡ map face_words faces
  faces-kept =
      kept-of-all is_face_line [] [] (map face_words faces) []
      (kept-none is_face_line vertex_words (λ p. refl) points) (kept-none is_face_line texture_words (λ p. refl) texture)
      (kept-all is_face_line face_words (λ f. refl) faces) (no-tags level is_face_line (λ words. refl))
      ∙ append-nil (map face_words faces)

  tags-kept : (name : List ℕ) → filter (is_tag name) all_words ≡ filter (is_tag name) (words_of_tags level)
  tags-kept name =
      kept-of-all (is_tag name) [] [] [] (filter (is_tag name) (words_of_tags level))
      (kept-none (is_tag name) vertex_words (λ p. refl) points) (kept-none (is_tag name) texture_words (λ p. refl) texture)
      (kept-none (is_tag name) face_words (λ f. refl) faces) refl

  pub modes-kept : filter (is_tag (codes "interpolateboundary")) all_words ≡ words_of mode_tag ∷ []
  modes-kept = tags-kept (codes "interpolateboundary") ∙ mode-tags level

  pub methods-kept : filter (is_tag (codes "creasemethod")) all_words ≡ map words_of (method_tags level.method)
  methods-kept = tags-kept (codes "creasemethod") ∙ method-tags level

  pub creases-kept : filter (is_tag (codes "crease")) all_words ≡ map (crease_words level) (written_edges level)
  creases-kept = tags-kept (codes "crease") ∙ crease-tags level

  pub corners-kept : filter (is_tag (codes "corner")) all_words ≡ map (tag_words level) (written_vertices level)
  corners-kept = tags-kept (codes "corner") ∙ corner-tags level

  pub holes-kept : filter (is_tag (codes "hole")) all_words ≡ map hole_words (written_holes level)
  holes-kept = tags-kept (codes "hole") ∙ hole-tags level
