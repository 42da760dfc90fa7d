-- A line is kept after the lines before it, by its keyword.
use Rattle.std.proofs.Common.{◌≡◌, ℕ, ℤ, suc, ◌+◌, ◌-◌, ◌^◌, ◌<◌, ◌≤◌, true, false, List, [], ◌∷◌, ◌++◌, length, map, take, drop, get_or, arith, refl, ap, sym, subst, ◌∙◌, codes, Result, Ok, Err, MatchResult, None, Some, nat_lt}
use Rattle.std.proofs.lemmas.Bool.Decides.{nat_tests}
use Rattle.std.specs.List.{count_by, flat_map}
use Rattle.std.proofs.lemmas.List.{take_more, length-take, length-map}
use Rattle.subdiv_model.specs.Lists.{places}
use Rattle.subdiv_model.specs.ObjLine.{is_vertex_line, is_face_line}
use Rattle.subdiv_model.specs.ObjFault as fault
use Rattle.subdiv_model.specs.ObjWord.{Counts, numeral_fault, corner_fault, corner_point}
use Rattle.subdiv_model.specs.ObjTag.{tag_fault}
use Rattle.subdiv_model.specs.ReadObj.{counts_of, is_texture_line, is_tag_line, words_fault, values_of, corner_numbers, point_over, texture_over, is_continued, has_known_keyword, least_values, line_fault, fault_at}
use Rattle.obj_laws.proofs.ObjLineLemmas.{keyword-first, places-length, count-before}
use Rattle.obj_tags.specs.Channel.{ArePositions, AreTextureValues, AddsPosition, AddsTextureValue}
use Rattle.obj_tags.specs.Draft.{IsDraftOf, IsLineAt, HasCapacity, textures_at}
use Rattle.raw_mesh.specs.Mesh.{pieces, Ascend}
use Rattle.obj_tags.specs.View as view
use Rattle.raw_mesh.specs.View.{point_of, texture_of}
use Rattle.obj_tags.specs.Face.{named_point, named_textures, corners_fault, AddsFace}
use Rattle.obj_tags.specs.Kept.{IsLineFault, KeptUnless}
use Rattle.obj_tags.specs.declared.draft.Draft.{Draft}
use Rattle.obj_tags.specs.declared.face.Counts as face
use Rattle.obj_tags.specs.declared.channel.Positions.{Positions}
use Rattle.obj_tags.specs.declared.channel.TextureValues.{TextureValues}
use Rattle.obj_tags.specs.declared.survey.Survey.{Survey}
use Rattle.obj_tags.specs.declared.fault.LineFault.{LineFault}
use Rattle.obj_tags.specs.TagAdded.{AddsTag}
use Rattle.obj_tags.proofs.ChannelLemmas.{channel-other}
use Rattle.obj_tags.proofs.DraftLemmas.{tags-more, tags-other, faces-more, faces-other}
use Rattle.obj_tags.specs.Line.{Line}
use Rattle.raw_mesh.proofs.PiecesLemmas.{length-pieces}

-- a line begins with one keyword
vertex-only : (line : Line) → is_vertex_line line ≡ true
    → (is_texture_line line ≡ false) × (is_face_line line ≡ false) × (is_tag_line line ≡ false)
vertex-only line kind = rw (keyword-first (codes "v") line kind) (refl, refl, refl)

texture-only : (line : Line) → is_texture_line line ≡ true → (is_face_line line ≡ false) × (is_tag_line line ≡ false)
texture-only line kind = rw (keyword-first (codes "vt") line kind) (refl, refl)

-- the lines up to this one
taken : (all : face.Counts) (number : ℕ) (lines : List Line) (n : ℕ) (line : Line) → IsLineAt all number lines n line
    → take (n + 1) lines ≡ take n lines ++ line ∷ []
taken all number lines n line at = take_more lines n [] at.inside ∙ ap (λ ws. take n lines ++ ws ∷ []) at.here

before : (all : face.Counts) (number : ℕ) (lines : List Line) (n : ℕ) (line : Line) → IsLineAt all number lines n line
    → number ≡ suc (length (take n lines))
before all number lines n line at =
    let inside = at.inside in
    let place = at.place in
    let short = length-take n lines in
    omega (arith, short, inside, place)

-- a kind of line that this line is not
same-positions : (common : ℕ) (ps : Positions) (all : face.Counts) (number : ℕ) (lines : List Line) (n : ℕ) (line : Line)
    → IsLineAt all number lines n line → ArePositions common ps (take n lines) → is_vertex_line line ≡ false
    → ArePositions common ps (take (n + 1) lines)
same-positions common ps all number lines n line at are other =
    subst (λ ls. ArePositions common ps ls) (sym (taken all number lines n line at)) (channel-other (ℤ × ℤ × ℤ) is_vertex_line point_over common (map point_of ps.points.items) ps.long (take n lines) line are other)

same-textures : (common : ℕ) (ts : TextureValues) (all : face.Counts) (number : ℕ) (lines : List Line) (n : ℕ) (line : Line)
    → IsLineAt all number lines n line → AreTextureValues common ts (take n lines) → is_texture_line line ≡ false
    → AreTextureValues common ts (take (n + 1) lines)
same-textures common ts all number lines n line at are other =
    subst (λ ls. AreTextureValues common ts ls) (sym (taken all number lines n line at)) (channel-other (ℤ × ℤ) is_texture_line texture_over common (map texture_of ts.points.items) ts.long (take n lines) line are other)

-- The claim about a result, in other words.
match-map : {T E : Type 0} {A A' : T → Type 0} {B B' : E → Type 0} (r : Result T E) → ((x : T) → A x → A' x) → ((e : E) → B e → B' e)
    → MatchResult r A B → MatchResult r A' B'
match-map (Ok x) f g said = f x said
match-map (Err e) f g said = g e said

vertex-fault : (b w : Counts) (line values : Line) → is_vertex_line line ≡ true → drop 1 line ≡ values
    → words_fault b w line ≡ fault.first_cause numeral_fault values
vertex-fault b w line values kind e = rw kind (ap (fault.first_cause numeral_fault) e)

texture-fault : (b w : Counts) (line values : Line) → is_vertex_line line ≡ false → is_texture_line line ≡ true → drop 1 line ≡ values
    → words_fault b w line ≡ fault.first_cause numeral_fault values
texture-fault b w line values other kind e = rw (other, kind) (ap (fault.first_cause numeral_fault) e)

tag-line-fault : (b w : Counts) (line : Line) → is_vertex_line line ≡ false → is_texture_line line ≡ false → is_face_line line ≡ false
    → is_tag_line line ≡ true → words_fault b w line ≡ tag_fault w line
tag-line-fault b w line a c d kind = rw (a, c, d, kind) refl

no-words-fault : (b w : Counts) (line : Line) → is_vertex_line line ≡ false → is_texture_line line ≡ false → is_face_line line ≡ false
    → is_tag_line line ≡ false → words_fault b w line ≡ None
no-words-fault b w line a c d e = rw (a, c, d, e) refl

-- a line whose position was kept
pub kept-position : (r : Result (Unit {0}) LineFault) (draft : Draft) (ps : Positions) (next : Draft) (all : Survey) (number : ℕ) (lines : List Line) (n : ℕ) (line values : Line)
    → next.positions ≡ ps → next.texture ≡ draft.texture → next.faces ≡ draft.faces → next.tags ≡ draft.tags
    → IsLineAt all.counts number lines n line → is_vertex_line line ≡ true → drop 1 line ≡ values → IsDraftOf all draft lines n
    → KeptUnless r (fault.first_cause numeral_fault values) (λ _. AddsPosition all.positions.value number values draft.positions ps)
    → KeptUnless r (words_fault (counts_of (take n lines)) (counts_of lines) line) (λ _. IsDraftOf all next lines (n + 1))
kept-position r draft ps next all number lines n line values e texture faces tags at kind v is said =
    let b = counts_of (take n lines) in
    let w = counts_of lines in
    let same = vertex-fault b w line values kind v in
    let only = vertex-only line kind in
    match-map r
    (λ _ good. (
      same ∙ good.0,
      record {
        positions = subst (λ xs. ArePositions all.positions.value xs (take (n + 1) lines)) (sym e) (subst (λ ls. ArePositions all.positions.value ps ls) (sym (taken all.counts number lines n line at)) (good.1 (take n lines) line is.positions kind v (before all.counts number lines n line at)));
        texture = rw texture (same-textures all.texture.value draft.texture all.counts number lines n line at is.texture only.0);
        faces = rw faces (faces-other draft.faces lines n at.inside is.faces (ap is_face_line at.here ∙ only.1));
        tags = rw tags (tags-other draft.tags lines n at.inside is.tags (ap is_tag_line at.here ∙ only.2));
      },
    ))
    (λ f bad. subst (λ o. IsLineFault f o) (sym same) bad)
    said

-- a line whose texture value was kept
pub kept-texture : (r : Result (Unit {0}) LineFault) (draft : Draft) (ts : TextureValues) (next : Draft) (all : Survey) (number : ℕ) (lines : List Line) (n : ℕ) (line values : Line)
    → next.texture ≡ ts → next.positions ≡ draft.positions → next.faces ≡ draft.faces → next.tags ≡ draft.tags
    → IsLineAt all.counts number lines n line → is_vertex_line line ≡ false → is_texture_line line ≡ true → drop 1 line ≡ values
    → IsDraftOf all draft lines n
    → KeptUnless r (fault.first_cause numeral_fault values) (λ _. AddsTextureValue all.texture.value number values draft.texture ts)
    → KeptUnless r (words_fault (counts_of (take n lines)) (counts_of lines) line) (λ _. IsDraftOf all next lines (n + 1))
kept-texture r draft ts next all number lines n line values e positions faces tags at other kind v is said =
    let b = counts_of (take n lines) in
    let w = counts_of lines in
    let same = texture-fault b w line values other kind v in
    let only = texture-only line kind in
    match-map r
    (λ _ good. (
      same ∙ good.0,
      record {
        positions = rw positions (same-positions all.positions.value draft.positions all.counts number lines n line at is.positions other);
        texture = subst (λ xs. AreTextureValues all.texture.value xs (take (n + 1) lines)) (sym e) (subst (λ ls. AreTextureValues all.texture.value ts ls) (sym (taken all.counts number lines n line at)) (good.1 (take n lines) line is.texture kind v (before all.counts number lines n line at)));
        faces = rw faces (faces-other draft.faces lines n at.inside is.faces (ap is_face_line at.here ∙ only.0));
        tags = rw tags (tags-other draft.tags lines n at.inside is.tags (ap is_tag_line at.here ∙ only.1));
      },
    ))
    (λ f bad. subst (λ o. IsLineFault f o) (sym same) bad)
    said

-- a line whose tag was kept
pub kept-tag : (r : Result (Unit {0}) LineFault) (draft next : Draft) (all : Survey) (w : Counts) (number : ℕ) (lines : List Line) (n : ℕ) (line values : Line)
    → next.positions ≡ draft.positions → next.texture ≡ draft.texture → next.faces ≡ draft.faces → IsLineAt all.counts number lines n line
    → w ≡ counts_of lines → is_vertex_line line ≡ false → is_texture_line line ≡ false → is_face_line line ≡ false
    → is_tag_line line ≡ true → drop 1 line ≡ values → IsDraftOf all draft lines n
    → KeptUnless r (tag_fault w (codes "t" ∷ values)) (λ _. AddsTag (codes "t" ∷ values) draft.tags next.tags)
    → KeptUnless r (words_fault (counts_of (take n lines)) (counts_of lines) line) (λ _. IsDraftOf all next lines (n + 1))
kept-tag r draft next all w number lines n line values positions texture faces at whole no-v no-vt no-f kind v is said =
    let split : line ≡ codes "t" ∷ values = keyword-first (codes "t") line kind ∙ ap (λ vs. codes "t" ∷ vs) v in
    let same : words_fault (counts_of (take n lines)) (counts_of lines) line ≡ tag_fault w (codes "t" ∷ values) =
    tag-line-fault (counts_of (take n lines)) (counts_of lines) line no-v no-vt no-f kind ∙ ap (λ c. tag_fault c line) (sym whole) ∙ ap (tag_fault w) split in
    match-map r
    (λ _ good. (
      same ∙ good.0,
      record {
        positions = rw positions (same-positions all.positions.value draft.positions all.counts number lines n line at is.positions no-v);
        texture = rw texture (same-textures all.texture.value draft.texture all.counts number lines n line at is.texture no-vt);
        faces = rw faces (faces-other draft.faces lines n at.inside is.faces (ap is_face_line at.here ∙ no-f));
        tags = tags-more draft.tags next.tags lines n at.inside is.tags (subst (λ l. AddsTag l draft.tags next.tags) (sym (at.here ∙ split)) good.1);
      },
    ))
    (λ f bad. subst (λ o. IsLineFault f o) (sym same) bad)
    said

-- a line that is dropped unread
pub kept-nothing : (draft : Draft) (all : Survey) (number : ℕ) (lines : List Line) (n : ℕ) (line : Line)
    → IsLineAt all.counts number lines n line → is_vertex_line line ≡ false → is_texture_line line ≡ false → is_face_line line ≡ false
    → is_tag_line line ≡ false → IsDraftOf all draft lines n
    → (words_fault (counts_of (take n lines)) (counts_of lines) line ≡ None) × IsDraftOf all draft lines (n + 1)
kept-nothing draft all number lines n line at no-v no-vt no-f no-t is = (
  no-words-fault (counts_of (take n lines)) (counts_of lines) line no-v no-vt no-f no-t,
  record {
    positions = same-positions all.positions.value draft.positions all.counts number lines n line at is.positions no-v;
    texture = same-textures all.texture.value draft.texture all.counts number lines n line at is.texture no-vt;
    faces = faces-other draft.faces lines n at.inside is.faces (ap is_face_line at.here ∙ no-f);
    tags = tags-other draft.tags lines n at.inside is.tags (ap is_tag_line at.here ∙ no-t);
  },
)

-- The draft counts the lines before.
pub counts-kept : (all : Survey) (draft : Draft) (b : face.Counts) (lines : List Line) (n : ℕ) → b.point_count ≡ length draft.positions.points.items
    → b.texture_count ≡ length draft.texture.points.items → b.face_count + 1 ≡ length draft.faces.starts.items → IsDraftOf all draft lines n
    → view.counts_of b ≡ counts_of (take n lines)
counts-kept all draft b lines n points textures faces is =
    let ps : b.point_count ≡ count_by is_vertex_line (take n lines) = points ∙ sym (length-map draft.positions.points.items point_of) ∙ is.positions.count in
    let ts : b.texture_count ≡ count_by is_texture_line (take n lines) = textures ∙ sym (length-map draft.texture.points.items texture_of) ∙ is.texture.count in
    let pieced : length (pieces draft.faces.starts.items draft.faces.corners.items) ≡ length draft.faces.starts.items - 1 = length-pieces draft.faces.starts.items draft.faces.corners.items in
    let counted : length (pieces draft.faces.starts.items draft.faces.corners.items) ≡ count_by is_face_line (take n lines) =
    ap length is.faces.read ∙ length-map (places is_face_line (take n lines)) (corner_numbers corner_point lines) ∙ places-length is_face_line (take n lines) in
    let fs : b.face_count ≡ count_by is_face_line (take n lines) = omega (arith, faces, pieced, counted) in
    rw (ps, ts, fs) refl

face-line-fault : (b w : Counts) (line values : Line) → is_vertex_line line ≡ false → is_texture_line line ≡ false
    → is_face_line line ≡ true → line ≡ codes "f" ∷ values → words_fault b w line ≡ corners_fault b w values
face-line-fault b w line values a c kind split = rw (a, c, kind) (ap (λ l. fault.first_cause (corner_fault b w (get_or l 1 [])) (values_of l)) split)

face-only : (line : Line) → is_face_line line ≡ true → is_tag_line line ≡ false
face-only line kind = rw (keyword-first (codes "f") line kind) refl

-- a line whose face was kept
pub kept-face : (r : Result (Unit {0}) LineFault) (draft next : Draft) (all : Survey) (b w : Counts) (number : ℕ) (lines : List Line) (n : ℕ) (line values : Line)
    → next.positions ≡ draft.positions → next.texture ≡ draft.texture → next.tags ≡ draft.tags → IsLineAt all.counts number lines n line
    → b ≡ counts_of (take n lines) → w ≡ counts_of lines → is_vertex_line line ≡ false → is_texture_line line ≡ false
    → is_face_line line ≡ true → drop 1 line ≡ values → IsDraftOf all draft lines n
    → KeptUnless r (corners_fault b w values) (λ _. AddsFace b w values draft.faces next.faces)
    → KeptUnless r (words_fault (counts_of (take n lines)) (counts_of lines) line) (λ _. IsDraftOf all next lines (n + 1))
kept-face r draft next all b w number lines n line values positions texture tags at eb ew no-v no-vt kind v is said =
    let bn = counts_of (take n lines) in
    let wn = counts_of lines in
    let split : line ≡ codes "f" ∷ values = keyword-first (codes "f") line kind ∙ ap (λ vs. codes "f" ∷ vs) v in
    let vals : values ≡ values_of (get_or lines n []) = sym (ap values_of at.here ∙ v) in
    let same : words_fault bn wn line ≡ corners_fault b w values =
    ap (λ c. words_fault c wn line) (sym eb) ∙ ap (λ c. words_fault b c line) (sym ew) ∙ face-line-fault b w line values no-v no-vt kind split in
    let points : map (named_point b w) values ≡ corner_numbers corner_point lines n =
    ap (λ c. map (named_point c w) values) eb ∙ ap (λ c. map (named_point bn c) values) ew ∙ ap (map (named_point bn wn)) vals in
    let named : flat_map (named_textures b w) values ≡ textures_at lines n =
    ap (λ c. flat_map (named_textures c w) values) eb ∙ ap (λ c. flat_map (named_textures bn c) values) ew ∙ ap (flat_map (named_textures bn wn)) vals in
    let size : length values ≡ length (corner_numbers corner_point lines n) = sym (length-map values (named_point b w)) ∙ ap length points in
    match-map r
    (λ _ good. (
      same ∙ good.0,
      record {
        positions = rw positions (same-positions all.positions.value draft.positions all.counts number lines n line at is.positions no-v);
        texture = rw texture (same-textures all.texture.value draft.texture all.counts number lines n line at is.texture no-vt);
        faces = faces-more draft.faces next.faces lines n at.inside is.faces (ap is_face_line at.here ∙ kind)
            (good.1.corners ∙ ap (λ xs. draft.faces.corners.items ++ xs) points)
            (good.1.textures ∙ ap (λ xs. draft.faces.texture_corners.items ++ xs) named)
            (good.1.starts ∙ ap (λ k. draft.faces.starts.items ++ (length draft.faces.corners.items + k) ∷ []) size);
        tags = rw tags (tags-other draft.tags lines n at.inside is.tags (ap is_tag_line at.here ∙ face-only line kind));
      },
    ))
    (λ f bad. subst (λ o. IsLineFault f o) (sym same) bad)
    said

ltb-of : (a b : ℕ) → a < b → nat_lt a b ≡ true
ltb-of a b h = grind (arith, nat_tests)

ltb-not : (a b : ℕ) → b ≤ a → nat_lt a b ≡ false
ltb-not a b h = grind (arith, nat_tests)

pub line-unknown : (b w : Counts) (word : List ℕ) (values : Line) → is_continued (word ∷ values) ≡ false
    → has_known_keyword (word ∷ values) ≡ false → line_fault b w (word ∷ values) ≡ Some fault.UnknownKeyword
line-unknown b w word values last unknown = rw (last, unknown) refl

pub line-short : (b w : Counts) (word : List ℕ) (values : Line) → is_continued (word ∷ values) ≡ false
    → has_known_keyword (word ∷ values) ≡ true → length values < least_values (word ∷ values)
    → line_fault b w (word ∷ values) ≡ Some fault.ShortLine
line-short b w word values last known short = rw (last, known, ltb-of (length values) (least_values (word ∷ values)) short) refl

pub line-read : (b w : Counts) (word : List ℕ) (values : Line) → is_continued (word ∷ values) ≡ false
    → has_known_keyword (word ∷ values) ≡ true → least_values (word ∷ values) ≤ length values
    → line_fault b w (word ∷ values) ≡ words_fault b w (word ∷ values)
line-read b w word values last known enough = rw (last, known, ltb-not (length values) (least_values (word ∷ values)) enough) refl

-- a line without words
pub empty-kept : (draft : Draft) (all : Survey) (number : ℕ) (lines : List Line) (n : ℕ) (line : Line) → line ≡ []
    → IsLineAt all.counts number lines n line → IsDraftOf all draft lines n → (fault_at lines n ≡ None) × IsDraftOf all draft lines (n + 1)
empty-kept draft all number lines n line e at is =
    let kept = kept-nothing draft all number lines n line at (ap is_vertex_line e) (ap is_texture_line e) (ap is_face_line e) (ap is_tag_line e) is in
    (ap (line_fault (counts_of (take n lines)) (counts_of lines)) (at.here ∙ e), kept.1)

-- a line whose words were read
pub read-kept : (r : Result (Unit {0}) LineFault) (next : Draft) (all : Survey) (number : ℕ) (lines : List Line) (n : ℕ) (line : Line) (word : List ℕ) (values : Line)
    → line ≡ word ∷ values → IsLineAt all.counts number lines n line → is_continued (word ∷ values) ≡ false
    → has_known_keyword (word ∷ values) ≡ true → least_values (word ∷ values) ≤ length values
    → KeptUnless r (words_fault (counts_of (take n lines)) (counts_of lines) line) (λ _. IsDraftOf all next lines (n + 1))
    → KeptUnless r (fault_at lines n) (λ _. IsDraftOf all next lines (n + 1))
read-kept r next all number lines n line word values e at last known enough said =
    let bn = counts_of (take n lines) in
    let wn = counts_of lines in
    let same : fault_at lines n ≡ words_fault bn wn line =
    ap (line_fault bn wn) (at.here ∙ e) ∙ line-read bn wn word values last known enough ∙ ap (words_fault bn wn) (sym e) in
    match-map r
    (λ _ good. (same ∙ good.0, good.1))
    (λ f bad. subst (λ o. IsLineFault f o) (sym same) bad)
    said

pub some-starts : (starts : List ℕ) (end : ℕ) → Ascend starts end → 1 ≤ length starts
some-starts [] end ascend = absurd ascend
some-starts (a ∷ starts) end ascend = omega arith

-- The draft of the first lines has no more than all lines have.
pub kept-capacity : (all : Survey) (draft : Draft) (lines : List Line) (n more : ℕ) → view.counts_of all.counts ≡ counts_of lines
    → all.counts.face_count < 2 ^ 32 → IsDraftOf all draft lines n → length draft.faces.corners.items + more < 2 ^ 32 → HasCapacity draft all.counts more
kept-capacity all draft lines n more counted few is corners =
    let starts = draft.faces.starts.items in
    let some = some-starts starts (length draft.faces.corners.items) is.faces.ascend in
    let b : face.Counts = record { point_count = length draft.positions.points.items; texture_count = length draft.texture.points.items; face_count = length starts - 1 } in
    let whole : (length starts - 1) + 1 ≡ length starts = omega (arith, some) in
    let before = counts-kept all draft b lines n refl refl whole is in
    let ps : length draft.positions.points.items ≡ count_by is_vertex_line (take n lines) = ap (λ (k : Counts). k.point_count) before in
    let ts : length draft.texture.points.items ≡ count_by is_texture_line (take n lines) = ap (λ (k : Counts). k.texture_count) before in
    let fs : length starts - 1 ≡ count_by is_face_line (take n lines) = ap (λ (k : Counts). k.face_count) before in
    let all-ps : all.counts.point_count ≡ count_by is_vertex_line lines = ap (λ (k : Counts). k.point_count) counted in
    let all-ts : all.counts.texture_count ≡ count_by is_texture_line lines = ap (λ (k : Counts). k.texture_count) counted in
    let all-fs : all.counts.face_count ≡ count_by is_face_line lines = ap (λ (k : Counts). k.face_count) counted in
    record {
      points = omega (arith, ps, all-ps, count-before is_vertex_line lines n);
      textures = omega (arith, ts, all-ts, count-before is_texture_line lines n);
      some = some;
      faces = omega (arith, whole, fs, all-fs, few, count-before is_face_line lines n);
      corners = corners;
    }
