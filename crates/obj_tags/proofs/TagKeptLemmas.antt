-- A line of tags is kept by the kind of its tag.
use Rattle.std.proofs.Common.{◌≡◌, ℕ, ◌+◌, ◌<◌, true, List, [], ◌∷◌, ◌++◌, length, map, take, get_or, Option, Some, None, Result, arith, refl, ap, sym, subst, ◌∙◌, append-nil, codes}
use Rattle.std.proofs.lemmas.Bool.{eqb-true}
use Rattle.std.proofs.lemmas.Result.{MatchResult-weaker}
use Rattle.subdiv_model.specs.ObjFault as fault
use Rattle.subdiv_model.specs.ObjWord.{Counts}
use Rattle.subdiv_model.specs.ObjTag.{CreaseTag, CornerTag, HoleTag, BoundaryTag, MethodTag, DroppedTag, tag_values, whole_count, numeral_count, string_count, fits_counts, mode_fault, method_fault, mode_of_word, method_of_word, tag_index_fault, tag_fault, tag_creases, tag_corners, tag_indices}
use Rattle.sharpness_rules.specs.View.{method_of}
use Rattle.sharpness_rules.specs.declared.child.Method as sharp
use Rattle.obj_tags.specs.Kept.{IsLineFault, KeptUnless}
use Rattle.obj_tags.specs.TagAdded.{AddsTag}
use Rattle.obj_tags.specs.TagView.{value_fault, indices_said, sharpnesses_said, chain_creases, vertex_tags, IsHeadOf}
use Rattle.raw_mesh.specs.View.{boundary_of, crease_of, corner_tag_of}
use Rattle.obj_tags.specs.declared.fault.LineFault.{LineFault}
use Rattle.raw_mesh.specs.declared.tags.Boundary as declared
use Rattle.raw_mesh.specs.declared.tags.Tags.{Tags}
use Rattle.obj_tags.specs.declared.tag_counts.TagCounts.{TagCounts}
use Rattle.obj_tags.specs.declared.tag_counts.TagKind.TheVariants as kind
use Rattle.obj_tags.proofs.TagNameLemmas.{tag-named}
use Rattle.obj_tags.proofs.TagKindLemmas.{and-last, boundary-counts, method-counts, boundary-wholes, method-strings, boundary-sound, method-sound, adds-boundary, adds-method}

-- the first fault of one word
one-cause : (fault_of : List ℕ → Option fault.ObjCause) (word : List ℕ) (found : Option fault.ObjCause) → fault_of word ≡ found
    → fault.first_cause fault_of (word ∷ []) ≡ found
one-cause fault_of word None e = rw e refl
one-cause fault_of word (Some cause) e = rw e refl

-- a tag of one value has it
pub boundary-some : (line : List (List ℕ)) → fits_counts BoundaryTag line ≡ true → 0 < length (tag_values line)
boundary-some line fits =
    let parts = and-last _ _ _ fits in
    let one : whole_count line ≡ 1 = boundary-counts _ _ _ parts.0 in
    let all : length (tag_values line) ≡ whole_count line + numeral_count line + string_count line = eqb-true _ _ parts.1 in
    omega (arith, one, all)

pub method-some : (line : List (List ℕ)) → fits_counts MethodTag line ≡ true → 0 < length (tag_values line)
method-some line fits =
    let parts = and-last _ _ _ fits in
    let counts = method-counts (whole_count line) (numeral_count line) (string_count line) parts.0 in
    let all : length (tag_values line) ≡ whole_count line + numeral_count line + string_count line = eqb-true _ _ parts.1 in
    omega (arith, counts.2, all)

-- a line whose creases were kept
pub kept-crease : (r : Result (Unit {0}) LineFault) (whole : Counts) (words left : List (List ℕ)) (counts : TagCounts) (before after : Tags)
    → IsHeadOf kind.Crease counts left (codes "t" ∷ words)
    → after.corners ≡ before.corners → after.holes ≡ before.holes → after.boundary ≡ before.boundary → after.method ≡ before.method
    → KeptUnless r (value_fault whole.point_count counts left) (λ _. map crease_of after.creases.items ≡ map crease_of before.creases.items ++ chain_creases (indices_said counts left) (sharpnesses_said counts left))
    → KeptUnless r (tag_fault whole (codes "t" ∷ words)) (λ _. AddsTag (codes "t" ∷ words) before after)
kept-crease r whole words left counts before after head corners holes boundary method said =
    let line = codes "t" ∷ words in
    let name : get_or words 0 [] ≡ codes "crease" = tag-named (get_or words 0 []) CreaseTag head.name in
    let same : tag_fault whole line ≡ value_fault whole.point_count counts left = rw (head.name, head.fits, head.numbers.integers, head.numbers.numerals, head.rest) refl in
    let says : chain_creases (indices_said counts left) (sharpnesses_said counts left) ≡ tag_creases line = rw (head.numbers.integers, head.numbers.numerals, head.rest) refl in
    MatchResult-weaker r said
    (λ _ good. (
      same ∙ good.0,
      record {
        creases = rw name (good.1 ∙ ap (λ cs. map crease_of before.creases.items ++ cs) says);
        corners = rw (corners, name, append-nil);
        holes = rw (holes, name, append-nil);
        boundary = rw (boundary, name);
        method = rw (method, name);
      },
    ))
    (λ f bad. subst (λ o. IsLineFault f o) (sym same) bad)

-- a line whose sharp corners were kept
pub kept-corners : (r : Result (Unit {0}) LineFault) (whole : Counts) (words left : List (List ℕ)) (counts : TagCounts) (before after : Tags)
    → IsHeadOf kind.Corner counts left (codes "t" ∷ words)
    → after.creases ≡ before.creases → after.holes ≡ before.holes → after.boundary ≡ before.boundary → after.method ≡ before.method
    → KeptUnless r (value_fault whole.point_count counts left) (λ _. map corner_tag_of after.corners.items ≡ map corner_tag_of before.corners.items ++ vertex_tags (indices_said counts left) (sharpnesses_said counts left))
    → KeptUnless r (tag_fault whole (codes "t" ∷ words)) (λ _. AddsTag (codes "t" ∷ words) before after)
kept-corners r whole words left counts before after head creases holes boundary method said =
    let line = codes "t" ∷ words in
    let name : get_or words 0 [] ≡ codes "corner" = tag-named (get_or words 0 []) CornerTag head.name in
    let same : tag_fault whole line ≡ value_fault whole.point_count counts left = rw (head.name, head.fits, head.numbers.integers, head.numbers.numerals, head.rest) refl in
    let says : vertex_tags (indices_said counts left) (sharpnesses_said counts left) ≡ tag_corners line = rw (head.numbers.integers, head.numbers.numerals, head.rest) refl in
    MatchResult-weaker r said
    (λ _ good. (
      same ∙ good.0,
      record {
        creases = rw (creases, name, append-nil);
        corners = rw name (good.1 ∙ ap (λ cs. map corner_tag_of before.corners.items ++ cs) says);
        holes = rw (holes, name, append-nil);
        boundary = rw (boundary, name);
        method = rw (method, name);
      },
    ))
    (λ f bad. subst (λ o. IsLineFault f o) (sym same) bad)

-- a line whose holes were kept
pub kept-holes : (r : Result (Unit {0}) LineFault) (whole : Counts) (words left : List (List ℕ)) (counts : TagCounts) (before after : Tags)
    → IsHeadOf kind.Hole counts left (codes "t" ∷ words)
    → after.creases ≡ before.creases → after.corners ≡ before.corners → after.boundary ≡ before.boundary → after.method ≡ before.method
    → KeptUnless r (fault.first_cause (tag_index_fault whole.face_count) (take counts.integers left)) (λ _. after.holes.items ≡ before.holes.items ++ indices_said counts left)
    → KeptUnless r (tag_fault whole (codes "t" ∷ words)) (λ _. AddsTag (codes "t" ∷ words) before after)
kept-holes r whole words left counts before after head creases corners boundary method said =
    let line = codes "t" ∷ words in
    let name : get_or words 0 [] ≡ codes "hole" = tag-named (get_or words 0 []) HoleTag head.name in
    let same : tag_fault whole line ≡ fault.first_cause (tag_index_fault whole.face_count) (take counts.integers left) = rw (head.name, head.fits, head.numbers.integers, head.rest) refl in
    let says : indices_said counts left ≡ tag_indices line = rw (head.numbers.integers, head.rest) refl in
    MatchResult-weaker r said
    (λ _ good. (
      same ∙ good.0,
      record {
        creases = rw (creases, name, append-nil);
        corners = rw (corners, name, append-nil);
        holes = rw name (good.1 ∙ ap (λ hs. before.holes.items ++ hs) says);
        boundary = rw (boundary, name);
        method = rw (method, name);
      },
    ))
    (λ f bad. subst (λ o. IsLineFault f o) (sym same) bad)

-- a line whose boundary mode was kept
pub kept-boundary : (r : Result (Unit {0}) LineFault) (whole : Counts) (words left : List (List ℕ)) (counts : TagCounts) (before : Tags) (mode : declared.Boundary)
    → IsHeadOf kind.Boundary counts left (codes "t" ∷ words) → 0 < length left
    → KeptUnless r (mode_fault (get_or left 0 [])) (λ _. mode_of_word (get_or left 0 []) ≡ Some (boundary_of mode))
    → KeptUnless r (tag_fault whole (codes "t" ∷ words)) (λ _. AddsTag (codes "t" ∷ words) before (record before { boundary = mode }))
kept-boundary r whole words [] counts before mode head some said = absurd (omega arith)
kept-boundary r whole words (word ∷ rest) counts before mode head some said =
    let line = codes "t" ∷ words in
    let wholes = boundary-wholes line word rest head.fits (sym head.rest) in
    let same : tag_fault whole line ≡ mode_fault word = rw (head.name, head.fits, wholes) (one-cause mode_fault word (mode_fault word) refl) in
    MatchResult-weaker r said
    (λ _ good.
    let sound = boundary-sound whole line word rest (boundary_of mode) head.name head.fits (sym head.rest) good.1 in
    (sound.0, adds-boundary words before mode head.name sound.1))
    (λ f bad. subst (λ o. IsLineFault f o) (sym same) bad)

-- a line whose method was kept
pub kept-method : (r : Result (Unit {0}) LineFault) (whole : Counts) (words left : List (List ℕ)) (counts : TagCounts) (before : Tags) (method : sharp.Method)
    → IsHeadOf kind.Method counts left (codes "t" ∷ words) → 0 < length left
    → KeptUnless r (method_fault (get_or left 0 [])) (λ _. method_of_word (get_or left 0 []) ≡ Some (method_of method))
    → KeptUnless r (tag_fault whole (codes "t" ∷ words)) (λ _. AddsTag (codes "t" ∷ words) before (record before { method = method }))
kept-method r whole words [] counts before method head some said = absurd (omega arith)
kept-method r whole words (word ∷ rest) counts before method head some said =
    let line = codes "t" ∷ words in
    let strings = method-strings line word rest head.fits (sym head.rest) in
    let same : tag_fault whole line ≡ method_fault word = rw (head.name, head.fits, strings) (one-cause method_fault word (method_fault word) refl) in
    MatchResult-weaker r said
    (λ _ good.
    let sound = method-sound whole line word rest (method_of method) head.name head.fits (sym head.rest) good.1 in
    (sound.0, adds-method words before method head.name sound.1))
    (λ f bad. subst (λ o. IsLineFault f o) (sym same) bad)

-- a line whose tag is dropped
pub kept-dropped : (whole : Counts) (words left : List (List ℕ)) (counts : TagCounts) (tags : Tags) → IsHeadOf kind.Dropped counts left (codes "t" ∷ words)
    → (tag_fault whole (codes "t" ∷ words) ≡ None) × AddsTag (codes "t" ∷ words) tags tags
kept-dropped whole words left counts tags head =
    let other = tag-named (get_or words 0 []) DroppedTag head.name in (
      rw (head.name, head.fits),
      record {
        creases = rw (other.0, append-nil);
        corners = rw (other.1, append-nil);
        holes = rw (other.2, append-nil);
        boundary = rw other.3;
        method = rw other.4;
      },
    )
