-- A tag of one value: the boundary mode or the method.
use Rattle.std.proofs.Common.{◌≡◌, ℕ, ◌+◌, Bool, true, false, ◌&&◌, nat_eq, List, [], ◌∷◌, length, take, drop, get_or, Some, None, arith, refl, ap, sym, ◌∙◌, append-nil, codes}
use Rattle.std.proofs.lemmas.Bool.{eqb-true}
use Rattle.std.proofs.lemmas.Bool.Decides.{nat_tests}
use Rattle.subdiv_model.specs.ObjWord.{Counts}
use Rattle.subdiv_model.specs.Boundary.{Boundary}
use Rattle.subdiv_model.specs.Sharpness.{Method}
use Rattle.sharpness_rules.specs.View.{method_of}
use Rattle.sharpness_rules.specs.declared.child.Method as sharp
use Rattle.raw_mesh.specs.View.{boundary_of}
use Rattle.obj_tags.specs.TagAdded.{AddsTag}
use Rattle.raw_mesh.specs.declared.tags.Boundary as declared
use Rattle.raw_mesh.specs.declared.tags.Tags.{Tags}
use Rattle.obj_tags.proofs.TagNameLemmas.{tag-named}
use Rattle.subdiv_model.specs.ObjTag.{BoundaryTag, MethodTag, kind_of_name, tag_name, tag_values, tag_wholes, tag_strings, whole_count, numeral_count, string_count, may_have, fits_counts, mode_of_word, method_of_word, tag_fault, tag_mode, tag_method}

pub and-last : (a b c : Bool) → (a && b && c) ≡ true → (b ≡ true) × (c ≡ true)
and-last true true c e = (refl, e)
and-last true false c e = cc
and-last false b c e = cc

pub boundary-counts : (w n s : ℕ) → may_have BoundaryTag w n s ≡ true → w ≡ 1
boundary-counts w n s e = grind (arith, nat_tests)

pub method-counts : (w n s : ℕ) → may_have MethodTag w n s ≡ true → (w ≡ 0) × (n ≡ 0) × (s ≡ 1)
method-counts w n s e = grind (arith, nat_tests)

-- The only value of a boundary tag, and of a method tag.
pub boundary-wholes : (line : List (List ℕ)) (word : List ℕ) (rest : List (List ℕ)) → fits_counts BoundaryTag line ≡ true
    → tag_values line ≡ word ∷ rest → tag_wholes line ≡ word ∷ []
boundary-wholes line word rest fits e =
    let parts = and-last _ _ _ fits in
    let one : whole_count line ≡ 1 = boundary-counts _ _ _ parts.0 in
    ap (λ n. take n (tag_values line)) one ∙ ap (take 1) e

single : (word : List ℕ) (rest : List (List ℕ)) → length (word ∷ rest) ≡ 1 → word ∷ rest ≡ word ∷ []
single word [] h = refl
single word (next ∷ rest) h = absurd (omega arith)

pub method-strings : (line : List (List ℕ)) (word : List ℕ) (rest : List (List ℕ)) → fits_counts MethodTag line ≡ true
    → tag_values line ≡ word ∷ rest → tag_strings line ≡ word ∷ []
method-strings line word rest fits e =
    let parts : (may_have MethodTag (whole_count line) (numeral_count line) (string_count line) ≡ true) × (nat_eq (length (tag_values line)) (whole_count line + numeral_count line + string_count line) ≡ true) = and-last _ _ _ fits in
    let counts = method-counts (whole_count line) (numeral_count line) (string_count line) parts.0 in
    let all : length (tag_values line) ≡ whole_count line + numeral_count line + string_count line = eqb-true _ _ parts.1 in
    let none : whole_count line + numeral_count line ≡ 0 = omega (arith, counts.0, counts.1) in
    ap (λ n. drop n (tag_values line)) none ∙ e ∙ single word rest (omega (arith, ap length e, all, counts.0, counts.1, counts.2))

-- A tag whose only value is a mode, or a method, has no fault.
pub boundary-sound : (whole : Counts) (line : List (List ℕ)) (word : List ℕ) (rest : List (List ℕ)) (mode : Boundary)
    → kind_of_name (tag_name line) ≡ Some BoundaryTag → fits_counts BoundaryTag line ≡ true → tag_values line ≡ word ∷ rest
    → mode_of_word word ≡ Some mode → (tag_fault whole line ≡ None) × (tag_mode line ≡ mode)
boundary-sound whole line word rest mode kind fits e says =
    let wholes : tag_wholes line ≡ word ∷ [] = boundary-wholes line word rest fits e in
    (rw (kind, fits, wholes, says), rw (wholes, says))

pub method-sound : (whole : Counts) (line : List (List ℕ)) (word : List ℕ) (rest : List (List ℕ)) (method : Method)
    → kind_of_name (tag_name line) ≡ Some MethodTag → fits_counts MethodTag line ≡ true → tag_values line ≡ word ∷ rest
    → method_of_word word ≡ Some method → (tag_fault whole line ≡ None) × (tag_method line ≡ method)
method-sound whole line word rest method kind fits e says =
    let strings : tag_strings line ≡ word ∷ [] = method-strings line word rest fits e in
    (rw (kind, fits, strings, says), rw (strings, says))

-- a tag of the boundary or of the method sets the mode or the method, and nothing else
pub adds-boundary : (words : List (List ℕ)) (before : Tags) (mode : declared.Boundary)
    → kind_of_name (tag_name (codes "t" ∷ words)) ≡ Some BoundaryTag → tag_mode (codes "t" ∷ words) ≡ boundary_of mode
    → AddsTag (codes "t" ∷ words) before (record before { boundary = mode })
adds-boundary words before mode kind says =
    let name : get_or words 0 [] ≡ codes "interpolateboundary" = tag-named (get_or words 0 []) BoundaryTag kind in
    record {
      creases = rw (name, append-nil);
      corners = rw (name, append-nil);
      holes = rw (name, append-nil);
      boundary = rw name (sym says);
      method = rw name;
    }

pub adds-method : (words : List (List ℕ)) (before : Tags) (method : sharp.Method)
    → kind_of_name (tag_name (codes "t" ∷ words)) ≡ Some MethodTag → tag_method (codes "t" ∷ words) ≡ method_of method
    → AddsTag (codes "t" ∷ words) before (record before { method = method })
adds-method words before method kind says =
    let name : get_or words 0 [] ≡ codes "creasemethod" = tag-named (get_or words 0 []) MethodTag kind in
    record {
      creases = rw (name, append-nil);
      corners = rw (name, append-nil);
      holes = rw (name, append-nil);
      boundary = rw name;
      method = rw name (sym says);
    }
