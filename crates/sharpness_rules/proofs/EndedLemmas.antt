-- The values that end at a vertex and in its ring.
use Rattle.std.proofs.Common.{◌≡◌, ℕ, ◌+◌, ◌^◌, ◌<◌, ◌≤◌, arith, subst, sym, ap, ◌∙◌, List, [], ◌∷◌, ◌++◌, length, map, zip, take, get_or, length-append}
use Rattle.std.specs.List.{flat_map}
use Rattle.std.proofs.lemmas.Bool.{cond_both}
use Rattle.std.proofs.lemmas.List.{get_or-map, length-map, length-take, take_all}
use Rattle.std.proofs.lemmas.Slice.Zip.{get_or-zip, length-zip}
use Rattle.subdiv_model.specs.Multiples.{common_denominator}
use Rattle.subdiv_model.specs.Rule.{ended_value, ended_values}
use Rattle.subdiv_model.specs.Sharpness as model
use Rattle.subdiv_model.specs.Sharpness.{is_sharp, semi_values}
use Rattle.sharpness_rules.specs.declared.sharpness.Sharpness.{Sharpness}
use Rattle.sharpness_rules.specs.View.{sharpness_of}
use Rattle.sharpness_rules.proofs.MultipleLemmas.{AreProper, AreProper-append, common_denominator-more}
use Rattle.sharpness_rules.proofs.RingLemmas.{values-proper, length-values, length-flat_map, flat_map-next, too_fine-split}

-- The values that end at the edges of a ring.
abbrev pairs : List Sharpness → List Sharpness → List (model.Sharpness × model.Sharpness)
pairs ring next = zip (map sharpness_of ring) (map sharpness_of next)

pair-at : (ring next : List Sharpness) (i : ℕ) (s t : Sharpness) → length ring ≡ length next → i < length ring → s ≡ get_or ring i s
    → t ≡ get_or next i t → get_or (pairs ring next) i (model.Smooth, model.Smooth) ≡ (sharpness_of s, sharpness_of t)
pair-at ring next i s t same within first second =
    let inside : i < length (map sharpness_of ring) = rw length-map within in
    let beside : i < length (map sharpness_of next) = rw length-map (omega (arith, same)) in
    get_or-zip (map sharpness_of ring) (map sharpness_of next) i (model.Smooth, model.Smooth) inside beside
    ∙ ap (λ x. (x, get_or (map sharpness_of next) i model.Smooth)) (get_or-map sharpness_of ring i s model.Smooth within ∙ ap sharpness_of (sym first))
    ∙ ap (λ x. (sharpness_of s, x)) (get_or-map sharpness_of next i t model.Smooth (omega (arith, same)) ∙ ap sharpness_of (sym second))

length-pairs : (ring next : List Sharpness) → length ring ≡ length next → length (pairs ring next) ≡ length ring
length-pairs ring next same =
    omega (arith, same, length-zip (map sharpness_of ring) (map sharpness_of next), length-map ring sharpness_of, length-map next sharpness_of)

ended-proper : (s : Sharpness) (next : model.Sharpness) → AreProper (ended_value (sharpness_of s, next))
ended-proper s next = cond_both (is_sharp next) [] (semi_values (sharpness_of s)) AreProper (λ _. tt) (λ _. values-proper s)

pairs-proper : (ring : List Sharpness) (next : List model.Sharpness) → AreProper (flat_map ended_value (zip (map sharpness_of ring) next))
pairs-proper [] next = tt
pairs-proper (s ∷ ring) [] = tt
pairs-proper (s ∷ ring) (n ∷ next) = AreProper-append (ended_value (sharpness_of s, n)) _ (ended-proper s n) (pairs-proper ring next)

length-ended : (x : model.Sharpness × model.Sharpness) → length (ended_value x) ≤ 1
length-ended x = cond_both (is_sharp x.1) [] (semi_values x.0) (λ values. length values ≤ 1) (λ _. omega arith) (λ _. length-values x.0)

length-ended_values : (x : model.Sharpness × model.Sharpness) (xs : List (model.Sharpness × model.Sharpness))
    → length (ended_value x ++ flat_map ended_value xs) ≤ length xs + 1
length-ended_values x xs = omega (arith, length-append (ended_value x) (flat_map ended_value xs), length-ended x, length-flat_map ended_value length-ended xs)

-- the values that end at a vertex and in its ring
abbrev pub values_ended : Sharpness → Sharpness → List Sharpness → List Sharpness → List (ℕ × ℕ)
values_ended vertex vertex_child ring next =
    ended_values (sharpness_of vertex) (sharpness_of vertex_child) (map sharpness_of ring) (map sharpness_of next)

-- those at the vertex and at the edges before a place
abbrev pub values_before : Sharpness → Sharpness → List Sharpness → List Sharpness → ℕ → List (ℕ × ℕ)
values_before vertex vertex_child ring next i =
    ended_value (sharpness_of vertex, sharpness_of vertex_child) ++ flat_map ended_value (take i (pairs ring next))

pub values_ended-proper : (vertex vertex_child : Sharpness) (ring next : List Sharpness)
    → AreProper (values_ended vertex vertex_child ring next)
values_ended-proper vertex vertex_child ring next =
    AreProper-append (ended_value (sharpness_of vertex, sharpness_of vertex_child)) _ (ended-proper vertex (sharpness_of vertex_child)) (pairs-proper ring (map sharpness_of next))

pub length-values_ended : (vertex vertex_child : Sharpness) (ring next : List Sharpness) → length ring ≡ length next
    → length (values_ended vertex vertex_child ring next) ≤ length ring + 1
length-values_ended vertex vertex_child ring next same =
    omega (arith, length-pairs ring next same, length-ended_values (sharpness_of vertex, sharpness_of vertex_child) (pairs ring next))

pub length-values_before : (vertex vertex_child : Sharpness) (ring next : List Sharpness) (i : ℕ)
    → length (values_before vertex vertex_child ring next i) ≤ i + 1
length-values_before vertex vertex_child ring next i =
    omega (arith, length-take i (pairs ring next), length-ended_values (sharpness_of vertex, sharpness_of vertex_child) (take i (pairs ring next)))

pub values_before-all : (vertex vertex_child : Sharpness) (ring next : List Sharpness) (i : ℕ) → length ring ≡ length next
    → length ring ≤ i → values_before vertex vertex_child ring next i ≡ values_ended vertex vertex_child ring next
values_before-all vertex vertex_child ring next i same past =
    ap (λ xs. ended_value (sharpness_of vertex, sharpness_of vertex_child) ++ flat_map ended_value xs) (take_all i (pairs ring next) (omega (arith, length-pairs ring next same)))

-- s and t are the edge at a place now and at the next level, and the values are those that end there.
pub record EndsAt (ring next : List Sharpness) (i : ℕ) (values : List (ℕ × ℕ)) : Type 0 where
  same : length ring ≡ length next
  within : i < length ring
  ends : values ≡ ended_value (get_or (pairs ring next) i (model.Smooth, model.Smooth))

pub EndsAt-from : (ring next : List Sharpness) (i : ℕ) (s t : Sharpness) (values : List (ℕ × ℕ)) → length ring ≡ length next
    → i < length ring → s ≡ get_or ring i s → t ≡ get_or next i t → values ≡ ended_value (sharpness_of s, sharpness_of t)
    → EndsAt ring next i values
EndsAt-from ring next i s t values same within first second e = record {
  same = same;
  within = within;
  ends = e ∙ ap ended_value (sym (pair-at ring next i s t same within first second));
}

pub values_before-next : (vertex vertex_child : Sharpness) (ring next : List Sharpness) (i : ℕ) (values : List (ℕ × ℕ))
    → EndsAt ring next i values
    → values_before vertex vertex_child ring next i ++ values ≡ values_before vertex vertex_child ring next (i + 1)
values_before-next vertex vertex_child ring next i values at =
    let inside : i < length (pairs ring next) = omega (arith, at.within, length-pairs ring next at.same) in
    ap (λ more. values_before vertex vertex_child ring next i ++ more) at.ends
    ∙ flat_map-next ended_value (ended_value (sharpness_of vertex, sharpness_of vertex_child)) (pairs ring next) i (model.Smooth, model.Smooth) inside

pub values_before-too_fine : (vertex vertex_child : Sharpness) (ring next : List Sharpness) (i : ℕ) (values : List (ℕ × ℕ))
    → EndsAt ring next i values → 2 ^ 60 < common_denominator (values_before vertex vertex_child ring next i ++ values)
    → 2 ^ 60 < common_denominator (values_ended vertex vertex_child ring next)
values_before-too_fine vertex vertex_child ring next i values at passed =
    let inside : i < length (pairs ring next) = omega (arith, at.within, length-pairs ring next at.same) in
    let P : List (ℕ × ℕ) → Type 0 = λ more. 2 ^ 60 < common_denominator (values_before vertex vertex_child ring next i ++ more) in
    too_fine-split ended_value (ended_value (sharpness_of vertex, sharpness_of vertex_child)) (pairs ring next) i (model.Smooth, model.Smooth) inside (values_ended-proper vertex vertex_child ring next) (subst P at.ends passed)

pub vertex-too_fine : (vertex vertex_child : Sharpness) (ring next : List Sharpness)
    → 2 ^ 60 < common_denominator (ended_value (sharpness_of vertex, sharpness_of vertex_child))
    → 2 ^ 60 < common_denominator (values_ended vertex vertex_child ring next)
vertex-too_fine vertex vertex_child ring next passed =
    common_denominator-more (ended_value (sharpness_of vertex, sharpness_of vertex_child)) (flat_map ended_value (pairs ring next)) (2 ^ 60) (values_ended-proper vertex vertex_child ring next) passed
