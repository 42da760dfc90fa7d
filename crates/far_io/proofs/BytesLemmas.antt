-- One call after another.
use Rattle.std.proofs.Common.{◌≡◌, ℕ, ◌+◌, ◌-◌, ◌≤◌, List, take, drop, arith, subst, ◌++◌, Option, Some, None, append_assoc, ap, sym, ◌∙◌}
use Rattle.std.proofs.Math.Seq.{take-add}
use Rattle.far_io.specs.Bytes.{Took, Added}

-- Two reads take the bytes of both.
pub Took-more : (a b c : Option (List ℕ)) (xs ys : List ℕ) → Took a b xs → Took b c ys → Took a c (xs ++ ys)
Took-more (Some a) (Some b) (Some c) xs ys p q = p ∙ ap (λ r. xs ++ r) q ∙ sym (append_assoc xs ys c)
Took-more (Some a) (Some b) None xs ys p q = q
Took-more (Some a) None c xs ys p q = absurd p
Took-more None (Some b) c xs ys p q = absurd p
Took-more None None (Some c) xs ys p q = q
Took-more None None None xs ys p q = tt

-- Two writes add the bytes of both.
pub Added-more : (a b c : Option (List ℕ)) (xs ys : List ℕ) → Added a b xs → Added b c ys → Added a c (xs ++ ys)
Added-more (Some a) (Some b) (Some c) xs ys p q = q ∙ ap (λ r. r ++ ys) p ∙ append_assoc a xs ys
Added-more (Some a) (Some b) None xs ys p q = q
Added-more (Some a) None c xs ys p q = absurd p
Added-more None (Some b) c xs ys p q = absurd p
Added-more None None (Some c) xs ys p q = q
Added-more None None None xs ys p q = tt

-- one write more, up to the next place of the text
pub Added-next : (a b c : Option (List ℕ)) (text : List ℕ) (at next : ℕ) → at ≤ next → Added a b (take at text) →
    Added b c (take (next - at) (drop at text)) → Added a c (take next text)
Added-next a b c text at next h p q =
    let e : at + (next - at) ≡ next = omega arith in
    let P : List ℕ → Type 0 = λ xs. Added a c xs in
    subst P (sym (take-add at (next - at) text) ∙ ap (λ k. take k text) e) (Added-more a b c _ _ p q)
