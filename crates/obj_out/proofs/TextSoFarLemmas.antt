-- One call after another: the text that they put, and the part that a sink received.
use Rattle.std.proofs.Common.{◌≡◌, ℕ, ◌+◌, List, [], ◌++◌, length, take, arith, Option, append_assoc, length-append, ap, sym, ◌∙◌, subst}
use Rattle.std.proofs.Math.Seq.{take-append-add}
use Rattle.std.proofs.lemmas.List.{append-nil}
use Rattle.far_io.specs.Bytes.{Added, AddedPrefix}
use Rattle.far_io.proofs.BytesLemmas.{Added-more}
use Rattle.obj_out.specs.TextSoFar.{IsTextSoFar}

-- a text that is put after the text so far
pub text-more : (start old new : Option (List ℕ)) (waited waits before text : List ℕ) → IsTextSoFar start old waited before →
    IsTextSoFar old new waits (waited ++ text) → IsTextSoFar start new waits (before ++ text)
text-more start old new waited waits before text p q = (
  p.0 ++ q.0,
  Added-more start old new p.0 q.0 p.1 q.1,
  append_assoc p.0 q.0 waits ∙ ap (λ r. p.0 ++ r) q.2 ∙ sym (append_assoc p.0 waited text) ∙ ap (λ r. r ++ text) p.2,
)

-- a prefix of it, where the call failed
pub prefix-more : (start old new : Option (List ℕ)) (waited before text : List ℕ) → IsTextSoFar start old waited before →
    AddedPrefix old new (waited ++ text) → AddedPrefix start new (before ++ text)
prefix-more start old new waited before text p q =
    let whole : p.0 ++ (waited ++ text) ≡ before ++ text = sym (append_assoc p.0 waited text) ∙ ap (λ r. r ++ text) p.2 in
    let front : take (length p.0 + q.0) (before ++ text) ≡ p.0 ++ take q.0 (waited ++ text) =
    ap (λ r. take (length p.0 + q.0) r) (sym whole) ∙ take-append-add p.0 (waited ++ text) q.0 in
    let long : length (before ++ text) ≡ length p.0 + length (waited ++ text) = ap length (sym whole) ∙ length-append p.0 (waited ++ text) in (
      length p.0 + q.0,
      omega (arith, long, q.1),
      subst (λ (r : List ℕ). Added start new r) (sym front) (Added-more start old new p.0 (take q.0 (waited ++ text)) p.1 q.2),
    )

-- A text put behind the waiting text, after a call that put nothing.
pub put-behind : (old new : Option (List ℕ)) (waited middle waits text : List ℕ) → IsTextSoFar old new middle (waited ++ []) → waits ≡ middle ++ text →
    IsTextSoFar old new waits (waited ++ text)
put-behind old new waited middle waits text p e = (
  p.0,
  p.1,
  ap (λ r. p.0 ++ r) e ∙ sym (append_assoc p.0 middle text) ∙ ap (λ r. r ++ text) (p.2 ∙ append-nil waited),
)
