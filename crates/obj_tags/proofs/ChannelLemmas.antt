-- The kept lines of a channel after one more line.
use Rattle.std.proofs.Common.{◌≡◌, ℕ, suc, ◌+◌, Bool, true, false, cond, List, [], ◌∷◌, ◌++◌, length, map, append-nil, Option, Some, None, option_map, arith, refl, ap, sym, ◌∙◌, if◌then◌else◌}
use Rattle.std.specs.List.{filter, count_by}
use Rattle.std.proofs.lemmas.List.{map_push, length_push}
use Rattle.std.proofs.lemmas.List.Elements.{filter-append}
use Rattle.std.proofs.lemmas.List.Sums.{sum_by-append}
use Rattle.subdiv_model.specs.ObjFault.{NumberRange}
use Rattle.subdiv_model.specs.ReadObj.{has_long_number, long_fault, first_fault}
use Rattle.obj_tags.specs.Channel.{IsChannelOf, first_long}
use Rattle.obj_tags.specs.Line.{Line}
use Rattle.obj_tags.specs.Survey.{long_fault_at}
use Rattle.obj_tags.proofs.CommonLemmas.{long-before, long-last}
use Rattle.obj_tags.proofs.FirstLineLemmas.{first-more, or-none, some-or, none-or, cause-of}

filter-other : (kind : Line → Bool) (before : List Line) (line : Line) → kind line ≡ false
    → filter kind (before ++ line ∷ []) ≡ filter kind before
filter-other kind before line other = filter-append kind before (line ∷ []) ∙ none ∙ append-nil (filter kind before)
  where
    none : filter kind before ++ filter kind (line ∷ []) ≡ filter kind before ++ []
    none = rw other refl

filter-one : (kind : Line → Bool) (before : List Line) (line : Line) → kind line ≡ true
    → filter kind (before ++ line ∷ []) ≡ filter kind before ++ line ∷ []
filter-one kind before line is = filter-append kind before (line ∷ []) ∙ one
  where
    one : filter kind before ++ filter kind (line ∷ []) ≡ filter kind before ++ line ∷ []
    one = rw is refl

count-last : (kind : Line → Bool) (before : List Line) (line : Line)
    → count_by kind (before ++ line ∷ []) ≡ count_by kind before + cond (kind line) 1 0
count-last kind before line = sum_by-append (λ w. cond (kind w) 1 0) before (line ∷ []) ∙ ap (λ n. count_by kind before + n) one-line
  where
    one-line : count_by kind (line ∷ []) ≡ cond (kind line) 1 0
    one-line = omega arith

-- a line of another channel
pub channel-other : (Q : Type 0) (kind : Line → Bool) (over : ℕ → Line → Q) (common : ℕ) (numbers : List Q) (long : Option ℕ) (before : List Line) (line : Line)
    → IsChannelOf Q kind over common numbers long before → kind line ≡ false
    → IsChannelOf Q kind over common numbers long (before ++ line ∷ [])
channel-other Q kind over common numbers long before line is other =
    let same = filter-other kind before line other in
    let none : long_fault kind common (before ++ line ∷ []) (length before) ≡ None = long-last kind common before line ∙ rw other refl in
    let count : count_by kind (before ++ line ∷ []) ≡ count_by kind before + 0 = count-last kind before line ∙ rw other refl in
    let kept = is.count in
    record {
      count = omega (arith, count, kept);
      kept = λ e. is.kept e ∙ ap (map (over common)) (sym same);
      first = is.first ∙ sym (first-more (long_fault kind common (before ++ line ∷ [])) (long_fault kind common before) before line None (λ k low. long-before kind common before line k low) none ∙ or-none (first_fault (long_fault kind common before) (length before)));
    }

both-none : (long : Option ℕ) (number : ℕ) (has : Bool) → first_long long number has ≡ None → (long ≡ None) × (has ≡ false)
both-none (Some place) number has e = cc
both-none None number true e = cc
both-none None number false e = (refl, refl)

first-here : (kind : Line → Bool) (common : ℕ) (long : Option ℕ) (has : Bool) (before : List Line) (line : Line) → kind line ≡ true
    → has_long_number common line ≡ has
    → option_map long_fault_at long ≡ first_fault (long_fault kind common before) (length before)
    → option_map long_fault_at (first_long long (suc (length before)) has) ≡ first_fault (long_fault kind common (before ++ line ∷ [])) (length (before ++ line ∷ []))
first-here kind common (Some place) has before line is e first =
    sym
    (first-more (long_fault kind common (before ++ line ∷ [])) (long_fault kind common before) before line _ (λ k low. long-before kind common before line k low) refl
    ∙ some-or _ _ _ first)
first-here kind common None has before line is e first =
    let last : long_fault kind common (before ++ line ∷ []) (length before) ≡ (if has then Some NumberRange else None) = long-last kind common before line ∙ rw (is, e) refl in
    long-if has (suc (length before))
    ∙ cause-of has (length before)
    ∙ sym
    (first-more (long_fault kind common (before ++ line ∷ [])) (long_fault kind common before) before line _ (λ k low. long-before kind common before line k low) last
    ∙ none-or _ _ first)
  where
    long-if : (b : Bool) (n : ℕ) → option_map long_fault_at (first_long None n b) ≡ option_map long_fault_at (if b then Some n else None)
    long-if true n = refl
    long-if false n = refl

-- a line of the channel, whose number is kept where it is not too long
pub channel-more : (Q : Type 0) (kind : Line → Bool) (over : ℕ → Line → Q) (common : ℕ) (numbers : List Q) (q : Q) (long : Option ℕ) (has : Bool) (before : List Line) (line : Line)
    → IsChannelOf Q kind over common numbers long before → kind line ≡ true → has_long_number common line ≡ has
    → (has ≡ false → q ≡ over common line)
    → IsChannelOf Q kind over common (numbers ++ q ∷ []) (first_long long (suc (length before)) has) (before ++ line ∷ [])
channel-more Q kind over common numbers q long has before line is kin e here =
    let count : count_by kind (before ++ line ∷ []) ≡ count_by kind before + 1 = count-last kind before line ∙ rw kin refl in
    let size = length_push numbers q in
    let kept = is.count in
    record {
      count = omega (arith, count, size, kept);
      kept = λ none.
          let parts = both-none long (suc (length before)) has none in
          ap (λ ns. ns ++ q ∷ []) (is.kept parts.0)
          ∙ ap (λ x. map (over common) (filter kind before) ++ x ∷ []) (here parts.1)
          ∙ sym (ap (map (over common)) (filter-one kind before line kin) ∙ map_push (over common) (filter kind before) line);
      first = first-here kind common long has before line kin e is.first;
    }
