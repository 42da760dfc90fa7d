-- One more word of a line.
use Rattle.std.proofs.Common.{◌≡◌, ℕ, zero, suc, ◌<◌, ◌^◌, ℤ, pos, negsuc, arith, Bool, true, false, List, [], ◌∷◌, ◌++◌, map, take, drop, ◌-◌, Option, Some, None, refl, ap, sym, ◌∙◌, length, ◌≤◌, zip, get_or, ◌+◌, ◌⊎◌, inl, inr, ⊎_elim, nat_eq, add-one}
use Rattle.subdiv_model.specs.Sharpness.{Sharpness, Smooth}
use Rattle.subdiv_model.specs.ObjTag.{for_each, chain_pairs}
use Rattle.std.specs.Int.{saturate_to_bits}
use Rattle.std.proofs.lemmas.List.{append_assoc, map_push, take_all, length-replicate, length-map}
use Rattle.std.proofs.lemmas.Bool.Decides.{nat_tests}
use Rattle.subdiv_model.specs.Index.{index_of, nearest_index}
use Rattle.subdiv_model.specs.ObjWord.{place_of_index, place_of_word}
use Rattle.subdiv_model.specs.ObjFault.{ObjCause, first_cause}

-- a word without fault, and one with
pub cause-none : (f : List ℕ → Option ObjCause) (word : List ℕ) (words : List (List ℕ)) → f word ≡ None
    → first_cause f (word ∷ words) ≡ first_cause f words
cause-none f word words e = rw e refl

pub cause-some : (f : List ℕ → Option ObjCause) (word : List ℕ) (words : List (List ℕ)) (cause : ObjCause) → f word ≡ Some cause
    → first_cause f (word ∷ words) ≡ Some cause
cause-some f word words cause e = rw e refl

-- An index cut to 64 bits names the same place.
pub place_nearest : (before whole : ℕ) (word : List ℕ) → before < 2 ^ 32 → whole < 2 ^ 32
    → place_of_index before whole (nearest_index word) ≡ place_of_word before whole word
place_nearest before whole word hb hw = same (index_of word)
  where
    same : (z : ℤ) → place_of_index before whole (saturate_to_bits 63 z) ≡ place_of_index before whole z
    same (pos zero) = grind (arith, nat_tests)
    same (pos (suc n)) = grind (arith, nat_tests)
    same (negsuc n) = grind (arith, nat_tests)

-- The first of n words.
pub take-first : (n : ℕ) (word : List ℕ) (words : List (List ℕ)) → 0 < n → take n (word ∷ words) ≡ word ∷ take (n - 1) words
take-first zero word words h = absurd (omega arith)
take-first (suc n) word words h = let same : suc n - 1 ≡ n = omega arith in ap (λ k. word ∷ take k words) (sym same)

pub drop-first : (n : ℕ) (word : List ℕ) (words : List (List ℕ)) → 0 < n → drop n (word ∷ words) ≡ drop (n - 1) words
drop-first zero word words h = absurd (omega arith)
drop-first (suc n) word words h = let same : suc n - 1 ≡ n = omega arith in ap (λ k. drop k words) (sym same)

-- One of n words was read.
pub taken-cause : (f : List ℕ → Option ObjCause) (n : ℕ) (word : List ℕ) (left next : List (List ℕ)) → 0 < n → left ≡ word ∷ next
    → f word ≡ None → first_cause f (take (n - 1) next) ≡ first_cause f (take n left)
taken-cause f n word left next h e none = sym (ap (λ ws. first_cause f (take n ws)) e ∙ ap (first_cause f) (take-first n word next h) ∙ cause-none f word (take (n - 1) next) none)

pub taken-some : (f : List ℕ → Option ObjCause) (n : ℕ) (word : List ℕ) (left next : List (List ℕ)) (cause : ObjCause) → 0 < n
    → left ≡ word ∷ next → f word ≡ Some cause → first_cause f (take n left) ≡ Some cause
taken-some f n word left next cause h e some = ap (λ ws. first_cause f (take n ws)) e ∙ ap (first_cause f) (take-first n word next h) ∙ cause-some f word (take (n - 1) next) cause some

pub taken-found : {A : Type 0} (g : List ℕ → A) (n : ℕ) (word : List ℕ) (left next : List (List ℕ)) (xs : List A) (x : A) → 0 < n
    → left ≡ word ∷ next → x ≡ g word → (xs ++ x ∷ []) ++ map g (take (n - 1) next) ≡ xs ++ map g (take n left)
taken-found g n word left next xs x h e f =
    append_assoc xs (x ∷ []) (map g (take (n - 1) next))
    ∙ ap (λ y. xs ++ (y ∷ map g (take (n - 1) next))) f
    ∙ ap (λ ws. xs ++ map g ws) (sym (take-first n word next h))
    ∙ ap (λ ws. xs ++ map g (take n ws)) (sym e)

pub taken-rest : (n : ℕ) (word : List ℕ) (left next : List (List ℕ)) → 0 < n → left ≡ word ∷ next → drop (n - 1) next ≡ drop n left
taken-rest n word left next h e = sym (ap (drop n) e ∙ drop-first n word next h)

pub taken-inside : (n : ℕ) (word : List ℕ) (left next : List (List ℕ)) → n ≤ length left → left ≡ word ∷ next → n - 1 ≤ length next
taken-inside n word left next h e = omega (arith, ap length e)

-- one more pair of two lists
zip-next : {A B : Type 0} (xs : List A) (ys : List B) (i : ℕ) (x : A) (y : B) → i < length xs → i < length ys
    → zip (take (suc i) xs) (take (suc i) ys) ≡ zip (take i xs) (take i ys) ++ (get_or xs i x, get_or ys i y) ∷ []
zip-next [] ys i x y h k = absurd (omega arith)
zip-next (a ∷ xs) [] i x y h k = absurd (omega arith)
zip-next (a ∷ xs) (b ∷ ys) zero x y h k = refl
zip-next (a ∷ xs) (b ∷ ys) (suc i) x y h k = ap (λ r. (a, b) ∷ r) (zip-next xs ys i x y (omega arith) (omega arith))

pub zip-more : {A B : Type 0} (xs : List A) (ys : List B) (i : ℕ) (x : A) (y : B) → i < length xs → i < length ys
    → zip (take (i + 1) xs) (take (i + 1) ys) ≡ zip (take i xs) (take i ys) ++ (get_or xs i x, get_or ys i y) ∷ []
zip-more xs ys i x y h k = rw add-one (zip-next xs ys i x y h k)

-- one sharpness for each
pub for_each-length : (count : ℕ) (values : List Sharpness) → (length values ≡ 1) ⊎ (length values ≡ count)
    → length (for_each count values) ≡ count
for_each-length count values h = by-one (nat_eq (length values) 1) refl
  where
    by-one : (t : Bool) → nat_eq (length values) 1 ≡ t → length (for_each count values) ≡ count
    by-one true e = rw e (length-replicate count (get_or values 0 Smooth))
    by-one false e = rw e (grind (arith, nat_tests))

pub chain-length : (vertices : List ℕ) → length (chain_pairs vertices) ≡ length vertices - 1
chain-length [] = refl
chain-length (v ∷ []) = refl
chain-length (v ∷ w ∷ vertices) = omega (arith, chain-length (w ∷ vertices))

chain-next : (vertices : List ℕ) (i : ℕ) → suc i < length vertices
    → get_or (chain_pairs vertices) i (0, 0) ≡ (get_or vertices i 0, get_or vertices (suc i) 0)
chain-next [] i h = absurd (omega arith)
chain-next (v ∷ []) i h = absurd (omega arith)
chain-next (v ∷ w ∷ vertices) zero h = refl
chain-next (v ∷ w ∷ vertices) (suc i) h = chain-next (w ∷ vertices) i (omega arith)

pub chain-at : (vertices : List ℕ) (i : ℕ) → i + 1 < length vertices
    → get_or (chain_pairs vertices) i (0, 0) ≡ (get_or vertices i 0, get_or vertices (i + 1) 0)
chain-at vertices i h = rw add-one (chain-next vertices i (omega arith))

-- one more was kept, and all were
pub zipped-more : {A B C : Type 0} (f : C → A × B) (old items next : List C) (new : C) (xs : List A) (ys : List B) (i : ℕ) (x : A) (y : B)
    → map f items ≡ map f old ++ zip (take i xs) (take i ys) → next ≡ items ++ new ∷ [] → f new ≡ (get_or xs i x, get_or ys i y)
    → i < length xs → i < length ys → map f next ≡ map f old ++ zip (take (i + 1) xs) (take (i + 1) ys)
zipped-more f old items next new xs ys i x y kept e g h k =
    ap (map f) e
    ∙ map_push f items new
    ∙ ap (λ p. map f items ++ p ∷ []) g
    ∙ ap (λ r. r ++ (get_or xs i x, get_or ys i y) ∷ []) kept
    ∙ append_assoc (map f old) (zip (take i xs) (take i ys)) ((get_or xs i x, get_or ys i y) ∷ [])
    ∙ ap (λ r. map f old ++ r) (sym (zip-more xs ys i x y h k))

pub zipped-all : {A B C : Type 0} (f : C → A × B) (old items : List C) (xs : List A) (ys : List B) (i : ℕ)
    → map f items ≡ map f old ++ zip (take i xs) (take i ys) → length xs ≤ i → length ys ≤ i → map f items ≡ map f old ++ zip xs ys
zipped-all f old items xs ys i kept h k = kept ∙ ap (λ r. map f old ++ zip r (take i ys)) (take_all i xs h) ∙ ap (λ r. map f old ++ zip xs r) (take_all i ys k)

-- as many values as there are places, or one
pub each-length : {A : Type 0} (f : A → Sharpness) (count : ℕ) (values : List A) → (length values ≡ 1) ⊎ (length values ≡ count)
    → length (for_each count (map f values)) ≡ count
each-length f count values h =
    for_each-length count (map f values) (⊎_elim (λ e. inl (length-map values f ∙ e)) (λ e. inr (length-map values f ∙ e)) h)

pub chain-values : {A : Type 0} (vertices : List ℕ) (values : List A) → (length values ≡ 1) ⊎ (length values + 1 ≡ length vertices)
    → (length values ≡ 1) ⊎ (length values ≡ length (chain_pairs vertices))
chain-values vertices values h = ⊎_elim (λ e. inl e) (λ e. inr (omega (arith, e, chain-length vertices))) h
