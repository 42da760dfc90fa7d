-- Numbers combined by weights: sums, products and the order of two such sums.
use Rattle.std.proofs.Common.{◌≡◌, ℕ, zero, suc, ◌+◌, ◌*◌, ◌<◌, ℤ, pos, ◌+ℤ◌, ◌*ℤ◌, List, [], ◌∷◌, length, reverse, get_or, arith, refl, ap, sym, ◌∙◌}
use Rattle.std.proofs.lemmas.Int.{ints}
use Rattle.std.proofs.Math.IntN.{*ℤ-zero, +ℤ_idl, +ℤ_idr}
use Rattle.number_laws.proofs.WholeNumberLemmas.{pos-distrib, pos-sum, pos-assoc, pos-swap, swap_middle}
use Rattle.limit_laws.proofs.SameOverLemmas.{IsSameOver, over-plus, over-scaled}
use Rattle.patch_laws.specs.Tensors.{subdivision_weights}
use Rattle.patch_laws.proofs.SplineLemmas.{refined_weights}

-- the numbers from the first on, each times its weight
abbrev pub combined : List ℕ → (ℕ → ℤ) → ℤ
combined [] x = pos 0
combined (w ∷ weights) x = pos w *ℤ x 0 +ℤ combined weights (λ i. x (suc i))

-- four weights
abbrev pub listed_weights : List ℕ → List ℕ
listed_weights weights = get_or weights 0 0 ∷ get_or weights 1 0 ∷ get_or weights 2 0 ∷ get_or weights 3 0 ∷ []

pub weights-listed : (i : ℕ) → subdivision_weights i ≡ listed_weights (subdivision_weights i)
weights-listed zero = refl
weights-listed (suc zero) = refl
weights-listed (suc (suc zero)) = refl
weights-listed (suc (suc (suc i))) = refl

-- equal numbers
pub combined-same : (weights : List ℕ) (x y : ℕ → ℤ) → ((i : ℕ) → x i ≡ y i) → combined weights x ≡ combined weights y
combined-same weights x y h = λ k. combined weights (λ i. h i k)

-- Linear in the numbers.

combined-none : (weights : List ℕ) → combined weights (λ i. pos 0) ≡ pos 0
combined-none [] = refl
combined-none (w ∷ weights) = ap (λ n. n +ℤ combined weights (λ i. pos 0)) (*ℤ-zero (pos w)) ∙ +ℤ_idl (combined weights (λ i. pos 0)) ∙ combined-none weights

combined-plus : (weights : List ℕ) (x y : ℕ → ℤ) → combined weights (λ i. x i +ℤ y i) ≡ combined weights x +ℤ combined weights y
combined-plus [] x y = refl
combined-plus (w ∷ weights) x y =
    ap (λ n. pos w *ℤ (x 0 +ℤ y 0) +ℤ n) (combined-plus weights (λ i. x (suc i)) (λ i. y (suc i)))
    ∙ ap (λ n. n +ℤ (combined weights (λ i. x (suc i)) +ℤ combined weights (λ i. y (suc i)))) (pos-distrib w (x 0) (y 0))
    ∙ swap_middle (pos w *ℤ x 0) (pos w *ℤ y 0) (combined weights (λ i. x (suc i))) (combined weights (λ i. y (suc i)))

combined-times : (k : ℕ) (weights : List ℕ) (x : ℕ → ℤ) → combined weights (λ i. pos k *ℤ x i) ≡ pos k *ℤ combined weights x
combined-times k [] x = sym (*ℤ-zero (pos k))
combined-times k (w ∷ weights) x =
    ap (λ n. pos w *ℤ (pos k *ℤ x 0) +ℤ n) (combined-times k weights (λ i. x (suc i)))
    ∙ ap (λ n. n +ℤ pos k *ℤ combined weights (λ i. x (suc i))) (pos-swap w k (x 0))
    ∙ sym (pos-distrib k (pos w *ℤ x 0) (combined weights (λ i. x (suc i))))

-- combined along and across, in either order
pub combined-exchange : (along across : List ℕ) (x : ℕ → ℕ → ℤ)
    → combined across (λ j. combined along (λ i. x i j)) ≡ combined along (λ i. combined across (λ j. x i j))
combined-exchange along [] x = sym (combined-none along)
combined-exchange along (w ∷ across) x =
    ap (λ n. pos w *ℤ combined along (λ i. x i 0) +ℤ n) (combined-exchange along across (λ i j. x i (suc j)))
    ∙ ap (λ n. n +ℤ combined along (λ i. combined across (λ j. x i (suc j)))) (sym (combined-times w along (λ i. x i 0)))
    ∙ sym (combined-plus along (λ i. pos w *ℤ x i 0) (λ i. combined across (λ j. x i (suc j))))

-- Linear in the weights.

abbrev times_weights : ℕ → List ℕ → List ℕ
times_weights w [] = []
times_weights w (v ∷ weights) = w * v ∷ times_weights w weights

abbrev plus_weights : List ℕ → List ℕ → List ℕ
plus_weights [] others = others
plus_weights (v ∷ weights) [] = v ∷ weights
plus_weights (v ∷ weights) (w ∷ others) = (v + w) ∷ plus_weights weights others

times-combined : (w : ℕ) (weights : List ℕ) (x : ℕ → ℤ) → pos w *ℤ combined weights x ≡ combined (times_weights w weights) x
times-combined w [] x = *ℤ-zero (pos w)
times-combined w (v ∷ weights) x =
    pos-distrib w (pos v *ℤ x 0) (combined weights (λ i. x (suc i)))
    ∙ ap (λ n. n +ℤ pos w *ℤ combined weights (λ i. x (suc i))) (pos-assoc w v (x 0))
    ∙ ap (λ n. pos (w * v) *ℤ x 0 +ℤ n) (times-combined w weights (λ i. x (suc i)))

plus-combined : (weights others : List ℕ) (x : ℕ → ℤ) → combined weights x +ℤ combined others x ≡ combined (plus_weights weights others) x
plus-combined [] others x = +ℤ_idl (combined others x)
plus-combined (v ∷ weights) [] x = +ℤ_idr (combined (v ∷ weights) x)
plus-combined (v ∷ weights) (w ∷ others) x =
    swap_middle (pos v *ℤ x 0) (combined weights (λ i. x (suc i))) (pos w *ℤ x 0) (combined others (λ i. x (suc i)))
    ∙ ap (λ n. n +ℤ (combined weights (λ i. x (suc i)) +ℤ combined others (λ i. x (suc i)))) (pos-sum v w (x 0))
    ∙ ap (λ n. pos (v + w) *ℤ x 0 +ℤ n) (plus-combined weights others (λ i. x (suc i)))

-- w times the weights of a point of the next level, plus other weights
abbrev beside : ℕ → ℕ → List ℕ → List ℕ
beside w i others = plus_weights (times_weights w (subdivision_weights i)) others

beside-combined : (w i : ℕ) (others : List ℕ) (x : ℕ → ℤ) (n : ℤ) → n ≡ combined others x
    → pos w *ℤ combined (subdivision_weights i) x +ℤ n ≡ combined (beside w i others) x
beside-combined w i others x n h =
    let times = times_weights w (subdivision_weights i) in
    ap (λ k. k +ℤ n) (times-combined w (subdivision_weights i) x) ∙ ap (λ k. combined times x +ℤ k) h ∙ plus-combined times others x

-- weights of four points of the next level, in points of this one
pub combined-refined : (weights : List ℕ) (x : ℕ → ℤ) → weights ≡ listed_weights weights
    → combined weights (λ i. combined (subdivision_weights i) x) ≡ combined (refined_weights weights) x
combined-refined weights x listed =
    let a = get_or weights 0 0 in
    let b = get_or weights 1 0 in
    let c = get_or weights 2 0 in
    let d = get_or weights 3 0 in
    ap (λ w. combined w (λ i. combined (subdivision_weights i) x)) listed
    ∙ beside-combined a 0 (beside b 1 (beside c 2 (beside d 3 []))) x _
    (beside-combined b 1 (beside c 2 (beside d 3 [])) x _ (beside-combined c 2 (beside d 3 []) x _ (beside-combined d 3 [] x (pos 0) refl)))

-- four numbers from the other side
pub combined-reversed : (weights : List ℕ) (x : ℕ → ℤ) → weights ≡ listed_weights weights
    → pos (get_or weights 0 0) *ℤ x 3 +ℤ (pos (get_or weights 1 0) *ℤ x 2 +ℤ (pos (get_or weights 2 0) *ℤ x 1 +ℤ (pos (get_or weights 3 0) *ℤ x 0 +ℤ pos 0)))
    ≡ combined (reverse weights) x
combined-reversed weights x listed =
    other_side (pos (get_or weights 0 0) *ℤ x 3) (pos (get_or weights 1 0) *ℤ x 2) (pos (get_or weights 2 0) *ℤ x 1) (pos (get_or weights 3 0) *ℤ x 0)
    ∙ ap (λ w. combined (reverse w) x) (sym listed)
  where
    other_side : (a b c d : ℤ) → a +ℤ (b +ℤ (c +ℤ (d +ℤ pos 0))) ≡ d +ℤ (c +ℤ (b +ℤ (a +ℤ pos 0)))
    other_side a b c d = omega (arith, ints)

-- numbers over one denominator that are the same over another
pub combined-over : (c d : ℕ) (weights : List ℕ) (x y : ℕ → ℤ) → ((i : ℕ) → i < length weights → IsSameOver c d (x i) (y i))
    → IsSameOver c d (combined weights x) (combined weights y)
combined-over c d [] x y h = *ℤ-zero (pos d) ∙ sym (*ℤ-zero (pos c))
combined-over c d (w ∷ weights) x y h =
    over-plus c d (pos w *ℤ x 0) (pos w *ℤ y 0) (combined weights (λ i. x (suc i))) (combined weights (λ i. y (suc i)))
    (over-scaled c d w (x 0) (y 0) (h 0 (omega arith)))
    (combined-over c d weights (λ i. x (suc i)) (λ i. y (suc i)) (λ i below. h (suc i) (omega arith)))
