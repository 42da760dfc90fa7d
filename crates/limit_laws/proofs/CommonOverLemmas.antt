-- Values as whole numbers over one common multiple of their denominators.
use Rattle.std.proofs.Common.{◌≡◌, ℕ, ◌*◌, ◌/◌, ◌<◌, ℤ, pos, ◌+ℤ◌, ◌*ℤ◌, List, [], ◌∷◌, ◌++◌, map, refl, ap, sym, ◌∙◌}
use Rattle.std.specs.List.{AllByRecursion, flat_map}
use Rattle.std.specs.Int.{◌∣◌}
use Rattle.std.proofs.Math.IntN.{*ℤ-zero}
use Rattle.subdiv_model.specs.Multiples.{lcm_of_all}
use Rattle.subdiv_model.specs.Mask.{SourcePoint, OfPoint, OfFace, Term, mask_of, weigh_points, weigh_faces}
use Rattle.subdiv_model.specs.Value.{Value}
use Rattle.subdiv_model.specs.Refined.{mask_value}
use Rattle.number_laws.proofs.WholeNumberLemmas.{pos-distrib, pos-assoc, pos-swap, pos-cancel}
use Rattle.number_laws.proofs.MultipleLemmas.{all-divide_lcm, lcm_of_all-positive}
use Rattle.mask_laws.proofs.SumLemmas.{sum_ℤ, weighted_sum, IsOver, over-multiple, terms-over}
use Rattle.mask_laws.proofs.JoinedLemmas.{joined-all, joined-sum}
use Rattle.limit_laws.proofs.SumExchangeLemmas.{sum-append}

-- Properties of each item of a list made from others.

all-first : {X : Type 0} (P : X → Type 0) (xs ys : List X) → AllByRecursion P (xs ++ ys) → AllByRecursion P xs
all-first P [] ys h = tt
all-first P (x ∷ xs) ys h = (h.0, all-first P xs ys h.1)

all-second : {X : Type 0} (P : X → Type 0) (xs ys : List X) → AllByRecursion P (xs ++ ys) → AllByRecursion P ys
all-second P [] ys h = h
all-second P (x ∷ xs) ys h = all-second P xs ys h.1

pub all-split : {X : Type 0} (P : X → Type 0) (xs ys : List X) → AllByRecursion P (xs ++ ys) → AllByRecursion P xs × AllByRecursion P ys
all-split P xs ys h = (all-first P xs ys h, all-second P xs ys h)

pub all-joined : {X : Type 0} (P : X → Type 0) (xs ys : List X) → AllByRecursion P xs → AllByRecursion P ys → AllByRecursion P (xs ++ ys)
all-joined P [] ys h k = k
all-joined P (x ∷ xs) ys h k = (h.0, all-joined P xs ys h.1 k)

pub all-of_map : {X Y : Type 0} (P : Y → Type 0) (f : X → Y) (xs : List X) → AllByRecursion P (map f xs) → AllByRecursion (λ x. P (f x)) xs
all-of_map P f [] h = tt
all-of_map P f (x ∷ xs) h = (h.0, all-of_map P f xs h.1)

pub all-of_parts : {X Y : Type 0} (P : Y → Type 0) (parts : X → List Y) (xs : List X) → AllByRecursion P (flat_map parts xs)
    → AllByRecursion (λ x. AllByRecursion P (parts x)) xs
all-of_parts P parts [] h = tt
all-of_parts P parts (x ∷ xs) h =
    (all-first P (parts x) (flat_map parts xs) h, all-of_parts P parts xs (all-second P (parts x) (flat_map parts xs) h))

-- Over multiples.

-- whole over a denominator is whole over each multiple of it
pub over-times : (k c : ℕ) (x : Value) (n : ℤ) → IsOver c x n → IsOver (k * c) x (pos k *ℤ n)
over-times k c x n h = sym (pos-assoc k c x.num) ∙ ap (λ z. pos k *ℤ z) h ∙ pos-swap k x.den n

-- the whole numbers of one value over two denominators
pub over-both : (c d : ℕ) (x : Value) (a b : ℤ) → 0 < x.den → IsOver c x a → IsOver d x b → pos d *ℤ a ≡ pos c *ℤ b
over-both c d x a b positive h k =
    pos-cancel x.den (pos d *ℤ a) (pos c *ℤ b) positive
    (pos-swap x.den d a ∙ ap (λ z. pos d *ℤ z) (sym h) ∙ pos-swap d c x.num ∙ ap (λ z. pos c *ℤ z) k ∙ pos-swap c x.den b)

-- the whole number of a source over a multiple of its denominator
abbrev pub whole : (SourcePoint → Value) → ℕ → SourcePoint → ℤ
whole value m s = pos (m / (value s).den) *ℤ (value s).num

-- a denominator above 0 over which these sources are whole
pub record HaveCommon (value : SourcePoint → Value) (sources : List SourcePoint) : Type 0 where
  pub m : ℕ
  pub some : 0 < m
  pub each : AllByRecursion (λ s. IsOver m (value s) (whole value m s)) sources

pub common : (value : SourcePoint → Value) → ((s : SourcePoint) → 0 < (value s).den) → (sources : List SourcePoint) → HaveCommon value sources
common value positive sources = record {
  m = lcm_of_all (map den sources);
  some = lcm_of_all-positive (map den sources) (all-positive sources);
  each = all-whole (lcm_of_all (map den sources)) sources (all-divide_lcm (map den sources));
}
  where
    den : SourcePoint → ℕ
    den s = (value s).den

    all-positive : (some : List SourcePoint) → AllByRecursion (λ a. 0 < a) (map den some)
    all-positive [] = tt
    all-positive (s ∷ some) = (positive s, all-positive some)

    all-whole : (m : ℕ) (some : List SourcePoint) → AllByRecursion (λ a. a ∣ m) (map den some)
        → AllByRecursion (λ s. IsOver m (value s) (whole value m s)) some
    all-whole m [] h = tt
    all-whole m (s ∷ some) h = (over-multiple (value s).den m (value s) (value s).num h.0 refl, all-whole m some h.1)

-- the value of a mask over a multiple, where each source of its terms is whole over m
pub mask-over : (q m : ℕ) (value : SourcePoint → Value) (f : SourcePoint → ℤ) (terms : List Term)
    → AllByRecursion (λ t. IsOver m (value t.source) (f t.source)) terms
    → IsOver (q * m) (mask_value value (mask_of terms q)) (weighted_sum f terms)
mask-over q m value f terms each =
    terms-over q m value f (mask_of terms q).terms (joined-all (λ s. IsOver m (value s) (f s)) terms q each)
    ∙ ap (λ z. pos (mask_value value (mask_of terms q)).den *ℤ z) (joined-sum f terms q)

-- Terms of one weight.

module _ (P : SourcePoint → Type 0) (w : ℕ) where
  pub all-points : (points : List ℕ) → AllByRecursion (λ p. P (OfPoint p)) points → AllByRecursion (λ t. P t.source) (weigh_points w points)
  all-points [] h = tt
  all-points (p ∷ points) h = (h.0, all-points points h.1)

  pub all-faces : (faces : List ℕ) → AllByRecursion (λ f. P (OfFace f)) faces → AllByRecursion (λ t. P t.source) (weigh_faces w faces)
  all-faces [] h = tt
  all-faces (f ∷ faces) h = (h.0, all-faces faces h.1)

module _ (f : SourcePoint → ℤ) (w : ℕ) where
  pub points-sum : (points : List ℕ) → weighted_sum f (weigh_points w points) ≡ pos w *ℤ sum_ℤ (λ p. f (OfPoint p)) points
  points-sum [] = sym (*ℤ-zero (pos w))
  points-sum (p ∷ points) =
      ap (λ z. pos w *ℤ f (OfPoint p) +ℤ z) (points-sum points) ∙ sym (pos-distrib w (f (OfPoint p)) (sum_ℤ (λ v. f (OfPoint v)) points))

  pub faces-sum : (faces : List ℕ) → weighted_sum f (weigh_faces w faces) ≡ pos w *ℤ sum_ℤ (λ x. f (OfFace x)) faces
  faces-sum [] = sym (*ℤ-zero (pos w))
  faces-sum (x ∷ faces) =
      ap (λ z. pos w *ℤ f (OfFace x) +ℤ z) (faces-sum faces) ∙ sym (pos-distrib w (f (OfFace x)) (sum_ℤ (λ y. f (OfFace y)) faces))

pub weighted-append : (f : SourcePoint → ℤ) (first second : List Term)
    → weighted_sum f (first ++ second) ≡ weighted_sum f first +ℤ weighted_sum f second
weighted-append f first second = sum-append (λ t. pos t.weight *ℤ f t.source) first second
