-- Rounded numerators written into an array, one more at the end.
use Rattle.std.proofs.Common.{◌≡◌, ℕ, ◌+◌, ◌^◌, ◌<◌, ◌≤◌, ℤ, List, [], ◌∷◌, ◌++◌, Bool, true, false, length, get_or, map, take, if◌then◌else◌, arith, refl, ap, sym, ◌∙◌, subst}
use mir.Val.{bool_byte}
use Rattle.std.specs.List.{All, AllZip}
use Rattle.std.proofs.lemmas.List.{take_more, take_all, map-append}
use Rattle.std.proofs.lemmas.List.Elements.{All-nil, All-push}
use Rattle.flat_arrays.specs.declared.wide.Wide.{Wide}
use Rattle.flat_arrays.specs.Words.{integer_of}
use Rattle.nearest_float.specs.Binary.{Format, unit_bits, value_of}
use Rattle.row_arrays.specs.declared.number_fault.NumberFault.{NumberFault}
use Rattle.row_arrays.specs.declared.amount.GridNumber.{GridNumber}
use Rattle.row_arrays.specs.Nearest.{is_off}
use Rattle.row_arrays.specs.Grid.{IsRounded, HasRounded, AreRounded, IsRoundedTo, IsUnroundedHere, IsFirstUnrounded, changes}
use Rattle.row_arrays.proofs.NumeratorLemmas.{zip-push}

-- 1 for a number that changes
abbrev pub change : Format → ℕ → ℕ → ℤ → ℕ
change f g b n = if (is_off (value_of f b) (2 ^ unit_bits f) (2 ^ g) n) then 1 else 0

changes-push : (f : Format) (g : ℕ) (bs : List ℕ) (ns : List ℤ) (b : ℕ) (n : ℤ) → AllZip (IsRounded f g) bs ns →
    changes f g (bs ++ b ∷ []) (ns ++ n ∷ []) ≡ changes f g bs ns + change f g b n
changes-push f g [] [] b n all = omega arith
changes-push f g [] (m ∷ ns) b n all = absurd all
changes-push f g (c ∷ bs) [] b n all = absurd all
changes-push f g (c ∷ bs) (m ∷ ns) b n all = let less = changes-push f g bs ns b n all.1 in omega (arith, less)

-- the numerators that are written so far, and how many numbers change
pub record AreGrid (f : Format) (grid_bits : ℕ) (bits : List ℕ) (changed : ℕ) (words : List Wide) : Type 0 where
  pub rounded : AreRounded f grid_bits bits changed (map integer_of words)
  pub all : All (HasRounded f grid_bits) bits

pub grid-none : (f : Format) (g : ℕ) → AreGrid f g [] 0 []
grid-none f g = record { rounded = record { rounded = tt; count = refl }; all = All-nil (HasRounded f g) }

rounded-is : (f : Format) (g b : ℕ) (x : GridNumber) (z : ℤ) → x.numerator ≡ z → IsRoundedTo f g b x → IsRounded f g b z
rounded-is f g b x z e is =
    subst (IsRounded f g b) e (record { finite = is.finite; nearest = is.number.nearest; fits = is.number.fits })

one-more : (a b : Bool) (n m : ℕ) → a ≡ b → m ≡ n + (if a then 1 else 0) → m ≡ n + (if b then 1 else 0)
one-more a b n m e is = is ∙ ap (λ t. n + (if t then 1 else 0)) e

grid-push : (f : Format) (g : ℕ) (bs : List ℕ) (b k m : ℕ) (ws : List Wide) (w : Wide) (x : GridNumber) → AreGrid f g bs k ws → x.numerator ≡ integer_of w →
    IsRoundedTo f g b x → m ≡ k + (if x.changed then 1 else 0) → AreGrid f g (bs ++ b ∷ []) m (ws ++ w ∷ [])
grid-push f g bs b k m ws w x so-far e is count = record {
  rounded = record {
    rounded = zip-push (IsRounded f g) bs b ws w so-far.rounded.rounded one;
    count = one-more x.changed (is_off (value_of f b) (2 ^ unit_bits f) (2 ^ g) (integer_of w)) k m
        (is.number.changed ∙ ap (λ z. is_off (value_of f b) (2 ^ unit_bits f) (2 ^ g) z) e) count
        ∙ ap (λ j. j + change f g b (integer_of w)) so-far.rounded.count
        ∙ sym (changes-push f g bs (map integer_of ws) b (integer_of w) so-far.rounded.rounded)
        ∙ ap (changes f g (bs ++ b ∷ [])) (sym (map-append integer_of ws (w ∷ [])));
  };
  all = All-push (HasRounded f g) bs b so-far.all (record { numerator = integer_of w; rounded = one });
}
  where
    one : IsRounded f g b (integer_of w)
    one = rounded-is f g b x (integer_of w) e is

pub grid-more : (f : Format) (g : ℕ) (bs : List ℕ) (i k m : ℕ) (before after : List Wide) (w : Wide) (x : GridNumber) → i < length bs →
    take (i + 1) after ≡ take i before ++ w ∷ [] → integer_of w ≡ x.numerator → IsRoundedTo f g (get_or bs i 0) x → m ≡ k + (if x.changed then 1 else 0) →
    AreGrid f g (take i bs) k (take i before) → AreGrid f g (take (i + 1) bs) m (take (i + 1) after)
grid-more f g bs i k m before after w x inside written e is count so-far =
    subst (AreGrid f g (take (i + 1) bs) m) (sym written)
    (subst (λ cs. AreGrid f g cs m (take i before ++ w ∷ [])) (sym (take_more bs i 0 inside))
    (grid-push f g (take i bs) (get_or bs i 0) k m (take i before) w x so-far (sym e) is count))

pub grid-all : (f : Format) (g : ℕ) (bs : List ℕ) (i k : ℕ) (ws : List Wide) → length bs ≤ i → length ws ≤ i → AreGrid f g (take i bs) k (take i ws) →
    AreRounded f g bs k (map integer_of ws)
grid-all f g bs i k ws all none so-far =
    subst (λ cs. AreRounded f g cs k (map integer_of ws)) (take_all i bs all)
    (subst (λ vs. AreRounded f g (take i bs) k (map integer_of vs)) (take_all i ws none) so-far.rounded)

pub unrounded-first : (f : Format) (g : ℕ) (bs : List ℕ) (i k : ℕ) (ws : List Wide) (x : NumberFault) → i < length bs → AreGrid f g (take i bs) k ws →
    IsUnroundedHere f g (get_or bs i 0) i x → IsFirstUnrounded f g bs x.place x.fault
unrounded-first f g bs i k ws x inside so-far here =
    subst (λ j. IsFirstUnrounded f g bs j x.fault) (sym here.there) (record { inside = inside; refused = here.refused; before = so-far.all })

pub at-most-one : (b : Bool) → (if b then 1 else 0) ≤ 1
at-most-one true = omega arith
at-most-one false = omega arith

pub byte-is : (b : Bool) → bool_byte b ≡ (if b then 1 else 0)
byte-is true = refl
byte-is false = refl
