-- The least common denominator, with one number more.
use Rattle.std.proofs.Common.{ℕ, ◌+◌, ◌<◌, ◌≤◌, List, [], ◌∷◌, ◌++◌, length, get_or, take, max, arith, sym, subst}
use Rattle.std.specs.List.{All}
use Rattle.std.specs.Int.{◌∣◌}
use Rattle.std.proofs.lemmas.List.{take_more, take_all}
use Rattle.std.proofs.lemmas.List.Elements.{All-nil, All-cons, All-head, All-tail, All-push, All-weaker}
use Rattle.std.proofs.lemmas.Nat.Gcd.{le_of_dvd}
use Rattle.nearest_float.specs.Binary.{Format}
use Rattle.row_arrays.specs.declared.number_fault.NumberFault.{NumberFault}
use Rattle.row_arrays.specs.Scale.{IsPowerOfTwo, HasFraction, HasNumerator, IsLeastScale, IsScaleWith}
use Rattle.row_arrays.specs.ScaleFaults.{IsFirstRefused, IsRefusedHere}
use Rattle.row_arrays.proofs.PowerLemmas.{max-power, max-divides}
use Rattle.row_arrays.proofs.OverLemmas.{has-multiple, exact-over, den-divides, den-power}

all-split : {X : Type 0} (P : X → Type 0) (xs : List X) (x : X) → All P (xs ++ x ∷ []) → All P xs × P x
all-split P [] x all = (All-nil P, All-head P x [] all)
all-split P (y ∷ xs) x all =
    let rest = all-split P xs x (All-tail P y (xs ++ x ∷ []) all) in (All-cons P y xs (All-head P y (xs ++ x ∷ []) all) rest.0, rest.1)

pub least-none : (f : Format) → IsLeastScale f [] 1
least-none f = record {
  exact = All-nil (HasFraction f);
  positive = omega arith;
  power = record { exponent = 0; is = omega arith };
  fits = omega arith;
  common = All-nil (HasNumerator f 1);
  least = λ other some all. some;
}

least-push : (f : Format) (bs : List ℕ) (b s t : ℕ) → IsLeastScale f bs s → IsScaleWith f b s t → IsLeastScale f (bs ++ b ∷ []) t
least-push f bs b s t so-far with =
    subst (λ m. IsLeastScale f (bs ++ b ∷ []) m) (sym with.greater) (record {
      exact = All-push (HasFraction f) bs b so-far.exact (record { num = with.num; den = with.den; exact = with.exact });
      positive = let some = so-far.positive in omega (arith, some);
      power = max-power s with.den so-far.power den-is;
      fits = let fits = so-far.fits in let den-fits = with.exact.terms.den_fits in omega (arith, fits, den-fits);
      common = All-push (HasNumerator f (max s with.den)) bs b
          (All-weaker (HasNumerator f s) (HasNumerator f (max s with.den)) (λ c. has-multiple f s (max s with.den) c divides.0) bs so-far.common)
          (has-multiple f with.den (max s with.den) b divides.1 (record { numerator = with.num; over = exact-over f b with.den with.num with.exact }));
      least = λ other some all.
          let parts = all-split (HasNumerator f other) bs b all in
          let first : s ≤ other = so-far.least other some parts.0 in
          let second : with.den ≤ other = le_of_dvd some (den-divides f b with.den other with.num with.exact some parts.1) in
          omega (arith, first, second);
    })
  where
    den-is : IsPowerOfTwo with.den
    den-is = den-power f b with.den with.num with.exact

    divides : (s ∣ max s with.den) × (with.den ∣ max s with.den)
    divides = max-divides s with.den so-far.power den-is

pub least-more : (f : Format) (bs : List ℕ) (i s t : ℕ) → i < length bs → IsLeastScale f (take i bs) s → IsScaleWith f (get_or bs i 0) s t → IsLeastScale f (take (i + 1) bs) t
least-more f bs i s t inside so-far with =
    subst (λ cs. IsLeastScale f cs t) (sym (take_more bs i 0 inside)) (least-push f (take i bs) (get_or bs i 0) s t so-far with)

pub refused-first : (f : Format) (bs : List ℕ) (i s : ℕ) (x : NumberFault) → i < length bs → IsLeastScale f (take i bs) s → IsRefusedHere f (get_or bs i 0) i x →
    IsFirstRefused f bs x.place x.fault
refused-first f bs i s x inside so-far here =
    subst (λ k. IsFirstRefused f bs k x.fault) (sym here.there) (record { inside = inside; refused = here.refused; before = so-far.exact })

pub least-all : (f : Format) (bs : List ℕ) (i s : ℕ) → length bs ≤ i → IsLeastScale f (take i bs) s → IsLeastScale f bs s
least-all f bs i s all is = subst (λ cs. IsLeastScale f cs s) (take_all i bs all) is
