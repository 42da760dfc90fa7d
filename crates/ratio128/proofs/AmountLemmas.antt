-- Bounds of sums of products.
use Rattle.std.proofs.Common.{◌≡◌, ℕ, suc, ◌+◌, ◌*◌, ◌^◌, ◌<◌, ◌≤◌, ℤ, pos, negsuc, ◌+ℤ◌, ◌*ℤ◌, unsigned_abs, List, [], ◌∷◌, length, arith, refl}
use Rattle.std.proofs.lemmas.Int.{unsigned_abs-mul}
use Rattle.std.proofs.Math.Nat.{mul-le-mul_left}
use Rattle.std.proofs.lemmas.Bool.Decides.{nat_tests}
use Rattle.std.proofs.Math.IntN.{sub_ℕ}
use Rattle.ratio128.specs.Numbers.{plus_times, CanAdd, CanAddNarrow, zeros, greatest_amount}

-- no amount passes the bound
abbrev pub IsWithin : ℕ → List ℤ → Type 0
IsWithin m [] = Unit {0}
IsWithin m (x ∷ xs) = (unsigned_abs x ≤ m) × IsWithin m xs

-- a greater bound
pub IsWithin-more : (m n : ℕ) (xs : List ℤ) → m ≤ n → IsWithin m xs → IsWithin n xs
IsWithin-more m n [] h w = tt
IsWithin-more m n (x ∷ xs) h w = (omega (arith, w.0), IsWithin-more m n xs h w.1)

-- zeros pass none
pub IsWithin-zeros : (m : ℕ) (xs : List ℤ) → IsWithin m (zeros xs)
IsWithin-zeros m [] = tt
IsWithin-zeros m (x ∷ xs) = (omega arith, IsWithin-zeros m xs)

-- the bound is one of the greatest amount
pub IsWithin-greatest : (m : ℕ) (xs : List ℤ) → greatest_amount xs ≤ m → IsWithin m xs
IsWithin-greatest m [] h = tt
IsWithin-greatest m (x ∷ xs) h = (omega arith, IsWithin-greatest m xs (omega arith))

-- the greatest amount is within each bound of all amounts
pub greatest-within : (m : ℕ) (xs : List ℤ) → IsWithin m xs → greatest_amount xs ≤ m
greatest-within m [] h = omega arith
greatest-within m (x ∷ xs) h = let rest = greatest-within m xs h.1 in let first = h.0 in omega arith

-- a difference is at most the sum
unsigned_abs-sub_ℕ : (a b : ℕ) → unsigned_abs (sub_ℕ a b) ≤ a + b
unsigned_abs-sub_ℕ a b = grind (arith, nat_tests)

-- an amount of a sum is at most the sum of the amounts
unsigned_abs-add : (x y : ℤ) → unsigned_abs (x +ℤ y) ≤ unsigned_abs x + unsigned_abs y
unsigned_abs-add (pos a) (pos b) = omega arith
unsigned_abs-add (pos a) (negsuc b) = unsigned_abs-sub_ℕ a (suc b)
unsigned_abs-add (negsuc a) (pos b) = omega (arith, unsigned_abs-sub_ℕ b (suc a))
unsigned_abs-add (negsuc a) (negsuc b) = omega arith

-- an amount by a weight
unsigned_abs-times : (w : ℕ) (y : ℤ) (m : ℕ) → unsigned_abs y ≤ m → unsigned_abs (pos w *ℤ y) ≤ w * m
unsigned_abs-times w y m h = rw unsigned_abs-mul (mul-le-mul_left w h)

-- a sum has as many numbers as before
pub length-plus_times : (w : ℤ) (xs ys : List ℤ) → length (plus_times w xs ys) ≡ length xs
length-plus_times w [] ys = refl
length-plus_times w (x ∷ xs) [] = refl
length-plus_times w (x ∷ xs) (y ∷ ys) = grind (arith, length-plus_times w xs ys)

-- a list has as many zeros as numbers
pub length-zeros : (xs : List ℤ) → length (zeros xs) ≡ length xs
length-zeros [] = refl
length-zeros (x ∷ xs) = grind (arith, length-zeros xs)

-- where amounts are within s and m, those after one more product are within s + w * m
pub IsWithin-plus_times : (s w m : ℕ) (xs ys : List ℤ) → IsWithin s xs → IsWithin m ys → IsWithin (s + w * m) (plus_times (pos w) xs ys)
IsWithin-plus_times s w m [] ys hx hy = tt
IsWithin-plus_times s w m (x ∷ xs) [] hx hy = (omega (arith, hx.0), IsWithin-more s (s + w * m) xs (omega arith) hx.1)
IsWithin-plus_times s w m (x ∷ xs) (y ∷ ys) hx hy = (
  omega (arith, unsigned_abs-add x (pos w *ℤ y), unsigned_abs-times w y m hy.0, hx.0),
  IsWithin-plus_times s w m xs ys hx.1 hy.1,
)

-- weighted numbers can be added if the sum of their bounds is small
pub CanAdd-within : (s w m : ℕ) (xs ys : List ℤ) → IsWithin s xs → IsWithin m ys → s + w * m < 2 ^ 127 → CanAdd (pos w) xs ys
CanAdd-within s w m [] ys hx hy h = tt
CanAdd-within s w m (x ∷ xs) [] hx hy h = tt
CanAdd-within s w m (x ∷ xs) (y ∷ ys) hx hy h = (
  record { kept = omega (arith, unsigned_abs-times w y m hy.0) },
  record { kept = omega (arith, unsigned_abs-add x (pos w *ℤ y), unsigned_abs-times w y m hy.0, hx.0) },
  CanAdd-within s w m xs ys hx.1 hy.1 h,
)

-- what fits 64 bits fits 128
pub can-add : (w : ℕ) (xs ys : List ℤ) → CanAddNarrow w xs ys → CanAdd (pos w) xs ys
can-add w [] ys fits = tt
can-add w (x ∷ xs) [] fits = tt
can-add w (x ∷ xs) (y ∷ ys) fits =
    let product = unsigned_abs-mul (pos w) y in
    let sum = unsigned_abs-add x (pos w *ℤ y) in
    let first = fits.0 in (
      record { kept = omega (arith, first, product) },
      record { kept = omega (arith, first, product, sum) },
      can-add w xs ys fits.1,
    )
