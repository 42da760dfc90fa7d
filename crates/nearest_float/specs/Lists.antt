-- The exact fractions of a list of numbers of a format.
use Rattle.std.specs.Prelude.{ℕ, ◌<◌, ◌≡◌, List, [], ◌∷◌, ◌++◌, length, get_or, take}
use Rattle.ratio128.specs.declared.divisor.Frac.{Frac}
use Rattle.nearest_float.specs.declared.fault.FloatFault.{FloatFault}
use Rattle.nearest_float.specs.declared.fault.ListFault.{ListFault}
use Rattle.nearest_float.specs.declared.fault.ListFault.TheVariants.{At, Memory}
use Rattle.nearest_float.specs.Binary.{Format}
use Rattle.nearest_float.specs.Exact.{IsExact}
use Rattle.nearest_float.specs.Faults.{IsRefused}

-- Each fraction is the exact one of the number at its place.
abbrev pub AreExact : Format → List ℕ → List Frac → Type 0
AreExact f [] [] = Unit {0}
AreExact f [] (x ∷ xs) = ⊥
AreExact f (bits ∷ others) [] = ⊥
AreExact f (bits ∷ others) (x ∷ xs) = IsExact f bits x.num x.den × AreExact f others xs

-- The number at the place is refused, and every number before it has a fraction.
pub record IsRefusedAt (f : Format) (all : List ℕ) (place : ℕ) (fault : FloatFault) : Type 0 where
  pub inside : place < length all
  pub refused : IsRefused f (get_or all place 0) fault
  pub first : (fractions : List Frac) × AreExact f (take place all) fractions

-- The fault of the first number that is refused, or memory ran out.
abbrev pub IsListRefused : Format → List ℕ → ListFault → Type 0
IsListRefused f all (At place fault) = IsRefusedAt f all place fault
IsListRefused f all Memory = Unit {0}

-- The fraction of the bits is appended.
pub record IsPushed (f : Format) (before : List Frac) (bits : ℕ) (after : List Frac) : Type 0 where
  pub fraction : Frac
  pub exact : IsExact f bits fraction.num fraction.den
  pub items : after ≡ before ++ fraction ∷ []
