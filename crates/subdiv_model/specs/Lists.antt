-- Functions on lists that std lacks: places, first and last items, and lists without repetition.
use Rattle.std.specs.Prelude.{ℕ, ◌+◌, Bool, not, List, [], ◌∷◌, Option, Some, None, if◌then◌else◌}
use Rattle.std.specs.List.{filter}

-- the places of the items that pass the test, ascending, if the list begins at `place`
abbrev pub places_from : {X : Type 0} → ℕ → (X → Bool) → List X → List ℕ
places_from place test [] = []
places_from place test (x ∷ xs) = if test x then place ∷ places_from (place + 1) test xs else places_from (place + 1) test xs

-- the places of the items that pass the test, from 0, ascending
abbrev pub places : {X : Type 0} → (X → Bool) → List X → List ℕ
places test xs = places_from 0 test xs

-- the first item of a list, if it has one
abbrev pub first_of : {X : Type 0} → List X → Option X
first_of [] = None
first_of (x ∷ xs) = Some x

-- the last item of a list, or the default
abbrev pub last_of : {X : Type 0} → X → List X → X
last_of given [] = given
last_of given (x ∷ xs) = last_of x xs

-- each item once, by first appearance; the test decides which items are the same
abbrev pub each_once_by : {X : Type 0} → (X → X → Bool) → List X → List X
each_once_by same [] = []
each_once_by same (x ∷ xs) = x ∷ filter (λ y. not (same x y)) (each_once_by same xs)
