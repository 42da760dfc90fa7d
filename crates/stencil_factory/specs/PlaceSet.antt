-- A set of places that lists each of its members once.
use Rattle.std.specs.Prelude.{ℕ, ◌≡◌, ◌<◌, ◌≤◌, nat_eq, List, [], ◌∷◌, ◌++◌, get_or, if◌then◌else◌}
use Rattle.std.specs.List.{AllByRecursion}
use Rattle.subdiv_model.specs.Polygons.{is_among}

-- The set: its members are below `count` and have the mark `mark`, and `members` lists them in the order they came.
pub record Places : Type 0 where
  pub count : ℕ
  pub mark : ℕ
  pub members : List ℕ

-- The list with a further place, unless the place's mark `own` is the current mark.
abbrev pub noted_with : ℕ → ℕ → ℕ → List ℕ → List ℕ
noted_with place own mark members = if nat_eq own mark then members else members ++ place ∷ []

-- The set with a further member.
abbrev pub with_place : ℕ → Places → Places
with_place place places = record {
  count = places.count;
  mark = places.mark;
  members = if is_among places.members place then places.members else places.members ++ place ∷ [];
}

-- The set with further members.
abbrev pub with_places : List ℕ → Places → Places
with_places [] places = places
with_places (place ∷ more) places = with_places more (with_place place places)

-- The members are the places with the current mark. That mark is above 0, and no place has a greater one.
pub record AreMarked (mark : ℕ) (members marks : List ℕ) : Type 0 where
  pub some : 0 < mark
  pub below : AllByRecursion (λ own. own ≤ mark) marks
  pub named : (v : ℕ) → is_among members v ≡ nat_eq mark (get_or marks v 0)
