-- Numbers by first appearance, under names that keep them apart.
use Rattle.std.proofs.Common.{◌≡◌, ℕ, Bool, true, nat_eq, List, [], ◌∷◌, map, refl}
use Rattle.std.specs.List.{list_all, position_or_len}
use Rattle.std.proofs.lemmas.Bool.{and_parts}
use Rattle.subdiv_model.specs.Lists.{each_once_by}
use Rattle.part_laws.proofs.ListLemmas.{once-mapped}
use Rattle.part_laws.proofs.RenamedLemmas.{number-renamed}

module _ (name : ℕ → ℕ) (own : ℕ → Bool) (apart : (p q : ℕ) → own p ≡ true → own q ≡ true → name p ≡ name q → p ≡ q) where
  -- different names are listed once exactly as their numbers are
  pub each-once-map : (ns : List ℕ) → list_all own ns ≡ true → each_once_by nat_eq (map name ns) ≡ map name (each_once_by nat_eq ns)
  each-once-map ns all = once-mapped own name nat_eq nat_eq (λ p q h k. number-renamed name own apart p q h k) ns all

  -- a name has the place of its number
  pub position-map : (n : ℕ) → own n ≡ true → (ns : List ℕ) → list_all own ns ≡ true → position_or_len (nat_eq (name n)) (map name ns) ≡ position_or_len (nat_eq n) ns
  position-map n h [] all = refl
  position-map n h (m ∷ ns) all =
      let parts = and_parts (own m) (list_all own ns) all in
      let here = number-renamed name own apart n m h parts.0 in
      let rest = position-map n h ns parts.1 in
      rw (here, rest) refl
