-- The name of a tag, by its kind.
use Rattle.std.proofs.Common.{◌≡◌, ℕ, Bool, true, false, List, Option, Some, None, refl, ap, subst, codes}
use Rattle.std.specs.Bool.{if◌then◌else◌}
use Rattle.std.specs.Str.{bytes_eq}
use Rattle.std.proofs.lemmas.Slice.Eq.{bytes_eq-Decides}
use Rattle.subdiv_model.specs.ObjTag.{TagKind, CreaseTag, CornerTag, HoleTag, BoundaryTag, MethodTag, DroppedTag, kind_of_name, is_dropped_name}

-- The results of the tests of a name that is of this kind.
abbrev Tested : TagKind → (a b c d e : Bool) → Type 0
Tested CreaseTag a b c d e = a ≡ true
Tested CornerTag a b c d e = b ≡ true
Tested HoleTag a b c d e = c ≡ true
Tested BoundaryTag a b c d e = d ≡ true
Tested MethodTag a b c d e = e ≡ true
Tested DroppedTag a b c d e = (a ≡ false) × (b ≡ false) × (c ≡ false) × (d ≡ false) × (e ≡ false)

abbrev found : Option TagKind → TagKind
found (Some kind) = kind
found None = DroppedTag

tests-find : (a b c d e f : Bool) (kind : TagKind)
    → (if a then Some CreaseTag else if b then Some CornerTag else if c then Some HoleTag else if d then Some BoundaryTag else if e then Some MethodTag else if f then Some DroppedTag else None) ≡ Some kind
    → Tested kind a b c d e
tests-find true b c d e f kind h = subst (λ k. Tested k true b c d e) (ap found h) refl
tests-find false true c d e f kind h = subst (λ k. Tested k false true c d e) (ap found h) refl
tests-find false false true d e f kind h = subst (λ k. Tested k false false true d e) (ap found h) refl
tests-find false false false true e f kind h = subst (λ k. Tested k false false false true e) (ap found h) refl
tests-find false false false false true f kind h = subst (λ k. Tested k false false false false true) (ap found h) refl
tests-find false false false false false true kind h = subst (λ k. Tested k false false false false false) (ap found h) (refl, refl, refl, refl, refl)
tests-find false false false false false false kind h = cc

-- A name of a kind is the name of that kind, and a name of a dropped tag is none of the other names.
abbrev pub IsNamed : TagKind → List ℕ → Type 0
IsNamed CreaseTag name = name ≡ codes "crease"
IsNamed CornerTag name = name ≡ codes "corner"
IsNamed HoleTag name = name ≡ codes "hole"
IsNamed BoundaryTag name = name ≡ codes "interpolateboundary"
IsNamed MethodTag name = name ≡ codes "creasemethod"
IsNamed DroppedTag name =
    (bytes_eq name (codes "crease") ≡ false) × (bytes_eq name (codes "corner") ≡ false) × (bytes_eq name (codes "hole") ≡ false) × (bytes_eq name (codes "interpolateboundary") ≡ false) × (bytes_eq name (codes "creasemethod") ≡ false)

pub tag-named : (name : List ℕ) (kind : TagKind) → kind_of_name name ≡ Some kind → IsNamed kind name
tag-named name kind h =
    named kind (tests-find (bytes_eq name (codes "crease")) (bytes_eq name (codes "corner")) (bytes_eq name (codes "hole")) (bytes_eq name (codes "interpolateboundary")) (bytes_eq name (codes "creasemethod")) (is_dropped_name name) kind h)
  where
    named : (kind : TagKind)
        → Tested kind (bytes_eq name (codes "crease")) (bytes_eq name (codes "corner")) (bytes_eq name (codes "hole")) (bytes_eq name (codes "interpolateboundary")) (bytes_eq name (codes "creasemethod"))
        → IsNamed kind name
    named CreaseTag h = (bytes_eq-Decides name (codes "crease")).0 h
    named CornerTag h = (bytes_eq-Decides name (codes "corner")).0 h
    named HoleTag h = (bytes_eq-Decides name (codes "hole")).0 h
    named BoundaryTag h = (bytes_eq-Decides name (codes "interpolateboundary")).0 h
    named MethodTag h = (bytes_eq-Decides name (codes "creasemethod")).0 h
    named DroppedTag h = h
