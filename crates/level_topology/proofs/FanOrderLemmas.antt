-- Lists with the same distinct numbers, and paths of faces about a point, joined and turned.
use Rattle.std.proofs.Common.{subst, ◌≡◌, ℕ, zero, suc, ◌+◌, ◌<◌, Bool, true, false, not, nat_eq, List, [], ◌∷◌, ◌++◌, length, get_or, arith, refl, ap, sym, ◌∙◌, append-nil}
use Rattle.std.specs.List.Sorted.{IsPermutation}
use Rattle.std.proofs.lemmas.Bool.Decides.{nat_tests}
use Rattle.std.proofs.lemmas.Bool.{and_parts, eqb-true, eq-eqb, not-true}
use Rattle.std.proofs.lemmas.List.Folds.{list_any-append}
use Rattle.std.proofs.lemmas.List.Sorted.{IsPermutation-refl, IsPermutation-trans, IsPermutation-cons, IsPermutation-insert, IsPermutation-sym}
use Rattle.subdiv_model.specs.Polygons.{Polygon, is_among, is_distinct}
use Rattle.subdiv_model.specs.Lists.{last_of}
use Rattle.subdiv_model.specs.Manifold.{IsSuccessor, IsPath}
use Rattle.level_topology.proofs.PlaceLemmas.{distinct-permutation}

-- A number among others has a place.
pub among-split : (n : ℕ) (xs : List ℕ) → is_among xs n ≡ true → (front : List ℕ) × (back : List ℕ) × (xs ≡ front ++ n ∷ back)
among-split n [] h = absurd (cc)
among-split n (x ∷ xs) h = go (nat_eq n x) refl (λ there. among-split n xs there)
  where
    go : (b : Bool) → nat_eq n x ≡ b → (is_among xs n ≡ true → (front : List ℕ) × (back : List ℕ) × (xs ≡ front ++ n ∷ back)) → (front : List ℕ) × (back : List ℕ) × (x ∷ xs ≡ front ++ n ∷ back)
    go true e behind = ([], xs, ap (λ k. k ∷ xs) (sym (eqb-true n x e)))
    go false e behind =
        let there : is_among xs n ≡ true = grind (arith, nat_tests) in
        let found = behind there in
        (x ∷ found.0, found.1, ap (λ ys. x ∷ ys) found.2)

pub among-at : (n : ℕ) (xs : List ℕ) → is_among xs n ≡ true → (i : ℕ) × (i < length xs) × (get_or xs i 0 ≡ n)
among-at n [] h = absurd (cc)
among-at n (x ∷ xs) h = go (nat_eq n x) refl (λ there. among-at n xs there)
  where
    go : (b : Bool) → nat_eq n x ≡ b → (is_among xs n ≡ true → (i : ℕ) × (i < length xs) × (get_or xs i 0 ≡ n)) → (i : ℕ) × (i < length (x ∷ xs)) × (get_or (x ∷ xs) i 0 ≡ n)
    go true e behind = (0, omega arith, sym (eqb-true n x e))
    go false e behind =
        let there : is_among xs n ≡ true = grind (arith, nat_tests) in
        let found = behind there in
        (suc found.0, omega (arith, found.1), found.2)

to-place : (x : ℕ) (front back : List ℕ) → IsPermutation (x ∷ (front ++ back)) (front ++ x ∷ back)
to-place x [] back = IsPermutation-refl (x ∷ back)
to-place x (y ∷ front) back =
    IsPermutation-trans _ _ _ (IsPermutation-insert (y ∷ (front ++ back)) 1 x) (IsPermutation-cons y _ _ (to-place x front back))

-- Lists with the same distinct numbers are permutations of each other.
pub same-permutation : (xs ys : List ℕ) → is_distinct xs ≡ true → is_distinct ys ≡ true → ((n : ℕ) → is_among xs n ≡ is_among ys n) → IsPermutation xs ys
same-permutation [] ys dx dy same = nothing ys same
  where
    nothing : (ys : List ℕ) → ((n : ℕ) → false ≡ is_among ys n) → IsPermutation [] ys
    nothing [] h = IsPermutation-refl []
    nothing (y ∷ ys) h = let here = h y in let self = eq-eqb y y refl in absurd (cc)
same-permutation (x ∷ xs) ys dx dy same =
    let self : nat_eq x x ≡ true = eq-eqb x x refl in
    let there : is_among ys x ≡ true = sym (same x) ∙ (grind (arith, nat_tests)) in
    let found = among-split x ys there in
    let moved : IsPermutation (x ∷ (found.0 ++ found.1)) ys = subst (λ zs. IsPermutation (x ∷ (found.0 ++ found.1)) zs) (sym found.2) (to-place x found.0 found.1) in
    let parts = and_parts (not (is_among xs x)) (is_distinct xs) dx in
    let apart = and_parts (not (is_among (found.0 ++ found.1) x)) (is_distinct (found.0 ++ found.1)) (distinct-permutation ys (x ∷ (found.0 ++ found.1)) (IsPermutation-sym _ _ moved) dy) in
    IsPermutation-trans _ _ _
    (IsPermutation-cons x xs (found.0 ++ found.1) (same-permutation xs (found.0 ++ found.1) parts.1 apart.1 (others found.0 found.1 found.2 (not-true _ parts.0) (not-true _ apart.0))))
    moved
  where
    others : (front back : List ℕ) → ys ≡ front ++ x ∷ back → is_among xs x ≡ false → is_among (front ++ back) x ≡ false → (n : ℕ) → is_among xs n ≡ is_among (front ++ back) n
    others front back e p q n = at (nat_eq n x) refl
      where
        at : (b : Bool) → nat_eq n x ≡ b → is_among xs n ≡ is_among (front ++ back) n
        at true h = ap (is_among xs) (eqb-true n x h) ∙ p ∙ sym (ap (is_among (front ++ back)) (eqb-true n x h) ∙ q)
        at false h =
            let whole : is_among (x ∷ xs) n ≡ is_among (front ++ x ∷ back) n = same n ∙ ap (λ zs. is_among zs n) e in
            let one = list_any-append (nat_eq n) front (x ∷ back) in
            let two = list_any-append (nat_eq n) front back in
            grind (arith, nat_tests)

module _ (polygons : List Polygon) (v : ℕ) where
  -- a path goes on at each of its places
  pub path-at : (fan : List ℕ) (i : ℕ) → IsPath polygons v fan → i + 1 < length fan → IsSuccessor polygons v (get_or fan i 0) (get_or fan (i + 1) 0)
  path-at [] i path h = absurd (omega arith)
  path-at (f ∷ []) i path h = absurd (omega arith)
  path-at (f ∷ (g ∷ rest)) zero path h = path.0
  path-at (f ∷ (g ∷ rest)) (suc i) path h =
      let next : suc (i + 1) ≡ suc i + 1 = omega arith in
      subst (λ k. IsSuccessor polygons v (get_or (g ∷ rest) i 0) (get_or (f ∷ (g ∷ rest)) k 0)) next (path-at (g ∷ rest) i path.1 (omega arith))

  pub path-right : (front back : List ℕ) → IsPath polygons v (front ++ back) → IsPath polygons v back
  path-right [] back path = path
  path-right (f ∷ []) [] path = tt
  path-right (f ∷ []) (g ∷ back) path = path.1
  path-right (f ∷ (g ∷ front)) back path = path-right (g ∷ front) back path.1

  pub path-left : (front back : List ℕ) → IsPath polygons v (front ++ back) → IsPath polygons v front
  path-left [] back path = tt
  path-left (f ∷ []) back path = tt
  path-left (f ∷ (g ∷ front)) back path = (path.0, path-left (g ∷ front) back path.1)

  -- two paths make one where the last face of the first leads to the first of the second
  pub path-join : (f : ℕ) (front : List ℕ) (g : ℕ) (back : List ℕ) → IsPath polygons v (f ∷ front) → IsPath polygons v (g ∷ back) → IsSuccessor polygons v (last_of f front) g → IsPath polygons v ((f ∷ front) ++ (g ∷ back))
  path-join f [] g back p q leads = (leads, q)
  path-join f (h ∷ front) g back p q leads = (p.0, path-join h front g back p.1 q leads)

last-append : (f : ℕ) (front : List ℕ) (g : ℕ) (back : List ℕ) → last_of f (front ++ g ∷ back) ≡ last_of g back
last-append f [] g back = refl
last-append f (h ∷ front) g back = last-append h front g back

pub last-at : (f : ℕ) (rest : List ℕ) → last_of f rest ≡ get_or (f ∷ rest) (length rest) 0
last-at f [] = refl
last-at f (g ∷ rest) = last-at g rest

-- a path that leads from its last face to its first can begin at each of its faces
pub path-turned : (polygons : List Polygon) (v : ℕ) (front : List ℕ) (g : ℕ) (back : List ℕ) → IsPath polygons v (front ++ g ∷ back) → ((f : ℕ) (rest : List ℕ) → front ++ g ∷ back ≡ f ∷ rest → IsSuccessor polygons v (last_of f rest) f) → IsPath polygons v ((g ∷ back) ++ front)
path-turned polygons v [] g back path closes = subst (λ fan. IsPath polygons v fan) (sym (append-nil (g ∷ back))) path
path-turned polygons v (f ∷ front) g back path closes =
    path-join polygons v g back f front (path-right polygons v (f ∷ front) (g ∷ back) path) (path-left polygons v (f ∷ front) (g ∷ back) path)
    (subst (λ l. IsSuccessor polygons v l f) (last-append f front g back) (closes f (front ++ g ∷ back) refl))
