-- Lists with an item more, and lists that come one after another.
use Rattle.std.proofs.Common.{◌≡◌, ℕ, zero, suc, ◌+◌, ◌*◌, ◌<◌, true, not, nat_eq, List, [], ◌∷◌, ◌++◌, length, map, get_or, take, replicate, arith, refl, ap, sym, ◌∙◌, append_assoc, length-append}
use Rattle.std.specs.List.{list_all, range_with_len, sum_by}
use Rattle.std.proofs.lemmas.Bool.{and_parts}
use Rattle.std.proofs.lemmas.List.{map-append, take_more, replicate-append-replicate}
use Rattle.std.proofs.lemmas.List.Sums.{sum_by-cons}
use Rattle.mesh_laws.proofs.ClosedLemmas.{no-loop, sides-pass, first_named-all}
use Rattle.subdiv_model.specs.Polygons.{Polygon, is_distinct}
use Rattle.level_topology.specs.ListPlaces.{joined, pair_list}
use Rattle.subdiv_model.specs.Edges.{all_sides, edges_of}
use Rattle.subdiv_model.specs.Manifold.{is_simple}
use Rattle.number_laws.proofs.CountLemmas.{all-weaker}

pub replicate-push : {X : Type 0} (n : ℕ) (x : X) → replicate (n + 1) x ≡ replicate n x ++ x ∷ []
replicate-push n x = sym (replicate-append-replicate n 1 x)

range-push : (a n : ℕ) → range_with_len a (n + 1) ≡ range_with_len a n ++ (a + n) ∷ []
range-push a zero = let e : a + 0 ≡ a = omega arith in ap (λ k. k ∷ []) (sym e)
range-push a (suc n) =
    let next : suc n + 1 ≡ suc (n + 1) = omega arith in
    let e : a + 1 + n ≡ a + suc n = omega arith in
    ap (range_with_len a) next ∙ ap (λ xs. a ∷ xs) (range-push (a + 1) n ∙ ap (λ k. range_with_len (a + 1) n ++ k ∷ []) e)

pub push-range : (before old next : List ℕ) (c : ℕ) → old ≡ before ++ range_with_len 0 c → next ≡ old ++ c ∷ [] → next ≡ before ++ range_with_len 0 (c + 1)
push-range before old next c e f =
    let z : 0 + c ≡ c = omega arith in
    f ∙ ap (λ xs. xs ++ c ∷ []) e ∙ append_assoc before (range_with_len 0 c) (c ∷ []) ∙ ap (λ xs. before ++ xs) (ap (λ k. range_with_len 0 c ++ k ∷ []) (sym z) ∙ sym (range-push 0 c))

pub joined-length : (lists : List Polygon) → length (joined lists) ≡ sum_by length lists
joined-length [] = refl
joined-length (list ∷ lists) = omega (arith, joined-length lists, length-append list (joined lists), sum_by-cons length list lists)

pub pairs-total : (ends : List (ℕ × ℕ)) → sum_by length (map pair_list ends) ≡ 2 * length ends
pairs-total [] = refl
pairs-total (s ∷ ends) = omega (arith, pairs-total ends, sum_by-cons length (pair_list s) (map pair_list ends))

-- one value more of those that a function gives
pub mapped-more : (g : ℕ → ℕ) (xs old next : List ℕ) (i x : ℕ) → i < length xs → old ≡ map g (take i xs) → next ≡ old ++ x ∷ [] → x ≡ g (get_or xs i 0) → next ≡ map g (take (i + 1) xs)
mapped-more g xs old next i x inside e f h =
    f ∙ ap (λ ys. ys ++ x ∷ []) e ∙ ap (λ y. map g (take i xs) ++ y ∷ []) h ∙ sym (ap (map g) (take_more xs i 0 inside) ∙ map-append g (take i xs) (get_or xs i 0 ∷ []))

-- faces have no corner twice, and edges join two points
pub faces-distinct : (polygons : List Polygon) → list_all is_simple polygons ≡ true → list_all is_distinct polygons ≡ true
faces-distinct polygons simple = all-weaker is_simple is_distinct (λ polygon h. (and_parts _ (is_distinct polygon) h).1) polygons simple

pub ends-distinct : (polygons : List Polygon) (ends : List (ℕ × ℕ)) → list_all is_simple polygons ≡ true → ends ≡ edges_of polygons → list_all (λ s. not (nat_eq s.0 s.1)) ends ≡ true
ends-distinct polygons ends simple e =
    ap (list_all (λ s. not (nat_eq s.0 s.1))) e
    ∙ first_named-all (λ s. not (nat_eq s.0 s.1)) (all_sides polygons) (sides-pass (λ s. not (nat_eq s.0 s.1)) polygons (λ a there. ap not (no-loop polygons a simple there)))
