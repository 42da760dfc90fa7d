-- The numbers of edges, one side at a time, and the keys of edges.
use Rattle.std.proofs.Common.{◌≡◌, ℕ, ◌+◌, ◌≤◌, Bool, true, false, List, [], ◌∷◌, ◌++◌, length, map, arith, refl, ap, sym, ◌∙◌, append-nil, append_assoc, length-append, Option, None, Some, MatchOption}
use Rattle.std.specs.Option.{unwrap_or}
use Rattle.std.specs.List.{list_any, list_all, position_or_len}
use Rattle.std.proofs.lemmas.Bool.Decides.{nat_tests}
use Rattle.std.proofs.lemmas.Bool.{and_parts}
use Rattle.std.proofs.lemmas.List.Folds.{list_all-append, list_any-append}
use Rattle.subdiv_model.specs.Polygons.{Polygon, same_side, same_edge, sides_of}
use Rattle.subdiv_model.specs.Edges.{first_named, all_sides}
use Rattle.level_builder.specs.NumberedEdges.{low_first, numbers_in, named_with_all}
use Rattle.level_topology.specs.Numbering.{number_in, named_with}
use Rattle.level_topology.proofs.NumberingLemmas.{first_named-push}

-- Two sides are the same edge exactly if they agree with the lower end first.
pub low-same : (s t : ℕ × ℕ) → same_side (low_first s) (low_first t) ≡ same_edge s t
low-same s t = grind (arith, nat_tests)

-- The keys distinguish the edges.
pub any-low : (s : ℕ × ℕ) (edges : List (ℕ × ℕ)) → list_any (same_side (low_first s)) (map low_first edges) ≡ list_any (same_edge s) edges
any-low s [] = refl
any-low s (t ∷ edges) = rw (low-same s t, any-low s edges) refl

pub number-low : (s : ℕ × ℕ) (edges : List (ℕ × ℕ)) → position_or_len (same_side (low_first s)) (map low_first edges) ≡ number_in edges s
number-low s [] = refl
number-low s (t ∷ edges) = rw (low-same s t, number-low s edges) refl

-- The numbering after all further sides.
pub first_named-all : (done sides : List (ℕ × ℕ)) → named_with_all (first_named done) sides ≡ first_named (done ++ sides)
first_named-all done [] = ap first_named (sym (append-nil done))
first_named-all done (s ∷ sides) =
    ap (λ edges. named_with_all edges sides) (sym (first_named-push done s))
    ∙ first_named-all (done ++ s ∷ []) sides
    ∙ ap first_named (append_assoc done (s ∷ []) sides)

-- an edge that is there keeps its number
number-append : (s : ℕ × ℕ) (edges more : List (ℕ × ℕ)) → list_any (same_edge s) edges ≡ true → number_in (edges ++ more) s ≡ number_in edges s
number-append s [] more h = cc
number-append s (t ∷ edges) more h = go (same_edge s t) refl (number-append s edges more)
  where
    go : (b : Bool) → same_edge s t ≡ b → (list_any (same_edge s) edges ≡ true → number_in (edges ++ more) s ≡ number_in edges s) → number_in ((t ∷ edges) ++ more) s ≡ number_in (t ∷ edges) s
    go true e behind = rw e refl
    go false e behind =
        let there : list_any (same_edge s) edges ≡ true = grind (arith, nat_tests) in
        rw (e, behind there) refl

-- a new edge gets the next number
number-new : (s : ℕ × ℕ) (edges : List (ℕ × ℕ)) → list_any (same_edge s) edges ≡ false → number_in (edges ++ s ∷ []) s ≡ number_in edges s
number-new s [] h = grind (arith, nat_tests)
number-new s (t ∷ edges) h = go (same_edge s t) refl (number-new s edges)
  where
    go : (b : Bool) → same_edge s t ≡ b → (list_any (same_edge s) edges ≡ false → number_in (edges ++ s ∷ []) s ≡ number_in edges s) → number_in ((t ∷ edges) ++ s ∷ []) s ≡ number_in (t ∷ edges) s
    go true e behind = rw e refl
    go false e behind =
        let none : list_any (same_edge s) edges ≡ false = grind (arith, nat_tests) in
        rw (e, behind none) refl

number-named : (s t : ℕ × ℕ) (edges : List (ℕ × ℕ)) → list_any (same_edge s) edges ≡ true → number_in (named_with edges t) s ≡ number_in edges s
number-named s t edges h = go (list_any (same_edge t) edges) refl
  where
    go : (b : Bool) → list_any (same_edge t) edges ≡ b → number_in (named_with edges t) s ≡ number_in edges s
    go true e = rw e refl
    go false e = rw e (number-append s edges (t ∷ []) h)

any-named : (s t : ℕ × ℕ) (edges : List (ℕ × ℕ)) → list_any (same_edge s) edges ≡ true → list_any (same_edge s) (named_with edges t) ≡ true
any-named s t edges h = go (list_any (same_edge t) edges) refl
  where
    go : (b : Bool) → list_any (same_edge t) edges ≡ b → list_any (same_edge s) (named_with edges t) ≡ true
    go true e = rw e h
    go false e = rw (e, list_any-append (same_edge s) edges (t ∷ []), h) refl

-- whatever sides come
pub number-stays : (s : ℕ × ℕ) (edges sides : List (ℕ × ℕ)) → list_any (same_edge s) edges ≡ true → number_in (named_with_all edges sides) s ≡ number_in edges s
number-stays s edges [] h = refl
number-stays s edges (t ∷ sides) h = number-stays s (named_with edges t) sides (any-named s t edges h) ∙ number-named s t edges h

number-own : (s : ℕ × ℕ) (edges : List (ℕ × ℕ)) → number_in (named_with edges s) s ≡ number_in edges s
number-own s edges = go (list_any (same_edge s) edges) refl
  where
    go : (b : Bool) → list_any (same_edge s) edges ≡ b → number_in (named_with edges s) s ≡ number_in edges s
    go true e = rw e refl
    go false e = rw e (number-new s edges e)

any-own : (s : ℕ × ℕ) (edges : List (ℕ × ℕ)) → list_any (same_edge s) (named_with edges s) ≡ true
any-own s edges = go (list_any (same_edge s) edges) refl
  where
    self : same_edge s s ≡ true
    self = grind (arith, nat_tests)

    go : (b : Bool) → list_any (same_edge s) edges ≡ b → list_any (same_edge s) (named_with edges s) ≡ true
    go true e = rw e e
    go false e = rw (e, list_any-append (same_edge s) edges (s ∷ []), e, self) refl

-- the numbers that sides get one after another are those that they have at the end
pub numbers-final : (edges sides : List (ℕ × ℕ)) → numbers_in edges sides ≡ map (number_in (named_with_all edges sides)) sides
numbers-final edges [] = refl
numbers-final edges (s ∷ sides) =
    let first : number_in (named_with_all (named_with edges s) sides) s ≡ number_in edges s = number-stays s (named_with edges s) sides (any-own s edges) ∙ number-own s edges in
    rw (first, numbers-final (named_with edges s) sides) refl

-- and sides that have their numbers keep them
pub numbers-stay : (edges sides given : List (ℕ × ℕ)) → list_all (λ s. list_any (same_edge s) edges) given ≡ true → map (number_in (named_with_all edges sides)) given ≡ map (number_in edges) given
numbers-stay edges sides [] h = refl
numbers-stay edges sides (s ∷ given) h =
    let parts = and_parts (list_any (same_edge s) edges) (list_all (λ t. list_any (same_edge t) edges) given) h in
    rw (number-stays s edges sides parts.0, numbers-stay edges sides given parts.1) refl

pub face-numbers-stay : (edges sides : List (ℕ × ℕ)) (polygons : List Polygon) → list_all (λ s. list_any (same_edge s) edges) (all_sides polygons) ≡ true → map (λ polygon. map (number_in (named_with_all edges sides)) (sides_of polygon)) polygons ≡ map (λ polygon. map (number_in edges) (sides_of polygon)) polygons
face-numbers-stay edges sides [] h = refl
face-numbers-stay edges sides (polygon ∷ polygons) h =
    let test = λ (s : ℕ × ℕ). list_any (same_edge s) edges in
    let parts = and_parts (list_all test (sides_of polygon)) (list_all test (all_sides polygons)) (sym (list_all-append test (sides_of polygon) (all_sides polygons)) ∙ h) in
    rw (numbers-stay edges sides (sides_of polygon) parts.0, face-numbers-stay edges sides polygons parts.1) refl

-- a side more
pub numbers-push : (edges sides : List (ℕ × ℕ)) (s : ℕ × ℕ) → numbers_in edges (sides ++ s ∷ []) ≡ numbers_in edges sides ++ number_in (named_with_all edges sides) s ∷ []
numbers-push edges [] s = refl
numbers-push edges (t ∷ sides) s = ap (λ ns. number_in edges t ∷ ns) (numbers-push (named_with edges t) sides s)

pub named-length : (edges : List (ℕ × ℕ)) (sides : List (ℕ × ℕ)) → length (named_with_all edges sides) ≤ length edges + length sides
named-length edges [] = omega arith
named-length edges (s ∷ sides) = omega (arith, named-length (named_with edges s) sides, one (list_any (same_edge s) edges) refl)
  where
    one : (b : Bool) → list_any (same_edge s) edges ≡ b → length (named_with edges s) ≤ length edges + 1
    one true e = rw e (omega arith)
    one false e = rw e (omega (arith, length-append edges (s ∷ [])))

-- The results of the tests of keys, for edges.
pub known-edge : (s key : ℕ × ℕ) (keys edges : List (ℕ × ℕ)) → key ≡ low_first s → keys ≡ map low_first edges → list_any (same_side key) keys ≡ list_any (same_edge s) edges
known-edge s key keys edges k same = ap (λ t. list_any (same_side t) keys) k ∙ ap (list_any (same_side (low_first s))) same ∙ any-low s edges

pub known-number : (s key : ℕ × ℕ) (keys edges : List (ℕ × ℕ)) → key ≡ low_first s → keys ≡ map low_first edges → position_or_len (same_side key) keys ≡ number_in edges s
known-number s key keys edges k same = ap (λ t. position_or_len (same_side t) keys) k ∙ ap (position_or_len (same_side (low_first s))) same ∙ number-low s edges

-- an edge that is there is found by its key
pub found-number : (found : Option ℕ) (s key : ℕ × ℕ) (keys edges : List (ℕ × ℕ)) → key ≡ low_first s → keys ≡ map low_first edges → list_any (same_edge s) edges ≡ true → MatchOption found (list_any (same_side key) keys ≡ false) (λ e. (list_any (same_side key) keys ≡ true) × (e ≡ position_or_len (same_side key) keys)) → (d : ℕ) → unwrap_or found d ≡ number_in edges s
found-number None s key keys edges k same there none d =
    let no : list_any (same_edge s) edges ≡ false = sym (known-edge s key keys edges k same) ∙ none in cc
found-number (Some e) s key keys edges k same there found d = found.1 ∙ known-number s key keys edges k same

-- an edge that is not there would get the next number
pub number-none : (s : ℕ × ℕ) (edges : List (ℕ × ℕ)) → list_any (same_edge s) edges ≡ false → number_in edges s ≡ length edges
number-none s [] h = refl
number-none s (t ∷ edges) h = go (same_edge s t) refl (number-none s edges)
  where
    go : (b : Bool) → same_edge s t ≡ b → (list_any (same_edge s) edges ≡ false → number_in edges s ≡ length edges) → number_in (t ∷ edges) s ≡ length (t ∷ edges)
    go true e behind = absurd (grind (arith, nat_tests))
    go false e behind =
        let none : list_any (same_edge s) edges ≡ false = grind (arith, nat_tests) in
        rw e (omega (arith, behind none))
