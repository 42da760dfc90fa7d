-- Leaves by their paths.
use Rattle.std.proofs.Common.{◌≡◌, ◌≢◌, ℕ, zero, suc, ◌+◌, ◌<◌, ◌≤◌, Bool, true, false, nat_eq, nat_lt, List, [], ◌∷◌, get_or, arith, refl, ap, sym, ◌∙◌, subst}
use Rattle.std.specs.List.{filter, range_with_len}
use Rattle.std.proofs.lemmas.Bool.{eqb-true}
use Rattle.std.proofs.lemmas.Bool.Decides.{nat_tests}
use Rattle.subdiv_model.specs.Polygons.{is_among}
use Rattle.subdiv_model.specs.Level.{Level}
use Rattle.subdiv_model.specs.Child.{refined_level}
use Rattle.subdiv_model.specs.Sparse.{FacePredicate, selected}
use Rattle.subdiv_model.specs.Leaf.{Location, has_pair, is_quad_at, corners_with, pair_at, child_at, leaf_of}
use Rattle.leaf_laws.specs.FirstLeaf.{IsInGrid, LeafSearch, first_corner, first_leaf}
use Rattle.leaf_laws.specs.Paths.{IsLeafOn, IsLeastLeaf, is_not_after, is_on_border}
use Rattle.leaf_laws.proofs.PairLemmas.{child-within}
use Rattle.leaf_laws.proofs.FirstLemmas.{corner-first, leaf-first}
use Rattle.leaf_laws.proofs.BorderLemmas.{border-child, shared-border}

-- a kept number passes, and is one of the list
kept-among : (test : ℕ → Bool) (xs : List ℕ) (n : ℕ) → is_among (filter test xs) n ≡ true → (test n ≡ true) × (is_among xs n ≡ true)
kept-among test [] n h = absurd (cc)
kept-among test (x ∷ xs) n h = go (test x) refl (nat_eq n x) refl (kept-among test xs n)
  where
    go : (a : Bool) → test x ≡ a → (b : Bool) → nat_eq n x ≡ b → (is_among (filter test xs) n ≡ true → (test n ≡ true) × (is_among xs n ≡ true)) → (test n ≡ true) × (is_among (x ∷ xs) n ≡ true)
    go true e true f rest = (ap test (eqb-true n x f) ∙ e, rw f refl)
    go true e false f rest = let behind = rest (rw f at (rw e at h)) in (behind.0, rw f behind.1)
    go false e b f rest = let behind = rest (rw e at h) in (behind.0, grind (arith, nat_tests, behind))

-- the first that is kept of numbers in a row is the least
kept-least : (test : ℕ → Bool) (a count n : ℕ) → is_among (filter test (range_with_len a count)) n ≡ true → get_or (filter test (range_with_len a count)) 0 0 ≤ n
kept-least test a zero n h = absurd (cc)
kept-least test a (suc count) n h = go (test a) refl (kept-least test (a + 1) count n)
  where
    low : (b c : ℕ) → is_among (range_with_len b c) n ≡ true → b ≤ n
    low b zero there = absurd (cc)
    low b (suc c) there = here (nat_eq n b) refl (low (b + 1) c)
      where
        here : (e : Bool) → nat_eq n b ≡ e → (is_among (range_with_len (b + 1) c) n ≡ true → b + 1 ≤ n) → b ≤ n
        here true e rest = grind (arith, nat_tests)
        here false e rest = let behind = rest (rw e at there) in omega (arith, behind)

    go : (b : Bool) → test a ≡ b → (is_among (filter test (range_with_len (a + 1) count)) n ≡ true → get_or (filter test (range_with_len (a + 1) count)) 0 0 ≤ n) → get_or (filter test (range_with_len a (suc count))) 0 0 ≤ n
    go true e rest = let below = low a (suc count) (kept-among test (range_with_len a (suc count)) n h).1 in rw e below
    go false e rest = let behind = rest (rw e at h) in rw e behind

module _ (grid : ℕ) (level : Level) (at : Location) (is : IsInGrid grid at) (c : ℕ) (with : is_among (corners_with grid level at) c ≡ true) where
  -- the corners whose children have a location are not before the first
  pub corner-least : first_corner grid level at ≤ c
  corner-least = go (is_quad_at level at) refl
    where
      go : (b : Bool) → is_quad_at level at ≡ b → first_corner grid level at ≤ c
      go true e = let least = kept-least (has_pair grid (at.s, at.t)) 0 4 c (rw e at with) in rw e least
      go false e = let only : is_among (at.corner ∷ []) c ≡ true = rw e at with in let same : at.corner ≡ c = grind (arith, nat_tests) in rw e (omega (arith, same))

  -- the corners of a quad that have the location have its pair
  pub quad-corner : is_quad_at level at ≡ true → (has_pair grid (at.s, at.t) c ≡ true) × (c < 4)
  quad-corner e =
      let kept = kept-among (has_pair grid (at.s, at.t)) (range_with_len 0 4) c (rw e at with) in
      (kept.0, below kept.1)
    where
      below : is_among (range_with_len 0 4) c ≡ true → c < 4
      below h = grind (arith, nat_tests)

  pub other-corner : is_quad_at level at ≡ false → c ≡ at.corner
  other-corner e = let only : is_among (at.corner ∷ []) c ≡ true = rw e at with in grind (arith, nat_tests)

  -- the location in the child lies on the grid
  pub child-inside : IsInGrid grid (child_at grid level at c)
  child-inside = go (is_quad_at level at) refl
    where
      go : (b : Bool) → is_quad_at level at ≡ b → IsInGrid grid (child_at grid level at c)
      go true e = let within = child-within grid c at.s at.t is.s is.t (quad-corner e).0 in record { s = rw e within.0; t = rw e within.1 }
      go false e = record { s = rw e is.s; t = rw e is.t }

  -- a location on the border of the face is on the border of the child
  pub border-at : is_on_border grid (at.s, at.t) ≡ true → is_on_border grid (pair_at grid level at c) ≡ true
  border-at on = go (is_quad_at level at) refl
    where
      go : (b : Bool) → is_quad_at level at ≡ b → is_on_border grid (pair_at grid level at c) ≡ true
      go true e = let child = border-child grid c at.s at.t is.s is.t (quad-corner e).0 on in rw e child
      go false e = rw e on

-- a path leads to one leaf at most
pub one-leaf : (grid further : ℕ) (base : Level) (predicate : FacePredicate) (at leaf other : Location) (path : List ℕ) → IsLeafOn grid further base predicate at path leaf → IsLeafOn grid further base predicate at path other → leaf ≡ other
one-leaf grid zero base predicate at leaf other [] one two = one ∙ sym two
one-leaf grid zero base predicate at leaf other (c ∷ path) one two = absurd one
one-leaf grid (suc further) base predicate at leaf other [] one two = one.1 ∙ sym two.1
one-leaf grid (suc further) base predicate at leaf other (c ∷ path) one two = one-leaf grid further base predicate (child_at grid (refined_level base at.level) at c) leaf other path one.2 two.2

-- the search with these fields
abbrev search_of : ℕ → ℕ → Level → FacePredicate → Location → LeafSearch
search_of grid further base predicate at = record { grid = grid; further = further; base = base; predicate = predicate; at = at }

-- the leaf that is found has the least path
pub first-least : (grid further : ℕ) (base : Level) (predicate : FacePredicate) (at : Location) → IsInGrid grid at → IsLeastLeaf (search_of grid further base predicate at) (first_leaf grid further base predicate at)
first-least grid zero base predicate at is = record { path = []; leads = refl; least = λ other another h. refl }
first-least grid (suc further) base predicate at is =
    let level = refined_level base at.level in
    let first = corner-first grid level at is in
    go (is_among (selected base predicate at.level) at.number) refl (first-least grid further base predicate (child_at grid level at (first_corner grid level at)) first.inside)
  where
    among : is_among (corners_with grid (refined_level base at.level) at) (first_corner grid (refined_level base at.level) at) ≡ true
    among = let here : nat_eq (first_corner grid (refined_level base at.level) at) (first_corner grid (refined_level base at.level) at) ≡ true = grind (arith, nat_tests) in ap (λ cs. is_among cs (first_corner grid (refined_level base at.level) at)) (corner-first grid (refined_level base at.level) at is).begin ∙ rw here refl

    go : (b : Bool) → is_among (selected base predicate at.level) at.number ≡ b → IsLeastLeaf (search_of grid further base predicate (child_at grid (refined_level base at.level) at (first_corner grid (refined_level base at.level) at))) (first_leaf grid further base predicate (child_at grid (refined_level base at.level) at (first_corner grid (refined_level base at.level) at)))
        → IsLeastLeaf (search_of grid (suc further) base predicate at) (first_leaf grid (suc further) base predicate at)
    go false e behind =
        let found : first_leaf grid (suc further) base predicate at ≡ at = rw e refl in
        record { path = []; leads = (e, found); least = λ other another h. refl }
    go true e behind =
        let found : first_leaf grid (suc further) base predicate at ≡ first_leaf grid further base predicate (child_at grid (refined_level base at.level) at (first_corner grid (refined_level base at.level) at)) = rw e refl in
        record {
          path = (first_corner grid (refined_level base at.level) at) ∷ behind.path;
          leads = (e, among, subst (IsLeafOn grid further base predicate (child_at grid (refined_level base at.level) at (first_corner grid (refined_level base at.level) at)) behind.path) (sym found) behind.leads);
          least = λ other another h. compare other another h;
        }
      where
        compare : (other : List ℕ) (another : Location) → IsLeafOn grid (suc further) base predicate at other another → is_not_after ((first_corner grid (refined_level base at.level) at) ∷ behind.path) other ≡ true
        compare [] another h = let no = h.0 in absurd (cc)
        compare (d ∷ other) another h = order (nat_eq (first_corner grid (refined_level base at.level) at) d) refl
          where
            order : (b : Bool) → nat_eq (first_corner grid (refined_level base at.level) at) d ≡ b → is_not_after ((first_corner grid (refined_level base at.level) at) ∷ behind.path) (d ∷ other) ≡ true
            order true f =
                let same = eqb-true (first_corner grid (refined_level base at.level) at) d f in
                let rest = behind.least other another (subst (λ k. IsLeafOn grid further base predicate (child_at grid (refined_level base at.level) at k) other another) (sym same) h.2) in
                let none : nat_lt (first_corner grid (refined_level base at.level) at) d ≡ false = grind (arith, nat_tests) in
                rw (none, f) rest
            order false f =
                let low = corner-least grid (refined_level base at.level) at is d h.1 in
                let less : nat_lt (first_corner grid (refined_level base at.level) at) d ≡ true = grind (arith, nat_tests) in
                rw less refl

pub leaf-least : (grid depth : ℕ) (base : Level) (predicate : FacePredicate) (at : Location) → IsInGrid grid at → IsLeastLeaf (search_of grid depth base predicate at) (leaf_of grid depth base predicate at)
leaf-least grid depth base predicate at is = subst (IsLeastLeaf (search_of grid depth base predicate at)) (sym (leaf-first grid depth base predicate at is)) (first-least grid depth base predicate at is)

-- a location on the border of a face is on the border of its leaf
pub border-leaf : (grid further : ℕ) (base : Level) (predicate : FacePredicate) (at leaf : Location) (path : List ℕ) → IsInGrid grid at → IsLeafOn grid further base predicate at path leaf
    → is_on_border grid (at.s, at.t) ≡ true → is_on_border grid (leaf.s, leaf.t) ≡ true
border-leaf grid zero base predicate at leaf [] is one on = ap (λ (l : Location). is_on_border grid (l.s, l.t)) one ∙ on
border-leaf grid zero base predicate at leaf (c ∷ path) is one on = absurd one
border-leaf grid (suc further) base predicate at leaf [] is one on = ap (λ (l : Location). is_on_border grid (l.s, l.t)) one.1 ∙ on
border-leaf grid (suc further) base predicate at leaf (c ∷ path) is one on =
    let level = refined_level base at.level in
    border-leaf grid further base predicate (child_at grid level at c) leaf path (child-inside grid level at is c one.1) one.2 (border-at grid level at is c one.1 on)

-- two leaves share only their borders
pub leaves-share : (grid further : ℕ) (base : Level) (predicate : FacePredicate) (at leaf other : Location) (path other_path : List ℕ) → IsInGrid grid at → path ≢ other_path
    → IsLeafOn grid further base predicate at path leaf → IsLeafOn grid further base predicate at other_path other
    → (is_on_border grid (leaf.s, leaf.t) ≡ true) × (is_on_border grid (other.s, other.t) ≡ true)
leaves-share grid zero base predicate at leaf other [] [] is apart one two = absurd (apart refl)
leaves-share grid zero base predicate at leaf other [] (d ∷ other_path) is apart one two = absurd two
leaves-share grid zero base predicate at leaf other (c ∷ path) other_path is apart one two = absurd one
leaves-share grid (suc further) base predicate at leaf other [] [] is apart one two = absurd (apart refl)
leaves-share grid (suc further) base predicate at leaf other [] (d ∷ other_path) is apart one two = let no = one.0 in let yes = two.0 in absurd (cc)
leaves-share grid (suc further) base predicate at leaf other (c ∷ path) [] is apart one two = let yes = one.0 in let no = two.0 in absurd (cc)
leaves-share grid (suc further) base predicate at leaf other (c ∷ path) (d ∷ other_path) is apart one two =
    go (nat_eq c d) refl (λ same. let level = refined_level base at.level in
    leaves-share grid further base predicate (child_at grid level at c) leaf other path other_path (child-inside grid level at is c one.1)
    (λ e. apart (ap (λ (n : ℕ). n ∷ path) same ∙ ap (λ (l : List ℕ). d ∷ l) e)) one.2
    (subst (λ k. IsLeafOn grid further base predicate (child_at grid level at k) other_path other) (sym same) two.2))
  where
    go : (b : Bool) → nat_eq c d ≡ b → (c ≡ d → (is_on_border grid (leaf.s, leaf.t) ≡ true) × (is_on_border grid (other.s, other.t) ≡ true))
        → (is_on_border grid (leaf.s, leaf.t) ≡ true) × (is_on_border grid (other.s, other.t) ≡ true)
    go true e rest = rest (eqb-true c d e)
    go false e rest = (
      border-leaf grid further base predicate (child_at grid (refined_level base at.level) at c) leaf path (child-inside grid (refined_level base at.level) at is c one.1) one.2 (both-on_border (is_quad_at (refined_level base at.level) at) refl).0,
      border-leaf grid further base predicate (child_at grid (refined_level base at.level) at d) other other_path (child-inside grid (refined_level base at.level) at is d two.1) two.2 (both-on_border (is_quad_at (refined_level base at.level) at) refl).1,
    )
      where
        differ : c ≢ d
        differ = λ same. let yes : nat_eq c d ≡ true = grind (arith, nat_tests) in absurd (cc)

        both-on_border : (b : Bool) → is_quad_at (refined_level base at.level) at ≡ b → (is_on_border grid (pair_at grid (refined_level base at.level) at c) ≡ true) × (is_on_border grid (pair_at grid (refined_level base at.level) at d) ≡ true)
        both-on_border true f =
            let first = quad-corner grid (refined_level base at.level) at is c one.1 f in
            let second = quad-corner grid (refined_level base at.level) at is d two.1 f in
            let here = shared-border grid c d at.s at.t is.s is.t first.1 second.1 differ first.0 second.0 in
            let there = shared-border grid d c at.s at.t is.s is.t second.1 first.1 (λ same. differ (sym same)) second.0 first.0 in
            (rw f here, rw f there)
        both-on_border false f = absurd (differ (other-corner grid (refined_level base at.level) at is c one.1 f ∙ sym (other-corner grid (refined_level base at.level) at is d two.1 f)))
