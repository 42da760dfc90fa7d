-- The rule of a vertex and its mask, in any order of the edges.
use Rattle.std.proofs.Common.{◌≡◌, ℕ, zero, suc, ◌+◌, ◌-◌, ◌*◌, ◌<◌, Bool, true, false, cond, ◌&&◌, ◌||◌, nat_eq, nat_lt, if◌then◌else◌, List, [], ◌∷◌, ◌++◌, length, map, get_or, arith, refl, ap, sym, ◌∙◌, subst}
use Rattle.std.specs.List.{filter, list_all}
use Rattle.std.specs.List.Sorted.{IsPermutation}
use Rattle.std.proofs.lemmas.Bool.{cond_both, eq-eqb, ne_eqb, lt-ltb, le-ltb}
use Rattle.std.proofs.lemmas.Bool.Decides.{nat_tests}
use Rattle.std.proofs.lemmas.List.Sorted.{IsPermutation-map, IsPermutation-cons, sum_by-IsPermutation}
use Rattle.subdiv_model.specs.Lists.{places, places_from}
use Rattle.subdiv_model.specs.Sharpness.{Sharpness, Method, is_sharp, half_child}
use Rattle.subdiv_model.specs.Rule.{Rule, CornerRule, rule_of_sharp_edges, vertex_rule, is_smooth_or_dart, is_crease_of, is_corner_rule, same_mask, child_ring, transition_weight}
use Rattle.subdiv_model.specs.Mask.{OfPoint, Mask, weigh, weigh_points, weigh_faces, smooth_vertex_mask, crease_mask, corner_mask, mask_of, mask_of_rule, mask_of_vertex, transition_mask}
use Rattle.number_laws.proofs.CountLemmas.{one_if}
use Rattle.number_laws.proofs.ListLemmas.{places-from-length}
use Rattle.sharpness_laws.specs.SameWeights.{HaveSameWeights}
use Rattle.sharpness_laws.proofs.PermutationLemmas.{same_in_any_order, IsPermutation-filter}
use Rattle.sharpness_laws.proofs.OrderLemmas.{count-any_order, half_children-any_order, weight-any_order}
use Rattle.sharpness_laws.proofs.MaskOrderLemmas.{same_weights-refl, same-terms, points-permuted, terms-permuted, same-if, same-transition}

-- reading at the places of items that pass is reading the items that pass
pub reads-from : {X : Type 0} (end : X → ℕ) (test : X → Bool) (read : ℕ → ℕ) (place : ℕ) (xs : List X)
    → ((i : ℕ) → read (place + i) ≡ get_or (map end xs) i 0) → map read (places_from place test xs) ≡ map end (filter test xs)
reads-from end test read place [] h = refl
reads-from end test read place (x ∷ xs) h =
    let here : read place ≡ end x = ap read (let e : place ≡ place + 0 = omega arith in e) ∙ h 0 in
    let after = reads-from end test read (place + 1) xs (λ i. ap read (let e : place + 1 + i ≡ place + suc i = omega arith in e) ∙ h (suc i)) in
    either (test x) here after
  where
    either : (b : Bool) → read place ≡ end x → map read (places_from (place + 1) test xs) ≡ map end (filter test xs)
        → map read (if b then place ∷ places_from (place + 1) test xs else places_from (place + 1) test xs)
        ≡ map end (cond b (x ∷ filter test xs) (filter test xs))
    either true e f = cc
    either false e f = f

pub places_from-map : {X Y : Type 0} (f : X → Y) (test : Y → Bool) (place : ℕ) (xs : List X)
    → places_from place test (map f xs) ≡ places_from place (λ x. test (f x)) xs
places_from-map f test place [] = refl
places_from-map f test place (x ∷ xs) = ap (λ l. if test (f x) then place ∷ l else l) (places_from-map f test (place + 1) xs)

-- the mask of a vertex from the ends of its sharp edges
abbrev mask_of_sharp_ends : ℕ → List ℕ → List ℕ → List ℕ → Mask
mask_of_sharp_ends v ends faces [] = smooth_vertex_mask v ends faces
mask_of_sharp_ends v ends faces (a ∷ []) = smooth_vertex_mask v ends faces
mask_of_sharp_ends v ends faces (a ∷ (b ∷ [])) = crease_mask v a b
mask_of_sharp_ends v ends faces (a ∷ (b ∷ (c ∷ more))) = corner_mask v

rule-ends : (v : ℕ) (ends faces places : List ℕ)
    → mask_of_rule v ends faces (rule_of_sharp_edges places) ≡ mask_of_sharp_ends v ends faces (map (λ p. get_or ends p 0) places)
rule-ends v ends faces [] = refl
rule-ends v ends faces (a ∷ []) = refl
rule-ends v ends faces (a ∷ (b ∷ [])) = refl
rule-ends v ends faces (a ∷ (b ∷ (c ∷ more))) = refl

module _ (v : ℕ) (ends other faces others : List ℕ) (h : IsPermutation ends other) (k : IsPermutation faces others) where
  same-smooth : HaveSameWeights (smooth_vertex_mask v ends faces) (smooth_vertex_mask v other others)
  same-smooth =
      let own : ℕ → ℕ = λ n. n * (n - 2) in
      let count : length ends ≡ length other = count-any_order ends other h in
      let P =
      λ (n : ℕ). HaveSameWeights (smooth_vertex_mask v ends faces)
      (mask_of (weigh (own n) (OfPoint v) ∷ (weigh_points 1 other ++ weigh_faces 1 others)) (n * n)) in
      subst P count (same-terms _ _ (length ends * length ends) (length ends * length ends) (IsPermutation-cons (weigh (own (length ends)) (OfPoint v)) _ _ (terms-permuted 1 1 ends other faces others h k)) refl)

  same-crease : (a b c d : ℕ) → IsPermutation (a ∷ b ∷ []) (c ∷ d ∷ []) → HaveSameWeights (crease_mask v a b) (crease_mask v c d)
  same-crease a b c d p = same-terms _ _ 8 8 (IsPermutation-cons (weigh 6 (OfPoint v)) _ _ (points-permuted 1 (a ∷ b ∷ []) (c ∷ d ∷ []) p)) refl

  same-sharp_ends : (xs ys : List ℕ) → IsPermutation xs ys → length xs ≡ length ys
      → HaveSameWeights (mask_of_sharp_ends v ends faces xs) (mask_of_sharp_ends v other others ys)
  same-sharp_ends [] [] p e = same-smooth
  same-sharp_ends [] (c ∷ ys) p e = absurd (omega arith)
  same-sharp_ends (a ∷ []) [] p e = absurd (omega arith)
  same-sharp_ends (a ∷ []) (c ∷ []) p e = same-smooth
  same-sharp_ends (a ∷ []) (c ∷ (d ∷ ys)) p e = absurd (omega arith)
  same-sharp_ends (a ∷ (b ∷ [])) [] p e = absurd (omega arith)
  same-sharp_ends (a ∷ (b ∷ [])) (c ∷ []) p e = absurd (omega arith)
  same-sharp_ends (a ∷ (b ∷ [])) (c ∷ (d ∷ [])) p e = same-crease a b c d p
  same-sharp_ends (a ∷ (b ∷ [])) (c ∷ (d ∷ (f ∷ ys))) p e = absurd (omega arith)
  same-sharp_ends (a ∷ (b ∷ (x ∷ xs))) [] p e = absurd (omega arith)
  same-sharp_ends (a ∷ (b ∷ (x ∷ xs))) (c ∷ []) p e = absurd (omega arith)
  same-sharp_ends (a ∷ (b ∷ (x ∷ xs))) (c ∷ (d ∷ [])) p e = absurd (omega arith)
  same-sharp_ends (a ∷ (b ∷ (x ∷ xs))) (c ∷ (d ∷ (f ∷ ys))) p e = same_weights-refl (corner_mask v)

  corner-or : (b : Bool) (r s : Rule) → HaveSameWeights (mask_of_rule v ends faces r) (mask_of_rule v other others s)
      → HaveSameWeights (mask_of_rule v ends faces (if b then CornerRule else r)) (mask_of_rule v other others (if b then CornerRule else s))
  corner-or true r s p = same_weights-refl (corner_mask v)
  corner-or false r s p = p

-- the edges at a vertex, each with its other end and its sharpness
module _ {X : Type 0} (end : X → ℕ) (sharpness : X → Sharpness) where
  sharp-edges : List X → List X
  sharp-edges edges = filter (λ x. is_sharp (sharpness x)) edges

  sharp-rule : (v : ℕ) (edges : List X) (faces : List ℕ)
      → mask_of_rule v (map end edges) faces (rule_of_sharp_edges (places is_sharp (map sharpness edges)))
      ≡ mask_of_sharp_ends v (map end edges) faces (map end (sharp-edges edges))
  unfolding sharp-edges
  sharp-rule v edges faces =
      let read = λ (p : ℕ). get_or (map end edges) p 0 in
      rule-ends v (map end edges) faces (places is_sharp (map sharpness edges))
      ∙ ap (λ l. mask_of_sharp_ends v (map end edges) faces (map read l)) (places_from-map sharpness is_sharp 0 edges)
      ∙ ap (mask_of_sharp_ends v (map end edges) faces) (reads-from end (λ x. is_sharp (sharpness x)) read 0 edges (λ i. ap read (let e : 0 + i ≡ i = omega arith in e)))

  module _ (v : ℕ) (edges other : List X) (faces others : List ℕ) (h : IsPermutation edges other) (k : IsPermutation faces others) where
    same-sharp_rule : HaveSameWeights (mask_of_rule v (map end edges) faces (rule_of_sharp_edges (places is_sharp (map sharpness edges))))
        (mask_of_rule v (map end other) others (rule_of_sharp_edges (places is_sharp (map sharpness other))))
    unfolding sharp-edges
    same-sharp_rule =
        let xs = map end (sharp-edges edges) in
        let ys = map end (sharp-edges other) in
        let p : IsPermutation xs ys =
        IsPermutation-map end (sharp-edges edges) (sharp-edges other) (IsPermutation-filter (λ x. is_sharp (sharpness x)) edges other h) in
        let whole =
        same-sharp_ends v (map end edges) (map end other) faces others (IsPermutation-map end edges other h) k xs ys p
        (count-any_order xs ys p) in
        subst (λ m. HaveSameWeights m (mask_of_rule v (map end other) others (rule_of_sharp_edges (places is_sharp (map sharpness other)))))
        (sym (sharp-rule v edges faces))
        (subst (HaveSameWeights (mask_of_sharp_ends v (map end edges) faces xs)) (sym (sharp-rule v other others)) whole)

    pub same-rule : (vertex : Sharpness)
        → HaveSameWeights (mask_of_rule v (map end edges) faces (vertex_rule vertex (map sharpness edges)))
        (mask_of_rule v (map end other) others (vertex_rule vertex (map sharpness other)))
    same-rule vertex =
        let r = rule_of_sharp_edges (places is_sharp (map sharpness edges)) in
        let s = rule_of_sharp_edges (places is_sharp (map sharpness other)) in
        let count = count-any_order (map sharpness edges) (map sharpness other) (IsPermutation-map sharpness edges other h) in
        subst (λ n. HaveSameWeights (mask_of_rule v (map end edges) faces (vertex_rule vertex (map sharpness edges))) (mask_of_rule v (map end other) others (if is_sharp vertex || nat_eq n 0 then CornerRule else s))) count
        (corner-or v (map end edges) (map end other) faces others (IsPermutation-map end edges other h) k
        (is_sharp vertex || nat_eq (length (map sharpness edges)) 0) r s same-sharp_rule)

-- two lists of places are the same
abbrev same_places : List ℕ → List ℕ → Bool
same_places [] [] = true
same_places [] (q ∷ qs) = false
same_places (p ∷ ps) [] = false
same_places (p ∷ ps) (q ∷ qs) = nat_eq p q && same_places ps qs

-- both tests pass or neither does
abbrev agree : Bool → Bool → Bool
agree true b = b
agree false true = false
agree false false = true

-- a place before all others is not among the others
before-all : {X : Type 0} (test : X → Bool) (p place : ℕ) (ps : List ℕ) (xs : List X) → p < place
    → (same_places (p ∷ ps) (places_from place test xs) ≡ false) × (same_places (places_from place test xs) (p ∷ ps) ≡ false)
before-all test p place ps [] h = (refl, refl)
before-all test p place ps (x ∷ xs) h =
    cond_both (test x) (place ∷ places_from (place + 1) test xs) (places_from (place + 1) test xs)
    (λ l. (same_places (p ∷ ps) l ≡ false) × (same_places l (p ∷ ps) ≡ false))
    (λ _. (
      ap (λ b. b && same_places ps (places_from (place + 1) test xs)) (ne_eqb p place (λ e. omega arith)),
      ap (λ b. b && same_places (places_from (place + 1) test xs) ps) (ne_eqb place p (λ e. omega arith)),
    ))
    (λ _. before-all test p (place + 1) ps xs (omega arith))

-- two tests pass at the same places exactly where they agree at each element
places-agree : {X : Type 0} (f g : X → Bool) (place : ℕ) (xs : List X)
    → same_places (places_from place f xs) (places_from place g xs) ≡ list_all (λ x. agree (f x) (g x)) xs
places-agree f g place [] = refl
places-agree f g place (x ∷ xs) = either (f x) (g x) (places-agree f g (place + 1) xs)
  where
    ps : List ℕ
    ps = places_from (place + 1) f xs

    qs : List ℕ
    qs = places_from (place + 1) g xs

    either : (b c : Bool) → same_places ps qs ≡ list_all (λ y. agree (f y) (g y)) xs
        → same_places (if b then place ∷ ps else ps) (if c then place ∷ qs else qs) ≡ (agree b c && list_all (λ y. agree (f y) (g y)) xs)
    either true true h = ap (λ b. b && same_places ps qs) (eq-eqb place place refl) ∙ h
    either true false h = (before-all g place (place + 1) ps xs (omega arith)).0
    either false true h = (before-all f place (place + 1) qs xs (omega arith)).1
    either false false h = h

-- whether rules with these numbers of sharp edges give one mask, where the last argument compares their places
abbrev same_by_counts : ℕ → ℕ → Bool → Bool
same_by_counts zero m b = nat_lt m 2
same_by_counts (suc zero) m b = nat_lt m 2
same_by_counts (suc (suc zero)) m b = nat_eq m 2 && b
same_by_counts (suc (suc (suc n))) m b = nat_lt 2 m

smooth-count : (ps : List ℕ) → is_smooth_or_dart (rule_of_sharp_edges ps) ≡ nat_lt (length ps) 2
smooth-count [] = refl
smooth-count (a ∷ []) = refl
smooth-count (a ∷ (b ∷ [])) = refl
smooth-count (a ∷ (b ∷ (c ∷ ps))) = sym (le-ltb (length (a ∷ b ∷ c ∷ ps)) 2 (omega arith))

crease-count : (a b : ℕ) (qs : List ℕ) → is_crease_of a b (rule_of_sharp_edges qs) ≡ (nat_eq (length qs) 2 && same_places (a ∷ b ∷ []) qs)
crease-count a b [] = refl
crease-count a b (c ∷ []) = refl
crease-count a b (c ∷ (d ∷ [])) = grind (arith, nat_tests)
crease-count a b (c ∷ (d ∷ (e ∷ qs))) =
    sym (ap (λ t. t && same_places (a ∷ b ∷ []) (c ∷ d ∷ e ∷ qs)) (ne_eqb (length (c ∷ d ∷ e ∷ qs)) 2 (λ same. omega arith)))

corner-count : (ps : List ℕ) → is_corner_rule (rule_of_sharp_edges ps) ≡ nat_lt 2 (length ps)
corner-count [] = refl
corner-count (a ∷ []) = refl
corner-count (a ∷ (b ∷ [])) = refl
corner-count (a ∷ (b ∷ (c ∷ ps))) = sym (lt-ltb 2 (length (a ∷ b ∷ c ∷ ps)) (omega arith))

rules-by_counts : (ps qs : List ℕ)
    → same_mask (rule_of_sharp_edges ps) (rule_of_sharp_edges qs) ≡ same_by_counts (length ps) (length qs) (same_places ps qs)
rules-by_counts [] qs = smooth-count qs
rules-by_counts (a ∷ []) qs = smooth-count qs
rules-by_counts (a ∷ (b ∷ [])) qs = crease-count a b qs
rules-by_counts (a ∷ (b ∷ (c ∷ ps))) qs = corner-count qs

-- a rule by sharp edges names the mask of a corner where more than two edges are sharp
rule-corner : (ps : List ℕ) → same_mask (rule_of_sharp_edges ps) CornerRule ≡ nat_lt 2 (length ps)
rule-corner [] = refl
rule-corner (a ∷ []) = refl
rule-corner (a ∷ (b ∷ [])) = refl
rule-corner (a ∷ (b ∷ (c ∷ ps))) = sym (lt-ltb 2 (length (a ∷ b ∷ c ∷ ps)) (omega arith))

same-rules : (b c : Bool) (ps qs us vs : List ℕ) → length ps ≡ length us → length qs ≡ length vs → same_places ps qs ≡ same_places us vs
    → same_mask (if b then CornerRule else rule_of_sharp_edges ps) (if c then CornerRule else rule_of_sharp_edges qs)
    ≡ same_mask (if b then CornerRule else rule_of_sharp_edges us) (if c then CornerRule else rule_of_sharp_edges vs)
same-rules true true ps qs us vs p q e = refl
same-rules true false ps qs us vs p q e = corner-count qs ∙ ap (nat_lt 2) q ∙ sym (corner-count vs)
same-rules false true ps qs us vs p q e = rule-corner ps ∙ ap (nat_lt 2) p ∙ sym (rule-corner us)
same-rules false false ps qs us vs p q e =
    rules-by_counts ps qs
    ∙ ap (λ n. same_by_counts n (length qs) (same_places ps qs)) p
    ∙ ap (λ n. same_by_counts (length us) n (same_places ps qs)) q
    ∙ ap (same_by_counts (length us) (length vs)) e
    ∙ sym (rules-by_counts us vs)

count-permuted : {X : Type 0} (test : X → Bool) (place : ℕ) (xs ys : List X) → IsPermutation xs ys
    → length (places_from place test xs) ≡ length (places_from place test ys)
count-permuted test place xs ys h =
    places-from-length test place xs ∙ sym (sum_by-IsPermutation (λ x. one_if (test x)) xs ys h) ∙ sym (places-from-length test place ys)

all-permuted : {X : Type 0} (test : X → Bool) (xs ys : List X) → IsPermutation xs ys → list_all test xs ≡ list_all test ys
all-permuted test = same_in_any_order (list_all test) (λ x b. test x && b) (λ x xs. refl) (λ x y b. swap (test x) (test y) b)
  where
    swap : (a b c : Bool) → (a && (b && c)) ≡ (b && (a && c))
    swap true b c = refl
    swap false true c = refl
    swap false false c = refl

-- whether two rules give one mask does not depend on the order of the edges
module _ {X : Type 0} (now next : X → Sharpness) (vertex vertex_child : Sharpness) (edges other : List X) (h : IsPermutation edges other) where
  sharp-count : (f : X → Sharpness) → length (places is_sharp (map f edges)) ≡ length (places is_sharp (map f other))
  sharp-count f = count-permuted is_sharp 0 (map f edges) (map f other) (IsPermutation-map f edges other h)

  sharp-agree : (some : List X)
      → same_places (places is_sharp (map now some)) (places is_sharp (map next some))
      ≡ list_all (λ x. agree (is_sharp (now x)) (is_sharp (next x))) some
  sharp-agree some =
      ap (λ l. same_places l (places is_sharp (map next some))) (places_from-map now is_sharp 0 some)
      ∙ ap (same_places (places_from 0 (λ x. is_sharp (now x)) some)) (places_from-map next is_sharp 0 some)
      ∙ places-agree (λ x. is_sharp (now x)) (λ x. is_sharp (next x)) 0 some

  sharp-places : same_places (places is_sharp (map now edges)) (places is_sharp (map next edges))
      ≡ same_places (places is_sharp (map now other)) (places is_sharp (map next other))
  sharp-places = sharp-agree edges ∙ all-permuted (λ x. agree (is_sharp (now x)) (is_sharp (next x))) edges other h ∙ sym (sharp-agree other)

  pub same_mask-any_order : same_mask (vertex_rule vertex (map now edges)) (vertex_rule vertex_child (map next edges))
      ≡ same_mask (vertex_rule vertex (map now other)) (vertex_rule vertex_child (map next other))
  same_mask-any_order =
      let ps = places is_sharp (map now edges) in
      let qs = places is_sharp (map next edges) in
      let us = places is_sharp (map now other) in
      let vs = places is_sharp (map next other) in
      let count : (f : X → Sharpness) → length (map f edges) ≡ length (map f other) =
      λ f. count-any_order (map f edges) (map f other) (IsPermutation-map f edges other h) in
      let named : ℕ → ℕ → Bool =
      λ n m. same_mask (if is_sharp vertex || nat_eq n 0 then CornerRule else rule_of_sharp_edges us)
      (if is_sharp vertex_child || nat_eq m 0 then CornerRule else rule_of_sharp_edges vs) in
      same-rules (is_sharp vertex || nat_eq (length (map now edges)) 0)
      (is_sharp vertex_child || nat_eq (length (map next edges)) 0) ps qs us vs (sharp-count now) (sharp-count next) sharp-places
      ∙ ap (λ n. named n (length (map next edges))) (count now)
      ∙ ap (named (length (map now other))) (count next)

  pub same-vertex : (end : X → ℕ) (v : ℕ) (faces others : List ℕ) → IsPermutation faces others
      → HaveSameWeights (mask_of_vertex vertex vertex_child (map now edges) (map next edges) v (map end edges) faces)
      (mask_of_vertex vertex vertex_child (map now other) (map next other) v (map end other) others)
  same-vertex end v faces others k =
      let parent = mask_of_rule v (map end edges) faces (vertex_rule vertex (map now edges)) in
      let child = mask_of_rule v (map end edges) faces (vertex_rule vertex_child (map next edges)) in
      let parent_other = mask_of_rule v (map end other) others (vertex_rule vertex (map now other)) in
      let child_other = mask_of_rule v (map end other) others (vertex_rule vertex_child (map next other)) in
      let w = transition_weight vertex vertex_child (map now edges) (map next edges) in
      let first = same-rule end now v edges other faces others h k vertex in
      let second = same-rule end next v edges other faces others h k vertex_child in
      let turn =
      same-if (same_mask (vertex_rule vertex (map now edges)) (vertex_rule vertex_child (map next edges))) parent
      (transition_mask w parent child) parent_other (transition_mask w parent_other child_other) first (same-transition w parent child parent_other child_other first second) in
      let whole = mask_of_vertex vertex vertex_child (map now edges) (map next edges) v (map end edges) faces in
      subst (λ u. HaveSameWeights whole (if same_mask (vertex_rule vertex (map now other)) (vertex_rule vertex_child (map next other)) then parent_other else transition_mask u parent_other child_other)) (weight-any_order now next vertex vertex_child edges other h)
      (subst (λ b. HaveSameWeights whole (if b then parent_other else transition_mask w parent_other child_other)) same_mask-any_order turn)

-- the order does not matter where the sharpness in the next level follows from the ring
module _ {X : Type 0} (now : X → Sharpness) (method : Method) where
  next-mapped : (ring : List Sharpness) (some : List X)
      → map (half_child method ring) (map now some) ≡ map (λ x. half_child method ring (now x)) some
  next-mapped ring [] = refl
  next-mapped ring (x ∷ some) = ap (λ l. half_child method ring (now x) ∷ l) (next-mapped ring some)

  pub same-next_vertex : (vertex vertex_child : Sharpness) (edges other : List X) → IsPermutation edges other
      → (end : X → ℕ) (v : ℕ) (faces others : List ℕ) → IsPermutation faces others
      → HaveSameWeights (mask_of_vertex vertex vertex_child (map now edges) (child_ring method (map now edges)) v (map end edges) faces)
      (mask_of_vertex vertex vertex_child (map now other) (child_ring method (map now other)) v (map end other) others)
  same-next_vertex vertex vertex_child edges other h end v faces others k =
      let ring = map now edges in
      let next : X → Sharpness = λ x. half_child method ring (now x) in
      let turned : map next other ≡ child_ring method (map now other) =
      sym (next-mapped ring other) ∙ half_children-any_order ring (map now other) (IsPermutation-map now edges other h) method (map now other) in
      let here = mask_of_vertex vertex vertex_child ring (child_ring method ring) v (map end edges) faces in
      subst (λ l. HaveSameWeights here (mask_of_vertex vertex vertex_child (map now other) l v (map end other) others)) turned
      (subst (λ l. HaveSameWeights (mask_of_vertex vertex vertex_child ring l v (map end edges) faces) (mask_of_vertex vertex vertex_child (map now other) (map next other) v (map end other) others)) (sym (next-mapped ring edges))
      (same-vertex now next vertex vertex_child edges other h end v faces others k))
