-- Lists of numbers, each linked to the next: properties along a list, and longest lists.
use Rattle.std.proofs.Common.{◌≡◌, ℕ, zero, suc, ◌<◌, ◌≤◌, Bool, true, false, not, ◌&&◌, ◌||◌, nat_eq, List, [], ◌∷◌, length, get_or, arith, refl, ap, sym, ◌∙◌, subst, ◌⊎◌, inl, inr}
use Rattle.std.specs.List.{filter, list_any}
use Rattle.std.proofs.lemmas.Bool.{and_parts, and_from, or_cases, or_left, or_right, eqb-true, eq-eqb, not-true, not_from_false, not_from_true, true_from_ne_false, false_from_ne_true, and_left, or_parts, or_from}
use Rattle.subdiv_model.specs.Lists.{last_of}
use Rattle.subdiv_model.specs.Polygons.{is_among, is_distinct}
use Rattle.mesh_laws.proofs.FanLemmas.{any-number, number-any}
use Rattle.mesh_laws.proofs.TurnedLemmas.{onto, onto-among, onto-distinct}
use Rattle.texture_laws.proofs.ReachLemmas.{among-filter, among-some, filter-more}

-- each number of the list is in the relation with the next one
abbrev pub IsLinked : (ℕ → ℕ → Type 0) → List ℕ → Type 0
IsLinked R [] = Unit {0}
IsLinked R (f ∷ []) = Unit {0}
IsLinked R (f ∷ (g ∷ rest)) = R f g × IsLinked R (g ∷ rest)

-- a property that passes from each item to the next holds of all if it holds of the first
pub linked-forth : (R : ℕ → ℕ → Type 0) (S : ℕ → Type 0) → ((f g : ℕ) → R f g → S f → S g) → (f n : ℕ) (rest : List ℕ) → IsLinked R (f ∷ rest) → S f → is_among (f ∷ rest) n ≡ true → S n
linked-forth R S forth f n [] linked first h = here (or_cases (nat_eq n f) false h)
  where
    here : (nat_eq n f ≡ true) ⊎ (false ≡ true) → S n
    here (inl same) = subst S (sym (eqb-true n f same)) first
    here (inr none) = absurd (cc)
linked-forth R S forth f n (g ∷ rest) linked first h = here (or_cases (nat_eq n f) (is_among (g ∷ rest) n) h) (λ k. linked-forth R S forth g n rest linked.1 (forth f g linked.0 first) k)
  where
    here : (nat_eq n f ≡ true) ⊎ (is_among (g ∷ rest) n ≡ true) → (is_among (g ∷ rest) n ≡ true → S n) → S n
    here (inl same) behind = subst S (sym (eqb-true n f same)) first
    here (inr more) behind = behind more

-- a property that passes from each item to the one before it holds for the first if it holds for any
pub linked-back : (R : ℕ → ℕ → Type 0) (S : ℕ → Type 0) → ((f g : ℕ) → R f g → S g → S f) → (f n : ℕ) (rest : List ℕ) → IsLinked R (f ∷ rest) → S n → is_among (f ∷ rest) n ≡ true → S f
linked-back R S back f n [] linked one h = here (or_cases (nat_eq n f) false h)
  where
    here : (nat_eq n f ≡ true) ⊎ (false ≡ true) → S f
    here (inl same) = subst S (eqb-true n f same) one
    here (inr none) = absurd (cc)
linked-back R S back f n (g ∷ rest) linked one h = here (or_cases (nat_eq n f) (is_among (g ∷ rest) n) h) (λ k. linked-back R S back g n rest linked.1 one k)
  where
    here : (nat_eq n f ≡ true) ⊎ (is_among (g ∷ rest) n ≡ true) → (is_among (g ∷ rest) n ≡ true → S g) → S f
    here (inl same) behind = subst S (eqb-true n f same) one
    here (inr more) behind = back f g linked.0 (behind more)

-- a property that passes in both directions holds of all or of none
pub linked-all : (R : ℕ → ℕ → Type 0) (S : ℕ → Type 0) → ((f g : ℕ) → R f g → S f → S g) → ((f g : ℕ) → R f g → S g → S f) → (m n : ℕ) (faces : List ℕ) → IsLinked R faces → S m → is_among faces m ≡ true → is_among faces n ≡ true → S n
linked-all R S forth back m n [] linked one h k = absurd (cc)
linked-all R S forth back m n (f ∷ rest) linked one h k = linked-forth R S forth f n rest linked (linked-back R S back f m rest linked one h) k

-- each number but the first has one before it
linked-before : (R : ℕ → ℕ → Type 0) (n f : ℕ) (rest : List ℕ) → IsLinked R (f ∷ rest) → is_among (f ∷ rest) n ≡ true → (n ≡ f) ⊎ ((m : ℕ) × (is_among (f ∷ rest) m ≡ true) × R m n)
linked-before R n f [] linked h = here (or_cases (nat_eq n f) false h)
  where
    here : (nat_eq n f ≡ true) ⊎ (false ≡ true) → (n ≡ f) ⊎ ((m : ℕ) × (is_among (f ∷ []) m ≡ true) × R m n)
    here (inl same) = inl (eqb-true n f same)
    here (inr none) = absurd (cc)
linked-before R n f (g ∷ rest) linked h = here (or_cases (nat_eq n f) (is_among (g ∷ rest) n) h) (λ k. linked-before R n g rest linked.1 k)
  where
    further : (n ≡ g) ⊎ ((m : ℕ) × (is_among (g ∷ rest) m ≡ true) × R m n) → (n ≡ f) ⊎ ((m : ℕ) × (is_among (f ∷ (g ∷ rest)) m ≡ true) × R m n)
    further (inl same) = inr (f, or_left _ _ (eq-eqb f f refl), subst (R f) (sym same) linked.0)
    further (inr found) = inr (found.0, or_right (nat_eq found.0 f) _ found.1, found.2)

    here : (nat_eq n f ≡ true) ⊎ (is_among (g ∷ rest) n ≡ true) → (is_among (g ∷ rest) n ≡ true → (n ≡ g) ⊎ ((m : ℕ) × (is_among (g ∷ rest) m ≡ true) × R m n)) → (n ≡ f) ⊎ ((m : ℕ) × (is_among (f ∷ (g ∷ rest)) m ≡ true) × R m n)
    here (inl same) behind = inl (eqb-true n f same)
    here (inr more) behind = further (behind more)

-- the reversed list is linked by the reversed relation
linked-onto : (R : ℕ → ℕ → Type 0) (f : ℕ) (acc rest : List ℕ) → IsLinked (λ m n. R n m) (f ∷ acc) → IsLinked R (f ∷ rest) → IsLinked (λ m n. R n m) (onto (f ∷ acc) rest)
linked-onto R f acc [] before linked = before
linked-onto R f acc (g ∷ rest) before linked = linked-onto R g (f ∷ acc) rest (linked.0, before) linked.1

onto-first : (d f : ℕ) (acc rest : List ℕ) → get_or (onto (f ∷ acc) rest) 0 d ≡ last_of f rest
onto-first d f acc [] = refl
onto-first d f acc (g ∷ rest) = onto-first d g (f ∷ acc) rest

onto-last : (d f : ℕ) (acc rest : List ℕ) → last_of d (onto (f ∷ acc) rest) ≡ last_of f acc
onto-last d f acc [] = refl
onto-last d f acc (g ∷ rest) = onto-last d g (f ∷ acc) rest

once-or : (a b : Bool) → ((a || false) || b) ≡ (a || b)
once-or true b = refl
once-or false b = refl

turned-same : (f : ℕ) (rest : List ℕ) (n : ℕ) → is_among (onto (f ∷ []) rest) n ≡ is_among (f ∷ rest) n
turned-same f rest n = onto-among (f ∷ []) rest n ∙ once-or (nat_eq n f) (is_among rest n)

turned-once : (f : ℕ) (rest : List ℕ) → is_distinct (f ∷ rest) ≡ true → is_distinct (onto (f ∷ []) rest) ≡ true
turned-once f rest once =
    let parts = and_parts (not (is_among rest f)) (is_distinct rest) once in
    onto-distinct (f ∷ []) rest refl parts.1 (λ n h. or_from _ _ (false_from_ne_true _ (λ same.
    let there = ap (is_among rest) (sym (eqb-true n f same)) ∙ h in
    let gone = not-true _ parts.0 in
    cc)) refl)

linked-before-in : (R : ℕ → ℕ → Type 0) (n d : ℕ) (xs : List ℕ) → IsLinked R xs → is_among xs n ≡ true → (n ≡ get_or xs 0 d) ⊎ ((m : ℕ) × (is_among xs m ≡ true) × R m n)
linked-before-in R n d [] linked h = absurd (cc)
linked-before-in R n d (f ∷ rest) linked h = linked-before R n f rest linked h

not-among : (g n : ℕ) (xs : List ℕ) → not (is_among (g ∷ xs) n) ≡ true → not (is_among xs n) ≡ true
not-among g n xs h = not_from_false _ (or_parts (nat_eq n g) (is_among xs n) (not-true _ h)).1

-- a list with one more number lacks fewer of the others
lacks-less : (all xs : List ℕ) (g : ℕ) → is_among all g ≡ true → is_among xs g ≡ false → length (filter (λ n. not (is_among (g ∷ xs) n)) all) < length (filter (λ n. not (is_among xs n)) all)
lacks-less all xs g there gone = here (filter-more (λ n. not (is_among (g ∷ xs) n)) (λ n. not (is_among xs n)) (λ n h. not-among g n xs h) all)
  where
    here : (filter (λ n. not (is_among (g ∷ xs) n)) all ≡ filter (λ n. not (is_among xs n)) all) ⊎ (length (filter (λ n. not (is_among (g ∷ xs) n)) all) < length (filter (λ n. not (is_among xs n)) all)) → length (filter (λ n. not (is_among (g ∷ xs) n)) all) < length (filter (λ n. not (is_among xs n)) all)
    here (inr less) = less
    here (inl same) =
        let is_in : is_among (filter (λ n. not (is_among xs n)) all) g ≡ true = among-filter (λ n. not (is_among xs n)) g all ∙ and_from _ _ (not_from_false _ gone) there in
        let is_out : is_among (filter (λ n. not (is_among (g ∷ xs) n)) all) g ≡ false = among-filter (λ n. not (is_among (g ∷ xs) n)) g all ∙ and_left _ _ (not_from_true _ (or_left _ _ (eq-eqb g g refl))) in
        let both = ap (λ (ys : List ℕ). is_among ys g) same in
        absurd (cc)

-- a linked list grows at its front as long as a new item precedes its first
module _ (follows : ℕ → ℕ → Bool) (all : List ℕ) (inside : (f g : ℕ) → follows f g ≡ true → is_among all f ≡ true) where
  abbrev pub Follows : ℕ → ℕ → Type 0
  Follows f g = follows f g ≡ true

  pub record IsLongest (xs : List ℕ) : Type 0 where
    pub first : ℕ
    pub rest : List ℕ
    pub linked : IsLinked Follows (first ∷ rest)
    pub once : is_distinct (first ∷ rest) ≡ true
    pub kept : (n : ℕ) → is_among xs n ≡ true → is_among (first ∷ rest) n ≡ true
    pub last : last_of first rest ≡ last_of 0 xs
    pub stops : (g : ℕ) → follows g first ≡ true → is_among (first ∷ rest) g ≡ true

  longest : (fuel f : ℕ) (rest : List ℕ) → IsLinked Follows (f ∷ rest) → is_distinct (f ∷ rest) ≡ true → length (filter (λ n. not (is_among (f ∷ rest) n)) all) ≤ fuel → IsLongest (f ∷ rest)
  longest zero f rest linked once enough =
      record {
        first = f;
        rest = rest;
        linked = linked;
        once = once;
        kept = λ n h. h;
        last = refl;
        stops = λ g h. true_from_ne_false _ (λ gone.
            let some = among-some g (filter (λ n. not (is_among (f ∷ rest) n)) all) (among-filter (λ n. not (is_among (f ∷ rest) n)) g all ∙ and_from _ _ (not_from_false _ gone) (inside g f h)) in
            omega arith);
      }
  longest (suc fuel) f rest linked once enough =
      here (list_any (λ g. follows g f && not (is_among (f ∷ rest) g)) all) refl (λ g before new less. longest fuel g (f ∷ rest) before new less)
    where
      here : (b : Bool) → list_any (λ g. follows g f && not (is_among (f ∷ rest) g)) all ≡ b → ((g : ℕ) → IsLinked Follows (g ∷ (f ∷ rest)) → is_distinct (g ∷ (f ∷ rest)) ≡ true → length (filter (λ n. not (is_among (g ∷ (f ∷ rest)) n)) all) ≤ fuel → IsLongest (g ∷ (f ∷ rest))) → IsLongest (f ∷ rest)
      here false none behind =
          record {
            first = f;
            rest = rest;
            linked = linked;
            once = once;
            kept = λ n h. h;
            last = refl;
            stops = λ g h. true_from_ne_false _ (λ gone.
                let some = number-any (λ g. follows g f && not (is_among (f ∷ rest) g)) all g (and_from _ _ h (not_from_false _ gone)) (inside g f h) in
                cc);
          }
      here true some behind =
          let found = any-number (λ g. follows g f && not (is_among (f ∷ rest) g)) all some in
          let g : ℕ = found.0 in
          let parts = and_parts (follows g f) (not (is_among (f ∷ rest) g)) found.1 in
          let less = lacks-less all (f ∷ rest) g found.2 (not-true _ parts.1) in
          let more = behind g (parts.0, linked) (and_from _ _ parts.1 once) (omega arith) in
          record {
            first = more.first;
            rest = more.rest;
            linked = more.linked;
            once = more.once;
            kept = λ n h. more.kept n (or_right (nat_eq n g) _ h);
            last = more.last;
            stops = more.stops;
          }

  pub longest-of : (n : ℕ) (xs : List ℕ) → is_among xs n ≡ true → IsLinked Follows xs → is_distinct xs ≡ true → IsLongest xs
  longest-of n [] h linked once = absurd (cc)
  longest-of n (f ∷ rest) h linked once = longest (length (filter (λ m. not (is_among (f ∷ rest) m)) all)) f rest linked once (omega arith)

-- where each number has one after it and one before it at most, those that are linked with one are a linked list
module _ (follows : ℕ → ℕ → Bool) (all : List ℕ) (from : (f g : ℕ) → follows f g ≡ true → is_among all f ≡ true) (onward : (f g : ℕ) → follows f g ≡ true → is_among all g ≡ true) (one_after : (f g h : ℕ) → follows f g ≡ true → follows f h ≡ true → g ≡ h) (one_before : (f g h : ℕ) → follows f h ≡ true → follows g h ≡ true → f ≡ g) where
  pub record IsChain (f : ℕ) : Type 0 where
    pub faces : List ℕ
    pub linked : IsLinked (λ m n. follows m n ≡ true) faces
    pub once : is_distinct faces ≡ true
    pub has : is_among faces f ≡ true
    pub forth : (m n : ℕ) → is_among faces m ≡ true → follows m n ≡ true → is_among faces n ≡ true
    pub back : (m n : ℕ) → is_among faces n ≡ true → follows m n ≡ true → is_among faces m ≡ true

  chain-from : (f : ℕ) (one : IsLongest follows all from (f ∷ [])) → IsLongest (λ m n. follows n m) all (λ m n h. onward n m h) (onto (one.first ∷ []) one.rest) → IsChain f
  chain-from f one two =
      record {
        faces = onto (two.first ∷ []) two.rest;
        linked = linked;
        once = turned-once two.first two.rest two.once;
        has = forward f (one.kept f (or_left _ _ (eq-eqb f f refl)));
        forth = λ m n h k. after m n k (linked-before (λ x y. follows y x ≡ true) m two.first two.rest two.linked (sym (turned-same two.first two.rest m) ∙ h));
        back = λ m n h k. before m n k (linked-before-in (λ x y. follows x y ≡ true) n 0 (onto (two.first ∷ []) two.rest) linked h);
      }
    where
      linked : IsLinked (λ m n. follows m n ≡ true) (onto (two.first ∷ []) two.rest)
      linked = linked-onto (λ m n. follows n m ≡ true) two.first [] two.rest tt two.linked

      forward : (n : ℕ) → is_among (one.first ∷ one.rest) n ≡ true → is_among (onto (two.first ∷ []) two.rest) n ≡ true
      forward n h = turned-same two.first two.rest n ∙ two.kept n (turned-same one.first one.rest n ∙ h)

      after : (m n : ℕ) → follows m n ≡ true → (m ≡ two.first) ⊎ ((z : ℕ) × (is_among (two.first ∷ two.rest) z ≡ true) × (follows m z ≡ true)) → is_among (onto (two.first ∷ []) two.rest) n ≡ true
      after m n k (inl same) = turned-same two.first two.rest n ∙ two.stops n (ap (λ (x : ℕ). follows x n) (sym same) ∙ k)
      after m n k (inr found) = turned-same two.first two.rest n ∙ ap (is_among (two.first ∷ two.rest)) (one_after m n found.0 k found.2) ∙ found.1

      before : (m n : ℕ) → follows m n ≡ true → (n ≡ get_or (onto (two.first ∷ []) two.rest) 0 0) ⊎ ((z : ℕ) × (is_among (onto (two.first ∷ []) two.rest) z ≡ true) × (follows z n ≡ true)) → is_among (onto (two.first ∷ []) two.rest) m ≡ true
      before m n k (inl same) =
          let head = onto-first 0 two.first [] two.rest ∙ two.last ∙ onto-last 0 one.first [] one.rest in
          forward m (one.stops m (ap (follows m) (sym (same ∙ head)) ∙ k))
      before m n k (inr found) = ap (is_among (onto (two.first ∷ []) two.rest)) (one_before m found.0 n k found.2) ∙ found.1

  pub chain : (f : ℕ) → IsChain f
  chain f =
      let one = longest-of follows all from f (f ∷ []) (or_left _ _ (eq-eqb f f refl)) tt refl in
      chain-from f one (second one)
    where
      second : (one : IsLongest follows all from (f ∷ [])) → IsLongest (λ m n. follows n m) all (λ m n h. onward n m h) (onto (one.first ∷ []) one.rest)
      second one =
          longest-of (λ m n. follows n m) all (λ m n h. onward n m h) f (onto (one.first ∷ []) one.rest) (turned-same one.first one.rest f ∙ one.kept f (or_left _ _ (eq-eqb f f refl))) (linked-onto (λ m n. follows m n ≡ true) one.first [] one.rest tt one.linked) (turned-once one.first one.rest one.once)
