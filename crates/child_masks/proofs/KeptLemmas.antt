-- Masks that are kept: one more, one fewer, and the one of a vertex.
use Rattle.std.proofs.Common.{◌≡◌, ℕ, zero, suc, ◌+◌, ◌<◌, ◌≤◌, Some, None, List, [], ◌∷◌, ◌++◌, length, map, get_or, set, replicate, slice_range, arith, refl, ap, sym, ◌∙◌, subst}
use Rattle.std.specs.List.{AllByRecursion}
use Rattle.std.proofs.lemmas.Grind.{common_steps}
use Rattle.std.proofs.lemmas.List.{map-set, get_or_append_left, length-append}
use Rattle.std.proofs.lemmas.List.Elements.{All-from_recursion}
use Rattle.subdiv_model.specs.Mask.{Mask}
use Rattle.mask_rules.specs.declared.mask.Term.{Term}
use Rattle.mask_rules.specs.View.{terms_of}
use Rattle.child_masks.specs.declared.kept.Kept.{Kept}
use Rattle.child_masks.specs.Kept.{mask_in, mask_at, list_in, AreKept, IsPushed}

abbrev blank : Kept
blank = record { start = 0; end = 0; denominator = 0 }

abbrev IsInside : ℕ → Kept → Type 0
IsInside n kept = (kept.start ≤ kept.end) × (kept.end ≤ n)

-- a part of a list is also that part of a longer list, and the rest of the longer list is the addition
range-append : {X : Type 0} (xs ys : List X) (a b : ℕ) → b ≤ length xs → slice_range (xs ++ ys) a b ≡ slice_range xs a b
range-append xs ys a b h = grind (arith, common_steps)

range-rest : {X : Type 0} (xs ys : List X) → slice_range (xs ++ ys) (length xs) (length xs + length ys) ≡ ys
range-rest xs ys = grind (arith, common_steps)

last-of : {X : Type 0} (xs : List X) (x d : X) → get_or (xs ++ x ∷ []) (length xs) d ≡ x
last-of [] x d = refl
last-of (y ∷ xs) x d = last-of xs x d

-- a mask is unchanged if others come after it
mask-stays : (masks more : List Kept) (terms extra : List Term) (place : ℕ) → place ≤ length masks → AllByRecursion (IsInside (length terms)) masks
    → mask_at (masks ++ more) (terms ++ extra) place ≡ mask_at masks terms place
mask-stays masks more terms extra zero h all = refl
mask-stays masks more terms extra (suc i) h all =
    let inside : i < length masks = omega (arith, h) in
    let own = All-from_recursion (IsInside (length terms)) masks all i blank inside in
    let kept = get_or masks i blank in
    let here : mask_in (terms ++ extra) kept ≡ mask_in terms kept =
    ap (λ l. record { terms = terms_of l; denominator = kept.denominator }) (range-append terms extra kept.start kept.end own.1) in
    ap Some (ap (mask_in (terms ++ extra)) (get_or_append_left masks more blank i inside) ∙ here)

all-stay : (masks more : List Kept) (terms extra : List Term) (places : List ℕ) → AllByRecursion (λ place. place ≤ length masks) places
    → AllByRecursion (IsInside (length terms)) masks → map (mask_at (masks ++ more) (terms ++ extra)) places ≡ map (mask_at masks terms) places
all-stay masks more terms extra [] h all = refl
all-stay masks more terms extra (place ∷ places) h all =
    ap (λ m. m ∷ map (mask_at (masks ++ more) (terms ++ extra)) places) (mask-stays masks more terms extra place h.0 all)
    ∙ ap (λ l. mask_at masks terms place ∷ l) (all-stay masks more terms extra places h.1 all)

-- the last mask
mask-pushed : (mask : Mask) (masks : List Kept) (terms : List Term) (new_masks : List Kept) (new_terms : List Term) → IsPushed mask masks terms new_masks new_terms
    → mask_at new_masks new_terms (suc (length masks)) ≡ Some mask
mask-pushed mask masks terms new_masks new_terms is =
    let own : Kept = record { start = length terms; end = length terms + length is.more; denominator = mask.denominator } in
    ap (λ l. mask_at l new_terms (suc (length masks))) is.masks_are
    ∙ ap (λ l. mask_at (masks ++ own ∷ []) l (suc (length masks))) is.terms_are
    ∙ ap (λ k. Some (mask_in (terms ++ is.more) k)) (last-of masks own blank)
    ∙ ap (λ l. Some (record { terms = terms_of l; denominator = mask.denominator })) (range-rest terms is.more)
    ∙ ap (λ l. Some (record { terms = l; denominator = mask.denominator })) is.mask_is

length-pushed : (mask : Mask) (masks : List Kept) (terms : List Term) (new_masks : List Kept) (new_terms : List Term) → IsPushed mask masks terms new_masks new_terms
    → length new_masks ≡ length masks + 1
length-pushed mask masks terms new_masks new_terms is = ap length is.masks_are ∙ length-append masks _

-- a list with one item replaced keeps a property that the new item has
all-set : {X : Type 0} (P : X → Type 0) (xs : List X) (i : ℕ) (y : X) → AllByRecursion P xs → P y → AllByRecursion P (set xs i y)
all-set P [] i y h p = tt
all-set P (x ∷ xs) zero y h p = (p, h.1)
all-set P (x ∷ xs) (suc i) y h p = (h.0, all-set P xs i y h.1 p)

all-weaker : {X : Type 0} (P Q : X → Type 0) → ((x : X) → P x → Q x) → (xs : List X) → AllByRecursion P xs → AllByRecursion Q xs
all-weaker P Q f [] h = tt
all-weaker P Q f (x ∷ xs) h = (f x h.0, all-weaker P Q f xs h.1)

all-push : {X : Type 0} (P : X → Type 0) (xs : List X) (y : X) → AllByRecursion P xs → P y → AllByRecursion P (xs ++ y ∷ [])
all-push P [] y h p = (p, tt)
all-push P (x ∷ xs) y h p = (h.0, all-push P xs y h.1 p)

-- a vertex has the mask that was put last
pub kept-list : (places : List ℕ) (masks : List Kept) (terms : List Term) (v place : ℕ) (mask : Mask) (new_masks : List Kept) (new_terms : List Term)
    → AreKept places masks terms → IsPushed mask masks terms new_masks new_terms → place ≡ length new_masks
    → list_in (set places v place) new_masks new_terms ≡ record { masks = set (map (mask_at masks terms) places) v (Some mask); count = length masks + 1 }
kept-list places masks terms v place mask new_masks new_terms are is e =
    let last : place ≡ suc (length masks) = e ∙ length-pushed mask masks terms new_masks new_terms is ∙ omega arith in
    let own : mask_at new_masks new_terms place ≡ Some mask = ap (mask_at new_masks new_terms) last ∙ mask-pushed mask masks terms new_masks new_terms is in
    let pushed : Kept = record { start = length terms; end = length terms + length is.more; denominator = mask.denominator } in
    let others : map (mask_at new_masks new_terms) places ≡ map (mask_at masks terms) places =
    ap (λ l. map (mask_at l new_terms) places) is.masks_are ∙ ap (λ l. map (mask_at (masks ++ pushed ∷ []) l) places) is.terms_are
    ∙ all-stay masks (pushed ∷ []) terms is.more places are.placed are.inside in
    let all : map (mask_at new_masks new_terms) (set places v place) ≡ set (map (mask_at masks terms) places) v (Some mask) =
    map-set (mask_at new_masks new_terms) places v place ∙ ap (λ m. set (map (mask_at new_masks new_terms) places) v m) own ∙ ap (λ l. set l v (Some mask)) others in
    ap (λ l. record { masks = l; count = length new_masks }) all
    ∙ ap (λ n. record { masks = set (map (mask_at masks terms) places) v (Some mask); count = n }) (length-pushed mask masks terms new_masks new_terms is)

-- each place still has a mask, and each mask its terms
pub kept-still : (places : List ℕ) (masks : List Kept) (terms : List Term) (v place : ℕ) (mask : Mask) (new_masks : List Kept) (new_terms : List Term)
    → AreKept places masks terms → IsPushed mask masks terms new_masks new_terms → place ≡ length new_masks → AreKept (set places v place) new_masks new_terms
kept-still places masks terms v place mask new_masks new_terms are is e =
    let longer = length-pushed mask masks terms new_masks new_terms is in
    let grown : length new_terms ≡ length terms + length is.more = ap length is.terms_are ∙ length-append terms is.more in
    record {
      placed = all-set (λ p. p ≤ length new_masks) places v place
          (all-weaker (λ p. p ≤ length masks) (λ p. p ≤ length new_masks) (λ p h. omega (arith, h, longer)) places are.placed) (omega (arith, e));
      inside = subst (AllByRecursion (IsInside (length new_terms))) (sym is.masks_are)
          (all-push (IsInside (length new_terms)) masks _
          (all-weaker (IsInside (length terms)) (IsInside (length new_terms)) (λ k h. (h.0, omega (arith, h.1, grown))) masks are.inside)
          (omega arith, omega (arith, grown)));
    }

-- a vertex has no mask
pub left-list : (places : List ℕ) (masks : List Kept) (terms : List Term) (v : ℕ)
    → list_in (set places v 0) masks terms ≡ record { masks = set (map (mask_at masks terms) places) v None; count = length masks }
left-list places masks terms v = ap (λ l. record { masks = l; count = length masks }) (map-set (mask_at masks terms) places v 0)

-- none has one
pub none-list : (places : List ℕ) (masks : List Kept) (terms : List Term) (n : ℕ) → places ≡ replicate n 0 → masks ≡ [] → terms ≡ []
    → list_in places masks terms ≡ record { masks = replicate n None; count = 0 }
none-list places masks terms n e h k =
    ap (λ l. list_in l masks terms) e ∙ ap (λ l. list_in (replicate n 0) l terms) h ∙ ap (λ l. list_in (replicate n 0) [] l) k
    ∙ ap (λ l. record { masks = l; count = 0 }) (each n)
  where
    each : (n : ℕ) → map (mask_at [] []) (replicate n 0) ≡ replicate n None
    each zero = refl
    each (suc n) = ap (λ l. None ∷ l) (each n)
