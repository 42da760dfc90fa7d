-- The edges of a part of the next level with one child face more.
use Rattle.std.proofs.Common.{◌≡◌, ℕ, zero, suc, ◌+◌, ◌<◌, ◌≤◌, Bool, true, false, not, nat_eq, nat_lt, List, [], ◌∷◌, ◌++◌, length, map, take, get_or, arith, refl, ap, sym, ◌∙◌, subst}
use Rattle.std.specs.List.{All, list_all, list_any}
use Rattle.std.proofs.lemmas.Bool.Decides.{nat_tests}
use Rattle.std.proofs.lemmas.Bool.{and_parts}
use Rattle.std.proofs.lemmas.List.{map-append, length-append, length-take-le, take_more, get_or_append_left}
use Rattle.std.proofs.Math.Seq.{get_or-append_seam}
use Rattle.std.proofs.lemmas.List.Sums.{list_all-from_AllPass}
use Rattle.subdiv_model.specs.Polygons.{Polygon, polygon_at, same_side, same_edge, sides_of, is_among, is_over, has_side, has_distinct_sides}
use Rattle.subdiv_model.specs.Edges.{all_sides}
use Rattle.subdiv_model.specs.Manifold.{is_simple}
use Rattle.subdiv_model.specs.Sharpness.{Smooth}
use Rattle.mesh_laws.proofs.SideLemmas.{polygon-edge-count}
use Rattle.mesh_laws.proofs.ClosedLemmas.{all-at}
use Rattle.mesh_laws.proofs.ChildPlaceLemmas.{own-sides}
use Rattle.child_slots.specs.Slots.{slot_count}
use Rattle.child_slots.specs.Slotted.{Slotted, number_at, with_slot, with_slots}
use Rattle.child_slots.specs.Parts.{Part, IsPart, part_polygons, renumbered}
use Rattle.child_slots.specs.Walked.{IsPartSlot, IsWalked, numbered_of}
use Rattle.child_slots.proofs.SlotTellLemmas.{slots-tell}
use Rattle.level_topology.specs.Numbering.{number_in, with_side, with_sides, IsNumbering}
use Rattle.level_topology.proofs.NumberingLemmas.{numbering-sides, numbering-face}
use Rattle.child_slots.proofs.PartLemmas.{edge-renumbered, quads-count, quads-simple, fresh-side, first-distinct}

-- where equal slots mean equal sides, a slot is in the list exactly where its side is, and at the same place
pub slot-and-side-alike : (a : ℕ) (s : ℕ × ℕ) (slots : List ℕ) (ends : List (ℕ × ℕ)) → length slots ≡ length ends → ((e : ℕ) → e < length ends → nat_eq a (get_or slots e 0) ≡ same_edge s (get_or ends e (0, 0))) → (is_among slots a ≡ list_any (same_edge s) ends) × (number_at slots a ≡ number_in ends s)
slot-and-side-alike a s [] [] long tells = (refl, refl)
slot-and-side-alike a s [] (t ∷ ends) long tells = absurd (omega (arith, long))
slot-and-side-alike a s (b ∷ slots) [] long tells = absurd (omega (arith, long))
slot-and-side-alike a s (b ∷ slots) (t ∷ ends) long tells =
    let first : nat_eq a b ≡ same_edge s t = tells 0 (omega arith) in
    let rest = slot-and-side-alike a s slots ends (omega (arith, long)) (λ e h. tells (suc e) (omega (arith, h))) in
    (rw (first, rest.0) refl, rw (first, rest.1) refl)

-- a slot and a side that are found alike give the same edges
side-of-slot : (face : ℕ) (n : Slotted) (a : ℕ) (s : ℕ × ℕ) → is_among n.slots a ≡ list_any (same_edge s) n.ends → number_at n.slots a ≡ number_in n.ends s → numbered_of (with_slot face n (a, s)) ≡ with_side face (numbered_of n) s
side-of-slot face n a s known number = go (list_any (same_edge s) n.ends) refl
  where
    go : (b : Bool) → list_any (same_edge s) n.ends ≡ b → numbered_of (with_slot face n (a, s)) ≡ with_side face (numbered_of n) s
    go true e = let there = known ∙ e in rw (there, e, number) refl
    go false e = let none = known ∙ e in let more = map-append (λ (t : ℕ × ℕ). Smooth) n.ends (s ∷ []) in rw (none, e, more) refl

module _ (points : ℕ) (polygons : List Polygon) (over : is_over points polygons ≡ true) (simple : list_all is_simple polygons ≡ true) (p : Part) (is : IsPart points polygons p) where
  -- two slots of the part are equal exactly where their sides are
  part-slots-tell : (a b : ℕ) (s t : ℕ × ℕ) → IsPartSlot points polygons p a s → IsPartSlot points polygons p b t → nat_eq a b ≡ same_edge s t
  part-slots-tell a b s t h k =
      let u = h.whole in
      let w = k.whole in
      let alike = edge-renumbered p.number u w (is.apart u.0 w.0 h.first k.first) (is.apart u.1 w.1 h.second k.second) (is.apart u.0 w.1 h.first k.second) (is.apart u.1 w.0 h.second k.first) in
      slots-tell points polygons over simple a b u w h.slot_is k.slot_is ∙ sym alike ∙ ap (λ x. same_edge x (renumbered p.number w)) (sym h.side_is) ∙ ap (same_edge s) (sym k.side_is)

  -- each edge has its slot
  pub record HasSlots (n : Slotted) : Type 0 where
    pub slots : (e : ℕ) → e < length n.ends → IsPartSlot points polygons p (get_or n.slots e 0) (get_or n.ends e (0, 0))
    pub listed : length n.slots ≡ length n.ends
    pub count_is : n.count ≡ slot_count polygons

  pub slot-known : (n : Slotted) (a : ℕ) (s : ℕ × ℕ) → HasSlots n → IsPartSlot points polygons p a s → (is_among n.slots a ≡ list_any (same_edge s) n.ends) × (number_at n.slots a ≡ number_in n.ends s)
  slot-known n a s has slot = slot-and-side-alike a s n.slots n.ends has.listed (λ e h. part-slots-tell a (get_or n.slots e 0) s (get_or n.ends e (0, 0)) slot (has.slots e h))

  -- with one side more, each edge still has its slot
  has-more : (face : ℕ) (n : Slotted) (a : ℕ) (s : ℕ × ℕ) → HasSlots n → IsPartSlot points polygons p a s → HasSlots (with_slot face n (a, s))
  has-more face n a s has slot = go (is_among n.slots a) refl
    where
      go : (b : Bool) → is_among n.slots a ≡ b → HasSlots (with_slot face n (a, s))
      go true e = rw e (record { slots = has.slots; listed = has.listed; count_is = has.count_is })
      go false e = rw e (record {
        slots = each;
        listed = omega (arith, has.listed, length-append n.slots (a ∷ []), length-append n.ends (s ∷ []));
        count_is = has.count_is;
      })
        where
          each : (k : ℕ) → k < length (n.ends ++ s ∷ []) → IsPartSlot points polygons p (get_or (n.slots ++ a ∷ []) k 0) (get_or (n.ends ++ s ∷ []) k (0, 0))
          each k h = at (nat_lt k (length n.ends)) refl
            where
              at : (b : Bool) → nat_lt k (length n.ends) ≡ b → IsPartSlot points polygons p (get_or (n.slots ++ a ∷ []) k 0) (get_or (n.ends ++ s ∷ []) k (0, 0))
              at true low =
                  let inside : k < length n.ends = grind (arith, nat_tests) in
                  let inside' : k < length n.slots = omega (arith, inside, has.listed) in
                  rw (get_or_append_left n.slots (a ∷ []) 0 k inside', get_or_append_left n.ends (s ∷ []) (0, 0) k inside) (has.slots k inside)
              at false high =
                  let not_below : length n.ends ≤ k = grind (arith, nat_tests) in
                  let last : k ≡ length n.ends = omega (arith, h, not_below, length-append n.ends (s ∷ [])) in
                  let number : get_or (n.slots ++ a ∷ []) k 0 ≡ a = ap (λ i. get_or (n.slots ++ a ∷ []) i 0) (last ∙ sym has.listed) ∙ get_or-append_seam n.slots a [] 0 in
                  let end : get_or (n.ends ++ s ∷ []) k (0, 0) ≡ s = ap (λ i. get_or (n.ends ++ s ∷ []) i (0, 0)) last ∙ get_or-append_seam n.ends s [] (0, 0) in
                  rw (number, end) slot

  -- the sides of a face give the same edges by their slots
  sides-of-slots : (face : ℕ) (n : Slotted) (pairs : List (ℕ × (ℕ × ℕ))) → HasSlots n → All (λ s. IsPartSlot points polygons p s.0 s.1) pairs → HasSlots (with_slots face n pairs) × (numbered_of (with_slots face n pairs) ≡ with_sides face (numbered_of n) (map (λ s. s.1) pairs))
  sides-of-slots face n [] has all = (has, refl)
  sides-of-slots face n (s ∷ pairs) has all =
      let first : IsPartSlot points polygons p s.0 s.1 = all 0 s (omega arith) in
      let known = slot-known n s.0 s.1 has first in
      let one = side-of-slot face n s.0 s.1 known.0 known.1 in
      let rest = sides-of-slots face (with_slot face n s) pairs (has-more face n s.0 s.1 has first) (λ k d h. all (suc k) d (omega (arith, h))) in
      (rest.0, rest.1 ∙ ap (λ m. with_sides face m (map (λ s. s.1) pairs)) one)

  module _ (distinct : has_distinct_sides (all_sides polygons) ≡ true) where
    -- the first child faces are simple
    first-simple : (k : ℕ) → list_all is_simple (take k (part_polygons points polygons p)) ≡ true
    first-simple k = take-all k (part_polygons points polygons p) (quads-simple points polygons over simple p is)
      where
        take-all : (k : ℕ) (some : List Polygon) → list_all is_simple some ≡ true → list_all is_simple (take k some) ≡ true
        take-all zero some h = refl
        take-all (suc k) [] h = refl
        take-all (suc k) (q ∷ some) h =
            let parts = and_parts (is_simple q) (list_all is_simple some) h in
            let behind = take-all k some parts.1 in
            rw parts.0 behind

    -- a child face has no side of one before it
    fresh-sides : (k : ℕ) → k < length p.places → list_all (λ s. not (list_any (same_side s) (all_sides (take k (part_polygons points polygons p))))) (sides_of (polygon_at (part_polygons points polygons p) k)) ≡ true
    fresh-sides k inside = list_all-from_AllPass _ (sides_of q) (λ i d h. ap not (fresh-side points polygons over simple p is distinct k (get_or (sides_of q) i d) inside (own i d h)))
      where
        q : Polygon
        q = polygon_at (part_polygons points polygons p) k

        own : (i : ℕ) (d : ℕ × ℕ) → i < length (sides_of q) → has_side (get_or (sides_of q) i d) q ≡ true
        own i d h = all-at (λ s. list_any (same_side s) (sides_of q)) (sides_of q) i d h (own-sides (sides_of q))

    -- a child face more
    pub walked-step : (k : ℕ) (n m : Slotted) (pairs : List (ℕ × (ℕ × ℕ))) → k < length p.places → IsWalked points polygons p k n → All (λ s. IsPartSlot points polygons p s.0 s.1) pairs → map (λ s. s.1) pairs ≡ sides_of (polygon_at (part_polygons points polygons p) k) → m ≡ with_slots k n pairs → IsWalked points polygons p (k + 1) m
    walked-step k n m pairs inside walked all sides made = subst (λ x. IsWalked points polygons p (k + 1) x) (sym made) more
      where
        q : Polygon
        q = polygon_at (part_polygons points polygons p) k

        within : k < length (part_polygons points polygons p)
        within = omega (arith, inside, quads-count points polygons over simple p is)

        both : HasSlots (with_slots k n pairs) × (numbered_of (with_slots k n pairs) ≡ with_sides k (numbered_of n) (map (λ s. s.1) pairs))
        both = sides-of-slots k n pairs (record { slots = walked.slots; listed = walked.listed; count_is = walked.count_is }) all

        count : length (take k (part_polygons points polygons p)) ≡ k
        count = length-take-le k (part_polygons points polygons p) (omega (arith, within))

        sided : IsNumbering (take k (part_polygons points polygons p)) (sides_of q) (with_sides (length (take k (part_polygons points polygons p))) (numbered_of n) (sides_of q))
        sided =
            numbering-sides (take k (part_polygons points polygons p)) (first-simple k) (first-distinct points polygons over simple p is distinct k (omega (arith, inside))) [] (sides_of q) (numbered_of n) walked.numbering
            (fresh-sides k inside) (λ s. polygon-edge-count q s (all-at is_simple (part_polygons points polygons p) k [] within (quads-simple points polygons over simple p is)))

        same : with_sides (length (take k (part_polygons points polygons p))) (numbered_of n) (sides_of q) ≡ numbered_of (with_slots k n pairs)
        same = ap (λ f. with_sides f (numbered_of n) (sides_of q)) count ∙ ap (with_sides k (numbered_of n)) (sym sides) ∙ sym both.1

        more : IsWalked points polygons p (k + 1) (with_slots k n pairs)
        more = record {
          part = is;
          numbering =
              subst (λ (qs : List Polygon). IsNumbering qs [] (numbered_of (with_slots k n pairs))) (sym (take_more (part_polygons points polygons p) k [] within))
              (numbering-face (take k (part_polygons points polygons p)) q (numbered_of (with_slots k n pairs)) (subst (λ x. IsNumbering (take k (part_polygons points polygons p)) (sides_of q) x) same sided));
          slots = both.0.slots;
          listed = both.0.listed;
          count_is = both.0.count_is;
        }
