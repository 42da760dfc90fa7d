-- The fan at each point of a sheet: four faces inside it, two along its border, and one at its corners.
use Rattle.std.proofs.Common.{◌≡◌, ℕ, zero, suc, ◌+◌, ◌*◌, ◌/◌, ◌%◌, ◌<◌, [], ◌∷◌, arith, refl, subst, ◌⊎◌, inl, inr}
use Rattle.std.proofs.lemmas.Nat.{div-add-mod', div_below, mod_below}
use Rattle.std.proofs.lemmas.Bool.Decides.{nat_tests}
use Rattle.std.proofs.lemmas.Bool.{cases_order}
use Rattle.subdiv_model.specs.Manifold.{HasOneFan}
use Rattle.subdiv_model.specs.Generator.{sheet_point, sheet_faces}
use Rattle.sheet_maker.proofs.GridLemmas.{face_number}
use Rattle.sheet_maker.proofs.TurnLemmas.{meets-first, meets-second, meets-third, meets-fourth, follows-up, follows-back, follows-down, follows-on, fan-of}

-- the place of a row or column of points: first, inside, or last in a sheet of this size
abbrev IsAlong : ℕ → ℕ → Type 0
IsAlong size r = (r ≡ 0) ⊎ (((i : ℕ) × (r ≡ i + 1) × (i + 1 < size)) ⊎ ((i : ℕ) × (r ≡ i + 1) × (i + 1 ≡ size)))

-- each row and each column of points is one of these
along : (size r : ℕ) → 0 < size → r < size + 1 → IsAlong size r
along size zero some h = inl refl
along size (suc r) some h = further (cases_order (suc r) size)
  where
    further : (suc r ≡ size) ⊎ ((suc r < size) ⊎ (size < suc r)) → IsAlong size (suc r)
    further (inl e) = inr (inr (r, omega arith, omega arith))
    further (inr (inl p)) = inr (inl (r, omega arith, omega arith))
    further (inr (inr p)) = absurd (omega arith)

module _ (size : ℕ) where
  -- the point in row r and column c has one fan
  abbrev Fans : ℕ → ℕ → Type 0
  Fans r c = HasOneFan (sheet_faces size) (sheet_point size r c)

  -- a point of the first row, at its ends and inside
  first-first : 0 < size → Fans 0 0
  first-first some = fan-of size 0 0 (face_number size 0 0 ∷ []) (omega arith) refl (rw (meets-first size 0 0 some some) refl) (λ k l m n touch. grind (arith, nat_tests)) tt

  first-inside : (j : ℕ) → 0 < size → j + 1 < size → Fans 0 (j + 1)
  first-inside j some q =
      let left : j < size = omega arith in
      fan-of size 0 (j + 1) (face_number size 0 j ∷ face_number size 0 (j + 1) ∷ []) (omega arith) (grind (arith, nat_tests)) (rw (meets-second size 0 j some left, meets-first size 0 (j + 1) some q) refl) (λ k l m n touch. grind (arith, nat_tests)) (follows-on size 0 j some q, tt)

  first-last : (j : ℕ) → 0 < size → j + 1 ≡ size → Fans 0 (j + 1)
  first-last j some q =
      let left : j < size = omega arith in
      fan-of size 0 (j + 1) (face_number size 0 j ∷ []) (omega arith) refl (rw (meets-second size 0 j some left) refl) (λ k l m n touch. grind (arith, nat_tests)) tt

  -- a point of a row inside
  inside-first : (i : ℕ) → 0 < size → i + 1 < size → Fans (i + 1) 0
  inside-first i some p =
      let low : i < size = omega arith in
      fan-of size (i + 1) 0 (face_number size (i + 1) 0 ∷ face_number size i 0 ∷ []) (omega arith) (grind (arith, nat_tests)) (rw (meets-first size (i + 1) 0 p some, meets-fourth size i 0 low some) refl) (λ k l m n touch. grind (arith, nat_tests)) (follows-up size i 0 p some, tt)

  inside-inside : (i j : ℕ) → i + 1 < size → j + 1 < size → Fans (i + 1) (j + 1)
  inside-inside i j p q =
      let low : i < size = omega arith in
      let left : j < size = omega arith in
      fan-of size (i + 1) (j + 1) (face_number size (i + 1) (j + 1) ∷ face_number size i (j + 1) ∷ face_number size i j ∷ face_number size (i + 1) j ∷ []) (omega arith) (grind (arith, nat_tests)) (rw (meets-first size (i + 1) (j + 1) p q, meets-fourth size i (j + 1) low q, meets-third size i j low left, meets-second size (i + 1) j p left) refl) (λ k l m n touch. grind (arith, nat_tests)) (follows-up size i (j + 1) p q, (follows-back size i j low q, (follows-down size i j p left, tt)))

  inside-last : (i j : ℕ) → i + 1 < size → j + 1 ≡ size → Fans (i + 1) (j + 1)
  inside-last i j p q =
      let low : i < size = omega arith in
      let left : j < size = omega arith in
      fan-of size (i + 1) (j + 1) (face_number size i j ∷ face_number size (i + 1) j ∷ []) (omega arith) (grind (arith, nat_tests)) (rw (meets-third size i j low left, meets-second size (i + 1) j p left) refl) (λ k l m n touch. grind (arith, nat_tests)) (follows-down size i j p left, tt)

  -- a point of the last row
  last-first : (i : ℕ) → 0 < size → i + 1 ≡ size → Fans (i + 1) 0
  last-first i some p =
      let low : i < size = omega arith in
      fan-of size (i + 1) 0 (face_number size i 0 ∷ []) (omega arith) refl (rw (meets-fourth size i 0 low some) refl) (λ k l m n touch. grind (arith, nat_tests)) tt

  last-inside : (i j : ℕ) → i + 1 ≡ size → j + 1 < size → Fans (i + 1) (j + 1)
  last-inside i j p q =
      let low : i < size = omega arith in
      let left : j < size = omega arith in
      fan-of size (i + 1) (j + 1) (face_number size i (j + 1) ∷ face_number size i j ∷ []) (omega arith) (grind (arith, nat_tests)) (rw (meets-fourth size i (j + 1) low q, meets-third size i j low left) refl) (λ k l m n touch. grind (arith, nat_tests)) (follows-back size i j low q, tt)

  last-last : (i j : ℕ) → i + 1 ≡ size → j + 1 ≡ size → Fans (i + 1) (j + 1)
  last-last i j p q =
      let low : i < size = omega arith in
      let left : j < size = omega arith in
      fan-of size (i + 1) (j + 1) (face_number size i j ∷ []) (omega arith) refl (rw (meets-third size i j low left) refl) (λ k l m n touch. grind (arith, nat_tests)) tt

  -- the point has one fan, for any row and column
  along-both : (r c : ℕ) → 0 < size → IsAlong size r → IsAlong size c → Fans r c
  along-both r c some (inl e) (inl f) = rw (e, f) (first-first some)
  along-both r c some (inl e) (inr (inl q)) = rw (e, q.1) (first-inside q.0 some q.2)
  along-both r c some (inl e) (inr (inr q)) = rw (e, q.1) (first-last q.0 some q.2)
  along-both r c some (inr (inl p)) (inl f) = rw (p.1, f) (inside-first p.0 some p.2)
  along-both r c some (inr (inl p)) (inr (inl q)) = rw (p.1, q.1) (inside-inside p.0 q.0 p.2 q.2)
  along-both r c some (inr (inl p)) (inr (inr q)) = rw (p.1, q.1) (inside-last p.0 q.0 p.2 q.2)
  along-both r c some (inr (inr p)) (inl f) = rw (p.1, f) (last-first p.0 some p.2)
  along-both r c some (inr (inr p)) (inr (inl q)) = rw (p.1, q.1) (last-inside p.0 q.0 p.2 q.2)
  along-both r c some (inr (inr p)) (inr (inr q)) = rw (p.1, q.1) (last-last p.0 q.0 p.2 q.2)

  -- each point has one fan
  pub sheet-fans : (v : ℕ) → 0 < size → v < (size + 1) * (size + 1) → HasOneFan (sheet_faces size) v
  sheet-fans v some h =
      let row = along size (v / (size + 1)) some (div_below v (size + 1) (size + 1) (omega arith) h) in
      let column = along size (v % (size + 1)) some (mod_below v (size + 1) (omega arith)) in
      subst (HasOneFan (sheet_faces size)) (div-add-mod' v (size + 1)) (along-both (v / (size + 1)) (v % (size + 1)) some row column)
