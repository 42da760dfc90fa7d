-- Runs of places, each of which begins at a place that passes a test.
use Rattle.std.proofs.Common.{◌≡◌, ◌≢◌, ℕ, zero, suc, ◌+◌, ◌-◌, ◌<◌, ◌≤◌, Bool, true, false, nat_eq, arith, refl, ap, sym, ◌∙◌, subst, if◌then◌else◌, add-one}
use Rattle.std.proofs.lemmas.Bool.{eqb-true, eq-eqb}
use Rattle.face_varying.specs.Fans.{last_before}

module _ (test : ℕ → Bool) where
  -- a place more
  pub last-yes : (given n : ℕ) → test n ≡ true → last_before test given (n + 1) ≡ n
  last-yes given n e = rw (add-one, e) refl

  pub last-no : (given n : ℕ) → test n ≡ false → last_before test given (n + 1) ≡ last_before test given n
  last-no given n e = rw (add-one, e) refl

  pub last-more : (given n start next : ℕ) → start ≡ last_before test given n → next ≡ (if test n then n else start) → next ≡ last_before test given (n + 1)
  last-more given n start next e h = h ∙ ap (λ (k : ℕ). if test n then n else k) e ∙ sym (rw add-one refl)

  -- the place found is one of the places
  pub last-within : (given n size : ℕ) → given < size → n ≤ size → last_before test given n < size
  last-within given zero size inside h = inside
  last-within given (suc n) size inside h = go (test n) refl (last-within given n size inside (omega arith))
    where
      go : (b : Bool) → test n ≡ b → last_before test given n < size → last_before test given (suc n) < size
      go true e before = rw e (omega arith)
      go false e before = rw e before

  -- none passes after the last one
  pub none-after : (given n j : ℕ) → last_before test given n < j → j < n → test j ≡ false
  none-after given zero j after h = absurd (omega arith)
  none-after given (suc n) j after h = go (test n) refl (nat_eq j n) refl (λ before inside. none-after given n j before inside)
    where
      go : (b : Bool) → test n ≡ b → (same : Bool) → nat_eq j n ≡ same → (last_before test given n < j → j < n → test j ≡ false) → test j ≡ false
      go true e same is behind = let later : n < j = rw e at after in absurd (omega arith)
      go false e true is behind = ap test (eqb-true _ _ is) ∙ e
      go false e false is behind =
          let apart : j ≢ n = λ same. absurd (let yes = eq-eqb _ _ same in cc) in
          behind (rw e at after) (omega arith)

  -- the last run, searched for from itself
  pub last-again : (given n : ℕ) → last_before test (last_before test given n) n ≡ last_before test given n
  last-again given zero = refl
  last-again given (suc n) = go (test n) refl (last-again given n)
    where
      go : (b : Bool) → test n ≡ b → last_before test (last_before test given n) n ≡ last_before test given n → last_before test (last_before test given (suc n)) (suc n) ≡ last_before test given (suc n)
      go true e before = rw e refl
      go false e before =
          let less : last_before test given (suc n) ≡ last_before test given n = rw e refl in
          let again : last_before test (last_before test given n) (suc n) ≡ last_before test given n = rw e before in
          ap (λ (k : ℕ). last_before test k (suc n)) less ∙ again ∙ sym less

  -- A relation that holds for each place with itself, and that passes on from a place to the next and from the last to the
  -- first inside a run, holds for each place with the start of its run.
  module _ (size : ℕ) (J : ℕ → ℕ → Type 0) (itself : (i : ℕ) → i < size → J i i) (goes : (i k : ℕ) → i + 1 < size → test (i + 1) ≡ false → J i k → J (i + 1) k) (closes : (k : ℕ) → 0 < size → test 0 ≡ false → J (size - 1) k → J 0 k) where
    climbs : (given d : ℕ) → given + d < size → ((j : ℕ) → given < j → j < size → test j ≡ false) → J (given + d) given
    climbs given zero h none = let same : given ≡ given + 0 = omega arith in subst (λ (n : ℕ). J n given) same (itself given (omega arith))
    climbs given (suc d) h none =
        let next : given + d + 1 ≡ given + suc d = omega arith in
        subst (λ (n : ℕ). J n given) next (goes (given + d) given (omega arith) (none (given + d + 1) (omega arith) (omega arith)) (climbs given d (omega arith) none))

    pub run-joined : (i : ℕ) → i < size → J i (last_before test (last_before test 0 size) (i + 1))
    run-joined zero h = go (test 0) refl
      where
        start : ℕ
        start = last_before test 0 size

        first : 0 + 1 ≡ suc 0
        first = omega arith

        go : (b : Bool) → test 0 ≡ b → J 0 (last_before test start (0 + 1))
        go true e = subst (J 0) (sym (last-yes start 0 e)) (itself 0 h)
        go false e =
            let within : start < size = last-within 0 size size h (omega arith) in
            let last : start + (size - 1 - start) ≡ size - 1 = omega arith in
            subst (J 0) (sym (last-no start 0 e)) (closes start h e (subst (λ (n : ℕ). J n start) last (climbs start (size - 1 - start) (omega arith) (none-after 0 size))))
    run-joined (suc i) h = go (test (suc i)) refl (run-joined i (omega arith))
      where
        start : ℕ
        start = last_before test 0 size

        next : i + 1 ≡ suc i
        next = omega arith

        go : (b : Bool) → test (suc i) ≡ b → J i (last_before test start (i + 1)) → J (suc i) (last_before test start (suc i + 1))
        go true e before = subst (J (suc i)) (sym (last-yes start (suc i) e)) (itself (suc i) h)
        go false e before =
            subst (J (suc i)) (ap (last_before test start) next ∙ sym (last-no start (suc i) e))
            (subst (λ (n : ℕ). J n (last_before test start (i + 1))) next (goes i (last_before test start (i + 1)) (omega arith) (ap test next ∙ e) before))
