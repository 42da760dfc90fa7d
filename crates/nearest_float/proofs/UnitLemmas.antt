-- How the units of a size grow.
use Rattle.std.proofs.Common.{◌≡◌, ◌⊎◌, ℕ, zero, suc, ◌+◌, ◌-◌, ◌*◌, ◌/◌, ◌%◌, ◌^◌, ◌<◌, ◌≤◌, inl, inr, arith, refl, ap, if◌then◌else◌, ap₂, sym, ◌∙◌, pow_pos}
use Rattle.std.proofs.lemmas.Nat.{div-mul-add, mod-mul-add, shr_split, mod_below}
use Rattle.std.proofs.lemmas.Bool.{cases_lt, cases_order, ne_eqb}
use Rattle.std.proofs.lemmas.Grind.{pow_more}
use Rattle.std.proofs.Math.Nat.{mul_assoc}
use Rattle.nearest_float.specs.Binary.{significand_at, doublings_at, significand, units}

hidden-there : (p e y : ℕ) → significand_at p (suc e) y ≡ 2 ^ p + y
hidden-there p e y = ap (λ b. if b then y else (2 ^ p + y)) (ne_eqb (suc e) 0 (λ same. omega (arith, same)))

doublings-there : (e : ℕ) → doublings_at (suc e) ≡ e
doublings-there e = ap (λ b. if b then 0 else (suc e - 1)) (ne_eqb (suc e) 0 (λ same. omega (arith, same))) ∙ omega arith

units-by : (p x y e : ℕ) → y < 2 ^ p → x * 2 ^ p + y ≡ e → units p e ≡ significand_at p x y * 2 ^ doublings_at x
units-by p x y e below same =
    let field : e / 2 ^ p ≡ x = ap (λ n. n / 2 ^ p) (sym same) ∙ div-mul-add x (2 ^ p) y below in
    let rest : e % 2 ^ p ≡ y = ap (λ n. n % 2 ^ p) (sym same) ∙ mod-mul-add x (2 ^ p) y below in
    ap₂ (λ a b. significand_at p a b * 2 ^ doublings_at a) field rest

-- a significand of up to twice the hidden bit, where it has the hidden bit or the exponent is the least
pub units-at : (p e q : ℕ) → (e ≡ 0) ⊎ (2 ^ p ≤ q) → q ≤ 2 * 2 ^ p → units p (e * 2 ^ p + q) ≡ q * 2 ^ e
units-at p e q hidden within = ⊎_elim' (cases_lt q (2 ^ p))
  where
    at-field : (a b : ℕ) → a ≡ q → b ≡ e → a * 2 ^ b ≡ q * 2 ^ e
    at-field a b s d = ap₂ (λ m n. m * 2 ^ n) s d

    least : (d : ℕ) → d ≡ 0 → q < 2 ^ p → units p (d * 2 ^ p + q) ≡ q * 2 ^ d
    least zero none below = units-by p 0 q (0 * 2 ^ p + q) below refl
    least (suc d) none below = absurd (omega (arith, none))

    middle : 2 ^ p ≤ q → q < 2 * 2 ^ p → units p (e * 2 ^ p + q) ≡ q * 2 ^ e
    middle from below =
        units-by p (suc e) (q - 2 ^ p) (e * 2 ^ p + q) (omega arith) (omega arith) ∙ at-field (significand_at p (suc e) (q - 2 ^ p)) (doublings_at (suc e)) (hidden-there p e (q - 2 ^ p) ∙ omega arith) (doublings-there e)

    last : q ≡ 2 * 2 ^ p → units p (e * 2 ^ p + q) ≡ q * 2 ^ e
    last full =
        let more : 2 ^ doublings_at (suc (suc e)) ≡ 2 ^ e * 2 = ap (λ n. 2 ^ n) (doublings-there (suc e) ∙ omega arith) ∙ pow_more 2 e in
        units-by p (suc (suc e)) 0 (e * 2 ^ p + q) (pow_pos p) (omega (arith, full))
        ∙ ap₂ (λ m n. m * n) (hidden-there p (suc e) 0) more
        ∙ doubled (2 ^ p) (2 ^ e)
        ∙ ap (λ n. n * 2 ^ e) (sym full)
      where
        doubled : (a b : ℕ) → (a + 0) * (b * 2) ≡ 2 * a * b
        doubled a b = omega arith

    ⊎_elim' : (q < 2 ^ p) ⊎ (2 ^ p ≤ q) → units p (e * 2 ^ p + q) ≡ q * 2 ^ e
    ⊎_elim' (inl below) = small hidden
      where
        small : (e ≡ 0) ⊎ (2 ^ p ≤ q) → units p (e * 2 ^ p + q) ≡ q * 2 ^ e
        small (inl none) = least e none below
        small (inr from) = absurd (omega arith)
    ⊎_elim' (inr from) = large (cases_lt q (2 * 2 ^ p))
      where
        large : (q < 2 * 2 ^ p) ⊎ (2 * 2 ^ p ≤ q) → units p (e * 2 ^ p + q) ≡ q * 2 ^ e
        large (inl below) = middle from below
        large (inr full) = last (omega arith)

-- the next size has more
pub units-next : (p size : ℕ) → units p size < units p (suc size)
units-next p size = by-field (size / 2 ^ p) refl
  where
    y : ℕ
    y = size % 2 ^ p

    from-here : (a b q e : ℕ) → a ≡ size → b ≡ suc a → units p a ≡ q * 2 ^ e → units p b ≡ suc q * 2 ^ e → units p size < units p (suc size)
    from-here a b q e s t here next =
        let at : units p size ≡ q * 2 ^ e = ap (units p) (sym s) ∙ here in
        let after : units p (suc size) ≡ suc q * 2 ^ e = ap (units p) (sym (t ∙ ap suc s)) ∙ next in
        let some : 0 < 2 ^ e = pow_pos e in
        let more : suc q * 2 ^ e ≡ q * 2 ^ e + 2 ^ e = omega arith in
        omega (arith, at, after, some, more)

    by-field : (x : ℕ) → size / 2 ^ p ≡ x → units p size < units p (suc size)
    by-field zero is =
        let whole : 0 * 2 ^ p + y ≡ size = ap (λ n. n * 2 ^ p + y) (sym is) ∙ shr_split size p in
        let below : y < 2 ^ p = mod_below size (2 ^ p) (pow_pos p) in
        let here : units p (0 * 2 ^ p + y) ≡ y * 2 ^ 0 = units-at p 0 y (inl refl) (omega arith) in
        let next : units p (0 * 2 ^ p + suc y) ≡ suc y * 2 ^ 0 = units-at p 0 (suc y) (inl refl) (omega arith) in
        from-here (0 * 2 ^ p + y) (0 * 2 ^ p + suc y) y 0 whole (omega arith) here next
    by-field (suc e) is =
        let q = 2 ^ p + y in
        let whole : e * 2 ^ p + q ≡ size = omega arith ∙ ap (λ n. n * 2 ^ p + y) (sym is) ∙ shr_split size p in
        let below : y < 2 ^ p = mod_below size (2 ^ p) (pow_pos p) in
        let here : units p (e * 2 ^ p + q) ≡ q * 2 ^ e = units-at p e q (inr (omega arith)) (omega arith) in
        let next : units p (e * 2 ^ p + suc q) ≡ suc q * 2 ^ e = units-at p e (suc q) (inr (omega arith)) (omega arith) in
        from-here (e * 2 ^ p + q) (e * 2 ^ p + suc q) q e whole (omega arith) here next

units-grow : (p a k : ℕ) → units p a + k ≤ units p (a + k)
units-grow p a zero = omega (arith, ap (units p) (plus-none a))
  where
    plus-none : (n : ℕ) → n + 0 ≡ n
    plus-none n = omega arith
units-grow p a (suc k) =
    let same : suc (a + k) ≡ a + suc k = omega arith in
    omega (arith, units-grow p a k, units-next p (a + k), ap (units p) same)

pub units-below : (p a b : ℕ) → a < b → units p a < units p b
units-below p a b less =
    let same : a + (b - a) ≡ b = omega arith in omega (arith, units-grow p a (b - a), ap (units p) same)

pub units-within : (p a b : ℕ) → a ≤ b → units p a ≤ units p b
units-within p a b less =
    let same : a + (b - a) ≡ b = omega arith in omega (arith, units-grow p a (b - a), ap (units p) same)

pub units-none : (p : ℕ) → units p 0 ≡ 0
units-none p =
    let none : 0 * 2 ^ p + 0 ≡ 0 = omega arith in
    ap (units p) (sym none) ∙ units-at p 0 0 (inl refl) (omega arith)

-- a size is even where its significand is
pub significand-even : (p size : ℕ) → 0 < p → size % 2 ≡ 0 → significand p size % 2 ≡ 0
significand-even zero size some even = absurd (omega (arith, some))
significand-even (suc p) size some even = by-field (size / 2 ^ suc p) refl
  where
    y : ℕ
    y = size % 2 ^ suc p

    more : 2 ^ suc p ≡ 2 ^ p * 2
    more = ap (λ n. 2 ^ n) (omega arith) ∙ pow_more 2 p

    twice : (x : ℕ) → x * 2 ^ suc p ≡ x * 2 ^ p * 2
    twice x = ap (λ n. x * n) more ∙ sym (mul_assoc x (2 ^ p) 2)

    rest : y % 2 ≡ 0
    rest = omega (arith, even, shr_split size (suc p), twice (size / 2 ^ suc p))

    by-field : (x : ℕ) → size / 2 ^ suc p ≡ x → significand (suc p) size % 2 ≡ 0
    by-field zero is = ap (λ x. significand_at (suc p) x y % 2) is ∙ rest
    by-field (suc e) is =
        let there : significand (suc p) size ≡ 2 ^ suc p + y = ap (λ x. significand_at (suc p) x y) is ∙ hidden-there (suc p) e y in
        omega (arith, there, rest, more)

pub size-even : (p size : ℕ) → 0 < p → significand p size % 2 ≡ 0 → size % 2 ≡ 0
size-even zero size some even = absurd (omega (arith, some))
size-even (suc p) size some even = by-field (size / 2 ^ suc p) refl
  where
    y : ℕ
    y = size % 2 ^ suc p

    more : 2 ^ suc p ≡ 2 ^ p * 2
    more = ap (λ n. 2 ^ n) (omega arith) ∙ pow_more 2 p

    twice : (x : ℕ) → x * 2 ^ suc p ≡ x * 2 ^ p * 2
    twice x = ap (λ n. x * n) more ∙ sym (mul_assoc x (2 ^ p) 2)

    whole : y % 2 ≡ 0 → size % 2 ≡ 0
    whole rest = omega (arith, rest, shr_split size (suc p), twice (size / 2 ^ suc p))

    by-field : (x : ℕ) → size / 2 ^ suc p ≡ x → size % 2 ≡ 0
    by-field zero is = whole (sym (ap (λ x. significand_at (suc p) x y % 2) is) ∙ even)
    by-field (suc e) is =
        let there : significand (suc p) size ≡ 2 ^ suc p + y = ap (λ x. significand_at (suc p) x y) is ∙ hidden-there (suc p) e y in
        whole (omega (arith, there, even, more))

pub units-one : (p a b : ℕ) → units p a ≡ units p b → a ≡ b
units-one p a b same = by-order (cases_order a b)
  where
    by-order : (a ≡ b) ⊎ ((a < b) ⊎ (b < a)) → a ≡ b
    by-order (inl e) = e
    by-order (inr (inl less)) = let below = units-below p a b less in absurd (omega (arith, below, same))
    by-order (inr (inr more)) = let below = units-below p b a more in absurd (omega (arith, below, same))
