-- Numbers that are 0 above the bound of denominators.
use Rattle.std.proofs.Common.{◌≡◌, ℕ, zero, suc, ◌*◌, ◌<◌, ◌≤◌, ◌+◌, ◌-◌, ◌/◌, ◌^◌, arith, refl, ap, sym, ◌∙◌, subst, Option, Some, None, unwrap_or, IfSome, IfNone, IsNone, ◌↔◌}
use Rattle.std.specs.Int.{◌∣◌}
use Rattle.std.proofs.lemmas.Bool.Decides.{nat_tests}
use Rattle.std.proofs.lemmas.Nat.Gcd.{le_of_dvd, dvd_refl, dvd_trans}
use Rattle.std.proofs.lemmas.Nat.{pow-add}
use Rattle.std.proofs.Math.Nat.{dvd-mul_left, one-dvd}
use Rattle.ratio128.specs.Ratio.{IsLcm}
use Rattle.ratio128.proofs.LcmLemmas.{IsLcm-unique}
use Rattle.subdiv_model.specs.Channel.{number_bound}
use Rattle.subdiv_model.specs.Multiples.{lcm_of}
use Rattle.number_laws.proofs.MultipleLemmas.{lcm-positive, lcm-first, lcm-second, lcm-least, lcm-absorbs, lcm-one}
use Rattle.child_masks.specs.Survey.{within_bound}

-- a number within the bound stays
pub within-kept : (a : ℕ) → a ≤ number_bound → within_bound a ≡ a
within-kept a h = grind (arith, nat_tests)

-- a number above the bound becomes 0
pub within-over : (a : ℕ) → number_bound < a → within_bound a ≡ 0
within-over a h = grind (arith, nat_tests)

-- only a number above the bound becomes 0
pub within-zero : (a : ℕ) → 0 < a → 0 ≡ within_bound a → number_bound < a
within-zero a some h = grind (arith, nat_tests)

-- a number that does not become 0 stays
pub within-some : (m a : ℕ) → 0 < m → m ≡ within_bound a → m ≡ a
within-some m a some h = grind (arith, nat_tests)

-- a multiple of a number above the bound is above the bound
over-multiple : (a n : ℕ) → 0 < n → a ∣ n → number_bound < a → 0 ≡ within_bound n
over-multiple a n some divides over =
    let le = le_of_dvd some divides in sym (within-over n (omega arith))

-- a least common multiple passes the bound where one of its numbers does
pub joined-first : (a b : ℕ) → 0 < a → 0 < b → 0 ≡ within_bound a → 0 ≡ within_bound (lcm_of a b)
joined-first a b first second h =
    over-multiple a (lcm_of a b) (lcm-positive a b first second) (lcm-first a b) (within-zero a first h)

-- a least common multiple is above the bound where the second number is
pub joined-second : (a b : ℕ) → 0 < a → 0 < b → 0 ≡ within_bound b → 0 ≡ within_bound (lcm_of a b)
joined-second a b first second h =
    over-multiple b (lcm_of a b) (lcm-positive a b first second) (lcm-second a b) (within-zero b second h)

-- a divisor adds nothing
absorbed : (m c a b : ℕ) → 0 < c → c ∣ m → m ≡ a → c ≡ b → lcm_of a b ≡ a
absorbed m c a b some divides first second =
    lcm-absorbs a b (omega arith) (subst (λ (n : ℕ). b ∣ n) first (subst (λ (d : ℕ). d ∣ m) second divides))

-- a divisor within the bound adds nothing to a least common multiple
pub joined-absorbs : (m c a b : ℕ) → 0 < m → 0 < c → c ∣ m → m ≡ within_bound a → c ≡ within_bound b → m ≡ within_bound (lcm_of a b)
joined-absorbs m c a b first second divides h k =
    h ∙ ap within_bound (sym (absorbed m c a b second divides (within-some m a first h) (within-some c b second k)))

-- the defined least common multiple is one
least : (a b : ℕ) → 0 < b → IsLcm a b (lcm_of a b)
least a b some = record { first = lcm-first a b; second = lcm-second a b; least = λ n. lcm-least a b n some }

-- a divisor is taken in by its multiple
taken-in : (a b : ℕ) → 0 < b → a ∣ b → lcm_of a b ≡ b
taken-in a b some divides =
    sym (IsLcm-unique a b b (lcm_of a b) (record { first = divides; second = dvd_refl b; least = λ n first second. second }) (least a b some))

pub joined-taken_in : (m c a b : ℕ) → 0 < m → 0 < c → m ∣ c → m ≡ within_bound a → c ≡ within_bound b → c ≡ within_bound (lcm_of a b)
joined-taken_in m c a b first second divides h k =
    let here = within-some m a first h in
    let there = within-some c b second k in
    k ∙ ap within_bound
    (sym (taken-in a b (omega (arith, there)) (subst (λ (n : ℕ). a ∣ n) there (subst (λ (d : ℕ). d ∣ c) here divides))))

-- an equal number adds nothing to a least common multiple, within the bound or above it
pub joined-same : (m c a b : ℕ) → 0 < a → 0 < b → c ≡ m → m ≡ within_bound a → c ≡ within_bound b → m ≡ within_bound (lcm_of a b)
joined-same zero c a b first second e h k = joined-first a b first second h
joined-same (suc m) c a b first second e h k =
    joined-absorbs (suc m) c a b (omega arith) (omega arith) (subst (λ (d : ℕ). d ∣ suc m) (sym e) (dvd_refl (suc m))) h k

-- nor 1
pub joined-one : (m c a b : ℕ) → c ≡ 1 → m ≡ within_bound a → c ≡ within_bound b → m ≡ within_bound (lcm_of a b)
joined-one m c a b e h k =
    let one : b ≡ 1 = sym (within-some c b (omega arith) k) ∙ e in
    h ∙ ap within_bound (sym (ap (lcm_of a) one ∙ lcm-one a))

pub joined-from-one : (m c a b : ℕ) → 0 < c → m ≡ 1 → m ≡ within_bound a → c ≡ within_bound b → c ≡ within_bound (lcm_of a b)
joined-from-one m c a b some e h k = joined-taken_in m c a b (omega (arith, e)) some (subst (λ (d : ℕ). d ∣ c) (sym e) (one-dvd c)) h k

-- the least common multiple of the numbers themselves
pub joined-exact : (m c a b r : ℕ) → 0 < m → 0 < c → r ≡ within_bound (lcm_of m c) → m ≡ within_bound a → c ≡ within_bound b → r ≡ within_bound (lcm_of a b)
joined-exact m c a b r first second is h k =
    is ∙ ap (λ n. within_bound (lcm_of n c)) (within-some m a first h) ∙ ap (λ n. within_bound (lcm_of a n)) (within-some c b second k)

-- a least common multiple within the bound, or 0 if there is none
pub multiple-within : (a b : ℕ) (r : Option ℕ) → 0 < b → IfNone r ((n : ℕ) → IsLcm a b n → number_bound < n) → IfSome r (IsLcm a b)
    → IfSome r (λ n. n ≤ number_bound) → unwrap_or r 0 ≡ within_bound (lcm_of a b)
multiple-within a b None some over is short = sym (within-over (lcm_of a b) (over (lcm_of a b) (least a b some)))
multiple-within a b (Some n) some over is short =
    let same = IsLcm-unique a b n (lcm_of a b) is (least a b some) in
    sym (within-kept n short) ∙ ap within_bound same

-- a product with a number above the bound is above the bound
product-over : (a q : ℕ) → 0 < q → number_bound < a → number_bound < q * a
product-over a zero some over = absurd (omega arith)
product-over a (suc q) some over = omega arith

-- a product within the bound, or 0 if there is none
product-within : (p : ℕ) (r : Option ℕ) → (IsNone r ↔ (number_bound < p)) → IfSome r (λ n. n ≡ p) → IfSome r (λ n. n ≤ number_bound)
    → unwrap_or r 0 ≡ within_bound p
product-within p None over is short = sym (within-over p (over.0 refl))
product-within p (Some n) over is short = sym (within-kept n short) ∙ ap within_bound is

-- a number times one within the bound, or 0
pub scaled-within : (q m a : ℕ) (r : Option ℕ) → (IsNone r ↔ (number_bound < q * m)) → IfSome r (λ n. n ≡ q * m) → IfSome r (λ n. n ≤ number_bound)
    → 0 < q → 0 < a → m ≡ within_bound a → unwrap_or r 0 ≡ within_bound (q * a)
scaled-within q zero a r over is short factor some h =
    let above = product-over a q factor (within-zero a some h) in
    let none : q * 0 ≡ 0 = omega arith in
    product-within (q * 0) r over is short ∙ ap within_bound none ∙ sym (within-over (q * a) above)
scaled-within q (suc m) a r over is short factor some h =
    product-within (q * suc m) r over is short ∙ ap (λ n. within_bound (q * n)) (within-some (suc m) a (omega arith) h)

-- a power of two divides a number that has at least as many zero bits at its end
pub shift-divides : (m c s t : ℕ) → s ≤ t → c ≡ 2 ^ s → m / 2 ^ t * 2 ^ t ≡ m → c ∣ m
shift-divides m c s t le power whole =
    let e : t ≡ t - s + s = omega arith in
    let split : 2 ^ t ≡ 2 ^ (t - s) * 2 ^ s = ap (λ n. 2 ^ n) e ∙ pow-add 2 (t - s) s in
    let P : ℕ → Type 0 = λ d. d ∣ m in
    let Q : ℕ → Type 0 = λ n. 2 ^ s ∣ n in
    let R : ℕ → Type 0 = λ n. 2 ^ s ∣ n in
    subst P (sym power) (subst Q whole (dvd-mul (2 ^ s) (m / 2 ^ t) (2 ^ t) (subst R (sym split) (dvd-mul_left (2 ^ s) (2 ^ (t - s))))))
  where
    dvd-mul : (d a b : ℕ) → d ∣ b → d ∣ a * b
    dvd-mul d a b h = dvd_trans d h (dvd-mul_left b a)

-- a number that is its last bit when its zeros are shifted out is a power of two
pub power-of-shift : (c t : ℕ) → c / 2 ^ t ≡ 1 → c / 2 ^ t * 2 ^ t ≡ c → c ≡ 2 ^ t
power-of-shift c t one whole =
    let once : 1 * 2 ^ t ≡ 2 ^ t = omega arith in
    sym whole ∙ ap (λ n. n * 2 ^ t) one ∙ once
