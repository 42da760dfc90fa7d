-- A total with one value more.
use Rattle.std.proofs.Common.{◌≡◌, ℕ, ◌+◌, ◌*◌, ◌/◌, ◌^◌, ◌<◌, ◌≤◌, arith, subst, sym, ap, ◌∙◌, List, [], ◌∷◌, ◌++◌}
use Rattle.std.specs.Int.{◌∣◌}
use Rattle.std.specs.List.{sum_by}
use Rattle.std.proofs.lemmas.List.{length_push}
use Rattle.std.proofs.lemmas.List.Sums.{sum_by_push}
use Rattle.std.proofs.lemmas.Nat.{mul-le}
use Rattle.std.proofs.lemmas.Nat.Gcd.{dvd_refl}
use Rattle.std.proofs.Math.Nat.{div-mul_cancel, mul-le-mul_right}
use Rattle.ratio128.specs.Ratio.{IsLcm}
use Rattle.ratio128.proofs.LcmLemmas.{IsLcm-unique}
use Rattle.subdiv_model.specs.Multiples.{lcm_of, common_denominator}
use Rattle.sharpness_rules.specs.declared.total.Total.{Total}
use Rattle.sharpness_rules.specs.Totals.{IsTotal, parts_over}
use Rattle.sharpness_rules.proofs.MultipleLemmas.{lcm_of-is, common_denominator-push}
use Rattle.sharpness_rules.proofs.PartLemmas.{sum-more}

-- the sum over a multiple of the denominator keeps its bound
pub scaled-bounded : (num count den more : ℕ) → num ≤ 10 * (count * den) → den ∣ more → num * (more / den) ≤ 10 * (count * more)
scaled-bounded num count den more h p =
    let whole : more / den * den ≡ more = div-mul_cancel den p in
    let most : num * (more / den) ≤ 10 * (count * den) * (more / den) = mul-le-mul_right (more / den) h in
    omega (arith, most, ap (λ n. count * n) whole)

pub product-bounded : (count den : ℕ) → count ≤ 2 ^ 32 → den ≤ 2 ^ 60 → count * den ≤ 2 ^ 92
product-bounded count den few short = mul-le count den (2 ^ 32) (2 ^ 60) few short

pub push-too_fine : (values : List (ℕ × ℕ)) (x : ℕ × ℕ) (den bound : ℕ) → den ≡ common_denominator values
    → ((m : ℕ) → IsLcm den x.1 m → bound < m) → bound < common_denominator (values ++ x ∷ [])
push-too_fine values x den bound same passed =
    let P : ℕ → Type 0 = λ m. bound < m in
    subst P (ap (λ n. lcm_of n x.1) same ∙ sym (common_denominator-push values x)) (passed (lcm_of den x.1) (lcm_of-is den x.1))

push-den : (values : List (ℕ × ℕ)) (x : ℕ × ℕ) (den more : ℕ) → den ≡ common_denominator values → IsLcm den x.1 more
    → more ≡ common_denominator (values ++ x ∷ [])
push-den values x den more same is =
    IsLcm-unique den x.1 more (lcm_of den x.1) is (lcm_of-is den x.1) ∙ ap (λ n. lcm_of n x.1) same ∙ sym (common_denominator-push values x)

push-num : (values : List (ℕ × ℕ)) (x : ℕ × ℕ) (num den more : ℕ) → den ≡ common_denominator values → IsLcm den x.1 more
    → num ≡ sum_by (parts_over den) values → num * (more / den) + parts_over more x ≡ sum_by (parts_over more) (values ++ x ∷ [])
push-num values x num den more same is sum =
    let within : common_denominator values ∣ den = let Q : ℕ → Type 0 = λ n. n ∣ den in subst Q same (dvd_refl den) in
    ap (λ n. n * (more / den) + parts_over more x) sum
    ∙ ap (λ n. n + parts_over more x) (sym (sum-more values den more within is.first))
    ∙ sym (sum_by_push (parts_over more) values x)

-- one more value
pub IsTotal-push : (values : List (ℕ × ℕ)) (x : ℕ × ℕ) (total more : Total) → IsTotal values total → IsLcm total.den x.1 more.den
    → more.count ≡ total.count + 1 → more.num ≡ total.num * (more.den / total.den) + parts_over more.den x
    → IsTotal (values ++ x ∷ []) more
IsTotal-push values x total more is multiple count num = record {
  count = count ∙ ap (λ n. n + 1) is.count ∙ sym (length_push values x);
  den = push-den values x total.den more.den is.den multiple;
  num = num ∙ push-num values x total.num total.den more.den is.den multiple is.num;
}

pub IsTotal-none : (total : Total) → total.count ≡ 0 → total.num ≡ 0 → total.den ≡ 1 → IsTotal [] total
IsTotal-none total count num den = record { count = count; den = den; num = num }
