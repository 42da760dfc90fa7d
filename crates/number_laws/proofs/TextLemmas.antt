-- Equal fractions have one text.
use Rattle.std.proofs.Common.{◌≡◌, ℕ, ◌*◌, ◌<◌, ℤ, pos, negsuc, ◌*ℤ◌, unsigned_abs, refl, ap, sym, ◌∙◌, ◌++◌}
use Rattle.std.proofs.Math.IntN.{*ℤ_comm}
use Rattle.std.proofs.lemmas.Int.{unsigned_abs-mul}
use Rattle.subdiv_model.specs.NumberText.{sign_text, ratio_text, fraction_text}
use Rattle.subdiv_model.specs.Fractions.{lowest}
use Rattle.number_laws.proofs.DivisorLemmas.{lowest-same}
use Rattle.number_laws.proofs.WholeNumberLemmas.{sign-stays}

-- both are below 0 or neither is
signs : (m n : ℤ) (d e : ℕ) → 0 < d → 0 < e → m *ℤ pos e ≡ n *ℤ pos d → sign_text m ≡ sign_text n
signs (pos a) (pos c) d e hd he h = refl
signs (negsuc a) (negsuc c) d e hd he h = refl
signs (pos a) (negsuc c) d e hd he h = absurd (sign-stays e d a c hd (*ℤ_comm (pos e) (pos a) ∙ h ∙ *ℤ_comm (negsuc c) (pos d)))
signs (negsuc a) (pos c) d e hd he h = absurd (sign-stays d e c a he (*ℤ_comm (pos d) (pos c) ∙ sym h ∙ *ℤ_comm (negsuc a) (pos e)))

pub fraction_text-same : (m n : ℤ) (d e : ℕ) → 0 < d → 0 < e → m *ℤ pos e ≡ n *ℤ pos d → fraction_text m d ≡ fraction_text n e
fraction_text-same m n d e hd he h =
    let crossed : unsigned_abs m * e ≡ unsigned_abs n * d = sym (unsigned_abs-mul m (pos e)) ∙ ap unsigned_abs h ∙ unsigned_abs-mul n (pos d) in
    ap (λ s. s ++ ratio_text (lowest (unsigned_abs m, d))) (signs m n d e hd he h)
    ∙ ap (λ x. sign_text n ++ ratio_text x) (lowest-same (unsigned_abs m) d (unsigned_abs n) e hd he crossed)
