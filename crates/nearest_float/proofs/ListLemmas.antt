-- Fractions of a list, one more at the end.
use Rattle.std.proofs.Common.{◌≡◌, ◌+◌, ◌<◌, ℕ, List, [], ◌∷◌, ◌++◌, length, get_or, take, ap, sym, ◌∙◌, subst}
use Rattle.std.proofs.lemmas.Grind.{length_at_push}
use Rattle.ratio128.specs.declared.divisor.Frac.{Frac}
use Rattle.nearest_float.specs.declared.fault.FloatFault.{FloatFault}
use Rattle.nearest_float.specs.Binary.{Format}
use Rattle.nearest_float.specs.Exact.{IsExact}
use Rattle.nearest_float.specs.Faults.{IsRefused}
use Rattle.nearest_float.specs.Lists.{AreExact, IsRefusedAt, IsPushed}
use Rattle.std.proofs.lemmas.Grind.{take_at_read}

exact-push : (f : Format) (bs : List ℕ) (xs : List Frac) (b : ℕ) (x : Frac) → AreExact f bs xs → IsExact f b x.num x.den → AreExact f (bs ++ b ∷ []) (xs ++ x ∷ [])
exact-push f [] [] b x all one = (one, tt)
exact-push f [] (y ∷ xs) b x all one = absurd all
exact-push f (c ∷ bs) [] b x all one = absurd all
exact-push f (c ∷ bs) (y ∷ xs) b x all one = (all.0, exact-push f bs xs b x all.1 one)

-- after one number more
pub exact-more : (f : Format) (bs : List ℕ) (i : ℕ) (before after : List Frac) → i < length bs → AreExact f (take i bs) before →
    IsPushed f before (get_or bs i 0) after → AreExact f (take (i + 1) bs) after
exact-more f bs i before after inside all pushed =
    let P : List ℕ → Type 0 = λ cs. AreExact f cs after in
    let Q : List Frac → Type 0 = λ ys. AreExact f (take i bs ++ get_or bs i 0 ∷ []) ys in
    subst P (sym (take_at_read bs i 0 inside).1) (subst Q (sym pushed.items) (exact-push f (take i bs) before (get_or bs i 0) pushed.fraction all pushed.exact))

pub count-more : (f : Format) (i b : ℕ) (before after : List Frac) → length before ≡ i → IsPushed f before b after → length after ≡ i + 1
count-more f i b before after count pushed =
    ap length pushed.items ∙ (length_at_push before pushed.fraction).1 ∙ ap (λ n. n + 1) count

pub refused-there : (f : Format) (bs : List ℕ) (i place : ℕ) (before : List Frac) (fault : FloatFault) → place ≡ i → i < length bs → AreExact f (take i bs) before →
    IsRefused f (get_or bs i 0) fault → IsRefusedAt f bs place fault
refused-there f bs i place before fault same inside all refused =
    subst (λ n. IsRefusedAt f bs n fault) (sym same) (record { inside = inside; refused = refused; first = (before, all) })
