-- Numerators written into an array, one more at the end.
use Rattle.std.proofs.Common.{◌≡◌, ℕ, ◌+◌, ◌<◌, ◌≤◌, ℤ, List, [], ◌∷◌, ◌++◌, length, get_or, map, take, sym, subst}
use Rattle.std.specs.List.{All, AllZip}
use Rattle.std.proofs.lemmas.List.{take_more, take_all, map-append}
use Rattle.std.proofs.lemmas.List.Elements.{All-nil, All-push}
use Rattle.std.proofs.lemmas.Slice.Zip.{all_zipped_more}
use Rattle.flat_arrays.specs.declared.wide.Wide.{Wide}
use Rattle.flat_arrays.specs.Words.{integer_of}
use Rattle.nearest_float.specs.Binary.{Format}
use Rattle.row_arrays.specs.Scale.{IsNumerator}
use Rattle.row_arrays.specs.ScaleFaults.{IsSmall}

-- Each written numerator satisfies R.
pub zip-push : (R : ℕ → ℤ → Type 0) (bs : List ℕ) (b : ℕ) (ws : List Wide) (w : Wide) → AllZip R bs (map integer_of ws) → R b (integer_of w) →
    AllZip R (bs ++ b ∷ []) (map integer_of (ws ++ w ∷ []))
zip-push R bs b ws w all one =
    subst (AllZip R (bs ++ b ∷ [])) (sym (map-append integer_of ws (w ∷ []))) (all_zipped_more R bs (map integer_of ws) b (integer_of w) all one)

-- the numerators that are written so far
pub record ArePut (f : Format) (scale : ℕ) (bits : List ℕ) (words : List Wide) : Type 0 where
  pub numerators_of : AllZip (IsNumerator f scale) bits (map integer_of words)
  pub small : All (IsSmall f scale) bits

pub put-none : (f : Format) (s : ℕ) → ArePut f s [] []
put-none f s = record { numerators_of = tt; small = All-nil (IsSmall f s) }

put-push : (f : Format) (s : ℕ) (bs : List ℕ) (b : ℕ) (ws : List Wide) (w : Wide) → ArePut f s bs ws → IsNumerator f s b (integer_of w) →
    ArePut f s (bs ++ b ∷ []) (ws ++ w ∷ [])
put-push f s bs b ws w so-far one = record {
  numerators_of = zip-push (IsNumerator f s) bs b ws w so-far.numerators_of one;
  small = All-push (IsSmall f s) bs b so-far.small (record { numerator = integer_of w; is = one });
}

pub put-more : (f : Format) (s : ℕ) (bs : List ℕ) (i : ℕ) (before after : List Wide) (w : Wide) (n : ℤ) → i < length bs →
    take (i + 1) after ≡ take i before ++ w ∷ [] → integer_of w ≡ n → IsNumerator f s (get_or bs i 0) n → ArePut f s (take i bs) (take i before) →
    ArePut f s (take (i + 1) bs) (take (i + 1) after)
put-more f s bs i before after w n inside written is one so-far =
    subst (λ ws. ArePut f s (take (i + 1) bs) ws) (sym written)
    (subst (λ cs. ArePut f s cs (take i before ++ w ∷ [])) (sym (take_more bs i 0 inside))
    (put-push f s (take i bs) (get_or bs i 0) (take i before) w so-far (subst (IsNumerator f s (get_or bs i 0)) (sym is) one)))

pub put-all : (f : Format) (s : ℕ) (bs : List ℕ) (i : ℕ) (ws : List Wide) → length bs ≤ i → length ws ≤ i → ArePut f s (take i bs) (take i ws) →
    AllZip (IsNumerator f s) bs (map integer_of ws)
put-all f s bs i ws all none so-far =
    subst (λ cs. AllZip (IsNumerator f s) cs (map integer_of ws)) (take_all i bs all)
    (subst (λ vs. AllZip (IsNumerator f s) (take i bs) (map integer_of vs)) (take_all i ws none) so-far.numerators_of)
