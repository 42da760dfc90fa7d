-- Places and numbers side by side.
use Rattle.std.proofs.Common.{◌≡◌, ℕ, List, [], ◌∷◌, ◌++◌, length, map, arith, refl, ap, sym, ◌∙◌}
use Rattle.std.specs.List.{zip}
use Rattle.std.proofs.lemmas.List.{length-map}
use Rattle.stencil_apply.specs.Table.{Share}
use Rattle.place_sums.specs.Touched.{moved}
use Rattle.place_sums.proofs.TouchedLemmas.{moved-support}

-- the two halves of shares make them again
pub zip-halves : (shares : List Share) → zip (map (λ share. share.0) shares) (map (λ share. share.1) shares) ≡ shares
zip-halves [] = refl
zip-halves (share ∷ shares) = ap (λ rest. share ∷ rest) (zip-halves shares)

module _ (shares : List Share) (places numbers : List ℕ) (places_are : places ≡ map (λ share. share.0) shares) (numbers_are : numbers ≡ map (λ share. share.1) shares) where
  pub zip-parts : zip places numbers ≡ shares
  zip-parts = ap (λ ps. zip ps numbers) places_are ∙ ap (zip (map (λ (share : Share). share.0) shares)) numbers_are ∙ zip-halves shares

  -- there is a share for each place
  pub parts-count : length (zip places numbers) ≡ length places
  parts-count = ap length zip-parts ∙ sym (length-map shares (λ (share : Share). share.0)) ∙ sym (ap length places_are)

-- the halves of pairs are what they were made of
pub firsts : (places numbers : List ℕ) → length numbers ≡ length places → map (λ share. share.0) (zip places numbers) ≡ places
firsts [] numbers e = refl
firsts (place ∷ places) [] e = absurd (omega (arith, e))
firsts (place ∷ places) (n ∷ numbers) e = ap (λ rest. place ∷ rest) (firsts places numbers (omega (arith, e)))

pub seconds : (places numbers : List ℕ) → length numbers ≡ length places → map (λ share. share.1) (zip places numbers) ≡ numbers
seconds [] [] e = refl
seconds [] (n ∷ numbers) e = absurd (omega (arith, e))
seconds (place ∷ places) [] e = absurd (omega (arith, e))
seconds (place ∷ places) (n ∷ numbers) e = ap (λ rest. n ∷ rest) (seconds places numbers (omega (arith, e)))

module _ {T : Type 0} (value : T → ℕ) where
  -- The places and the numbers that a body reads.
  module _ (places : List ℕ) (numbers : List T) (equal : length numbers ≡ length places) (shares : List Share) (view : zip places (map value numbers) ≡ shares) where
    long : length (map value numbers) ≡ length places
    long = length-map numbers value ∙ equal

    pub places-read : (read : List ℕ) → read ≡ places → read ≡ map (λ share. share.0) shares
    places-read read e = e ∙ sym (firsts places (map value numbers) long) ∙ ap (map (λ (share : Share). share.0)) view

    pub numbers-read : (read : List T) → read ≡ numbers → map value read ≡ map (λ share. share.1) shares
    numbers-read read e = ap (map value) e ∙ sym (seconds places (map value numbers) long) ∙ ap (map (λ (share : Share). share.1)) view

  -- the sums that were moved, where there were no numbers before
  module _ (before numbers : List T) (places kept sums : List ℕ) (none : before ≡ []) (to : kept ≡ places)
      (put : map value numbers ≡ map value before ++ map (λ share. share.1) (moved places sums)) where
    all : map value numbers ≡ map (λ share. share.1) (moved places sums)
    all = put ∙ ap (λ ns. map value ns ++ map (λ (share : Share). share.1) (moved places sums)) none

    pub moved-equal : length numbers ≡ length kept
    moved-equal =
        sym (length-map numbers value) ∙ ap length all ∙ length-map (moved places sums) (λ (share : Share). share.1)
        ∙ sym (length-map (moved places sums) (λ (share : Share). share.0)) ∙ ap length (moved-support places sums) ∙ ap length (sym to)

    pub moved-all : zip kept (map value numbers) ≡ moved places sums
    moved-all =
        ap (λ ps. zip ps (map value numbers)) (to ∙ sym (moved-support places sums)) ∙ ap (zip (map (λ (share : Share). share.0) (moved places sums))) all
        ∙ zip-halves (moved places sums)
