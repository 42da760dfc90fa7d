-- Weights as the nearest floats, written one behind the other.
use Rattle.std.proofs.Common.{◌≡◌, ℕ, ◌+◌, ◌-◌, ◌^◌, ◌<◌, ◌≤◌, ℤ, pos, List, [], ◌∷◌, ◌++◌, length, map, take, get_or, arith, refl, ap, sym, ◌∙◌, subst, to_z}
use Rattle.std.specs.List.{All}
use Rattle.std.specs.Int.{w128}
use Rattle.std.proofs.lemmas.Int.{to_z_pos}
use Rattle.std.proofs.lemmas.List.{length-map, get_or-map, take_all, take_more}
use Rattle.std.proofs.lemmas.List.Elements.{All-map}
use Rattle.std.proofs.lemmas.List.Sums.{get_or-le-sum_by}
use borrow.Rule.Slice.PartMut.{put_mid}
use Rattle.subdiv_model.specs.Table.{Share, Row, Table, IsRow, IsTable, row_at, entries_of}
use Rattle.nearest_float.specs.Binary.{Format}
use Rattle.nearest_float.specs.Nearest.{IsNearest}
use Rattle.nearest_float.specs.NearestArrays.{AreNearest}
use Rattle.nearest_float.proofs.ArrayLemmas.{AreNearest-append, AreNearest-put}
use Rattle.table_arrays.specs.Flat.{row_fractions, fractions_of}
use Rattle.flat_arrays.proofs.PartLemmas.{pieces-more, part-written}
use Rattle.table_arrays.proofs.FlatLemmas.{blank}

-- a numerator over a denominator
abbrev over : ℕ → ℕ → ℤ × ℕ
over den numerator = (pos numerator, den)

-- the weights of shares are their numerators over the denominator
fractions-map : (den : ℕ) (shares : List Share) → map (over den) (map (λ share. share.1) shares) ≡ map (λ share. over den share.1) shares
fractions-map den [] = refl
fractions-map den (share ∷ shares) = ap (λ fractions. over den share.1 ∷ fractions) (fractions-map den shares)

pub weights-row : (f : Format) (row : Row) (numerators : List ℕ) (den : ℕ) (bits : List ℕ) → numerators ≡ map (λ share. share.1) row.shares → den ≡ row.den →
    AreNearest f (map (λ numerator. (pos numerator, den)) numerators) bits → AreNearest f (row_fractions row) bits
weights-row f row numerators den bits e d near =
    let same : map (over den) numerators ≡ row_fractions row =
    ap (map (over den)) e ∙ ap (λ n. map (over n) (map (λ share. share.1) row.shares)) d ∙ fractions-map row.den row.shares in
    subst (λ fractions. AreNearest f fractions bits) same near

-- no numerator of a table has more bits than its row's denominator can have
pub numerators-short : (table : Table) (row : ℕ) (numerators : List ℕ) → IsTable table → row < length table.rows → numerators ≡ map (λ share. share.1) (row_at table row).shares →
    All (λ numerator. numerator < 2 ^ 127) numerators
numerators-short table row numerators is inside e =
    let good : IsRow table.controls (row_at table row) = is.rows row _ inside in
    let each : All (λ (share : Share). share.1 < 2 ^ 127) (row_at table row).shares =
    λ k d h. omega (arith, good.whole, good.short, get_or-le-sum_by (λ (share : Share). share.1) (row_at table row).shares k d h) in
    subst (All (λ numerator. numerator < 2 ^ 127)) (sym e) (All-map (λ numerator. numerator < 2 ^ 127) (λ (share : Share). share.1) (row_at table row).shares each)

module _ {X : Type 0} (f : Format) (value : X → ℕ) (den : ℕ) (numerators : List X) where
  abbrev weight : X → ℤ × ℕ
  weight x = (pos (value x), den)

  -- one number more
  pub nearest-more : (old new : List ℕ) (k : ℕ) (x : X) (numerator : ℕ) → k < length numerators → k < length new → x ≡ get_or numerators k x →
      All (λ n. value n < 2 ^ 127) numerators → numerator ≡ value x → take k new ≡ take k old → IsNearest f (to_z w128 numerator) den (get_or new k 0) →
      AreNearest f (take k (map weight numerators)) (take k old) → AreNearest f (take (k + 1) (map weight numerators)) (take (k + 1) new)
  nearest-more old new k x numerator inside there read short is kept one so_far =
      let small : numerator < 2 ^ 127 = omega (arith, is, ap value read, short k x inside) in
      let same : to_z w128 numerator ≡ pos (value x) = to_z_pos w128 numerator small ∙ ap pos is in
      let split : take (k + 1) (map weight numerators) ≡ take k (map weight numerators) ++ weight x ∷ [] =
      take_more (map weight numerators) k (weight x) (omega (arith, inside, length-map numerators weight))
      ∙ ap (λ q. take k (map weight numerators) ++ q ∷ []) (get_or-map weight numerators k x (weight x) inside ∙ ap weight (sym read)) in
      subst (λ fractions. AreNearest f fractions (take (k + 1) new)) (sym split)
      (AreNearest-put f (take k (map weight numerators)) old new k (pos (value x)) den there kept (subst (λ n. IsNearest f n den (get_or new k 0)) same one) so_far)

  pub nearest-all : (out : List ℕ) (k : ℕ) → length out ≡ length numerators → length numerators ≤ k → AreNearest f (take k (map weight numerators)) (take k out) →
      AreNearest f (map weight numerators) out
  nearest-all out k equal end so_far =
      let fractions = take_all k (map weight numerators) (omega (arith, end, length-map numerators weight)) in
      let bits = take_all k out (omega (arith, equal, end)) in
      subst (λ xs. AreNearest f (map weight numerators) xs) bits (subst (λ qs. AreNearest f qs (take k out)) fractions so_far)

-- the weights of one row more
pub weights-more : (f : Format) (rows : List Row) (i at len : ℕ) (out part : List ℕ) → i < length rows → at + len ≤ length out → length part ≡ len →
    AreNearest f (fractions_of (take i rows)) (take at out) → AreNearest f (row_fractions (get_or rows i blank)) part →
    AreNearest f (fractions_of (take (i + 1) rows)) (take (at + len) (put_mid at (at + len - at) out part))
weights-more f rows i at len out part inside fits e so_far here =
    let both = AreNearest-append f (fractions_of (take i rows)) (row_fractions (get_or rows i blank)) (take at out) part so_far here in
    let fractions = pieces-more row_fractions rows i blank (fractions_of (take i rows)) (row_fractions (get_or rows i blank)) _ inside refl refl refl in
    subst (λ bits. AreNearest f (fractions_of (take (i + 1) rows)) bits) (sym (part-written at len out part fits e))
    (subst (λ qs. AreNearest f qs (take at out ++ part)) fractions both)

pub weights-all : (f : Format) (rows : List Row) (i at : ℕ) (out : List ℕ) → length rows ≤ i → at ≡ entries_of rows → AreNearest f (fractions_of (take i rows)) (take at out) →
    AreNearest f (fractions_of rows) (take (entries_of rows) out)
weights-all f rows i at out end all so_far =
    subst (λ n. AreNearest f (fractions_of rows) (take n out)) all (subst (λ rs. AreNearest f (fractions_of rs) (take at out)) (take_all i rows end) so_far)
