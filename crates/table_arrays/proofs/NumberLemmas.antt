-- Numbers in two words, written one behind the other.
use Rattle.std.proofs.Common.{◌≡◌, ℕ, ◌+◌, ◌-◌, ◌<◌, ◌≤◌, List, [], ◌∷◌, ◌++◌, length, map, take, get_or, set, arith, ap, sym, ◌∙◌}
use Rattle.std.proofs.lemmas.List.{map-append, take_all, take_more, take_more_set}
use borrow.Rule.Slice.PartMut.{put_mid}
use Rattle.flat_arrays.specs.declared.wide.Wide.{Wide}
use Rattle.flat_arrays.specs.Words.{natural_of}
use Rattle.subdiv_model.specs.Table.{Row}
use Rattle.table_arrays.specs.Flat.{numerators_of}
use Rattle.flat_arrays.proofs.PartLemmas.{pieces-more, part-written}
use Rattle.table_arrays.proofs.FlatLemmas.{blank}

-- one number more
pub words-more : {X : Type 0} (value : X → ℕ) (numbers : List X) (out : List Wide) (k : ℕ) (x : X) (word : Wide) → k < length numbers → k < length out →
    x ≡ get_or numbers k x → natural_of word ≡ value x → map natural_of (take k out) ≡ map value (take k numbers) →
    map natural_of (take (k + 1) (set out k word)) ≡ map value (take (k + 1) numbers)
words-more value numbers out k x word inside there read is so_far =
    ap (map natural_of) (take_more_set out k word there)
    ∙ map-append natural_of (take k out) (word ∷ [])
    ∙ ap (λ ns. ns ++ natural_of word ∷ []) so_far
    ∙ ap (λ n. map value (take k numbers) ++ n ∷ []) (is ∙ ap value read)
    ∙ sym (map-append value (take k numbers) (get_or numbers k x ∷ []))
    ∙ ap (map value) (sym (take_more numbers k x inside))

pub words-all : {X : Type 0} (value : X → ℕ) (numbers : List X) (out : List Wide) (k : ℕ) → length out ≡ length numbers → length numbers ≤ k →
    map natural_of (take k out) ≡ map value (take k numbers) → map natural_of out ≡ map value numbers
words-all value numbers out k equal end so_far =
    ap (map natural_of) (sym (take_all k out (omega (arith, equal, end)))) ∙ so_far ∙ ap (map value) (take_all k numbers end)

-- the numerators of one row more
pub numerators-more : (rows : List Row) (i at len : ℕ) (out part : List Wide) → i < length rows → at + len ≤ length out → length part ≡ len →
    map natural_of (take at out) ≡ numerators_of (take i rows) → map natural_of part ≡ map (λ share. share.1) (get_or rows i blank).shares →
    map natural_of (take (at + len) (put_mid at (at + len - at) out part)) ≡ numerators_of (take (i + 1) rows)
numerators-more rows i at len out part inside fits e so_far here =
    pieces-more (λ row. map (λ share. share.1) row.shares) rows i blank (map natural_of (take at out)) (map natural_of part) _ inside so_far here
    (ap (map natural_of) (part-written at len out part fits e) ∙ map-append natural_of (take at out) part)
