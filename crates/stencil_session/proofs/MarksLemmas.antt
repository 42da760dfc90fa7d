-- Marks as the leaves of a tree: at the start, after a leaf is written, and the least one.
use Rattle.std.proofs.Common.{◌≡◌, ℕ, zero, suc, ◌+◌, ◌-◌, ◌*◌, ◌^◌, ◌<◌, ◌≤◌, Bool, true, false, ◌||◌, cond, List, length, get_or, set, take, drop, replicate, Some, None, arith, refl, ap, sym, ◌∙◌, subst, inl, inr}
use Rattle.std.specs.Int.{IsPowerOfTwo}
use Rattle.std.proofs.Math.Seq.{take-set-lt}
use Rattle.std.proofs.lemmas.Bool.{cases_lt}
use Rattle.std.proofs.lemmas.List.{get_or-drop, get_or-take, length-drop, length-take-le, length-replicate, drop-replicate, take-replicate, get_or_past, get_or-set_other, length-set}
use Rattle.std.proofs.lemmas.List.Quantifiers.{position-Some}
use Rattle.std.proofs.lemmas.List.Folds.{sum_by-replicate}
use Rattle.std.proofs.lemmas.List.Sums.{sum_by-set, count_by-le-length}
use Rattle.stencil_session.specs.Tree.{least_mark, mark_count, IsTree, AreMarks}
use Rattle.stencil_session.proofs.LeastLemmas.{apart, none-marked, least-none, least-is}

-- no marks
unmarked : (n at : ℕ) → get_or (replicate n false) at false ≡ false
unmarked zero at = refl
unmarked (suc n) zero = refl
unmarked (suc n) (suc at) = unmarked n at

leaves-none : (leaves : ℕ) → drop leaves (replicate (2 * leaves) false) ≡ replicate leaves false
leaves-none leaves = drop-replicate leaves (2 * leaves) false ∙ ap (λ n. replicate n false) (omega arith)

pub view-none : (len leaves : ℕ) (tree : List Bool) → len ≤ leaves → tree ≡ replicate (2 * leaves) false → take len (drop leaves tree) ≡ replicate len false
view-none len leaves tree fits e = ap (λ t. take len (drop leaves t)) e ∙ ap (take len) (leaves-none leaves) ∙ take-replicate len leaves false fits

pub marks-none : (len leaves : ℕ) (tree : List Bool) → IsPowerOfTwo leaves → len < 2 ^ 32 → len ≤ leaves → tree ≡ replicate (2 * leaves) false → AreMarks len leaves 0 tree
marks-none len leaves tree power small fits e = record {
  nodes = record {
    power = power;
    long = ap length e ∙ length-replicate (2 * leaves) false;
    joined = λ node low high other. no node ∙ sym (neither (no (2 * node)) (no (2 * node + 1)));
  };
  small = small;
  fits = fits;
  past = λ number h. get_or-drop leaves tree number false ∙ no (leaves + number);
  counted = sym (ap mark_count (view-none len leaves tree fits e) ∙ sum_by-replicate (λ is_marked. cond is_marked 1 0) len false ∙ omega arith);
}
  where
    no : (at : ℕ) → get_or tree at false ≡ false
    no at = ap (λ t. get_or t at false) e ∙ unmarked (2 * leaves) at

    neither : {a b : Bool} → a ≡ false → b ≡ false → (a || b) ≡ false
    neither {a} {b} f g = ap (λ v. v || b) f ∙ g

-- one mark more, and one less
more-count : (number : ℕ) (marks : List Bool) → number < length marks → get_or marks number false ≡ false → mark_count (set marks number true) ≡ mark_count marks + 1
more-count number marks inside is =
    let counts : mark_count (set marks number true) + 0 ≡ mark_count marks + 1 =
    subst (λ b. mark_count (set marks number true) + cond b 1 0 ≡ mark_count marks + 1) is (sum_by-set (λ is_marked. cond is_marked 1 0) marks number true false inside) in
    omega (arith, counts)

less-count : (number : ℕ) (marks : List Bool) → number < length marks → get_or marks number false ≡ true → mark_count (set marks number false) + 1 ≡ mark_count marks
less-count number marks inside is =
    let counts : mark_count (set marks number false) + 1 ≡ mark_count marks + 0 =
    subst (λ b. mark_count (set marks number false) + cond b 1 0 ≡ mark_count marks + 0) is (sum_by-set (λ is_marked. cond is_marked 1 0) marks number false false inside) in
    omega (arith, counts)

-- marks that are seen as a list
module _ (len leaves marked : ℕ) (old marks : List Bool) (are : AreMarks len leaves marked old) (view : take len (drop leaves old) ≡ marks) where
  marks-length : length marks ≡ len
  marks-length = sym (ap length view) ∙ length-take-le len (drop leaves old) (omega (arith, length-drop leaves old, are.nodes.long, are.fits))

  marks-count : marked ≡ mark_count marks
  marks-count = are.counted ∙ ap mark_count view

  leaf-at : (number : ℕ) → number < len → get_or marks number false ≡ get_or (drop leaves old) number false
  leaf-at number inside = sym (ap (λ l. get_or l number false) view) ∙ get_or-take len (drop leaves old) number false inside

  -- the least mark among the leaves is the least one
  taken : (number : ℕ) → Some number ≡ least_mark (drop leaves old) → (number < length marks) × (get_or marks number false ≡ true) × (Some number ≡ least_mark marks)
  taken number least =
      let found = position-Some (λ is_marked. is_marked) (drop leaves old) number false (sym least) in
      let inside : number < len = below found.1 in
      let within : number < length marks = subst (λ n. number < n) (sym marks-length) inside in
      let is_marked : get_or marks number false ≡ true = leaf-at number inside ∙ found.1 in
      (within, is_marked, sym (least-is marks number within (λ other h. leaf-at other (omega (arith, h, inside)) ∙ found.2 other h) is_marked))
    where
      below : get_or (drop leaves old) number false ≡ true → number < len
      below is = elim (cases_lt number len) [
        | inl inside ↦ inside
        | inr past ↦ absurd (apart (sym is ∙ are.past number past))
      ]

  pub taken-inside : (number : ℕ) → Some number ≡ least_mark (drop leaves old) → number < length marks
  taken-inside number least = (taken number least).0

  pub taken-below : (number : ℕ) → Some number ≡ least_mark (drop leaves old) → number < 2 ^ 32
  taken-below number least = omega (arith, are.small, marks-length, (taken number least).0)

  pub taken-least : (number : ℕ) → Some number ≡ least_mark (drop leaves old) → Some number ≡ least_mark marks
  taken-least number least = (taken number least).2

  -- An unmarked root means that no number is marked.
  pub taken-none : (root : Bool) → root ≡ get_or old 1 root → root ≡ false → None ≡ least_mark marks
  taken-none root is unmarked_root = sym (least-none marks none)
    where
      none : (number : ℕ) → get_or marks number false ≡ false
      none number = elim (cases_lt number len) [
        | inl inside ↦ leaf-at number inside ∙ none-marked leaves old are.nodes (sym (subst (λ b. b ≡ get_or old 1 b) unmarked_root is)) number
        | inr past ↦ get_or_past marks number false (omega (arith, past, marks-length))
      ]

  -- after a leaf is written
  pub view-put : (number : ℕ) (value : Bool) (new : List Bool) → number < length marks → drop leaves new ≡ set (drop leaves old) number value → take len (drop leaves new) ≡ set marks number value
  view-put number value new inside put =
      ap (take len) put
      ∙ take-set-lt len (drop leaves old) number value (omega (arith, inside, marks-length))
      ∙ ap (λ l. set l number value) view

  marks-put : (now number : ℕ) (value : Bool) (new : List Bool) → number < length marks → drop leaves new ≡ set (drop leaves old) number value → IsTree leaves new
      → now ≡ mark_count (set marks number value) → AreMarks len leaves now new
  marks-put now number value new inside put tree count = record {
    nodes = tree;
    small = are.small;
    fits = are.fits;
    past = λ other h.
        ap (λ l. get_or l other false) put
        ∙ get_or-set_other (drop leaves old) number other value false (λ e. omega (arith, e, h, inside, marks-length))
        ∙ are.past other h;
    counted = count ∙ sym (ap mark_count (view-put number value new inside put));
  }

  pub marks-more : (number : ℕ) (new : List Bool) → number < length marks → get_or marks number false ≡ false → drop leaves new ≡ set (drop leaves old) number true → IsTree leaves new
      → AreMarks len leaves (marked + 1) new
  marks-more number new inside is put tree =
      marks-put (marked + 1) number true new inside put tree (omega (arith, marks-count, more-count number marks inside is))

  pub marks-less : (number : ℕ) (new : List Bool) → Some number ≡ least_mark (drop leaves old) → drop leaves new ≡ set (drop leaves old) number false → IsTree leaves new
      → AreMarks len leaves (marked - 1) new
  marks-less number new least put tree =
      let found = taken number least in
      marks-put (marked - 1) number false new found.0 put tree (omega (arith, marks-count, less-count number marks found.0 found.1))

  -- a count that fits, and that is above 0
  pub room : (number : ℕ) → number < length marks → get_or marks number false ≡ false → marked + 1 < 2 ^ 32
  room number inside is =
      omega (arith, are.small, marks-count, marks-length, more-count number marks inside is, count_by-le-length (λ is_marked. is_marked) (set marks number true), length-set marks number true)

  pub some : (number : ℕ) → Some number ≡ least_mark (drop leaves old) → 1 ≤ marked
  some number least =
      let found = taken number least in
      omega (arith, marks-count, less-count number marks found.0 found.1)
