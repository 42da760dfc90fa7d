-- The first leaf that is marked, row by row.
use Rattle.std.proofs.Common.{◌≡◌, ℕ, zero, suc, ◌+◌, ◌-◌, ◌*◌, ◌/◌, ◌^◌, ◌<◌, ◌≤◌, Bool, true, false, ◌||◌, cond, nat_lt, List, length, get_or, drop, Some, None, arith, refl, ap, sym, ◌∙◌, subst, inl, inr, ◌⊎◌, if◌then◌else◌}
use Rattle.std.proofs.Math.Nat.{pow-succ', le-mul_of_pos_right}
use Rattle.std.proofs.lemmas.Nat.{pow_pos}
use Rattle.std.proofs.lemmas.Bool.{cases_eq, cases_lt, lt-ltb, le-ltb}
use Rattle.std.proofs.lemmas.List.{get_or-drop, length-drop, get_or_past}
use Rattle.std.proofs.lemmas.List.Sums.{position_or_len_is}
use Rattle.std.specs.List.{position_or_len}
use Rattle.stencil_session.specs.Tree.{least_mark, IsTree, IsFirstInRow}

pub apart : true ≡ false → ⊥
apart e = cc

neither : (a b : Bool) → (a || b) ≡ false → (a ≡ false) × (b ≡ false)
neither true b none = absurd (apart none)
neither false b none = (refl, none)

halves : (node : ℕ) → (node ≡ 2 * (node / 2)) ⊎ (node ≡ 2 * (node / 2) + 1)
halves node = elim (cases_eq node (2 * (node / 2))) [
  | inl even ↦ inl even
  | inr odd ↦ inr (omega (arith, odd))
]

-- No child of an unmarked node is marked.
pub child-unmarked : (leaves node : ℕ) (tree : List Bool) → IsTree leaves tree → 1 < node → node < 2 * leaves → get_or tree (node / 2) false ≡ false → get_or tree node false ≡ false
child-unmarked leaves node tree is low high parent =
    let joined = is.joined (node / 2) (omega arith) (omega arith) (λ e. omega (arith, e)) in
    let children = neither (get_or tree (2 * (node / 2)) false) (get_or tree (2 * (node / 2) + 1) false) (sym joined ∙ parent) in
    elim (halves node) [
      | inl even ↦ subst (λ n. get_or tree n false ≡ false) (sym even) children.0
      | inr odd ↦ subst (λ n. get_or tree n false ≡ false) (sym odd) children.1
    ]

-- No node below an unmarked root is marked; `fuel` is at least the number of the node.
none-within : (leaves : ℕ) (tree : List Bool) → IsTree leaves tree → get_or tree 1 false ≡ false → (fuel node : ℕ) → node ≤ fuel → 0 < node → node < 2 * leaves → get_or tree node false ≡ false
none-within leaves tree is root zero node h low high = absurd (omega (arith, h, low))
none-within leaves tree is root (suc fuel) node h low high = elim (cases_eq node 1) [
  | inl one ↦ subst (λ n. get_or tree n false ≡ false) (sym one) root
  | inr more ↦
      child-unmarked leaves node tree is (omega (arith, more, low)) high (none-within leaves tree is root fuel (node / 2) (omega (arith, h, low)) (omega (arith, more, low)) (omega (arith, high)))
]

-- where the root is not marked, no leaf is
pub none-marked : (leaves : ℕ) (tree : List Bool) → IsTree leaves tree → get_or tree 1 false ≡ false → (number : ℕ) → get_or (drop leaves tree) number false ≡ false
none-marked leaves tree is root number = get_or-drop leaves tree number false ∙ elim (cases_lt (leaves + number) (2 * leaves)) [
  | inl inside ↦ none-within leaves tree is root (leaves + number) (leaves + number) (omega arith) (omega (arith, inside)) inside
  | inr past ↦ get_or_past tree (leaves + number) false (omega (arith, past, is.long))
]

-- the least mark, where no mark is, and where it is known
pub least-none : (marks : List Bool) → ((number : ℕ) → get_or marks number false ≡ false) → least_mark marks ≡ None
least-none marks none =
    let at : position_or_len (λ m. m) marks ≡ length marks = position_or_len_is (λ m. m) marks (length marks) false (omega arith) (λ other _. none other) (λ h. absurd (omega (arith, h))) in
    subst (λ n. cond (nat_lt n (length marks)) (Some n) None ≡ None) (sym at) (ap (λ b. cond b (Some (length marks)) None) (le-ltb (length marks) (length marks) (omega arith)))

pub least-is : (marks : List Bool) (number : ℕ) → number < length marks → ((other : ℕ) → other < number → get_or marks other false ≡ false) → get_or marks number false ≡ true → least_mark marks ≡ Some number
least-is marks number inside before marked =
    let at : position_or_len (λ m. m) marks ≡ number = position_or_len_is (λ m. m) marks number false (omega (arith, inside)) before (λ _. marked) in
    subst (λ n. cond (nat_lt n (length marks)) (Some n) None ≡ Some number) (sym at) (ap (λ b. cond b (Some number) None) (lt-ltb number (length marks) inside))

-- a row of inner nodes begins a row above the leaves or higher, and the next row begins at twice its beginning
inner-row : (leaves node first height : ℕ) → leaves ≡ first * 2 ^ height → first ≤ node → node < leaves → (below : ℕ) × (leaves ≡ 2 * first * 2 ^ below)
inner-row leaves node first zero e low inner = absurd (omega (arith, e, low, inner))
inner-row leaves node first (suc below) e low inner = (below, e ∙ ap (λ n. first * n) (pow-succ' 2 below) ∙ grind arith)

-- a row that has a node past the inner ones is the row of leaves
leaf-row : (leaves node first height : ℕ) → leaves ≡ first * 2 ^ height → node < 2 * first → leaves ≤ node → first ≡ leaves
leaf-row leaves node first zero e high past = omega (arith, e)
leaf-row leaves node first (suc below) e high past =
    let twice : leaves ≡ 2 * first * 2 ^ below = e ∙ ap (λ n. first * n) (pow-succ' 2 below) ∙ grind arith in
    let more : 2 * first ≤ 2 * first * 2 ^ below = le-mul_of_pos_right (2 * first) (pow_pos below) in
    absurd (omega (arith, twice, more, high, past))

-- the right child is marked where the left one is not
right-one : (a b : Bool) → true ≡ (a || b) → a ≡ false → b ≡ true
right-one a b h e = sym (h ∙ ap (λ v. v || b) e)

-- the first in a row of inner nodes has the first of the next row as a child
module _ (leaves node : ℕ) (tree : List Bool) (is : IsTree leaves tree) (inner : node < leaves) (row : IsFirstInRow leaves node tree) where
  before-left : (other : ℕ) → 2 * row.first ≤ other → other < 2 * node → get_or tree other false ≡ false
  before-left other low high =
      child-unmarked leaves other tree is (omega (arith, low, high, row.high)) (omega (arith, high, inner)) (row.before (other / 2) (omega (arith, low)) (omega (arith, high)))

  left-or-right : true ≡ (get_or tree (2 * node) false || get_or tree (2 * node + 1) false)
  left-or-right = sym row.marked ∙ is.joined node (omega (arith, row.low, row.high)) inner (λ e. omega (arith, e, row.low, row.high))

  next-row : (below : ℕ) × (leaves ≡ 2 * row.first * 2 ^ below)
  next-row = inner-row leaves node row.first row.height row.row row.low inner

  to-left : get_or tree (2 * node) false ≡ true → IsFirstInRow leaves (2 * node) tree
  to-left marked = record {
    first = 2 * row.first;
    height = next-row.0;
    row = next-row.1;
    low = omega (arith, row.low);
    high = omega (arith, row.high);
    marked = marked;
    before = before-left;
  }

  to-right : get_or tree (2 * node) false ≡ false → IsFirstInRow leaves (2 * node + 1) tree
  to-right unmarked = record {
    first = 2 * row.first;
    height = next-row.0;
    row = next-row.1;
    low = omega (arith, row.low);
    high = omega (arith, row.high);
    marked = right-one (get_or tree (2 * node) false) (get_or tree (2 * node + 1) false) left-or-right unmarked;
    before = λ other low high. elim (cases_eq other (2 * node)) [
      | inl left ↦ subst (λ n. get_or tree n false ≡ false) (sym left) unmarked
      | inr apart ↦ before-left other low (omega (arith, high, apart))
    ];
  }

  pub row-next : (next : ℕ) → next ≡ (if get_or tree (2 * node) false then 2 * node else 2 * node + 1) → IsFirstInRow leaves next tree
  row-next next e = go (get_or tree (2 * node) false) refl
    where
      go : (b : Bool) → get_or tree (2 * node) false ≡ b → IsFirstInRow leaves next tree
      go true is_left = subst (λ n. IsFirstInRow leaves n tree) (sym (e ∙ ap (λ b. if b then 2 * node else 2 * node + 1) is_left)) (to-left is_left)
      go false is_right = subst (λ n. IsFirstInRow leaves n tree) (sym (e ∙ ap (λ b. if b then 2 * node else 2 * node + 1) is_right)) (to-right is_right)

-- the first in the row of leaves is the least that is marked
pub row-end : (leaves node : ℕ) (tree : List Bool) → IsTree leaves tree → leaves ≤ node → IsFirstInRow leaves node tree → Some (node - leaves) ≡ least_mark (drop leaves tree)
row-end leaves node tree is past row =
    let first : row.first ≡ leaves = leaf-row leaves node row.first row.height row.row row.high past in
    let before : (other : ℕ) → other < node - leaves → get_or (drop leaves tree) other false ≡ false =
    λ other below. get_or-drop leaves tree other false ∙ row.before (leaves + other) (omega (arith, first)) (omega (arith, below)) in
    let marked : get_or (drop leaves tree) (node - leaves) false ≡ true =
    get_or-drop leaves tree (node - leaves) false ∙ subst (λ n. get_or tree n false ≡ true) (omega (arith, past)) row.marked in
    sym (least-is (drop leaves tree) (node - leaves) (omega (arith, length-drop leaves tree, is.long, first, row.high, past)) before marked)
