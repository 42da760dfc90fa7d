-- The growth of a list of terms.
use Rattle.std.specs.Prelude.{◌≡◌, ℕ, ◌+◌, ◌≤◌, List, ◌++◌}
use Rattle.smallvec.specs.SmallVec.{SmallVec, small_vec_len, HasRoomFor}
use Rattle.subdiv_model.specs.Mask as model
use Rattle.mask_rules.specs.declared.mask.Term.{Term}
use Rattle.mask_rules.specs.View.{terms_of}
use Rattle.mask_rules.specs.Spread.{positive}

-- the list grows by at most `more` terms, and takes no memory while it fits its short form
pub record Grows (old : SmallVec Term) (more : ℕ) (new : SmallVec Term) : Type 0 where
  pub longer : small_vec_len new ≤ small_vec_len old + more
  pub kept : HasRoomFor old more → new.capacity ≡ old.capacity

-- the list gets these terms behind the others, without those of weight 0
abbrev pub GetsTerms : SmallVec Term → List model.Term → SmallVec Term → Type 0
GetsTerms old more new = terms_of new.items ≡ terms_of old.items ++ positive more
