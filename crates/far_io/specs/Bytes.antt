-- The effect of one call on the bytes of a source or sink and on its count of faults.
use Rattle.std.specs.Prelude.{ℕ, ◌≡◌, ◌-◌, ◌^◌, ◌<◌, ◌≤◌, ◌⊎◌, List, [], ◌∷◌, ◌++◌, length, take, Option, Some, None}

-- The count of faults rose, or is at its end, 2^64 - 1.
abbrev pub Rose : ℕ → ℕ → Type 0
Rose old new = (old < new) ⊎ (2 ^ 64 - 1 ≤ new)

-- The source lost exactly these bytes, a prefix of those it had left. Nothing is claimed of a source that does not report its bytes.
abbrev pub Took : Option (List ℕ) → Option (List ℕ) → List ℕ → Type 0
Took (Some old) (Some new) bytes = old ≡ bytes ++ new
Took (Some old) None bytes = ⊥
Took None (Some new) bytes = ⊥
Took None None bytes = Unit {0}

-- The source lost some prefix of the bytes left.
abbrev pub TookPrefix : Option (List ℕ) → Option (List ℕ) → Type 0
TookPrefix old new = (taken : List ℕ) × Took old new taken

-- The source lost one byte.
abbrev pub TookOne : Option (List ℕ) → Option (List ℕ) → Type 0
TookOne old new = (byte : ℕ) × Took old new (byte ∷ [])

-- The source lost a prefix longer than the bound.
abbrev pub TookMore : ℕ → Option (List ℕ) → Option (List ℕ) → Type 0
TookMore bound old new = (taken : List ℕ) × Took old new taken × (bound < length taken)

-- The source lost a prefix no longer than the bound.
abbrev pub TookAtMost : ℕ → Option (List ℕ) → Option (List ℕ) → Type 0
TookAtMost bound old new = (taken : List ℕ) × Took old new taken × (length taken ≤ bound)

-- The sink added exactly these bytes after those it held. Nothing is claimed of a sink that does not report its bytes.
abbrev pub Added : Option (List ℕ) → Option (List ℕ) → List ℕ → Type 0
Added (Some old) (Some new) bytes = new ≡ old ++ bytes
Added (Some old) None bytes = ⊥
Added None (Some new) bytes = ⊥
Added None None bytes = Unit {0}

-- The sink added a prefix of the text, perhaps all of it.
abbrev pub AddedPrefix : Option (List ℕ) → Option (List ℕ) → List ℕ → Type 0
AddedPrefix old new text = (n : ℕ) × (n ≤ length text) × Added old new (take n text)

-- The sink added a prefix that is shorter than the text.
abbrev pub AddedProperPrefix : Option (List ℕ) → Option (List ℕ) → List ℕ → Type 0
AddedProperPrefix old new text = (n : ℕ) × (n < length text) × Added old new (take n text)

-- The source has no bytes left. Nothing is claimed of a source that does not report its bytes.
abbrev pub IsDry : Option (List ℕ) → Type 0
IsDry (Some left) = left ≡ []
IsDry None = Unit {0}
