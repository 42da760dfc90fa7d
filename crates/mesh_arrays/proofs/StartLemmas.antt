-- The starts of successive lists.
use Rattle.std.proofs.Common.{◌≡◌, ℕ, zero, suc, ◌-◌, List, [], ◌∷◌, length, get_or, arith}
use Rattle.level_topology.specs.Packed.{Ascend}

last-at : (starts : List ℕ) (end n : ℕ) → suc n ≡ length starts → Ascend starts end → get_or starts n 0 ≡ end
last-at [] end n e h = absurd h
last-at (a ∷ []) end zero e h = h
last-at (a ∷ []) end (suc n) e h = absurd (omega (arith, e))
last-at (a ∷ b ∷ starts) end zero e h = absurd (omega (arith, e))
last-at (a ∷ b ∷ starts) end (suc n) e h = last-at (b ∷ starts) end n (omega (arith, e)) h.1

-- the last start is where all ends
pub last-start : (starts : List ℕ) (end : ℕ) → Ascend starts end → get_or starts (length starts - 1) 0 ≡ end
last-start [] end h = absurd h
last-start (a ∷ starts) end h = last-at (a ∷ starts) end (length (a ∷ starts) - 1) (omega arith) h
