-- The fault of a line that begins with `move`.
use Rattle.std.proofs.Common.{◌≡◌, ℕ, true, List, [], ◌∷◌, refl}
use Rattle.far_model.specs.Frames.{is_move_line, move_cause, words_cause}

-- such a line is judged as a move
pub cause-of-move : (count common : ℕ) (words : List (List ℕ)) → is_move_line words ≡ true
    → words_cause count common words ≡ move_cause count common words
cause-of-move count common [] is = cc
cause-of-move count common (keyword ∷ values) is = rw is refl
