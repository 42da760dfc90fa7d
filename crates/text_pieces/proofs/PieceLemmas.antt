-- The text of five pieces.
use Rattle.std.proofs.Common.{◌≡◌, ◌++◌, List, [], ◌∷◌, length, get_or, arith, ap, append-nil}
use Rattle.text_pieces.specs.Text.{piece_text, pieces_text}
use Rattle.text_pieces.specs.declared.piece.Piece.{Piece}

pub five-texts : (pieces : List Piece) (piece : Piece) → length pieces ≡ 5
    → pieces_text pieces
    ≡ piece_text (get_or pieces 0 piece) ++ (piece_text (get_or pieces 1 piece) ++ (piece_text (get_or pieces 2 piece) ++ (piece_text (get_or pieces 3 piece) ++ piece_text (get_or pieces 4 piece))))
five-texts [] piece h = absurd (omega arith)
five-texts (a ∷ []) piece h = absurd (omega arith)
five-texts (a ∷ (b ∷ [])) piece h = absurd (omega arith)
five-texts (a ∷ (b ∷ (c ∷ []))) piece h = absurd (omega arith)
five-texts (a ∷ (b ∷ (c ∷ (d ∷ [])))) piece h = absurd (omega arith)
five-texts (a ∷ (b ∷ (c ∷ (d ∷ (e ∷ []))))) piece h =
    ap (λ text. piece_text a ++ (piece_text b ++ (piece_text c ++ (piece_text d ++ text)))) (append-nil (piece_text e))
five-texts (a ∷ (b ∷ (c ∷ (d ∷ (e ∷ (f ∷ pieces)))))) piece h = absurd (omega arith)
