use Rattle.std.proofs.Common.{rules}
use Rattle.text_pieces.proofs.piece.Piece.text.Goals as goal

-- asked for by name, so that a body that breaks it is refused at once
pub returns-in-Number : goal.returns-in-Number
returns-in-Number c = search rules
