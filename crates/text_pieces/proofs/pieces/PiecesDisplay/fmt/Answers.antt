use Rattle.std.proofs.Common.{[]}
use Rattle.text_pieces.specs.declared.piece.Piece.TheVariants.{Text}
use Rattle.text_pieces.proofs.PieceLemmas.{five-texts}
use Rattle.text_pieces.proofs.pieces.PiecesDisplay.fmt.Goals as goal

pub returns-clause-writes : goal.returns-clause-writes
returns-clause-writes g c = λ plain ok.
    rw (← c.self.view_is, five-texts c.self.inside.pieces (Text (record { ref_ptr = (0, 0); now = [] })) c.self.invariant) (c.write.ensures.writes plain ok)
