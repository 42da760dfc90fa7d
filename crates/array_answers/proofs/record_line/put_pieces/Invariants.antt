use Rattle.std.proofs.Common.{◌≡◌, ◌+◌, ◌++◌, length, take}
use Rattle.text_pieces.specs.Text.{pieces_text}
use Rattle.array_answers.proofs.record_line.put_pieces.Given as goal

-- the bytes there and the rest make the whole text, which fits
abbrev pub invariant-loop-rest : goal.invariant-loop-rest
invariant-loop-rest l = record {
  written : take l.end l.line ++ pieces_text l.rest ≡ take l.fn.at l.fn.line ++ pieces_text l.fn.pieces;
  count : l.end + length (pieces_text l.rest) ≡ l.fn.at + length (pieces_text l.fn.pieces);
}

abbrev pub decreases-loop-rest : goal.decreases-loop-rest
decreases-loop-rest l = length l.rest
