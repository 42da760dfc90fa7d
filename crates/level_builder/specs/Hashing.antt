-- The hash of an edge by the blocks of its ends, each of 8 points.
use Rattle.std.specs.Prelude.{ℕ, ◌*◌, ◌/◌, ◌%◌, ◌^◌, List, fold, bit_and, bit_or, bit_xor}
use Rattle.std.specs.Hash.{le_bytes}
use Rattle.std.specs.Hash.DefaultHasher as sip
use Rattle.level_builder.specs.declared.hashing.BlockHasher.{BlockHasher}

-- The ends after one more byte, which becomes the highest one.
abbrev pub with_byte : ℕ → ℕ → ℕ
with_byte ends b = bit_or (ends / 2 ^ 8) ((b * 2 ^ 56) % 2 ^ 64)

-- The state after these bytes.
abbrev pub write : BlockHasher → List ℕ → BlockHasher
write s bytes = record { keyed = s.keyed; ends = fold with_byte s.ends bytes }

-- The numbers of the blocks of two ends, of which the first is in the lower 32 bits.
abbrev pub blocks_of : ℕ → ℕ
blocks_of ends = bit_and (ends / 2 ^ 3) 0x1FFF_FFFF_1FFF_FFFF

-- The places of two ends in their blocks, as bits 24 to 29 of a hash. They change the tag of an edge. Below 2^24
-- groups they do not change its group.
abbrev pub places_in_blocks : ℕ → ℕ
places_in_blocks ends = bit_xor ((bit_and ends 7 * 2 ^ 24) % 2 ^ 64) ((bit_and (ends / 2 ^ 32) 7 * 2 ^ 27) % 2 ^ 64)

-- What `finish` returns: the keyed hash of the blocks, with the places in them.
abbrev pub finish : BlockHasher → ℕ
finish s = bit_xor (sip.finish (sip.write s.keyed (le_bytes 8 (blocks_of s.ends)))) (places_in_blocks s.ends)
