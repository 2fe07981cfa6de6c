-- The numbers that bound every column and state, each under one name. Proofs elsewhere cite the laws, not the numbers. Assumes nothing.
use Rattle.std.specs.Prelude.{ℕ, ◌<◌, ◌≡◌, refl}
use Rattle.std.proofs.Common.{lit<}

-- rows, counted from row 0 of the views
unfoldable pub row_limit : ℕ
row_limit = 32767

-- blocks of one column, the open one included
unfoldable pub block_limit : ℕ
block_limit = 4096

-- bytes of the data, and of one value or block
unfoldable pub byte_limit : ℕ
byte_limit = 16777216

-- the largest maximum that compaction takes
unfoldable pub most_compaction : ℕ
most_compaction = 2147483647

-- the code's constant is the definition
pub row-limit-is : 32767 ≡ row_limit
unfolding row_limit
row-limit-is = refl

pub block-limit-is : 4096 ≡ block_limit
unfolding block_limit
block-limit-is = refl

pub byte-limit-is : 16777216 ≡ byte_limit
unfolding byte_limit
byte-limit-is = refl

pub most-compaction-is : 2147483647 ≡ most_compaction
unfolding most_compaction
most-compaction-is = refl

-- rows, places of rows times sixteen, blocks and bytes are far below what a word of 32 bits holds
pub row-limit-small : row_limit < 16777216
unfolding row_limit
row-limit-small = lit< tt

pub block-limit-small : block_limit < 65536
unfolding block_limit
block-limit-small = lit< tt

pub byte-limit-small : byte_limit < 4294967296
unfolding byte_limit
byte-limit-small = lit< tt
