-- Numbers of n bytes in a list of bytes, at any place; a number as a list of bytes and back; a list cut or filled up to a length. Assumes nothing.
use Rattle.std.specs.Prelude.{List, [], ◌∷◌, ℕ, zero, suc, ◌+◌, ◌*◌, ◌/◌, ◌%◌, ◌^◌, ◌<◌, get_or, set}

-- each element is a byte
abbrev pub Bytes : List ℕ → Type 0
Bytes l = (j : ℕ) → get_or l j 0 < 2 ^ 8

-- the n bytes from i on as one number, the low byte first
unfoldable pub word_at : List ℕ → ℕ → ℕ → ℕ
word_at l i zero = 0
word_at l i (suc n) = get_or l (i + n) 0 * 2 ^ (8 * n) + word_at l i n

-- the n bytes from i on as one number, the high byte first
unfoldable pub be_at : List ℕ → ℕ → ℕ → ℕ
be_at l i zero = 0
be_at l i (suc n) = be_at l i n * 256 + get_or l (i + n) 0

-- the n low bytes of v stored from i on, the low byte first
unfoldable pub put_word : List ℕ → ℕ → ℕ → ℕ → List ℕ
put_word l i v zero = l
put_word l i v (suc n) = set (put_word l i v n) (i + n) (v / 2 ^ (8 * n) % 256)

-- the w low bytes of n, the low byte first
unfoldable pub enc : ℕ → ℕ → List ℕ
enc zero n = []
enc (suc w) n = n % 256 ∷ enc w (n / 256)

-- the number that bytes stand for, the low byte first
unfoldable pub dec : List ℕ → ℕ
dec [] = 0
dec (b ∷ bs) = dec bs * 256 + b

-- the first n bytes, zeros where the list ends before
unfoldable pub pad : ℕ → List ℕ → List ℕ
pad zero x = []
pad (suc n) [] = 0 ∷ pad n []
pad (suc n) (a ∷ x) = a ∷ pad n x
