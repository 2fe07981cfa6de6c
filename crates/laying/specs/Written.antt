-- What is written from the front of lent buffers: views a row, blocks end to end, numbers. Each form peels its last part. Assumes nothing.
use Rattle.std.specs.Prelude.{List, [], ◌∷◌, ◌++◌, ℕ, zero, suc, ◌+◌, ◌*◌, length, drop}
use Rattle.std.proofs.Math.Seq.{paste}

-- xs over the front of d
abbrev pub front : {A : Type 0} → List A → List A → List A
front d xs = xs ++ drop (length xs) d

-- the views of the rows 0 to n - 1, that of row r as f says
unfoldable pub put_rows : List ℕ → (ℕ → List ℕ) → ℕ → List ℕ
put_rows views f zero = views
put_rows views f (suc n) = paste (put_rows views f n) (16 * n) (f n) 16

unfoldable pub total : List ℕ → ℕ
total [] = 0
total (n ∷ ns) = n + total ns

-- the starts of blocks of these lengths that lie end to end from a place
unfoldable pub starts_from : ℕ → List ℕ → List ℕ
starts_from at [] = []
starts_from at (n ∷ ns) = at ∷ starts_from (at + n) ns
