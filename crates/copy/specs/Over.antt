-- A list written over the front of another, whole or its first elements. Assumes nothing.
use Rattle.std.specs.Prelude.{List, ◌++◌, ℕ, length, take, drop}

abbrev pub over : List ℕ → List ℕ → List ℕ
over s d = s ++ drop (length s) d

-- d with its first o elements those of s
unfoldable pub copied_up_to : List ℕ → List ℕ → ℕ → List ℕ
copied_up_to d s o = take o s ++ drop o d
