-- A quoted text as the list of its bytes. Assumes nothing.
use Prim.Native.String.{String}
use Prim.Native.String as text
use Prim.Native.Char.{code}
use Rattle.std.specs.Prelude.{ℕ, List, [], ◌∷◌}

abbrev pub ascii : String → List ℕ
ascii text.[] = []
ascii (text.◌∷◌ c s) = code c ∷ ascii s
