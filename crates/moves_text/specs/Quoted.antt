-- Quoted text as the bytes that a program reads and writes.
use Rattle.std.specs.Prelude.{ℕ, List, [] as none, ◌∷◌ as ◌then◌}
use Prim.Native.Char.{code}
use Prim.Native.String.{String, [], ◌∷◌}

abbrev pub quoted : String → List ℕ
quoted [] = none
quoted (c ∷ s) = code c then quoted s
