-- A part of a list of bytes, and where a byte stands first.
use Rattle.std.specs.Prelude.{ℕ, suc, Bool, true, false, List, [], ◌∷◌, eqb, take, drop}

-- the bytes from one offset to another
unfoldable pub slice : ℕ → ℕ → List ℕ → List ℕ
slice from to bs = drop from (take to bs)

-- one further, unless it is here
unfoldable pub index_after : Bool → ℕ → ℕ
index_after true i = 0
index_after false i = suc i

-- where a byte stands first; how many bytes there are, where it stands nowhere
unfoldable pub index_of : ℕ → List ℕ → ℕ
index_of s [] = 0
index_of s (b ∷ bs) = index_after (eqb b s) (index_of s bs)
