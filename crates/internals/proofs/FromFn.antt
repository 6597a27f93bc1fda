-- An array that is made by a function of the index: each entry is what the function answers there, where its calls leave it as it is.
use Rattle.std.proofs.Common.{ℕ, zero, suc, ◌+◌, ◌<◌, ◌≡◌, List, get_or, subst, ◌∙◌, arith}
use Rattle.std.specs.Fn.{Called}
use Rattle.std.specs.Array.{IsFromFnResult, IsFromFnResultFrom}
use denote.Param.Members.{Mut}

module _ {F B : Type 0} (g : Mut F (ℕ × Unit {0}) B) (f : F) (value : ℕ → B) (answers : (i : ℕ) (y : B) (q : F) → Called g f (i, tt) y q → (y ≡ value i) × (q ≡ f)) (ys : List B) where
  made_from : (i n : ℕ) → IsFromFnResultFrom g f ys i n → (k j : ℕ) → k < n → j ≡ i + k → (d : B) → get_or ys j d ≡ value j
  made_from i zero made k j h e d = absurd (omega arith)
  made_from i (suc n) (q, y, here, called, rest) zero j h e d =
      let same : j ≡ i = omega arith in
      rw same (here.1 d ∙ (answers i y q called).0)
  made_from i (suc n) (q, y, here, called, rest) (suc k) j h e d =
      made_from (i + 1) n (subst (λ (p : F). IsFromFnResultFrom g p ys (i + 1) n) (answers i y q called).1 rest) k j (omega arith) (omega arith) d

  pub made_by : (n : ℕ) → IsFromFnResult g f ys n → (k : ℕ) → k < n → (d : B) → get_or ys k d ≡ value k
  made_by n made k h d = made_from 0 n made.each k k h (omega arith) d
