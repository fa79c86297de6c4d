-- Part arithmetic: part i runs from its start to the next start, the last one to n.
use Rattle.std.specs.Prelude.{Bool, cond, ◌&&◌, List, [], ◌∷◌, ℕ, zero, suc, ◌+◌, ◌^◌, ltb, ℤ, nat_abs, ◌-ℤ◌}
use Rattle.std.specs.Int.Signed.{non_neg}
use Rattle.format.specs.Numbers.{le_i32}

-- the difference is not negative and does not leave i32
abbrev pub is_count : ℤ → Bool
is_count d = non_neg d && ltb (nat_abs d) (2 ^ 31)

-- that many points; none, where the difference is refused
abbrev pub count_of : ℤ → ℕ
count_of d = cond (is_count d) (nat_abs d) 0

-- the differences of these starts, each from the next one and the last from n
unfoldable pub differences : List ℤ → ℤ → List ℤ
differences [] n = []
differences (a ∷ []) n = (n -ℤ a) ∷ []
differences (a ∷ b ∷ starts) n = (b -ℤ a) ∷ differences (b ∷ starts) n

-- k starts from a place on
unfoldable pub starts_at : ℕ → ℕ → List ℕ → List ℤ
starts_at zero at s = []
starts_at (suc k) at s = le_i32 at s ∷ starts_at k (at + 4) s
