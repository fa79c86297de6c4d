-- Numbers as bytes, at every width: the low byte first, and the high byte first.
use Rattle.std.specs.Prelude.{List, [], ◌∷◌, reverse, ℕ, zero, suc, ◌+◌, ◌*◌, ◌/◌, ◌%◌, ◌^◌, ◌<◌, take, drop}

-- the number whose bytes these are, the low byte first
unfoldable pub le : List ℕ → ℕ
le [] = 0
le (b ∷ bs) = b + 256 * le bs

-- and the high byte first
unfoldable pub be : List ℕ → ℕ
be bs = le (reverse bs)

-- the n low bytes of x, the low byte first
unfoldable pub le_bytes : ℕ → ℕ → List ℕ
le_bytes zero x = []
le_bytes (suc n) x = x % 256 ∷ le_bytes n (x / 256)

-- and the high byte first
unfoldable pub be_bytes : ℕ → ℕ → List ℕ
be_bytes n x = reverse (le_bytes n x)

-- the n bytes from a place on
unfoldable pub field : ℕ → ℕ → List ℕ → List ℕ
field n at s = take n (drop at s)

-- each of the numbers has at most n bytes
abbrev pub Fit : ℕ → List ℕ → Type 0
Fit n [] = Unit {0}
Fit n (x ∷ xs) = (x < 2 ^ (8 * n)) × Fit n xs
