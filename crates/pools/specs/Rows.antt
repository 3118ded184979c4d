-- Numbers by pool: rows of fourteen, and tables of two directions.
use Rattle.std.specs.Prelude.{ℕ, zero, suc, ◌+◌, ◌≤◌, List, [], ◌∷◌, ◌++◌, get_or, take, drop}
use Rattle.pools.specs.Pools.{pool_count}

-- the numbers of pools p, p + 1, .., k of them
unfoldable pub row : (ℕ → ℕ) → ℕ → ℕ → List ℕ
row f zero p = []
row f (suc k) p = f p ∷ row f k (p + 1)

-- a table of two directions by fourteen pools, one direction behind the other
abbrev pub table : (ℕ → ℕ → ℕ) → List ℕ
table f = row (f 0) pool_count 0 ++ row (f 1) pool_count 0

-- counts with more for each pool
abbrev pub raised : (ℕ → ℕ) → List ℕ → List ℕ
raised f l = row (λ p. get_or l p 0 + f p) pool_count 0

-- counts that leave room for more
abbrev pub Small : List ℕ → Type 0
Small l = (p : ℕ) → get_or l p 0 ≤ 65535

-- a flat table as two rows, and back
abbrev pub nested : List ℕ → List (List ℕ)
nested l = take pool_count (drop 0 l) ∷ take pool_count (drop pool_count l) ∷ []

abbrev pub flattened : List (List ℕ) → List ℕ
flattened [] = []
flattened (r ∷ t) = r ++ flattened t

-- entry p of row e
abbrev pub entry_of : List (List ℕ) → ℕ → ℕ → ℕ
entry_of t e p = get_or (get_or t e []) p 0

-- a table of two rows by its entries
abbrev pub rows : (ℕ → ℕ → ℕ) → List (List ℕ)
rows f = row (f 0) pool_count 0 ∷ row (f 1) pool_count 0 ∷ []
