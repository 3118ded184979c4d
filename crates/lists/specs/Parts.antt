-- Parts of a list of bytes: a part taken, a part put in place, zeros behind, parts joined, and the test that all bytes are zero.
use Rattle.std.specs.Prelude.{ℕ, ◌+◌, ◌-◌, ◌<◌, Bool, true, ◌&&◌, List, [], ◌∷◌, ◌++◌, length, get_or, take, drop, replicate, eqb}

-- the n bytes from s on, or as many of them as there are
abbrev pub part : ℕ → ℕ → List ℕ → List ℕ
part s n l = take n (drop s l)

-- l with x in place of its bytes from s on
abbrev pub put : ℕ → List ℕ → List ℕ → List ℕ
put s x l = take s l ++ (x ++ drop (s + length x) l)

-- x with zeros behind it, n bytes in all
abbrev pub pad : ℕ → List ℕ → List ℕ
pad n x = x ++ replicate (n - length x) 0

-- lists one behind the other
abbrev pub join_all : List (List ℕ) → List ℕ
join_all [] = []
join_all (p ∷ ps) = p ++ join_all ps

-- all bytes are zero
abbrev pub zeros : List ℕ → Bool
zeros [] = true
zeros (b ∷ l) = eqb b 0 && zeros l

-- the sum of the bytes
abbrev pub sum : List ℕ → ℕ
sum [] = 0
sum (b ∷ l) = b + sum l

-- every element is a byte
abbrev pub IsBytes : List ℕ → Type 0
IsBytes l = (i : ℕ) → get_or l i 0 < 256
