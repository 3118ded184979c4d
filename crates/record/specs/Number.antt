-- Numbers in seven-bit groups (document 01, "The writer's one way"): written, and read from the front of a list.
use Rattle.std.specs.Prelude.{ℕ, zero, suc, ◌+◌, ◌*◌, ◌/◌, ◌%◌, List, [], ◌∷◌, length, eqb, ltb, leb, Option, Some, None}
use Rattle.lists.specs.Pick.{pick}
use Rattle.lists.specs.Parts.{pad}
use Rattle.record.specs.declared.number.Number.{Number}
use Rattle.record.specs.declared.number.Encoded.{Encoded}

-- what stands at the front of a list: no number, or one with its bytes
abbrev pub Broken : Option Number
Broken = None

abbrev pub Value : ℕ → ℕ → Option Number
Value n used = Some (record { value = n; used = used })

-- the largest number
abbrev pub largest : ℕ
largest = 4_294_967_295

-- n in at most k groups: low group first, top bit set when more follow
abbrev pub groups : ℕ → ℕ → List ℕ
groups zero n = []
groups (suc k) n = pick (ltb n 128) (n ∷ []) ((128 + n % 128) ∷ groups k (n / 128))

-- a number is written in the shortest form, at most five groups
unfoldable pub number : ℕ → List ℕ
number n = groups 5 n

-- a number with zeros behind it, and how many bytes it has
abbrev pub encoded : ℕ → Encoded
encoded n = record { bytes = pad 5 (number n); len = length (number n) }

-- the bytes of a number that was read
abbrev pub used_of : Option Number → ℕ
used_of None = 0
used_of (Some number) = number.used

-- a byte whose top bit is set before the number of the groups behind it: those are not zero, since the form is the shortest
abbrev pub joined : ℕ → Option Number → Option Number
joined low None = Broken
joined low (Some number) =
    pick (eqb number.value 0) Broken (pick (leb (low % 128 + 128 * number.value) largest) (Value (low % 128 + 128 * number.value) (number.used + 1)) Broken)

-- the number of at most k groups at the front of a list: its value and its bytes
abbrev pub read_groups : ℕ → List ℕ → Option Number
read_groups zero l = Broken
read_groups (suc k) [] = Broken
read_groups (suc k) (b ∷ l) = pick (ltb b 128) (Value b 1) (joined b (read_groups k l))

unfoldable pub read_number : List ℕ → Option Number
read_number l = read_groups 5 l
