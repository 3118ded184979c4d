-- "Causes and places" (document 01): the order of refusal, and the fault that is named. A cause stands as the number
-- of the table's first column.
use Rattle.std.specs.Prelude.{ℕ, ◌+◌, ◌*◌, ◌<◌, List, [], ◌∷◌, get_or, eqb}
use Rattle.lists.specs.Pick.{pick}
use Rattle.cause.specs.Causes.{cause_number, header_place}
use Rattle.cause.specs.declared.Cause.{Cause}

-- the ranks of causes 0 to 21, of which 0 and 20 are none, at granule, group, pool or byte offset (17) p
abbrev pub ranks : ℕ → List ℕ
ranks p =
    0
    -- 1, 2, 3, 4: "Order, reading: 19, 1, 2, 3, 4"; "Writing: 19, 1, 18, 4, 17"
    ∷ 2 ∷ 3 ∷ 4 ∷ 6
    -- 5, 6, 7, 8, 9: "then granules upwards, at each 5, 6, 7, 8, 9"
    ∷ (100 + 10 * p + 5) ∷ (100 + 10 * p + 6) ∷ (100 + 10 * p + 7) ∷ (100 + 10 * p + 8) ∷ (100 + 10 * p + 9)
    -- 10, 11, 12: "then groups upwards, at each 10, 11, 12"
    ∷ (300 + 10 * p + 0) ∷ (300 + 10 * p + 1) ∷ (300 + 10 * p + 2)
    -- 13: "then 13"
    ∷ 400
    -- 14, 15, 16: "The audit goes on: 14 by started messages in granule order ..; then 15, then 16, lowest pool first"
    ∷ (500 + p) ∷ (600 + p) ∷ (700 + p)
    -- 17, 18, 19
    ∷ (800 + p) ∷ 5 ∷ 1
    ∷ 0
    -- 21: behind the messages "then header grant", whose place is 12, "then CrdtGrants", upwards
    ∷ pick (eqb p header_place) 520 (530 + p)
    ∷ []

abbrev pub rank : ℕ → ℕ → ℕ
rank k p = get_or (ranks p) k 0

-- the fault that is named, of a family by number and place: it is there, and none of a lower rank is
abbrev pub Named : (ℕ → ℕ → Type 0) → Cause → ℕ → Type 0
Named F k p = F (cause_number k) p × ((j q : ℕ) → F j q → rank j q < rank (cause_number k) p → ⊥)

-- there is no fault
abbrev pub None : (ℕ → ℕ → Type 0) → Type 0
None F = (j q : ℕ) → F j q → ⊥
