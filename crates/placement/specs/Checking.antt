-- The checks of a container (document 01, "Placement" and "Causes and places", less 20 by document 02, K11), in the order of refusal.
use Rattle.std.specs.Prelude.{ℕ, zero, suc, ◌+◌, Bool, true, ◌&&◌, ◌||◌, not, List, [], ◌∷◌, ◌++◌, take, drop, eqb, leb}
use Rattle.lists.specs.Pick.{pick}
use Rattle.lists.specs.Parts.{zeros}
use Rattle.cause.specs.Checks.{Check, check}
use Rattle.cause.specs.declared.Cause.TheVariants.{ReservedBitSet, HeaderGrantForm, StartInsideMessage, UnknownMessage, PlaceNotAllowed, HeadWrong, UnusedByteNotZero, GapInGroup, SecondMisc, TooManyResponses, GrantBesideActivation}
use Rattle.container.specs.Layout.{Format}
use Rattle.container.specs.Grants.{header_grant, plane_allowed, no_counts, reserved_ok}
use Rattle.message.specs.Heads.{msg_size, known, well_headed, is_misc, activation}
use Rattle.message.specs.Places.{placed, responses, miscs}
use Rattle.placement.specs.Cells.{Cell}

-- the bytes that a message uses of a cell
abbrev pub used : Cell → ℕ
used e = pick e.goes_on 20 (pick e.starts (msg_size e.bytes) 0)

-- nothing starts where a message goes on
abbrev pub starts_alone : Cell → Bool
starts_alone e = not (e.goes_on && e.starts)

-- what starts has a known type and op
abbrev pub start_known : Cell → Bool
start_known e = not e.starts || known e.bytes

-- what starts may start there
abbrev pub start_placed : Format → ℕ → Cell → Bool
start_placed fm g e = not e.starts || placed fm g e.bytes

-- what starts has a right head
abbrev pub start_headed : Cell → Bool
start_headed e = not e.starts || well_headed e.bytes

-- all bytes after a message's end, and all of an unpopulated granule, are zero
abbrev pub rest_zero : Cell → Bool
rest_zero e = zeros (drop (used e) e.bytes)

-- at each granule 5, 6, 7, 8, 9
abbrev pub cell_checks : Format → ℕ → Cell → List Check
cell_checks fm g e =
    check (starts_alone e) StartInsideMessage g
    ∷ check (start_known e) UnknownMessage g
    ∷ check (start_placed fm g e) PlaceNotAllowed g
    ∷ check (start_headed e) HeadWrong g
    ∷ check (rest_zero e) UnusedByteNotZero g
    ∷ []

-- granules upwards, from g on
unfoldable pub granule_checks : Format → ℕ → List Cell → List Check
granule_checks fm g [] = []
granule_checks fm g (e ∷ es) = cell_checks fm g e ++ granule_checks fm (g + 1) es

-- a granule is populated if a message starts or goes on there
abbrev pub populated : Cell → Bool
populated e = e.goes_on || e.starts

abbrev pub none_populated : List Cell → Bool
none_populated [] = true
none_populated (e ∷ es) = not (populated e) && none_populated es

-- the populated cells come first
abbrev pub no_gap : List Cell → Bool
no_gap [] = true
no_gap (e ∷ es) = pick (populated e) (no_gap es) (none_populated es)

-- the sum of a count over the messages that start in cells
abbrev pub starting : (List ℕ → ℕ) → Cell → ℕ
starting f e = pick e.starts (f e.bytes) 0

abbrev pub sum_of : (List ℕ → ℕ) → List Cell → ℕ
sum_of f [] = 0
sum_of f (e ∷ es) = starting f e + sum_of f es

-- at most one MiscU starts, and at most four responses, Resp2 counting two
abbrev pub one_misc : List Cell → Bool
one_misc es = leb (sum_of miscs es) 1

abbrev pub four_responses : List Cell → Bool
four_responses es = leb (sum_of responses es) 4

-- groups upwards, k of them from q on, at each 10, 11, 12
unfoldable pub group_checks : ℕ → ℕ → List Cell → List Check
group_checks zero q es = []
group_checks (suc k) q es =
    check (no_gap (take 3 es)) GapInGroup q
    ∷ check (one_misc (take 3 es)) SecondMisc q
    ∷ check (four_responses (take 3 es)) TooManyResponses q
    ∷ group_checks k (q + 1) (drop 3 es)

-- 3, 4
abbrev pub header_checks : Format → List ℕ → List Check
header_checks fm c =
    check (reserved_ok fm c) ReservedBitSet 0 ∷ check (plane_allowed (header_grant fm c)) HeaderGrantForm 0 ∷ []

-- an Activation counts one
abbrev pub activations : List ℕ → ℕ
activations m = pick (is_misc m activation) 1 0

-- a container in which an Activation starts has four zero counts in its header
abbrev pub quiet : Format → List ℕ → List Cell → Bool
quiet fm c es = eqb (sum_of activations es) 0 || no_counts (header_grant fm c)

-- 13
abbrev pub activation_checks : Format → List ℕ → List Cell → List Check
activation_checks fm c es = check (quiet fm c es) GrantBesideActivation 0 ∷ []

-- a container of 256 bytes, as its cells are read: 3, 4; granules upwards; groups upwards; then 13
unfoldable pub container_checks : Format → List ℕ → List Cell → List Check
container_checks fm c es = header_checks fm c ++ (granule_checks fm 0 es ++ (group_checks 4 0 es ++ activation_checks fm c es))
