-- Placement (document 01), of one message: where it may start, and what it counts for in its group.
use Rattle.std.specs.Prelude.{ℕ, Bool, ◌&&◌, ◌||◌, not, List, eqb, leb}
use Rattle.lists.specs.Pick.{pick}
use Rattle.container.specs.Layout.{Format, wide}
use Rattle.message.specs.Heads.{type_of, op_of, size_by, misc_by, resp, resp2, misc_u, link_status}

-- G5 and G11 of Y take only Resp or a MiscU that fits in them; by type and op
abbrev pub fits_in : Format → ℕ → ℕ → ℕ → Bool
fits_in fm g t o = wide fm g || ((eqb t resp || eqb t misc_u) && leb (size_by t o) (fm.size g))

-- LinkStatus goes only in G0
abbrev pub first_only : ℕ → ℕ → ℕ → Bool
first_only g t o = not (misc_by t o link_status) || eqb g 0

-- a message may start at granule g, by type and op, and of its bytes
abbrev pub placed_by : Format → ℕ → ℕ → ℕ → Bool
placed_by fm g t o = fits_in fm g t o && first_only g t o

abbrev pub placed : Format → ℕ → List ℕ → Bool
placed fm g m = placed_by fm g (type_of m) (op_of m)

-- the responses that a message counts for, in its group and in what it pays: Resp one, Resp2 two
abbrev pub responses_by : ℕ → ℕ
responses_by t = pick (eqb t resp) 1 (pick (eqb t resp2) 2 0)

abbrev pub responses : List ℕ → ℕ
responses m = responses_by (type_of m)

-- the MiscU that a message counts for in its group
abbrev pub miscs_by : ℕ → ℕ
miscs_by t = pick (eqb t misc_u) 1 0

abbrev pub miscs : List ℕ → ℕ
miscs m = miscs_by (type_of m)
