-- What may start at a granule fits in it, a place depends on the first bytes alone, and what a message counts for in its group is
-- bounded. Assumes nothing.
use Prim.Native.Nat.{ℕ, ◌≤◌, ◌<◌}
use mathlib.Core.Path.{◌≡◌}
use mathlib.Core.Bool.{Bool, true, false, ◌&&◌, ◌||◌, not}
use mathlib.Core.List.{List, ◌++◌}
use mathlib.Core.Logic.{◌⊎◌, inl, inr, ⊎_elim}
use native.Mathlib.Omega.{arith}
use lib.ListN.{length, get_or-append}
use lib.Dec.{T, eqb, leb, eqb→eq}
use Rattle.lists.proofs.PickLaws.{pick_both}
use Rattle.lists.proofs.Tests.{t_left, t_right, true_t, T_true, or_cases}
use Rattle.container.specs.Layout.{Format, wide}
use Rattle.message.specs.Heads.{type_of, msg_size, is_misc, resp, resp2, misc_u, link_status}
use Rattle.message.specs.Places.{placed, miscs_by, responses_by}

-- the place of a message with z behind it
pub placed_append : (m z : List ℕ) (fm : Format) (g : ℕ) → 1 < length m → placed fm g (m ++ z) ≡ placed fm g m
placed_append m z fm g h = let p : 0 < length m = omega arith in rw (get_or-append m z 0 0 p, get_or-append m z 0 1 h)

-- what is placed in a narrow granule is a Resp or a MiscU that fits in it
module _ (fm : Format) (g : ℕ) (m : List ℕ) (w : wide fm g ≡ false) (p : placed fm g m ≡ true) where
  abbrev short : Bool
  short = eqb (type_of m) resp || eqb (type_of m) misc_u

  abbrev fits : Bool
  fits = leb (msg_size m) (fm.size g)

  short_fits : T (short && fits)
  short_fits = rw w at (t_left (wide fm g || (short && fits)) (not (is_misc m link_status) || eqb g 0) (true_t (placed fm g m) p))

  pub placed_fits : leb (msg_size m) (fm.size g) ≡ true
  placed_fits = T_true fits (t_right short fits short_fits)

  pub placed_short : (type_of m ≡ resp) ⊎ (type_of m ≡ misc_u)
  placed_short =
      ⊎_elim (λ (a : T (eqb (type_of m) resp)). inl (eqb→eq (type_of m) resp a)) (λ (a : T (eqb (type_of m) misc_u)). inr (eqb→eq (type_of m) misc_u a))
      (or_cases (eqb (type_of m) resp) (eqb (type_of m) misc_u) (t_left short fits short_fits))

-- a message counts for at most one MiscU and at most two responses
pub miscs_most : (t : ℕ) → miscs_by t ≤ 1
miscs_most t = pick_both (λ (n : ℕ). n ≤ 1) (eqb t misc_u) (omega arith) (omega arith)

pub responses_most : (t : ℕ) → responses_by t ≤ 2
responses_most t =
    pick_both (λ (n : ℕ). n ≤ 2) (eqb t resp) (omega arith) (pick_both (λ (n : ℕ). n ≤ 2) (eqb t resp2) (omega arith) (omega arith))
