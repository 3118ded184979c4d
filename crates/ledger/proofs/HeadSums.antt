-- A number that each message has by its bytes 0 and 1, added up over what starts, what ends and what is carried. Assumes nothing.
use Prim.Native.Nat.{ℕ, zero, suc, ◌+◌, ◌≤◌, ◌<◌}
use mathlib.Core.Path.{◌≡◌, refl, ap₂, ◌∙◌}
use mathlib.Core.Bool.{true, false}
use mathlib.Core.List.{List, [], ◌∷◌, ◌++◌}
use mathlib.Core.Logic.{⊎_elim}
use native.Mathlib.Omega.{arith}
use lib.ListN.{length, get_or, take, get_or-append}
use lib.Seq.{get_or-take}
use Rattle.lists.specs.Pick.{pick}
use Rattle.lists.proofs.Tests.{cases}
use Rattle.cause.specs.Checks.{Pass}
use Rattle.container.specs.Layout.{Format, format_of}
use Rattle.message.specs.Heads.{type_of, op_of, msg_size}
use Rattle.message.proofs.HeadLaws.{size_of}
use Rattle.placement.specs.Cells.{Cell, cell_at, whole, after, ended, cells, carry_after, endings, startings, carry_ok}
use Rattle.placement.specs.Checking.{granule_checks}
use Rattle.reader.proofs.CarryLaws.{Cased, goes, begins, fits, rests, whole_of, left_of, Passing, first_cased, rest_passing, all_passing}

module _ (q : ℕ → ℕ → ℕ) (none : q 0 0 ≡ 0) where
  -- the number of a message, and of messages together
  abbrev pub head_of : List ℕ → ℕ
  head_of m = q (get_or m 0 0) (get_or m 1 0)

  abbrev pub heads_of : List (List ℕ) → ℕ
  heads_of [] = 0
  heads_of (m ∷ ms) = head_of m + heads_of ms

  heads_append : (a b : List (List ℕ)) → heads_of (a ++ b) ≡ heads_of a + heads_of b
  heads_append [] b = omega arith
  heads_append (m ∷ a) b = let i = heads_append a b in omega arith

  -- bytes behind the head, and bytes cut off behind it, change nothing
  head_append : (m z : List ℕ) → 2 ≤ length m → head_of (m ++ z) ≡ head_of m
  head_append m z h = ap₂ q (get_or-append m z 0 0 (omega arith)) (get_or-append m z 0 1 (omega arith))

  head_take : (x : List ℕ) → 0 < msg_size x → head_of (take (msg_size x) x) ≡ head_of x
  head_take x h =
      let a = (size_of (type_of x) (op_of x) h).least in
      ap₂ q (get_or-take (msg_size x) x 0 0 (omega arith)) (get_or-take (msg_size x) x 1 0 (omega arith))

  -- what x is split into, where x is whole and where it is not
  head_split : (x : List ℕ) → 0 < msg_size x → heads_of (whole_of x) + head_of (left_of x) ≡ head_of x
  head_split x h =
      ⊎_elim (λ (t : whole x ≡ true). rw (t, head_take x h, none) (omega arith)) (λ (t : whole x ≡ false). rw t (omega arith)) (cases (whole x))

  -- what ends in a cell or is in progress behind it started there or was in progress
  cell_heads : {fm : Format} {g : ℕ} {e : Cell} {m : List ℕ} → Cased fm g e m
      → heads_of (ended e m) + head_of (after fm g e m) ≡ heads_of (pick e.starts (e.bytes ∷ []) []) + head_of m
  cell_heads {e = e} {m = m} (goes eo es h x) =
      rw (eo, es) (head_split (m ++ e.bytes) x.known ∙ head_append m e.bytes (omega (arith, h.begun.some)) ∙ omega arith)
  cell_heads {e = e} (begins eo es ew z x) = rw (eo, es, ew, z, none) (head_split e.bytes x.known ∙ omega arith)
  cell_heads {e = e} (fits eo es ew t p h) = rw (eo, es, ew, t, head_take e.bytes p) (omega arith)
  cell_heads (rests eo es) = rw (eo, es)

  module _ (f : ℕ) (c : List ℕ) (n : length c ≡ 256) where
    cells_heads : (k g : ℕ) (m : List ℕ) → Passing f c n k g m
        → heads_of (endings (format_of f) g (cells (format_of f) c k g m) m) + head_of (carry_after (format_of f) g (cells (format_of f) c k g m) m)
        ≡ heads_of (startings (cells (format_of f) c k g m)) + head_of m
    unfolding cells endings carry_after startings
    cells_heads zero g m p = refl
    cells_heads (suc k) g m p =
        let fm = format_of f in
        let e = cell_at fm g c m in
        let r = after fm g e m in
        let h = cell_heads (first_cased f c n k g m p) in
        let i = cells_heads k (g + 1) r (rest_passing f c n k g m p) in
        rw (heads_append (ended e m) (endings fm (g + 1) (cells fm c k (g + 1) r) r), heads_append (pick e.starts (e.bytes ∷ []) []) (startings (cells fm c k (g + 1) r)))
        (omega arith)

    -- what is carried in and what starts is what ends and what is carried on
    pub heads_kept : (m : List ℕ) → carry_ok m ≡ true → Pass (granule_checks (format_of f) 0 (cells (format_of f) c 12 0 m))
        → heads_of (endings (format_of f) 0 (cells (format_of f) c 12 0 m) m) + head_of (carry_after (format_of f) 0 (cells (format_of f) c 12 0 m) m)
        ≡ heads_of (startings (cells (format_of f) c 12 0 m)) + head_of m
    heads_kept m h p = cells_heads 12 0 m (all_passing f c n m h p)
