-- A plan that is one granule longer: the writer behind it, its cells, their MsgStart and the container made of them. Assumes nothing.
use Prim.Native.Nat.{ℕ, zero, suc, ◌+◌, ◌*◌, ◌^◌}
use mathlib.Core.Path.{◌≡◌, refl, ap}
use mathlib.Core.Bool.{Bool, true, false}
use mathlib.Core.List.{List, [], ◌∷◌, ◌++◌}
use native.Mathlib.Omega.{arith}
use native.Mathlib.Nat.{pow-suc}
use lib.ListN.{length}
use Rattle.lists.specs.Pick.{pick}
use Rattle.lists.specs.Parts.{put}
use Rattle.container.specs.Layout.{Format, start}
use Rattle.container.specs.declared.grant.Grant.{Grant}
use Rattle.placement.specs.Cells.{Cell}
use Rattle.writer.specs.Plan.{Cursor, give, cursor_after, plan, cursor_last}
use Rattle.writer.specs.Laying.{start_bits, lay_cells}

module _ (fm : Format) (n : Grant) (l : List ℕ) where
  pub cursor_last_more : (k g : ℕ) (w : Cursor) → cursor_last fm n l (suc k) g w ≡ cursor_after (g + k) (cursor_last fm n l k g w) (give fm n l (g + k) (cursor_last fm n l k g w))
  unfolding cursor_last
  cursor_last_more zero g w = let e : g + 0 ≡ g = omega arith in rw e
  cursor_last_more (suc k) g w =
      let e : (g + 1) + k ≡ g + suc k = omega arith in rw e at (cursor_last_more k (g + 1) (cursor_after g w (give fm n l g w)))

  pub plan_more : (k g : ℕ) (w : Cursor) → plan fm n l (suc k) g w ≡ plan fm n l k g w ++ ((give fm n l (g + k) (cursor_last fm n l k g w)).cell ∷ [])
  unfolding plan cursor_last
  plan_more zero g w = let e : g + 0 ≡ g = omega arith in rw e
  plan_more (suc k) g w =
      let e : (g + 1) + k ≡ g + suc k = omega arith in
      ap (λ (es : List Cell). (give fm n l g w).cell ∷ es) (rw e at (plan_more k (g + 1) (cursor_after g w (give fm n l g w))))

  pub plan_length : (k g : ℕ) (w : Cursor) → length (plan fm n l k g w) ≡ k
  unfolding plan
  plan_length zero g w = refl
  plan_length (suc k) g w = ap suc (plan_length k (g + 1) (cursor_after g w (give fm n l g w)))

bit_more : (a s k : ℕ) (b : Bool) → a + 2 * (s + pick b k 0) ≡ (a + 2 * s) + pick b (k * 2) 0
bit_more a s k true = omega arith
bit_more a s k false = omega arith

pub bits_more : (cs : List Cell) (e : Cell) → start_bits (cs ++ (e ∷ [])) ≡ start_bits cs + pick e.starts (2 ^ length cs) 0
bits_more [] e = omega arith
bits_more (c ∷ cs) e = rw (bits_more cs e, pow-suc 2 (length cs)) (bit_more (pick c.starts 1 0) (start_bits cs) (2 ^ length cs) e.starts)

pub lay_more : (g : ℕ) (cs : List Cell) (e : Cell) (c : List ℕ) → lay_cells g (cs ++ (e ∷ [])) c ≡ put (start (g + length cs)) e.bytes (lay_cells g cs c)
unfolding lay_cells
lay_more g [] e c = let z : g + 0 ≡ g = omega arith in rw z
lay_more g (d ∷ cs) e c = let z : (g + 1) + length cs ≡ g + suc (length cs) = omega arith in rw z at (lay_more (g + 1) cs e (put (start g) d.bytes c))
