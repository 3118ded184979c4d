-- The header bytes set one after the other. Assumes nothing.
use Prim.Native.Nat.{ℕ, ◌+◌, ◌<◌}
use mathlib.Core.Path.{◌≡◌, ◌∙◌}
use mathlib.Core.List.{List, [], ◌∷◌, ◌++◌}
use native.Mathlib.Omega.{arith}
use native.Mathlib.Numerals.{add-one}
use native.Mathlib.Nat.{zero-add}
use lib.ListN.{length, get_or, take, set}
use lib.Seq.{take-suc, length-take-le}
use Rattle.writer.specs.Laying.{set_all}

-- one value more, set behind the others
set_all_last : (place : ℕ → ℕ) (i : ℕ) (vs : List ℕ) (v : ℕ) (c : List ℕ) → set_all place i (vs ++ (v ∷ [])) c ≡ set (set_all place i vs c) (place (i + length vs)) v
unfolding set_all
set_all_last place i [] v c = let e : i + 0 ≡ i = omega arith in rw e
set_all_last place i (w ∷ vs) v c =
    let e : (i + 1) + length vs ≡ i + length (w ∷ vs) = omega arith in
    rw (set_all_last place (i + 1) vs v (set c (place i) w), e)

-- one value more of a list
pub set_all_more : (place : ℕ → ℕ) (vs c : List ℕ) (i : ℕ) → i < length vs → set_all place 0 (take (i + 1) vs) c ≡ set (set_all place 0 (take i vs) c) (place i) (get_or vs i 0)
set_all_more place vs c i h =
    let n : 0 + length (take i vs) ≡ i = zero-add (length (take i vs)) ∙ length-take-le i vs (omega arith) in
    rw (add-one i, take-suc vs i 0, set_all_last place 0 (take i vs) (get_or vs i 0) c, n)
