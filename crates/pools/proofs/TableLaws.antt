-- The shape of two rows of fourteen, and their flat list. Assumes nothing.
use Prim.Native.Nat.{ℕ, zero, suc, ◌+◌, ◌<◌}
use mathlib.Core.Path.{◌≡◌, refl, sym, ap, ◌∙◌}
use mathlib.Core.List.{List, [], ◌∷◌, ◌++◌, append-nil}
use native.Mathlib.Nat.{not-suc-le-zero, le_of_suc-le-suc}
use native.Mathlib.Omega.{arith}
use lib.ListN.{length, get_or, replicate, length-append, length-replicate}
use mir.Val.{Val}
use mir.Syntax.{w32}
use denote.RattleType.{RattleType}
use denote.Array.{Array, each}
use denote.Plain.{UInt}
use denote.Laws.{Is}
use denote.Shadow.{shadow}
use Rattle.lists.specs.Parts.{put}
use Rattle.lists.proofs.Fill.{put_whole}
use Rattle.lists.proofs.PutLaws.{put_more}
use Rattle.pools.specs.Rows.{flattened}

-- two rows of fourteen
pub record Rows (t : List (List ℕ)) : Type 0 where
  pub two : t ≡ get_or t 0 [] ∷ get_or t 1 [] ∷ []
  pub first : length (get_or t 0 []) ≡ 14
  pub second : length (get_or t 1 []) ≡ 14

pair : {X : Type 0} (d : X) (t : List X) → length t ≡ 2 → t ≡ get_or t 0 d ∷ get_or t 1 d ∷ []
pair d [] e = absurd (omega arith)
pair d (a ∷ []) e = absurd (omega arith)
pair d (a ∷ b ∷ []) e = refl
pair d (a ∷ b ∷ x ∷ t) e = absurd (omega arith)

-- each element of an array of arrays of n is n long
rows_long : (R : RattleType) (n : ℕ) (xs : List (List R.Denot)) (us : List Val) → shadow (each (List R.Denot) (Array R n).own_val xs us)
    → (i : ℕ) → i < length xs → length (get_or xs i []) ≡ n
rows_long R n [] us p i h = absurd (not-suc-le-zero h)
rows_long R n (x ∷ xs) [] p i h = absurd p
rows_long R n (x ∷ xs) (u ∷ us) p zero h = p.0.1.0.1
rows_long R n (x ∷ xs) (u ∷ us) p (suc i) h = rows_long R n xs us p.1 i (le_of_suc-le-suc h)

-- an array of two arrays of fourteen, as an argument is given
pub rows_of : (t : List (List ℕ)) (vs : List Val) → Is (Array (Array (UInt w32) 14) 2) t vs → Rows t
rows_of t vs p =
    let two : length t ≡ 2 = p.1.0.1 in
    record {
      two = pair [] t two;
      first = rows_long (UInt w32) 14 t p.0 p.1.1 0 (omega arith);
      second = rows_long (UInt w32) 14 t p.0 p.1.1 1 (omega arith);
    }

-- two rows put in their places over zeros are the flat list
pub flat_put : (t : List (List ℕ)) → Rows t → {d e : List ℕ} → d ≡ put 0 (get_or t 0 []) (replicate 28 0) → e ≡ put 14 (get_or t 1 []) d → e ≡ flattened t
flat_put t r {d} {e} ed ee =
    let a : List ℕ = get_or t 0 [] in
    let b : List ℕ = get_or t 1 [] in
    let la : length a ≡ 14 = r.first in
    let lb : length b ≡ 14 = r.second in
    let z : length (replicate {A = ℕ} 28 0) ≡ 28 = length-replicate {A = ℕ} 28 0 in
    let both : length (a ++ b) ≡ 28 = length-append a b ∙ (let n = la in let m = lb in omega arith) in
    let second : 14 ≡ 0 + length a = omega arith in
    ee ∙ ap (put 14 b) ed ∙ ap (λ (n : ℕ). put n b (put 0 a (replicate 28 0))) second
    ∙ put_more 0 a b (replicate 28 0) (omega arith)
    ∙ put_whole (a ++ b) (replicate 28 0) (both ∙ sym z)
    ∙ ap (λ (l : List ℕ). a ++ l) (sym (append-nil b)) ∙ sym (ap flattened r.two)
