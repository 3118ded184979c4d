-- Parts put in a list one behind the other. Assumes nothing.
use Prim.Native.Nat.{ℕ, ◌+◌, ◌≤◌, ◌<◌}
use mathlib.Core.Path.{◌≡◌, sym, ap, ◌∙◌}
use mathlib.Core.List.{List, [], ◌∷◌, ◌++◌, append_assoc}
use native.Mathlib.Omega.{arith}
use native.Mathlib.Nat.{add-zero}
use native.Mathlib.Numerals.{add-one}
use lib.ListN.{length, take, drop, set, length-append, take-append-drop}
use lib.Seq.{take_at, drop_at, drop-drop, length-take-le, set_split}
use Rattle.lists.specs.Parts.{put}

-- nothing put is nothing changed
pub put_none : (a : ℕ) (l : List ℕ) → put a [] l ≡ l
put_none a l = rw (add-zero a) (take-append-drop a l)

-- a part put behind another
pub put_more : (a : ℕ) (x y l : List ℕ) → a + length x ≤ length l → put (a + length x) y (put a x l) ≡ put a (x ++ y) l
put_more a x y l h =
    let p : length (take a l) ≡ a = length-take-le a l (omega arith) in
    let q : length (take a l ++ x) ≡ a + length x = length-append (take a l) x ∙ ap (λ (k : ℕ). k + length x) p in
    let s : put a x l ≡ (take a l ++ x) ++ drop (a + length x) l = sym (append_assoc (take a l) x (drop (a + length x) l)) in
    let t : take (a + length x) (put a x l) ≡ take a l ++ x = ap (take (a + length x)) s ∙ take_at (take a l ++ x) (drop (a + length x) l) (a + length x) q in
    let b : drop (a + length x) (put a x l) ≡ drop (a + length x) l = ap (drop (a + length x)) s ∙ drop_at (take a l ++ x) (drop (a + length x) l) (a + length x) q in
    let n : a + length x + length y ≡ a + length (x ++ y) = omega (arith, length-append x y) in
    let u : drop (a + length x + length y) (put a x l) ≡ drop (a + length (x ++ y)) l =
    sym (drop-drop (length y) (a + length x) (put a x l)) ∙ ap (drop (length y)) b ∙ drop-drop (length y) (a + length x) l
    ∙ ap (λ (k : ℕ). drop k l) n in
    ap (λ (r : List ℕ). r ++ (y ++ drop (a + length x + length y) (put a x l))) t
    ∙ ap (λ (r : List ℕ). (take a l ++ x) ++ (y ++ r)) u
    ∙ append_assoc (take a l) x (y ++ drop (a + length (x ++ y)) l)
    ∙ ap (λ (r : List ℕ). take a l ++ r) (sym (append_assoc x y (drop (a + length (x ++ y)) l)))

-- a byte stored is a part of one byte put
pub set_put : (l : List ℕ) (a b : ℕ) → a < length l → set l a b ≡ put a (b ∷ []) l
set_put l a b h = rw (add-one a) (set_split l a b h)

-- a part put behind a byte stored
pub put_behind : (l : List ℕ) (a b : ℕ) (x : List ℕ) → a < length l → put (a + 1) x (set l a b) ≡ put a (b ∷ x) l
put_behind l a b x h = ap (put (a + 1) x) (set_put l a b h) ∙ put_more a (b ∷ []) x l (omega arith)
