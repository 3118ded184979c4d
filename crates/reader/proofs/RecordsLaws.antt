-- Short records, written to a room one behind the other. Assumes nothing.
use Prim.Native.Nat.{ℕ, suc, ◌+◌, ◌≤◌, ◌<◌}
use mathlib.Core.Path.{◌≡◌, sym, ap, ◌∙◌}
use mathlib.Core.List.{List, [], ◌∷◌, ◌++◌, append-nil}
use native.Mathlib.Omega.{arith}
use lib.ListN.{length, set}
use Rattle.lists.specs.Parts.{put}
use Rattle.lists.proofs.PartLaws.{length_put}
use Rattle.lists.proofs.PutLaws.{put_none, put_behind}
use Rattle.record.specs.Number.{number}
use Rattle.record.proofs.NumberLaws.{number_small}
use Rattle.record.specs.Records.{record_of, records_of}

-- the record of a message x of n bytes was written to the room l at a: the room is d
pub record Written (l : List ℕ) (a n : ℕ) (x d : List ℕ) : Type 0 where
  pub end : (a + 1) + n ≡ a + length (record_of x)
  pub room : d ≡ put a (record_of x) l
  pub long : length d ≡ length l

-- n is stored and the message is put behind it
pub record_written : (l : List ℕ) (a n : ℕ) (x d : List ℕ) → n ≡ length x → n < 128 → a + n < length l → d ≡ put (a + 1) x (set l a n) → Written l a n x d
record_written l a n x d e small fits q =
    let s : record_of x ≡ n ∷ x = ap (λ (r : List ℕ). r ++ x) (ap number (sym e) ∙ number_small n small) in
    let k : length (record_of x) ≡ suc (length x) = ap length s in
    let r : d ≡ put a (record_of x) l = q ∙ put_behind l a n x (omega arith) ∙ ap (λ (r : List ℕ). put a r l) (sym s) in
    record { end = omega arith; room = r; long = ap length r ∙ length_put a (record_of x) l (omega arith) }

-- what ends is nothing, or one message
module _ (at : ℕ) (l : List ℕ) (ms : List (List ℕ)) where
  pub none_written : ms ≡ [] → (at ≡ at + length (records_of ms)) × (l ≡ put at (records_of ms) l)
  none_written e = rw e (omega arith, sym (put_none at l))

  module _ (x : List ℕ) (e : ms ≡ x ∷ []) where
    one : records_of ms ≡ record_of x
    one = ap records_of e ∙ append-nil (record_of x)

    pub one_written : (end : ℕ) (d : List ℕ) → end ≡ at + length (record_of x) → d ≡ put at (record_of x) l
        → (end ≡ at + length (records_of ms)) × (d ≡ put at (records_of ms) l)
    one_written end d p q = rw one (p, q)

    pub one_fits : length x < 128 → at + length (records_of ms) ≤ length l → at + length x < length l
    one_fits small h =
        let k : length (records_of ms) ≡ suc (length x) = ap length (one ∙ ap (λ (r : List ℕ). r ++ x) (number_small (length x) small)) in
        omega arith
