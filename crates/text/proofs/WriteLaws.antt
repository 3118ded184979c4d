-- Words written to a room one behind the other. Assumes nothing.
use Prim.Native.Nat.{ℕ, ◌+◌, ◌-◌, ◌^◌, ◌≤◌, ◌<◌}
use mathlib.Core.Path.{◌≡◌, refl, sym, ap, ◌∙◌, subst}
use mathlib.Core.Bool.{Bool}
use mathlib.Core.List.{List, [], ◌∷◌, ◌++◌}
use native.Mathlib.Omega.{arith}
use native.Mathlib.Nat.{zero-add}
use borrow.Rule.Slice.PartMut.{put_mid}
use lib.ListN.{length, take, drop, length-append}
use lib.Seq.{take-length, take-append_seam}
use borrow.Author.Tests.{lt-ltb, le-ltb}
use Rattle.io.specs.Digits.{last_digits, IsDigitCount}
use Rattle.lists.specs.Pick.{pick}
use Rattle.lists.specs.Parts.{put}
use Rattle.lists.proofs.PartLaws.{length_put, put_mid_is_put}
use Rattle.lists.proofs.PutLaws.{put_more}
use Rattle.cause.specs.Causes.{cause_number}
use Rattle.cause.specs.declared.Cause.{Cause}
use Rattle.cause.proofs.CauseLaws.{number_most}
use Rattle.text.specs.Lines.{decimal, spaced, newline, fault_words, verdict_line, min_room, room_of, answer_of}
use Rattle.text.proofs.DecimalLaws.{decimal_digits, spaced_most, spaced_small}
use Rattle.cause.specs.Checks.{Verdict}
use Rattle.std.specs.Prelude.{Ok, Err}

-- what a copy to the front of a lent part `&mut l[a..]` makes of the whole
pub copied_at : (l : List ℕ) (a : ℕ) (x d : List ℕ) → a ≤ length l
    → d ≡ take (length x) x ++ drop (length x) (take (length l - a) (drop a l)) → put_mid a (length l - a) l d ≡ put a x l
copied_at l a x d h e =
    let z : 0 + length x ≡ length x = zero-add (length x) in
    put_mid_is_put a (length l - a) x l d h refl (e ∙ rw (take-length x, z))

-- x was written to the room l from a on: the room is d, and n the offset behind x
pub record Wrote (l : List ℕ) (a : ℕ) (x d : List ℕ) (n : ℕ) : Type 0 where
  pub end : n ≡ a + length x
  pub room : d ≡ put a x l
  pub long : length d ≡ length l

pub wrote : (l : List ℕ) (a : ℕ) (x d : List ℕ) (n : ℕ) → a + length x ≤ length l → (n ≡ a + length x) × (d ≡ put a x l) → Wrote l a x d n
wrote l a x d n fits e = record { end = e.0; room = e.1; long = ap length e.1 ∙ length_put a x l fits }

-- two words, one behind the other
pub wrote_more : {l : List ℕ} {a : ℕ} {x d y e : List ℕ} {n m : ℕ} → a + length x ≤ length l → Wrote l a x d n → Wrote d n y e m
    → Wrote l a (x ++ y) e m
wrote_more {l} {a} {x} {d} {y} {e} {n} {m} fits v w =
    record {
      end = omega (arith, v.end, w.end, length-append x y);
      room =
          w.room
          ∙ ap (λ (k : ℕ). put k y d) v.end
          ∙ ap (put (a + length x) y) v.room
          ∙ put_more a x y l fits;
      long = w.long ∙ v.long;
    }

-- a number behind a space: the space, then the first k bytes of what the kit's `decimal` has written
pub number_written : (l : List ℕ) (a v : ℕ) (d e out : List ℕ) (k m n : ℕ) → v < 2 ^ 64 → IsDigitCount 10 1 v k → take k out ≡ last_digits 10 k v
    → a + 21 ≤ length l → (m ≡ a + 1) × (d ≡ put a (32 ∷ []) l)
    → (n ≡ m + length (take (k - 0) out)) × (e ≡ put m (take (k - 0) out) d)
    → Wrote l a (spaced v) e n
number_written l a v d e out k m n fits fewest spelled room space number =
    let z : k - 0 ≡ k = omega arith in
    let same : take (k - 0) out ≡ decimal v = ap (λ (j : ℕ). take j out) z ∙ spelled ∙ sym (decimal_digits v k fits fewest) in
    let first : Wrote l a (32 ∷ []) d m = wrote l a (32 ∷ []) d m (omega arith) space in
    let w : (n ≡ m + length (decimal v)) × (e ≡ put m (decimal v) d) =
    subst (λ (x : List ℕ). (n ≡ m + length x) × (e ≡ put m x d)) same number in
    wrote_more (omega arith) first (wrote d m (decimal v) e n (omega (arith, spaced_most v, first.long)) w)

-- cause, place and newline, with k for the number of the cause
pub cause_most : (c : Cause) (k : ℕ) → k ≡ cause_number c → length (spaced k) ≤ 3
cause_most c k e = rw e (spaced_small (cause_number c) (omega (arith, number_most c)))

pub fault_most : (c : Cause) (p : ℕ) → length (fault_words c p) ≤ 25
fault_most c p =
    let few = cause_most c (cause_number c) refl in
    let many = spaced_most p in
    omega (arith, length-append (spaced (cause_number c)) (spaced p ++ newline), length-append (spaced p) newline)

pub fault_written : (l : List ℕ) (a : ℕ) (c : Cause) (p k : ℕ) (d e f : List ℕ) (m n o : ℕ) → k ≡ cause_number c → a + 25 ≤ length l
    → (m ≡ a + length (spaced k)) × (d ≡ put a (spaced k) l)
    → (n ≡ m + length (spaced p)) × (e ≡ put m (spaced p) d)
    → (o ≡ n + 1) × (f ≡ put n newline e)
    → Wrote l a (fault_words c p) f o
fault_written l a c p k d e f m n o same room cause place end =
    let short = cause_most c k same in
    let long = spaced_most p in
    let v : Wrote l a (spaced k) d m = wrote l a (spaced k) d m (omega arith) cause in
    let w : Wrote d m (spaced p) e n = wrote d m (spaced p) e n (omega (arith, v.end, v.long)) place in
    let x : Wrote e n newline f o = wrote e n newline f o (omega (arith, v.end, v.long, w.end, w.long)) end in
    subst (λ (j : ℕ). Wrote l a (spaced j ++ (spaced p ++ newline)) f o) same
    (wrote_more (omega arith) v (wrote_more (omega (arith, v.end, v.long)) w x))

-- a line in a room that is large enough, and one that is not written
pub line_written : (line l d : List ℕ) (n : ℕ) → min_room ≤ length l → Wrote l 0 line d n → (n ≡ answer_of line l) × (d ≡ room_of line l)
line_written line l d n large w =
    let e = le-ltb (length l) min_room large in (
      w.end ∙ zero-add (length line) ∙ ap (λ (t : Bool). pick t 0 (length line)) (sym e),
      w.room ∙ ap (λ (t : Bool). pick t l (put 0 line l)) (sym e),
    )

pub line_refused : (line l : List ℕ) → length l < min_room → (0 ≡ answer_of line l) × (l ≡ room_of line l)
line_refused line l small =
    let e = lt-ltb (length l) min_room small in (
      ap (λ (t : Bool). pick t 0 (length line)) (sym e),
      ap (λ (t : Bool). pick t l (put 0 line l)) (sym e),
    )

-- every line fits the least room, and stands at the front of a room that is large enough
pub verdict_most : (e : ℕ) (v : Verdict) → length (verdict_line e v) ≤ min_room
verdict_most e (Ok _) = omega (arith, spaced_most e, length-append (spaced e) newline)
verdict_most e (Err fault) = omega (arith, spaced_most e, fault_most fault.cause fault.place, length-append (spaced e) (fault_words fault.cause fault.place))

pub line_front : (line l : List ℕ) → min_room ≤ length l → take (answer_of line l) (room_of line l) ≡ line
line_front line l large =
    ap (λ (t : Bool). take (pick t 0 (length line)) (pick t l (put 0 line l))) (le-ltb (length l) min_room large)
    ∙ take-append_seam line (drop (0 + length line) l)
