-- The first record of a list, and a list that is checked: both exactly as records are written. Assumes nothing.
use Prim.Native.Nat.{ℕ, zero, suc, ◌+◌, ◌-◌, ◌≤◌, ◌<◌}
use mathlib.Core.Path.{◌≡◌, refl, sym, ap, ◌∙◌, subst}
use mathlib.Core.Bool.{Bool, true, false, ◌&&◌}
use mathlib.Core.List.{List, [], ◌∷◌, ◌++◌, append_assoc}
use mathlib.Core.Logic.{⊎_elim, ◌↔◌}
use native.Mathlib.Omega.{arith}
use lib.ListN.{length, take, drop, length-append, length-drop, take-append-drop, drop_of_length-le}
use lib.Seq.{drop-drop, take_at, drop_at, drop-append_seam, take-append-add}
use lib.Dec.{leb}
use borrow.Author.Tests.{ltb-true, leb-true, le-leb, lt-leb}
use Rattle.lists.specs.Parts.{part, IsBytes}
use Rattle.lists.proofs.Tests.{cases, and_left, and_right}
use Rattle.lists.proofs.PartLaws.{length_part, length_zero, rest_is, bytes_drop}
use Rattle.cause.specs.declared.Cause.{Cause}
use Rattle.cause.specs.declared.Cause.TheVariants.{BrokenRecord}
use Rattle.message.specs.Heads.{is_message, msg_size}
use Rattle.message.proofs.HeadLaws.{is_message_law, size_most}
use Rattle.record.specs.Number.{largest, number, read_number, Value}
use Rattle.record.specs.Records.{record_of, records_of, AllMessages, cut, first_of, message_of, onward, fault_from, list_fault}
use Rattle.record.specs.declared.number.Number.{Number}
use Rattle.record.specs.declared.list.First.{First}
use Rattle.record.specs.declared.list.First.TheVariants.{Empty, Bad, Whole}
use Rattle.record.proofs.NumberLaws.{Stands, read_written, written_read, read_small}
use Rattle.cause.proofs.FaultLaws.{refused_by, refused_at}
use Rattle.cause.specs.Checks.{Verdict, Accepted, Refused}
use Rattle.std.specs.Prelude.{Option, Some, None}

-- ---- the first record

-- where a whole record stands: its number, its message and what is behind it
pub record Splits (l : List ℕ) (start end : ℕ) : Type 0 where
  pub front : l ≡ record_of (message_of l start end) ++ drop end l
  pub message : is_message (message_of l start end) ≡ true
  pub start_number : start ≡ length (number (length (message_of l start end)))
  pub within : (start < end) × (end ≤ length l)

-- a message has at least one byte
pub message_some : (m : List ℕ) → is_message m ≡ true → 0 < length m
message_some m e = let h = is_message_law m e in let s = h.sized in let k = ltb-true 0 (msg_size m) h.is_known in omega arith

-- a record that was cut lies inside the list
cut_within : (l : List ℕ) (r : Option Number) (start end : ℕ) → cut l r ≡ Whole start end → (start < end) × (end ≤ length l)
cut_within l None start end q = let z : ◌≡◌ {A = ℕ} 0 1 = cc in absurd (omega arith)
cut_within l (Some number) start end q = ⊎_elim yes no (cases (leb (number.used + number.value) (length l) && is_message (part number.used number.value l)))
  where
    no : (leb (number.used + number.value) (length l) && is_message (part number.used number.value l)) ≡ false → (start < end) × (end ≤ length l)
    no t = let f : Bad ≡ Whole start end = rw t at q in let z : ◌≡◌ {A = ℕ} 0 1 = cc in absurd (omega arith)

    yes : (leb (number.used + number.value) (length l) && is_message (part number.used number.value l)) ≡ true → (start < end) × (end ≤ length l)
    yes t =
        let f : Whole number.used (number.used + number.value) ≡ Whole start end = rw t at q in
        let es : number.used ≡ start = cc in
        let ee : number.used + number.value ≡ end = cc in
        let fits : number.used + number.value ≤ length l = leb-true (number.used + number.value) (length l) (and_left (leb (number.used + number.value) (length l)) (is_message (part number.used number.value l)) t) in
        let len : length (part number.used number.value l) ≡ number.value = length_part number.used number.value l fits in
        let some = message_some (part number.used number.value l) (and_right (leb (number.used + number.value) (length l)) (is_message (part number.used number.value l)) t) in
        (omega arith, omega arith)

cut_splits : (l : List ℕ) (r : Option Number) → ((n u : ℕ) → r ≡ Value n u → Stands 5 l n u) → (start end : ℕ) → cut l r ≡ Whole start end → Splits l start end
unfolding number
cut_splits l None back start end q = let z : ◌≡◌ {A = ℕ} 0 1 = cc in absurd (omega arith)
cut_splits l (Some numbers) back start end q = ⊎_elim yes no (cases (leb (numbers.used + numbers.value) (length l) && is_message (part numbers.used numbers.value l)))
  where
    no : (leb (numbers.used + numbers.value) (length l) && is_message (part numbers.used numbers.value l)) ≡ false → Splits l start end
    no t = let f : Bad ≡ Whole start end = rw t at q in let z : ◌≡◌ {A = ℕ} 0 1 = cc in absurd (omega arith)

    yes : (leb (numbers.used + numbers.value) (length l) && is_message (part numbers.used numbers.value l)) ≡ true → Splits l start end
    yes t =
        let f : Whole numbers.used (numbers.used + numbers.value) ≡ Whole start end = rw t at q in
        let es : numbers.used ≡ start = cc in
        let ee : numbers.used + numbers.value ≡ end = cc in
        let fits : numbers.used + numbers.value ≤ length l = leb-true (numbers.used + numbers.value) (length l) (and_left (leb (numbers.used + numbers.value) (length l)) (is_message (part numbers.used numbers.value l)) t) in
        let good : is_message (part numbers.used numbers.value l) ≡ true = and_right (leb (numbers.used + numbers.value) (length l)) (is_message (part numbers.used numbers.value l)) t in
        let len : length (part numbers.used numbers.value l) ≡ numbers.value = length_part numbers.used numbers.value l fits in
        let d : end - start ≡ numbers.value = omega arith in
        let m : message_of l start end ≡ part numbers.used numbers.value l = rw (d, ← es) in
        let s = back numbers.value numbers.used refl in
        record {
          front = rw (m, len, ← ee, append_assoc (number numbers.value) (part numbers.used numbers.value l) (drop (numbers.used + numbers.value) l), ← drop-drop numbers.value numbers.used l, take-append-drop numbers.value (drop numbers.used l)) s.front;
          message = rw m good;
          start_number = rw (m, len, ← es) s.bytes;
          within = cut_within l (Value numbers.value numbers.used) start end q;
        }

-- a list that is not empty, by its number
pub first_some : (l : List ℕ) → (length l ≡ 0 → ⊥) → first_of l ≡ cut l (read_number l)
first_some [] d = absurd (d refl)
first_some (b ∷ l) d = refl

pub first_within : (l : List ℕ) (start end : ℕ) → first_of l ≡ Whole start end → (start < end) × (end ≤ length l)
first_within [] start end q = let z : ◌≡◌ {A = ℕ} 0 1 = cc in absurd (omega arith)
first_within (b ∷ l) start end q = cut_within (b ∷ l) (read_number (b ∷ l)) start end q

-- the longest record: one byte of its number, and 120 of its message
cut_short_record : (l : List ℕ) (r : Option Number) → read_number l ≡ r → (start end : ℕ) → cut l r ≡ Whole start end → end ≤ 121
cut_short_record l None er start end q = let z : ◌≡◌ {A = ℕ} 0 1 = cc in absurd (omega arith)
cut_short_record l (Some number) er start end q = ⊎_elim yes no (cases (leb (number.used + number.value) (length l) && is_message (part number.used number.value l)))
  where
    no : (leb (number.used + number.value) (length l) && is_message (part number.used number.value l)) ≡ false → end ≤ 121
    no t = let f : Bad ≡ Whole start end = rw t at q in let z : ◌≡◌ {A = ℕ} 0 1 = cc in absurd (omega arith)

    yes : (leb (number.used + number.value) (length l) && is_message (part number.used number.value l)) ≡ true → end ≤ 121
    yes t =
        let f : Whole number.used (number.used + number.value) ≡ Whole start end = rw t at q in
        let ee : number.used + number.value ≡ end = cc in
        let fits : number.used + number.value ≤ length l = leb-true (number.used + number.value) (length l) (and_left (leb (number.used + number.value) (length l)) (is_message (part number.used number.value l)) t) in
        let len : length (part number.used number.value l) ≡ number.value = length_part number.used number.value l fits in
        let sized = (is_message_law (part number.used number.value l) (and_right (leb (number.used + number.value) (length l)) (is_message (part number.used number.value l)) t)).sized in
        let most = size_most (part number.used number.value l) in
        let one : number.used ≡ 1 = read_small l number.value number.used er (omega arith) in
        omega arith

pub first_short : (l : List ℕ) (start end : ℕ) → first_of l ≡ Whole start end → end ≤ 121
first_short [] start end q = let z : ◌≡◌ {A = ℕ} 0 1 = cc in absurd (omega arith)
first_short (b ∷ l) start end q = cut_short_record (b ∷ l) (read_number (b ∷ l)) refl start end q

-- a record that is read is one that is written
pub first_splits : (l : List ℕ) → IsBytes l → (start end : ℕ) → first_of l ≡ Whole start end → Splits l start end
first_splits [] h start end q = let z : ◌≡◌ {A = ℕ} 0 1 = cc in absurd (omega arith)
first_splits (b ∷ l) h start end q = cut_splits (b ∷ l) (read_number (b ∷ l)) (read_written (b ∷ l) h) start end q

-- a record that is written is read
pub first_written : (m l : List ℕ) → is_message m ≡ true
    → first_of (record_of m ++ l) ≡ Whole (length (number (length m))) (length (number (length m)) + length m)
first_written m l e =
    let some : 0 < length m = message_some m e in
    let small : length m ≤ largest = fits in
    let a : record_of m ++ l ≡ number (length m) ++ (m ++ l) = append_assoc (number (length m)) m l in
    let long : length (number (length m) ++ (m ++ l)) ≡ length (number (length m)) + (length m + length l) = length-append (number (length m)) (m ++ l) ∙ ap (λ (k : ℕ). length (number (length m)) + k) (length-append m l) in
    let d : length (number (length m) ++ (m ++ l)) ≡ 0 → ⊥ = λ (z : length (number (length m) ++ (m ++ l)) ≡ 0). omega arith in
    let p : part (length (number (length m))) (length m) (number (length m) ++ (m ++ l)) ≡ m =
    ap (take (length m)) (drop-append_seam (number (length m)) (m ++ l)) ∙ take_at m l (length m) refl in
    let t : leb (length (number (length m)) + length m) (length (number (length m) ++ (m ++ l))) ≡ true =
    le-leb (length (number (length m)) + length m) (length (number (length m) ++ (m ++ l))) (omega arith) in
    rw (a, first_some (number (length m) ++ (m ++ l)) d, written_read (length m) (m ++ l) small, t, p, e)
  where
    fits : length m ≤ largest
    fits = let h = (is_message_law m e).sized in let k = size_most m in omega arith

-- ---- a record as the code cuts it, by a number that was read
module _ (l : List ℕ) (r : Option Number) (n u : ℕ) (e : r ≡ Value n u) where
  pub cut_short : length l < u + n → Bad ≡ cut l r
  cut_short h = rw (e, lt-leb (u + n) (length l) h)

  module _ (h : u + n ≤ length l) (b : Bool) (q : b ≡ is_message (take ((u + n) - u) (drop u l))) where
    size : (u + n) - u ≡ n
    size = omega arith

    pub cut_whole : b ≡ true → Whole u (u + n) ≡ cut l r
    cut_whole t = rw (e, le-leb (u + n) (length l) h, ← (rw size at q), t)

    pub cut_other : b ≡ false → Bad ≡ cut l r
    cut_other t = rw (e, le-leb (u + n) (length l) h, ← (rw size at q), t)

pub first_none : (l : List ℕ) → length l ≡ 0 → Empty ≡ first_of l
first_none l e = rw (length_zero l e)

-- ---- a whole list

-- records of messages one behind the other
pub records_append : (a b : List (List ℕ)) → records_of (a ++ b) ≡ records_of a ++ records_of b
records_append [] b = refl
records_append (m ∷ a) b = ap (λ (r : List ℕ). record_of m ++ r) (records_append a b) ∙ sym (append_assoc (record_of m) (records_of a) (records_of b))

-- a list of records: the messages that it is made of
pub record Listed (l : List ℕ) : Type 0 where
  pub messages : List (List ℕ)
  pub joined : l ≡ records_of messages
  pub all : AllMessages messages

-- how a first record is found, by its kind
module _ (l : List ℕ) (at : ℕ) (next : ℕ → Verdict) where
  pub onward_empty : first_of (drop at l) ≡ Empty → onward (first_of (drop at l)) at next ≡ Accepted
  onward_empty e = rw e

  pub onward_bad : first_of (drop at l) ≡ Bad → onward (first_of (drop at l)) at next ≡ Refused BrokenRecord at
  onward_bad e = rw e

  pub onward_whole : (start end : ℕ) → first_of (drop at l) ≡ Whole start end → onward (first_of (drop at l)) at next ≡ next (at + end)
  onward_whole start end e = rw e

-- enough steps give one verdict
pub fuel_enough : (k j : ℕ) (l : List ℕ) (at : ℕ) → length l - at < k → length l - at < j → fault_from k l at ≡ fault_from j l at
unfolding fault_from
fuel_enough zero j l at p q = absurd (omega arith)
fuel_enough (suc k) zero l at p q = absurd (omega arith)
fuel_enough (suc k) (suc j) l at p q = by (first_of (drop at l)) refl (λ next. fuel_enough k j l next)
  where
    by : (f : First) → first_of (drop at l) ≡ f → ((next : ℕ) → length l - next < k → length l - next < j → fault_from k l next ≡ fault_from j l next)
        → onward f at (λ next. fault_from k l next) ≡ onward f at (λ next. fault_from j l next)
    by Empty e ih = refl
    by Bad e ih = refl
    by (Whole start end) e ih =
        let w = first_within (drop at l) start end e in
        let n = length-drop at l in
        ih (at + end) (omega arith) (omega arith)

-- one record of the check
pub fault_next : (l : List ℕ) (at start end : ℕ) → first_of (drop at l) ≡ Whole start end
    → fault_from (suc (length l - at)) l at ≡ fault_from (suc (length l - (at + end))) l (at + end)
unfolding fault_from
fault_next l at start end e =
    let w = first_within (drop at l) start end e in
    let n = length-drop at l in
    onward_whole l at (λ next. fault_from (length l - at) l next) start end e
    ∙ fuel_enough (length l - at) (suc (length l - (at + end))) l (at + end) (omega arith) (omega arith)

pub fault_bad : (l : List ℕ) (at : ℕ) → first_of (drop at l) ≡ Bad → fault_from (suc (length l - at)) l at ≡ Refused BrokenRecord at
unfolding fault_from
fault_bad l at e = onward_bad l at (λ next. fault_from (length l - at) l next) e

pub fault_empty : (l : List ℕ) (at : ℕ) → first_of (drop at l) ≡ Empty → fault_from (suc (length l - at)) l at ≡ Accepted
unfolding fault_from
fault_empty l at e = onward_empty l at (λ next. fault_from (length l - at) l next) e

pub fault_end : (l : List ℕ) (at : ℕ) → length l ≤ at → fault_from (suc (length l - at)) l at ≡ Accepted
fault_end l at h = fault_empty l at (rw (drop_of_length-le l h))

pub fault_start : (l : List ℕ) → list_fault l ≡ fault_from (suc (length l - 0)) l 0
unfolding list_fault
fault_start l = let e : length l - 0 ≡ length l = omega arith in rw e

-- the first record of a part that runs to the end
pub found : (l : List ℕ) (at : ℕ) (r f : First) → r ≡ first_of (take (length l - at) (drop at l)) → r ≡ f → first_of (drop at l) ≡ f
found l at r f e q = ap first_of (sym (rest_is l at)) ∙ sym e ∙ q

-- the offset behind a record
pub offset_next : (l : List ℕ) (at start end : ℕ) → at < length l → first_of (drop at l) ≡ Whole start end → (at < at + end) × (at + end ≤ length l)
offset_next l at start end h e = let w = first_within (drop at l) start end e in let n = length-drop at l in (omega arith, omega arith)

first_empty : (l : List ℕ) → first_of l ≡ Empty → l ≡ []
first_empty [] e = refl
first_empty (b ∷ l) e = absurd (never (read_number (b ∷ l)) e)
  where
    never : (r : Option Number) → cut (b ∷ l) r ≡ Empty → ⊥
    never None q = let z : ◌≡◌ {A = ℕ} 0 1 = cc in omega arith
    never (Some number) q =
        ⊎_elim (λ (t : (leb (number.used + number.value) (length (b ∷ l)) && is_message (part number.used number.value (b ∷ l))) ≡ true). no_whole number.used (number.used + number.value) (rw t at q))
        (λ (t : (leb (number.used + number.value) (length (b ∷ l)) && is_message (part number.used number.value (b ∷ l))) ≡ false). no_bad (rw t at q))
        (cases (leb (number.used + number.value) (length (b ∷ l)) && is_message (part number.used number.value (b ∷ l))))
      where
        no_whole : (s e : ℕ) → Whole s e ≡ Empty → ⊥
        no_whole s e f = let z : ◌≡◌ {A = ℕ} 0 1 = cc in omega arith

        no_bad : Bad ≡ Empty → ⊥
        no_bad f = let z : ◌≡◌ {A = ℕ} 0 1 = cc in omega arith

-- the records before a place and behind the first
record_before : (l : List ℕ) (at start end : ℕ) → Splits (drop at l) start end → drop at l ≡ record_of (message_of (drop at l) start end) ++ drop (at + end) l
record_before l at start end s = s.front ∙ ap (λ (r : List ℕ). record_of (message_of (drop at l) start end) ++ r) (drop-drop end at l)

-- one more message in front
listed_more : (m l : List ℕ) → is_message m ≡ true → Listed l → Listed (record_of m ++ l)
listed_more m l e h = record { messages = m ∷ h.messages; joined = ap (λ (r : List ℕ). record_of m ++ r) h.joined; all = (e, h.all) }

-- a sound verdict from an offset on: the rest is a list of records
from_accepted : (k : ℕ) (l : List ℕ) (at : ℕ) → IsBytes l → length l - at < k → fault_from k l at ≡ Accepted → Listed (drop at l)
unfolding fault_from
from_accepted zero l at h p e = absurd (omega arith)
from_accepted (suc k) l at h p e = by (first_of (drop at l)) refl e (λ next. from_accepted k l next h)
  where
    by : (f : First) → first_of (drop at l) ≡ f → onward f at (λ next. fault_from k l next) ≡ Accepted
        → ((next : ℕ) → length l - next < k → fault_from k l next ≡ Accepted → Listed (drop next l)) → Listed (drop at l)
    by Empty q v ih = rw (first_empty (drop at l) q) (record { messages = []; joined = refl; all = tt })
    by Bad q v ih = let z : ◌≡◌ {A = ℕ} 0 1 = cc in absurd (omega arith)
    by (Whole start end) q v ih =
        let s = first_splits (drop at l) (bytes_drop l at h) start end q in
        let w = s.within in
        let n = length-drop at l in
        subst Listed (sym (record_before l at start end s))
        (listed_more (message_of (drop at l) start end) (drop (at + end) l) s.message (ih (at + end) (omega arith) v))

-- a list of records from an offset on: a sound verdict
to_accepted : (ms : List (List ℕ)) (k : ℕ) (l : List ℕ) (at : ℕ) → AllMessages ms → drop at l ≡ records_of ms → length l - at < k → fault_from k l at ≡ Accepted
unfolding fault_from
to_accepted ms zero l at a e p = absurd (omega arith)
to_accepted [] (suc k) l at a e p = onward_empty l at (λ next. fault_from k l next) (rw e)
to_accepted (m ∷ ms) (suc k) l at a e p =
    let u : ℕ = length (number (length m)) in
    let first : first_of (drop at l) ≡ Whole u (u + length m) = ap first_of e ∙ first_written m (records_of ms) a.0 in
    let w = first_within (drop at l) u (u + length m) first in
    let n = length-drop at l in
    let rest : drop (at + (u + length m)) l ≡ records_of ms =
    sym (drop-drop (u + length m) at l) ∙ ap (drop (u + length m)) e
    ∙ drop_at (record_of m) (records_of ms) (u + length m) (length-append (number (length m)) m) in
    onward_whole l at (λ next. fault_from k l next) u (u + length m) first ∙ to_accepted ms k l (at + (u + length m)) a.1 rest (omega arith)

-- a list is checked sound exactly where it is made of records of whole messages
pub list_exactly : (l : List ℕ) → IsBytes l → (list_fault l ≡ Accepted) ↔ Listed l
unfolding list_fault
list_exactly l h = (
  λ (e : fault_from (suc (length l)) l 0 ≡ Accepted). from_accepted (suc (length l)) l 0 h (omega arith) e,
  λ (r : Listed l). to_accepted r.messages (suc (length l)) l 0 r.all r.joined (omega arith),
)

-- what is broken at a place, from an offset on
pub record BrokenAt (l : List ℕ) (at : ℕ) (c : Cause) (p : ℕ) : Type 0 where
  pub cause : c ≡ BrokenRecord
  pub behind : at ≤ p
  pub before : Listed (take (p - at) (drop at l))
  pub broken : first_of (drop p l) ≡ Bad

from_refused : (k : ℕ) (l : List ℕ) (at : ℕ) (c : Cause) (p : ℕ) → IsBytes l → fault_from k l at ≡ Refused c p → BrokenAt l at c p
unfolding fault_from
from_refused zero l at c p h e = let z : ◌≡◌ {A = ℕ} 0 1 = cc in absurd (omega arith)
from_refused (suc k) l at c p h e = by (first_of (drop at l)) refl e (λ next. from_refused k l next c p h)
  where
    by : (f : First) → first_of (drop at l) ≡ f → onward f at (λ next. fault_from k l next) ≡ Refused c p
        → ((next : ℕ) → fault_from k l next ≡ Refused c p → BrokenAt l next c p) → BrokenAt l at c p
    by Empty q v ih = let z : ◌≡◌ {A = ℕ} 0 1 = cc in absurd (omega arith)
    by Bad q v ih =
        let ec = sym (refused_by _ _ _ _ v) in
        let ep = sym (refused_at _ _ _ _ v) in
        let d : p - at ≡ 0 = omega arith in
        record { cause = ec; behind = omega arith; before = rw d (record { messages = []; joined = refl; all = tt }); broken = rw ep q }
    by (Whole start end) q v ih =
        let s = first_splits (drop at l) (bytes_drop l at h) start end q in
        let r = ih (at + end) v in
        let m = message_of (drop at l) start end in
        let b = r.behind in
        let w = s.within in
        let len : length (record_of m) ≡ end = record_length start end s in
        let d : p - at ≡ length (record_of m) + (p - (at + end)) = omega arith in
        let cutting : take (p - at) (drop at l) ≡ record_of m ++ take (p - (at + end)) (drop (at + end) l) =
        ap (λ (n : ℕ). take n (drop at l)) d ∙ ap (take (length (record_of m) + (p - (at + end)))) (record_before l at start end s)
        ∙ take-append-add (record_of m) (drop (at + end) l) (p - (at + end)) in
        record {
          cause = r.cause;
          behind = omega arith;
          before = subst Listed (sym cutting) (listed_more m (take (p - (at + end)) (drop (at + end) l)) s.message r.before);
          broken = r.broken;
        }
      where
        record_length : (start end : ℕ) → Splits (drop at l) start end → length (record_of (message_of (drop at l) start end)) ≡ end
        record_length start end s =
            let w = s.within in
            let n : length (message_of (drop at l) start end) ≡ end - start = length_part start (end - start) (drop at l) (omega arith) in
            let k = s.start_number in
            length-append (number (length (message_of (drop at l) start end))) (message_of (drop at l) start end) ∙ omega arith

-- a list is broken at the first record that is no whole message: the bytes before it are records
pub list_broken : (l : List ℕ) (c : Cause) (p : ℕ) → IsBytes l → list_fault l ≡ Refused c p → (c ≡ BrokenRecord) × Listed (take p l) × (first_of (drop p l) ≡ Bad)
unfolding list_fault
list_broken l c p h e =
    let r = from_refused (suc (length l)) l 0 c p h e in
    let d : p - 0 ≡ p = omega arith in
    (r.cause, rw d at r.before, r.broken)
