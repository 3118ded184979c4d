-- A record is found at a position exactly where one that belongs there stands; a list that grows keeps its records. Assumes nothing.
use Prim.Native.Nat.{ℕ, ◌+◌, ◌-◌, ◌≤◌}
use mathlib.Core.Path.{◌≡◌, refl, sym, ap, ◌∙◌}
use mathlib.Core.Bool.{true}
use mathlib.Core.List.{List, ◌++◌, append_assoc}
use native.Mathlib.Omega.{arith}
use lib.ListN.{length, take, drop, length-append, length-drop, take-append-drop}
use lib.Seq.{take_at, drop-drop, drop-append_seam}
use Rattle.lists.specs.Parts.{part, IsBytes}
use Rattle.lists.proofs.PartLaws.{length_part, part_append, bytes_drop}
use Rattle.message.specs.Heads.{type_of}
use Rattle.record.specs.Number.{number}
use Rattle.record.specs.Records.{record_of, first_of, message_of}
use Rattle.record.specs.declared.list.First.TheVariants.{Whole}
use Rattle.record.proofs.RecordLaws.{Splits, first_splits, first_written}
use Rattle.feeder.specs.Due.{belongs_by, found_at}
use Rattle.feeder.specs.Rules.{RecordAt}
use Rattle.feeder.specs.declared.found.Waiting.{Waiting}
use Rattle.feeder.proofs.BelongLaws.{belongs_law, by_belongs}
use Rattle.feeder.proofs.FoundLaws.{found_to}
use Rattle.std.specs.Prelude.{Some, None, Option}

-- a record and what is behind it
pub record_front : {w : Waiting} {l : List ℕ} {at : ℕ} {p : List ℕ} → RecordAt w l at p → drop at l ≡ p ++ drop (at + length p) l
record_front {w} {l} {at} {p} r =
    sym (take-append-drop (length p) (drop at l)) ∙ ap (λ (x : List ℕ). x ++ drop (length p) (drop at l)) r.stands
    ∙ ap (λ (x : List ℕ). p ++ x) (drop-drop (length p) at l)

-- ---- from what is found to the record

module _ (w : Waiting) (l : List ℕ) (at : ℕ) (h : at ≤ length l) (start stop : ℕ) (s : Splits (drop at l) start stop) where
  abbrev m : List ℕ
  m = message_of (drop at l) start stop

  written_length : length (record_of m) ≡ stop
  written_length =
      let b = s.within in
      let n : length m ≡ stop - start = length_part start (stop - start) (drop at l) (omega arith) in
      let k = s.start_number in
      length-append (number (length m)) m ∙ omega arith

  bytes_are : part at stop l ≡ record_of m
  bytes_are = ap (take stop) s.front ∙ take_at (record_of m) (drop stop (drop at l)) stop written_length

  stop_within : at + stop ≤ length l
  stop_within = let b = s.within in let n = length-drop at l in omega arith

  splits_record : belongs_by w (type_of m) ≡ true → RecordAt w l at (part at stop l)
  splits_record e =
      let n : length (part at stop l) ≡ stop = length_part at stop l stop_within in
      record {
        message = m;
        whole = s.message;
        belongs = by_belongs w (type_of m) e;
        written = bytes_are;
        within = rw n stop_within;
        stands = rw n;
      }

-- what a record found says
pub record FoundTo (w : Waiting) (l : List ℕ) (at end : ℕ) : Type 0 where
  pub after : at + length (part at (end - at) l) ≡ end
  pub stands : RecordAt w l at (part at (end - at) l)

pub found_record : (w : Waiting) (l : List ℕ) (at : ℕ) → IsBytes l → at ≤ length l → (end : ℕ) → found_at w l at ≡ Some end → FoundTo w l at end
found_record w l at b h end e =
    let j = found_to w l at end e in
    let s = first_splits (drop at l) (bytes_drop l at b) j.start j.stop j.whole in
    let k = j.ends in
    let d : end - at ≡ j.stop = omega arith in
    let n : length (part at j.stop l) ≡ j.stop = length_part at j.stop l (stop_within w l at h j.start j.stop s) in
    record { after = rw (d, n) k; stands = rw d (splits_record w l at h j.start j.stop s j.belongs) }

-- ---- from the record to what is found

module _ (w : Waiting) (l : List ℕ) (at : ℕ) (p : List ℕ) (r : RecordAt w l at p) where
  u : ℕ
  u = length (number (length r.message))

  behind : List ℕ
  behind = drop (at + length p) l

  front_is : drop at l ≡ record_of r.message ++ behind
  unfolding behind
  front_is = record_front r ∙ ap (λ (x : List ℕ). x ++ drop (at + length p) l) r.written

  first_is : first_of (drop at l) ≡ Whole u (u + length r.message)
  unfolding u
  first_is = ap first_of front_is ∙ first_written r.message behind r.whole

  message_is : message_of (drop at l) u (u + length r.message) ≡ r.message
  unfolding u
  message_is =
      let d : (u + length r.message) - u ≡ length r.message = omega arith in
      rw (d, front_is, append_assoc (number (length r.message)) r.message behind, drop-append_seam (number (length r.message)) (r.message ++ behind))
      (take_at r.message behind (length r.message) refl)

  size_is : u + length r.message ≡ length p
  unfolding u
  size_is = sym (ap length r.written ∙ length-append (number (length r.message)) r.message)

  pub record_found : found_at w l at ≡ Some (at + length p)
  unfolding found_at
  record_found = rw (first_is, message_is, belongs_law w (type_of r.message) r.belongs, size_is)

-- ---- where no record is found none stands, and the other way round

pub none_stands : (w : Waiting) (l : List ℕ) (at : ℕ) → found_at w l at ≡ None → (p : List ℕ) → RecordAt w l at p → ⊥
none_stands w l at q p r =
    let e : None ≡ Some (at + length p) = sym q ∙ record_found w l at p r in let z : ◌≡◌ {A = ℕ} 0 1 = cc in omega arith

pub none_found : (w : Waiting) (l : List ℕ) (at : ℕ) → IsBytes l → at ≤ length l → ((p : List ℕ) → RecordAt w l at p → ⊥) → found_at w l at ≡ None
none_found w l at b h n = by (found_at w l at) refl
  where
    by : (x : Option ℕ) → found_at w l at ≡ x → found_at w l at ≡ None
    by None q = q
    by (Some end) q = absurd (n (part at (end - at) l) (found_record w l at b h end q).stands)

-- ---- one record at one position, also in a list that was lengthened

pub record_one : (w : Waiting) (l : List ℕ) (at : ℕ) (p q : List ℕ) → RecordAt w l at p → RecordAt w l at q → p ≡ q
record_one w l at p q r t =
    let e : Some (at + length p) ≡ Some (at + length q) = sym (record_found w l at p r) ∙ record_found w l at q t in
    let k : at + length p ≡ at + length q = cc in
    let n : length p ≡ length q = omega arith in
    sym r.stands ∙ ap (λ (x : ℕ). part at x l) n ∙ t.stands

-- a record stands wherever the same bytes do
pub record_also : {w : Waiting} {l k : List ℕ} {at to : ℕ} {p : List ℕ} → RecordAt w l at p → to + length p ≤ length k
    → part to (length p) k ≡ part at (length p) l → RecordAt w k to p
record_also r within same = record {
  message = r.message;
  whole = r.whole;
  belongs = r.belongs;
  written = r.written;
  within = within;
  stands = same ∙ r.stands;
}

pub record_longer : (w : Waiting) (l x k : List ℕ) (at : ℕ) (p : List ℕ) → k ≡ l ++ x → RecordAt w l at p → RecordAt w k at p
record_longer w l x k at p e r =
    let n = length-append l x in
    let b = r.within in
    record_also r (rw e (rw n (omega arith))) (rw e (part_append l x at (length p) b))
