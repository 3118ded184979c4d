-- Who waits at a list's head is served within five asks, within two at the response list's, and what is handed out of a list is its
-- records in order, each once. Assumes nothing.
use Prim.Native.Nat.{ℕ, zero, suc, ◌+◌, ◌≤◌, ◌<◌}
use mathlib.Core.Path.{◌≡◌, refl, sym, ap, ◌∙◌, subst}
use mathlib.Core.List.{List, [], ◌∷◌, ◌++◌, map, append_assoc}
use native.Mathlib.Nat.{zero-add}
use native.Mathlib.Omega.{arith}
use lib.ListN.{length, take, drop, length-append}
use lib.Seq.{take_at}
use Rattle.record.specs.Records.{record_of, records_of}
use Rattle.feeder.specs.Due.{position_of}
use Rattle.feeder.specs.Feeding.{fresh_feed}
use Rattle.feeder.specs.Rules.{RecordAt}
use Rattle.feeder.specs.Asks.{Lists, bytes_of, Turn, Lengthened, Asking, none, then, Within, at_once, later, Served, Parts, no_part, one_part, passed_by, HandedOut, joined}
use Rattle.feeder.specs.declared.found.Waiting.{Waiting}
use Rattle.feeder.specs.declared.found.Waiting.TheVariants.{Responses, Others}
use Rattle.feeder.specs.declared.feed.Feed.{Feed}
use Rattle.feeder.specs.declared.feed.Answer.TheVariants.{Handed}
use Rattle.feeder.proofs.RecordCases.{record_front, record_one}
use Rattle.feeder.proofs.TurnLaws.{lengthened_all, goes_on_waiting, record_stays, Turned, took_response, took_other, took_nothing, asked, Moved, handed, stayed, other_list, responses_others, others_responses, moved}

-- served by this ask, and one ask later
served_now : (w : Waiting) (n : ℕ) (b z : Lists) (s : Feed) (t : Turn) (ts : List Turn) → Lengthened b z → t.step.answer ≡ Handed w
    → RecordAt w (bytes_of w b) (position_of w s) t.bytes → Served w (suc n) (bytes_of w z) (position_of w s) (t ∷ ts)
served_now w n b z s t ts g x r = record { bytes = t.bytes; waited = record_stays b z g w (position_of w s) t.bytes r; within = at_once x refl }

served_later : (w : Waiting) (n : ℕ) (l : List ℕ) (at : ℕ) (t : Turn) (ts : List Turn) → (t.step.answer ≡ Handed w → ⊥) → Served w n l at ts → Served w (suc n) l at (t ∷ ts)
served_later w n l at t ts d r = record { bytes = r.bytes; waited = r.waited; within = later d r.within }

-- ---- the other list: while it waits and is not served the run rises at each ask

others_within : (n : ℕ) (f : ℕ) (a z : Lists) (s e : Feed) (ts : List Turn) → Asking f a s ts z e → n ≤ length ts → 5 ≤ n + s.run → s.run ≤ 4
    → s.other < length a.others → Served Others n z.others s.other ts
others_within zero f a z s e ts q m k r h = absurd (omega arith)
others_within (suc n) f a z s e _ none m k r h = absurd (omega arith)
others_within (suc n) f a z s e _ (then {b = b} {t = t} {ts = ts} g q rest) m k r h =
    by (asked f b s t q).1 (others_within n f b z t.step.feed e ts rest (omega arith))
  where
    waits : s.other < length b.others
    waits = goes_on_waiting a b g Others s.other h

    by : Turned b.responses b.others s t.step t.bytes
        → (5 ≤ n + t.step.feed.run → t.step.feed.run ≤ 4 → t.step.feed.other < length b.others → Served Others n z.others t.step.feed.other ts)
        → Served Others (suc n) z.others s.other (t ∷ ts)
    by (took_response d stands answer response other runs) ih =
        let run : t.step.feed.run ≡ s.run + 1 = runs.0 waits in
        let low : s.run < 4 = d.1 waits in
        served_later Others n z.others s.other t ts (other_list t.step.answer Responses Others answer responses_others)
        (rw other at (ih (omega arith) (omega arith) (rw other waits)))
    by (took_other d stands answer response other run) ih = served_now Others n b z s t ts (lengthened_all rest) answer stands
    by (took_nothing d answer response other) ih = let y = d.1 in let k = waits in absurd (omega arith)

pub within_five : (f : ℕ) (a z : Lists) (s e : Feed) (ts : List Turn) → Asking f a s ts z e → 5 ≤ length ts → s.other < length a.others
    → Served Others 5 z.others s.other ts
within_five f a z s e _ none m h = absurd (omega arith)
within_five f a z s e _ (then {b = b} {t = t} {ts = ts} g q rest) m h =
    others_within 5 f a z s e (t ∷ ts) (then g q rest) m (omega arith) (asked f b s t q).0.run h

-- ---- the response list: at most one ask goes to the other list, which clears the run

within_one : (f : ℕ) (a z : Lists) (s e : Feed) (ts : List Turn) → Asking f a s ts z e → 1 ≤ length ts → s.run < 4 → s.response < length a.responses
    → Served Responses 1 z.responses s.response ts
within_one f a z s e _ none m k h = absurd (omega arith)
within_one f a z s e _ (then {b = b} {t = t} {ts = ts} g q rest) m k h = by (asked f b s t q).1
  where
    waits : s.response < length b.responses
    waits = goes_on_waiting a b g Responses s.response h

    by : Turned b.responses b.others s t.step t.bytes → Served Responses 1 z.responses s.response (t ∷ ts)
    by (took_response d stands answer response other runs) = served_now Responses 0 b z s t ts (lengthened_all rest) answer stands
    by (took_other d stands answer response other run) = let y = d.1 waits in absurd (omega arith)
    by (took_nothing d answer response other) = let y = d.0 in let k = waits in absurd (omega arith)

pub within_two : (f : ℕ) (a z : Lists) (s e : Feed) (ts : List Turn) → Asking f a s ts z e → 2 ≤ length ts → s.response < length a.responses
    → Served Responses 2 z.responses s.response ts
within_two f a z s e _ none m h = absurd (omega arith)
within_two f a z s e _ (then {b = b} {t = t} {ts = ts} g q rest) m h = by (asked f b s t q).1
  where
    waits : s.response < length b.responses
    waits = goes_on_waiting a b g Responses s.response h

    by : Turned b.responses b.others s t.step t.bytes → Served Responses 2 z.responses s.response (t ∷ ts)
    by (took_response d stands answer response other runs) = served_now Responses 1 b z s t ts (lengthened_all rest) answer stands
    by (took_other d stands answer response other run) =
        served_later Responses 1 z.responses s.response t ts (other_list t.step.answer Others Responses answer others_responses)
        (rw response at (within_one f b z t.step.feed e ts rest (omega arith) (omega arith) (rw response waits)))
    by (took_nothing d answer response other) = let y = d.0 in let k = waits in absurd (omega arith)

-- ---- the record that is served is the one that waited

pub who_waited : (f : ℕ) (a z : Lists) (s e : Feed) (ts : List Turn) → Asking f a s ts z e → (w : Waiting) (n : ℕ) (bytes : List ℕ)
    → RecordAt w (bytes_of w a) (position_of w s) bytes → Served w n (bytes_of w z) (position_of w s) ts → Within w bytes n ts
who_waited f a z s e ts q w n bytes r v =
    let k : v.bytes ≡ bytes = record_one w (bytes_of w z) (position_of w s) v.bytes bytes v.waited (record_stays a z (lengthened_all q) w (position_of w s) bytes r) in
    subst (λ (x : List ℕ). Within w x n ts) k v.within

-- ---- what is handed out

pub in_order : (f : ℕ) (a z : Lists) (s e : Feed) (ts : List Turn) → Asking f a s ts z e → (w : Waiting)
    → HandedOut w (bytes_of w z) (position_of w s) (position_of w e) ts
in_order f a z s e _ none w = record { messages = []; all = tt; belong = tt; parts = no_part; in_order = refl; long = omega arith }
in_order f a z s e _ (then {b = b} {t = t} {ts = ts} g q rest) w = by (moved w b.responses b.others s t.step t.bytes (asked f b s t q).1) (in_order f b z t.step.feed e ts rest w)
  where
    by : Moved w (bytes_of w b) s t.step t.bytes → HandedOut w (bytes_of w z) (position_of w t.step.feed) (position_of w e) ts
        → HandedOut w (bytes_of w z) (position_of w s) (position_of w e) (t ∷ ts)
    by (stayed n x) o = record {
      messages = o.messages;
      all = o.all;
      belong = o.belong;
      parts = passed_by n o.parts;
      in_order = rw x at o.in_order;
      long = rw x at o.long;
    }
    by (handed x r k) o =
        let r' = record_stays b z (lengthened_all rest) w (position_of w s) t.bytes r in
        let sizes = length-append (record_of r.message) (records_of o.messages) in
        let size = ap length r.written in
        let end = o.long in
        let front : drop (position_of w s) (bytes_of w z) ≡ t.bytes ++ drop (position_of w t.step.feed) (bytes_of w z) = rw k (record_front r') in
        record {
          messages = r.message ∷ o.messages;
          all = (r.whole, o.all);
          belong = (r.belongs, o.belong);
          parts = rw (← r.written) (one_part x o.parts);
          in_order =
              front ∙ ap (λ (x : List ℕ). t.bytes ++ x) o.in_order
              ∙ ap (λ (x : List ℕ). x ++ (records_of o.messages ++ drop (position_of w e) (bytes_of w z))) r.written
              ∙ sym (append_assoc (record_of r.message) (records_of o.messages) (drop (position_of w e) (bytes_of w z)));
          long = omega arith;
        }

-- the parts are known by the asks
parts_one : (w : Waiting) (ts : List Turn) (ps qs : List (List ℕ)) → Parts w ts ps → Parts w ts qs → ps ≡ qs
parts_one w _ _ _ no_part no_part = refl
parts_one w _ _ _ (one_part {t = t} {ts = ts} {ps = ps} e p) (one_part {ps = qs} d q) = ap (λ (x : List (List ℕ)). t.bytes ∷ x) (parts_one w ts ps qs p q)
parts_one w _ _ _ (one_part e p) (passed_by n q) = absurd (n e)
parts_one w _ _ _ (passed_by n p) (one_part d q) = absurd (n d)
parts_one w _ _ _ (passed_by {ts = ts} {ps = ps} n p) (passed_by {ps = qs} m q) = parts_one w ts ps qs p q

joined_records : (ms : List (List ℕ)) → joined (map record_of ms) ≡ records_of ms
joined_records [] = refl
joined_records (m ∷ ms) = ap (λ (x : List ℕ). record_of m ++ x) (joined_records ms)

fresh_position : (w : Waiting) → position_of w fresh_feed ≡ 0
fresh_position Responses = refl
fresh_position Others = refl

pub beginning : (f : ℕ) (a z : Lists) (e : Feed) (ts : List Turn) → Asking f a fresh_feed ts z e → (w : Waiting) (parts : List (List ℕ))
    → Parts w ts parts → joined parts ≡ take (position_of w e) (bytes_of w z)
beginning f a z e ts q w parts p =
    let o = in_order f a z fresh_feed e ts q w in
    let records = records_of o.messages in
    let same : joined parts ≡ records = ap joined (parts_one w ts parts (map record_of o.messages) p o.parts) ∙ joined_records o.messages in
    let end : length records ≡ position_of w e = rw (fresh_position w, zero-add (length records)) at o.long in
    let whole : bytes_of w z ≡ records ++ drop (position_of w e) (bytes_of w z) = rw (fresh_position w) at o.in_order in
    same ∙ sym (ap (take (position_of w e)) whole ∙ take_at records (drop (position_of w e) (bytes_of w z)) (position_of w e) end)
