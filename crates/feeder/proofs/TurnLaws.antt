-- What an ask that is not refused does to the lists and the run, and lists that are lengthened. Assumes nothing.
use Prim.Native.Nat.{ℕ, ◌+◌, ◌<◌}
use mathlib.Core.Path.{◌≡◌, refl, sym, ap, ◌∙◌}
use mathlib.Core.Bool.{false}
use mathlib.Core.List.{List, [], ◌++◌, append_assoc, append-nil}
use native.Mathlib.Omega.{arith}
use lib.ListN.{length, length-append}
use Rattle.feeder.specs.Due.{list_of, position_of}
use Rattle.feeder.specs.Rules.{RecordAt, Valid, Due, RunsOn, Rule, not_valid, too_long, hands_response, hands_other, both_empty, response_broken, other_broken}
use Rattle.feeder.specs.Asks.{Lists, bytes_of, Turn, Lengthened, is_refused, Asks, Asking, none, then}
use Rattle.feeder.specs.declared.found.Waiting.{Waiting}
use Rattle.feeder.specs.declared.found.Waiting.TheVariants.{Responses, Others}
use Rattle.feeder.specs.declared.feed.Feed.{Feed}
use Rattle.feeder.specs.declared.feed.Answer.{Answer}
use Rattle.feeder.specs.declared.feed.Answer.TheVariants.{Handed, Empty}
use Rattle.feeder.specs.declared.feed.Step.{Step}
use Rattle.feeder.proofs.RecordCases.{record_longer}
use Rattle.feeder.proofs.RuleLaws.{follows}
use Rattle.std.specs.Prelude.{Some, None}

-- ---- lists that are lengthened

pub lengthened_none : (a : Lists) → Lengthened a a
lengthened_none a = record { more_responses = []; more_others = []; responses = sym (append-nil a.responses); others = sym (append-nil a.others) }

longer : (x y z m n : List ℕ) → y ≡ x ++ m → z ≡ y ++ n → z ≡ x ++ (m ++ n)
longer x y z m n e q = q ∙ ap (λ (k : List ℕ). k ++ n) e ∙ append_assoc x m n

pub lengthened_on : (a b c : Lists) → Lengthened a b → Lengthened b c → Lengthened a c
lengthened_on a b c h k = record {
  more_responses = h.more_responses ++ k.more_responses;
  more_others = h.more_others ++ k.more_others;
  responses = longer a.responses b.responses c.responses h.more_responses k.more_responses h.responses k.responses;
  others = longer a.others b.others c.others h.more_others k.more_others h.others k.others;
}

-- the lists at the end of asks
pub lengthened_all : {f : ℕ} {a z : Lists} {s e : Feed} {ts : List Turn} → Asking f a s ts z e → Lengthened a z
lengthened_all {f} {a} none = lengthened_none a
lengthened_all {f} {a} {z} (then {b = b} h q r) = lengthened_on a b z h (lengthened_all r)

-- who waits goes on waiting
waits_longer : (l m k : List ℕ) (at : ℕ) → k ≡ l ++ m → at < length l → at < length k
waits_longer l m k at e h = let n = length-append l m in rw e (rw n (omega arith))

pub goes_on_waiting : (a b : Lists) → Lengthened a b → (w : Waiting) (at : ℕ) → at < length (bytes_of w a) → at < length (bytes_of w b)
goes_on_waiting a b h Responses at k = waits_longer a.responses h.more_responses b.responses at h.responses k
goes_on_waiting a b h Others at k = waits_longer a.others h.more_others b.others at h.others k

-- a record stays where it stands
pub record_stays : (a b : Lists) → Lengthened a b → (w : Waiting) (at : ℕ) (p : List ℕ) → RecordAt w (bytes_of w a) at p → RecordAt w (bytes_of w b) at p
record_stays a b h Responses at p r = record_longer Responses a.responses h.more_responses b.responses at p h.responses r
record_stays a b h Others at p r = record_longer Others a.others h.more_others b.others at p h.others r

-- ---- one ask

-- the three answers that are no refusal
pub data Turned (R O : List ℕ) (s : Feed) (t : Step) (p : List ℕ) : Type 0 where
  took_response : Due (Some Responses) R O s → RecordAt Responses R s.response p → t.answer ≡ Handed Responses
      → t.feed.response ≡ s.response + length p → t.feed.other ≡ s.other → RunsOn O s t.feed.run → Turned R O s t p
  took_other : Due (Some Others) R O s → RecordAt Others O s.other p → t.answer ≡ Handed Others
      → t.feed.response ≡ s.response → t.feed.other ≡ s.other + length p → t.feed.run ≡ 0 → Turned R O s t p
  took_nothing : Due None R O s → t.answer ≡ Empty → t.feed.response ≡ s.response → t.feed.other ≡ s.other → Turned R O s t p

-- the rule that an answer follows
rule_turned : (f : ℕ) (R O : List ℕ) (s : Feed) (t : Step) (p : List ℕ) → Rule f R O s t p → is_refused t.answer ≡ false → Valid f R O s × Turned R O s t p
rule_turned f R O s _ _ (not_valid n) e = let z : ◌≡◌ {A = ℕ} 0 1 = cc in absurd (omega arith)
rule_turned f R O s _ _ (too_long v n) e = let z : ◌≡◌ {A = ℕ} 0 1 = cc in absurd (omega arith)
rule_turned f R O s _ _ (hands_response v h d p r n k) e = (v, took_response d r refl refl refl k)
rule_turned f R O s _ _ (hands_other v h d p r) e = (v, took_other d r refl refl refl refl)
rule_turned f R O s _ _ (both_empty v h d) e = (v, took_nothing d refl refl refl)
rule_turned f R O s _ _ (response_broken v h d n) e = let z : ◌≡◌ {A = ℕ} 0 1 = cc in absurd (omega arith)
rule_turned f R O s _ _ (other_broken v h d n) e = let z : ◌≡◌ {A = ℕ} 0 1 = cc in absurd (omega arith)

-- an ask that is not refused was valid, and gave one of the three
pub asked : (f : ℕ) (l : Lists) (s : Feed) (t : Turn) → Asks f l s t
    → Valid f l.responses l.others s × Turned l.responses l.others s t.step t.bytes
asked f l s t q =
    let r : Rule f l.responses l.others s t.step t.bytes =
    rw (q.step, q.bytes) at (follows f l.responses l.others s q.of_bytes.0 q.of_bytes.1) in
    rule_turned f l.responses l.others s t.step t.bytes r q.accepted

-- ---- one ask, seen from one list

-- it hands out the record at the list's position, or leaves the list
pub data Moved (w : Waiting) (l : List ℕ) (s : Feed) (t : Step) (p : List ℕ) : Type 0 where
  handed : t.answer ≡ Handed w → RecordAt w l (position_of w s) p → position_of w t.feed ≡ position_of w s + length p → Moved w l s t p
  stayed : (t.answer ≡ Handed w → ⊥) → position_of w t.feed ≡ position_of w s → Moved w l s t p

-- one answer is not two
pub other_list : (a : Answer) (w v : Waiting) → a ≡ Handed w → (w ≡ v → ⊥) → a ≡ Handed v → ⊥
other_list a w v e n q = n (cc)

pub not_empty : (a : Answer) (w : Waiting) → a ≡ Empty → a ≡ Handed w → ⊥
not_empty a w e q = let z : ◌≡◌ {A = ℕ} 0 1 = cc in omega arith

pub responses_others : Responses ≡ Others → ⊥
responses_others e = let z : ◌≡◌ {A = ℕ} 0 1 = cc in omega arith

pub others_responses : Others ≡ Responses → ⊥
others_responses e = let z : ◌≡◌ {A = ℕ} 0 1 = cc in omega arith

pub moved : (w : Waiting) (R O : List ℕ) (s : Feed) (t : Step) (p : List ℕ) → Turned R O s t p → Moved w (list_of w R O) s t p
moved Responses R O s t p (took_response d stands answer response other runs) = handed answer stands response
moved Responses R O s t p (took_other d stands answer response other run) = stayed (other_list t.answer Others Responses answer others_responses) response
moved Responses R O s t p (took_nothing d answer response other) = stayed (not_empty t.answer Responses answer) response
moved Others R O s t p (took_response d stands answer response other runs) = stayed (other_list t.answer Responses Others answer responses_others) other
moved Others R O s t p (took_other d stands answer response other run) = handed answer stands other
moved Others R O s t p (took_nothing d answer response other) = stayed (not_empty t.answer Others answer) other
