-- Bytes that were handed out may be dropped: with both positions lowered the same record is handed out of the same list. Assumes nothing.
use Prim.Native.Nat.{ℕ, ◌+◌, ◌-◌, ◌≤◌, ◌<◌}
use mathlib.Core.Path.{◌≡◌, sym, subst}
use mathlib.Core.List.{List}
use native.Mathlib.Omega.{arith}
use lib.ListN.{length, drop, length-drop}
use Rattle.lists.specs.Parts.{IsBytes}
use Rattle.lists.proofs.PartLaws.{bytes_drop}
use Rattle.feeder.specs.Feeding.{feeding, fed_part}
use Rattle.feeder.specs.Rules.{RecordAt, Valid, Short, Due, RunsOn, Rule, not_valid, too_long, hands_response, hands_other, both_empty, response_broken, other_broken}
use Rattle.feeder.specs.Asks.{lowered, lowered_step}
use Rattle.feeder.specs.declared.found.Waiting.{Waiting}
use Rattle.feeder.specs.declared.found.Waiting.TheVariants.{Responses, Others}
use Rattle.feeder.specs.declared.feed.Feed.{Feed}
use Rattle.feeder.specs.declared.feed.Answer.TheVariants.{Handed}
use Rattle.feeder.specs.declared.feed.Step.{Step}
use Rattle.feeder.proofs.DroppedParts.{same_part}
use Rattle.feeder.proofs.RecordCases.{record_also}
use Rattle.feeder.proofs.RuleLaws.{follows, only}
use Rattle.std.specs.Prelude.{Option, Some, None}

-- ---- a record behind the bytes that are dropped

module _ (w : Waiting) (l : List ℕ) (at a : ℕ) (h : a ≤ at) where
  record_lowered : (p : List ℕ) → at < length l → RecordAt w l at p → RecordAt w (drop a l) (at - a) p
  record_lowered p k r = let n = length-drop a l in let b = r.within in record_also r (omega arith) (same_part l at a h (length p))

  record_raised : (p : List ℕ) → at < length l → RecordAt w (drop a l) (at - a) p → RecordAt w l at p
  record_raised p k r = let n = length-drop a l in let b = r.within in record_also r (omega arith) (sym (same_part l at a h (length p)))

-- ---- the rules

module _ (f : ℕ) (R O : List ℕ) (s : Feed) (a b : ℕ) (ha : a ≤ s.response) (hb : b ≤ s.other) (v : Valid f R O s) (h : Short R O) where
  valid_lowered : Valid f (drop a R) (drop b O) (lowered a b s)
  valid_lowered =
      let m = length-drop a R in
      let n = length-drop b O in
      let x = v.response in
      let y = v.other in
      record { format = v.format; response = omega arith; other = omega arith; run = v.run }

  short_lowered : Short (drop a R) (drop b O)
  short_lowered = let m = length-drop a R in let n = length-drop b O in let x = h.0 in let y = h.1 in (omega arith, omega arith)

  due_lowered : (w : Option Waiting) → Due w R O s → Due w (drop a R) (drop b O) (lowered a b s)
  due_lowered (Some Responses) d = let m = length-drop a R in let n = length-drop b O in let x = d.0 in (omega arith, λ k. d.1 (omega arith))
  due_lowered (Some Others) d = let m = length-drop a R in let n = length-drop b O in let x = d.0 in (omega arith, λ k. d.1 (omega arith))
  due_lowered None d = let m = length-drop a R in let n = length-drop b O in let x = d.0 in let y = d.1 in (omega arith, omega arith)

  runs_lowered : (n : ℕ) → RunsOn O s n → RunsOn (drop b O) (lowered a b s) n
  runs_lowered n r = let m = length-drop b O in let y = v.other in (λ k. r.0 (omega arith), λ k. r.1 (omega arith))

  -- a position behind a record
  behind : (at c n : ℕ) → c ≤ at → (at - c) + n ≡ (at + n) - c
  behind at c n k = omega arith

  abbrev Lowered : Step → List ℕ → Type 0
  Lowered t p = Rule f (drop a R) (drop b O) (lowered a b s) (lowered_step a b t) p

  rule_lowered : (t : Step) (p : List ℕ) → Rule f R O s t p → Lowered t p
  rule_lowered _ _ (not_valid n) = absurd (n v)
  rule_lowered _ _ (too_long _ n) = absurd (n h)
  rule_lowered _ _ (hands_response _ _ d p r n u) =
      subst
      (λ (k : ℕ). Rule f (drop a R) (drop b O) (lowered a b s) (record { feed = record { response = k; other = s.other - b; run = n }; answer = Handed Responses }) p)
      (behind s.response a (length p) ha)
      (hands_response valid_lowered short_lowered (due_lowered (Some Responses) d) p (record_lowered Responses R s.response a ha p d.0 r) n (runs_lowered n u))
  rule_lowered _ _ (hands_other _ _ d p r) =
      subst
      (λ (k : ℕ). Rule f (drop a R) (drop b O) (lowered a b s) (record { feed = record { response = s.response - a; other = k; run = 0 }; answer = Handed Others }) p)
      (behind s.other b (length p) hb)
      (hands_other valid_lowered short_lowered (due_lowered (Some Others) d) p (record_lowered Others O s.other b hb p d.0 r))
  rule_lowered _ _ (both_empty _ _ d) = both_empty valid_lowered short_lowered (due_lowered None d)
  rule_lowered _ _ (response_broken _ _ d n) =
      response_broken valid_lowered short_lowered (due_lowered (Some Responses) d) (λ p r. n p (record_raised Responses R s.response a ha p d.0 r))
  rule_lowered _ _ (other_broken _ _ d n) =
      other_broken valid_lowered short_lowered (due_lowered (Some Others) d) (λ p r. n p (record_raised Others O s.other b hb p d.0 r))

pub dropped : (f : ℕ) (R O : List ℕ) (s : Feed) → IsBytes R → IsBytes O → Valid f R O s → Short R O → (a b : ℕ) → a ≤ s.response → b ≤ s.other
    → (lowered_step a b (feeding f R O s) ≡ feeding f (drop a R) (drop b O) (lowered a b s))
    × (fed_part f R O s ≡ fed_part f (drop a R) (drop b O) (lowered a b s))
dropped f R O s x y v h a b ha hb =
    only f (drop a R) (drop b O) (lowered a b s) (bytes_drop R a x) (bytes_drop O b y) (lowered_step a b (feeding f R O s)) (fed_part f R O s)
    (rule_lowered f R O s a b ha hb v h (feeding f R O s) (fed_part f R O s) (follows f R O s x y))
