-- Where nothing is wrong in what waits no ask is refused, and any number of asks can be made. Assumes nothing.
use Prim.Native.Nat.{ℕ, zero, suc, ◌+◌, ◌≤◌, ◌<◌}
use mathlib.Core.Path.{◌≡◌, refl, sym, ap, ◌∙◌}
use mathlib.Core.Bool.{true, false}
use mathlib.Core.List.{List, [], ◌∷◌, ◌++◌}
use mathlib.Core.Logic.{⊎_elim}
use native.Mathlib.Omega.{arith}
use lib.ListN.{length, take, drop, length-append, length-drop}
use lib.Seq.{take_at, drop_at, drop-drop}
use Rattle.lists.specs.Parts.{IsBytes}
use Rattle.lists.proofs.Order.{lt_or_le}
use Rattle.message.specs.Heads.{type_of, is_message}
use Rattle.record.specs.Records.{record_of, records_of, AllMessages}
use Rattle.feeder.specs.Feeding.{feeding, fed_part}
use Rattle.feeder.specs.Rules.{Belongs, RecordAt, Due, RunsOn, Rule, not_valid, too_long, hands_response, hands_other, both_empty, response_broken, other_broken}
use Rattle.feeder.specs.Asks.{Lists, Turn, is_refused, none, then, Asked, AllBelong, Rest, Faultless}
use Rattle.feeder.specs.declared.found.Waiting.{Waiting}
use Rattle.feeder.specs.declared.found.Waiting.TheVariants.{Responses, Others}
use Rattle.feeder.specs.declared.feed.Feed.{Feed}
use Rattle.feeder.specs.declared.feed.Step.{Step}
use Rattle.feeder.proofs.RecordCases.{record_one}
use Rattle.feeder.proofs.RuleLaws.{follows}
use Rattle.feeder.proofs.TurnLaws.{lengthened_none}
use Rattle.std.specs.Prelude.{Some}

-- the first of the records that are left
record_first : (w : Waiting) (l : List ℕ) (at : ℕ) (m rest : List ℕ) → is_message m ≡ true → Belongs w (type_of m) → at < length l
    → drop at l ≡ record_of m ++ rest → RecordAt w l at (record_of m)
record_first w l at m rest e b h q =
    let n = length-drop at l in
    let k = ap length q ∙ length-append (record_of m) rest in
    record {
      message = m;
      whole = e;
      belongs = b;
      written = refl;
      within = omega arith;
      stands = ap (take (length (record_of m))) q ∙ take_at (record_of m) rest (length (record_of m)) refl;
    }

-- what waits has a first record, and the rest behind it is faultless too
pub record Next (w : Waiting) (l : List ℕ) (at : ℕ) : Type 0 where
  pub bytes : List ℕ
  pub stands : RecordAt w l at bytes
  pub behind : Rest w l (at + length bytes)

next_of : (w : Waiting) (l : List ℕ) (at : ℕ) → at < length l → (ms : List (List ℕ)) → AllMessages ms → AllBelong w ms → drop at l ≡ records_of ms → Next w l at
next_of w l at h [] a b q = let n = length-drop at l in let k : length (drop at l) ≡ 0 = ap length q in absurd (omega arith)
next_of w l at h (m ∷ ms) a b q = record {
  bytes = record_of m;
  stands = record_first w l at m (records_of ms) a.0 b.0 h q;
  behind = record {
    messages = ms;
    all = a.1;
    belong = b.1;
    records = sym (drop-drop (length (record_of m)) at l) ∙ ap (drop (length (record_of m))) q ∙ drop_at (record_of m) (records_of ms) (length (record_of m)) refl;
  };
}

rest_next : (w : Waiting) (l : List ℕ) (at : ℕ) → Rest w l at → at < length l → Next w l at
rest_next w l at r h = next_of w l at h r.messages r.all r.belong r.records

-- behind the record that stands there
rest_behind : (w : Waiting) (l : List ℕ) (at : ℕ) (p : List ℕ) → Rest w l at → at < length l → RecordAt w l at p → Rest w l (at + length p)
rest_behind w l at p r h t =
    let n = rest_next w l at r h in
    rw (record_one w l at p n.bytes t n.stands) n.behind

-- the run after a response is at most four
run_low : (R O : List ℕ) (s : Feed) (n : ℕ) → Due (Some Responses) R O s → RunsOn O s n → n ≤ 4
run_low R O s n d r =
    ⊎_elim (λ (h : s.other < length O). let a = r.0 h in let b = d.1 h in omega arith) (λ (h : length O ≤ s.other). let a = r.1 h in omega arith)
    (lt_or_le s.other (length O))

rule_faultless : (f : ℕ) (R O : List ℕ) (s : Feed) (t : Step) (p : List ℕ) → Rule f R O s t p → Faultless f R O s → (is_refused t.answer ≡ false) × Faultless f R O t.feed
rule_faultless f R O s _ _ (not_valid n) h = absurd (n h.valid)
rule_faultless f R O s _ _ (too_long v n) h = absurd (n h.short)
rule_faultless f R O s _ _ (hands_response v k d p r n u) h = (
  refl,
  record {
    valid = record { format = v.format; response = r.within; other = v.other; run = run_low R O s n d u };
    short = k;
    in_responses = rest_behind Responses R s.response p h.in_responses d.0 r;
    in_others = h.in_others;
  },
)
rule_faultless f R O s _ _ (hands_other v k d p r) h = (
  refl,
  record {
    valid = record { format = v.format; response = v.response; other = r.within; run = omega arith };
    short = k;
    in_responses = h.in_responses;
    in_others = rest_behind Others O s.other p h.in_others d.0 r;
  },
)
rule_faultless f R O s _ _ (both_empty v k d) h = (
  refl,
  record { valid = record { format = v.format; response = v.response; other = v.other; run = omega arith }; short = k; in_responses = h.in_responses; in_others = h.in_others },
)
rule_faultless f R O s _ _ (response_broken v k d n) h = let x = rest_next Responses R s.response h.in_responses d.0 in absurd (n x.bytes x.stands)
rule_faultless f R O s _ _ (other_broken v k d n) h = let x = rest_next Others O s.other h.in_others d.0 in absurd (n x.bytes x.stands)

pub never_refused : (f : ℕ) (responses others : List ℕ) (s : Feed) → IsBytes responses → IsBytes others → Faultless f responses others s
    → (is_refused (feeding f responses others s).answer ≡ false) × Faultless f responses others (feeding f responses others s).feed
never_refused f R O s b c h = rule_faultless f R O s (feeding f R O s) (fed_part f R O s) (follows f R O s b c) h

-- so any number of asks can be made
pub can_ask : (f : ℕ) (l : Lists) (s : Feed) → IsBytes l.responses → IsBytes l.others → Faultless f l.responses l.others s → (n : ℕ) → Asked f l s n
can_ask f l s b c h zero = record { turns = []; last = s; asks = none; long = refl }
can_ask f l s b c h (suc n) =
    let step = feeding f l.responses l.others s in
    let next = never_refused f l.responses l.others s b c h in
    let rest = can_ask f l step.feed b c next.1 n in
    let turn : Turn = record { step = step; bytes = fed_part f l.responses l.others s } in
    record {
      turns = turn ∷ rest.turns;
      last = rest.last;
      asks = then (lengthened_none l) (record { step = refl; bytes = refl; accepted = next.0; of_bytes = (b, c) }) rest.asks;
      long = ap suc rest.long;
    }
