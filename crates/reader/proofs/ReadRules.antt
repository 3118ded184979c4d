-- From a valid state a container is accepted exactly where it keeps the rules in the papers' words, and its messages come out in order of
-- completion. Assumes nothing.
use Prim.Native.Nat.{ℕ, ◌+◌, ◌-◌, ◌/◌, ◌≤◌, ◌<◌}
use mathlib.Core.Path.{◌≡◌, sym, ap, ◌∙◌}
use mathlib.Core.Bool.{true}
use mathlib.Core.List.{List, []}
use mathlib.Core.Logic.{◌⊎◌, inl, inr, ⊎_elim, ◌↔◌}
use native.Mathlib.Nat.{zero-add}
use native.Mathlib.Omega.{arith}
use lib.ListN.{length, drop}
use lib.Seq.{get_or-drop}
use borrow.Author.Tests.{lt-ltb, le-leb, ltb-true, leb-true}
use Rattle.lists.specs.Parts.{zeros}
use Rattle.lists.proofs.ZeroLaws.{zeros_at, at_zeros}
use Rattle.container.specs.Layout.{format_of, msg_start}
use Rattle.container.specs.Grants.{header_grant}
use Rattle.container.proofs.Formats.{lawful_of}
use Rattle.message.specs.Heads.{msg_size}
use Rattle.message.specs.HeadRules.{byte}
use Rattle.message.proofs.HeadRuleLaws.{bytes_size, size_bytes, head_exactly}
use Rattle.record.specs.Records.{records_of}
use Rattle.placement.specs.Cells.{cells, carry_after, carry_ok}
use Rattle.placement.proofs.Keeps.{Keeps, ended_to}
use Rattle.reader.specs.Reading.{carried, reader_ok, records, next_reader, reading, read_room, judging}
use Rattle.placement.specs.Rules.{Rules}
use Rattle.placement.specs.Completion.{CarryEnds}
use Rattle.reader.specs.ValidState.{Part, ValidState, HandsOut}
use Rattle.reader.specs.declared.reader.Reader.{Reader}
use Rattle.reader.specs.declared.reader.Answer.TheVariants as answer
use Rattle.reader.specs.declared.reader.JudgeAnswer.TheVariants as judge
use Rattle.placement.proofs.ProgressLaws.{endings_of}
use Rattle.reader.proofs.CarryLaws.{Half, Valid, valid_ok, ok_valid, reader_ok_valid}
use Rattle.reader.proofs.ReadLaws.{read_accepted_exactly, read_exactly, judge_exactly}
use Rattle.placement.proofs.RulesLaws.{rules_exactly, keeps_followed}
use Rattle.placement.proofs.CompletionLaws.{in_order, carries_on}
use Rattle.placement.proofs.NextEnds.{carry_ends}

-- ---- a valid state
pub carry_exactly : (m : List ℕ) → (carry_ok m ≡ true) ↔ ((m ≡ []) ⊎ Part m)
carry_exactly m = (λ e. ⊎_elim (λ (z : m ≡ []). inl z) (λ (h : Half m). inr (to h)) (ok_valid m e), λ v. (valid_ok m (from v)).0)
  where
    to : Half m → Part m
    to h =
        let r = size_bytes m h.begun.known in
        let g = h.begun.granules in
        let b = h.begun.some in
        let l = h.not_all_held in
        record { size = msg_size m; sized = r; headed = (head_exactly m (msg_size m) r).0 h.begun.headed; k = length m / 20; long = omega arith; some = omega arith; not_all = omega arith }

    from : (m ≡ []) ⊎ Part m → Valid m
    from v =
        ⊎_elim (λ (z : m ≡ []). inl z)
        (λ (h : Part m). let e = bytes_size m h.sized in let l = h.not_all in let g = h.long in let b = h.some in inr (record {
          begun = record { granules = omega arith; some = omega arith; known = omega arith; headed = (head_exactly m h.size h.sized).1 h.headed };
          not_all_held = omega arith;
        }))
        v

pub state_exactly : (s : Reader) → (reader_ok s ≡ true) ↔ ValidState s
state_exactly s = (to, from)
  where
    to : reader_ok s ≡ true → ValidState s
    to e =
        let v = reader_ok_valid s e in
        record {
          format = ltb-true s.format 2 v.format;
          short = leb-true s.carry.len 100 v.short;
          carry = (carry_exactly (carried s)).0 v.carry;
          behind = λ i l. zero_at v.rest i l;
        }
      where
        zero_at : zeros (drop s.carry.len s.carry.bytes) ≡ true → (i : ℕ) → s.carry.len ≤ i → byte s.carry.bytes i ≡ 0
        zero_at z i l =
            let j : s.carry.len + (i - s.carry.len) ≡ i = omega arith in
            rw j at (sym (get_or-drop s.carry.len s.carry.bytes (i - s.carry.len) 0) ∙ zeros_at (drop s.carry.len s.carry.bytes) z (i - s.carry.len))

    from : ValidState s → reader_ok s ≡ true
    from v =
        rw (lt-ltb s.format 2 v.format, le-leb s.carry.len 100 v.short, (carry_exactly (carried s)).1 v.carry, at_zeros (drop s.carry.len s.carry.bytes) (λ i. get_or-drop s.carry.len s.carry.bytes i 0 ∙ v.behind (s.carry.len + i) (omega arith)))

module _ (s : Reader) (c : List ℕ) (valid : ValidState s) (size : length c ≡ 256) where
  ok : reader_ok s ≡ true
  ok = (state_exactly s).1 valid

  carry_valid : carry_ok (carried s) ≡ true
  carry_valid = (carry_exactly (carried s)).1 valid.carry

  rules : Rules (format_of s.format) (carried s) c ↔ Keeps (format_of s.format) (carried s) c
  rules = rules_exactly (format_of s.format) (lawful_of s.format) (carried s) c size carry_valid

  -- with the room named, a reading accepts exactly the containers that keep the rules
  pub read_rules : (room : ℕ) → 352 ≤ room
      → ((reading s c room).answer ≡ answer.Accepted (length (records s c)) (header_grant (format_of s.format) c)) ↔ Rules (format_of s.format) (carried s) c
  read_rules room large = let r = read_exactly s c room ok size large in (λ e. rules.1 (r.0 e), λ k. r.1 (rules.0 k))

  -- and so does a judging
  pub judge_rules : ((judging s c).answer ≡ judge.Accepted (header_grant (format_of s.format) c) (msg_start (format_of s.format) c)) ↔ Rules (format_of s.format) (carried s) c
  judge_rules = let r = judge_exactly s c ok size in (λ e. rules.1 (r.0 e), λ k. r.1 (rules.0 k))

  -- the messages of an accepted container come out in order of completion, and the rest is carried on
  pub hands_out : Rules (format_of s.format) (carried s) c → HandsOut s c
  unfolding records next_reader reading read_room
  hands_out k =
      let keeps = rules.0 k in
      let all = keeps_followed (format_of s.format) (lawful_of s.format) (carried s) c size carry_valid keeps.granules in
      let out : records s c ≡ records_of (ended_to (format_of s.format) c (carried s) 12) = ap records_of (endings_of (format_of s.format) c (carried s)) in
      record {
        messages = ended_to (format_of s.format) c (carried s) 12;
        order = in_order (format_of s.format) (lawful_of s.format) (carried s) c size carry_valid keeps.granules all;
        written = out;
        room = λ lent large. rw ((read_accepted_exactly s c (length lent)).1 (ok, size, large, keeps), out, zero-add (length (records_of (ended_to (format_of s.format) c (carried s) 12))));
        left = carry_after (format_of s.format) 0 (cells (format_of s.format) c 12 0 (carried s)) (carried s);
        carries = carries_on (format_of s.format) (lawful_of s.format) (carried s) c size carry_valid keeps.granules all;
        next = λ n large. rw ((read_accepted_exactly s c n).1 (ok, size, large, keeps));
      }

  -- a carried message ends in this container, in one of its first five granules, whether it is accepted or not
  pub carried_ends : 0 < length (carried s) → CarryEnds (format_of s.format) (carried s) c
  carried_ends some = ⊎_elim
      (λ (z : carried s ≡ []). absurd (let e : length (carried s) ≡ 0 = ap length z in omega arith))
      (λ (h : Part (carried s)). let k = h.long in let b = h.some in carry_ends (format_of s.format) (lawful_of s.format) (carried s) c size carry_valid h.size h.sized (omega arith))
      valid.carry
