-- What an accepted reading says: the next reader is valid, and what it hands out are the records of whole messages. Assumes nothing.
use Prim.Native.Nat.{ℕ, ◌≤◌}
use mathlib.Core.Path.{◌≡◌, refl, ap, ◌∙◌}
use mathlib.Core.Bool.{true}
use mathlib.Core.List.{List}
use native.Mathlib.Omega.{arith}
use lib.ListN.{length, length-take}
use borrow.Author.Tests.{leb-true}
use Rattle.cause.specs.Checks.{first_fault, when_accepted, Verdict, Accepted}
use Rattle.cause.proofs.CheckLaws.{accepted_pass}
use Rattle.container.specs.Layout.{format_of}
use Rattle.container.specs.Grants.{header_grant}
use Rattle.container.specs.declared.grant.Grant.{Grant}
use Rattle.record.specs.Records.{records_of, AllMessages}
use Rattle.record.proofs.RecordLaws.{Listed}
use Rattle.reader.specs.Reading.{reader_ok, carried, state_checks, read_checks, next_reader, records, answer_of, reading}
use Rattle.reader.specs.declared.reader.Reader.{Reader}
use Rattle.reader.specs.declared.reader.Answer.TheVariants as answer
use Rattle.reader.proofs.CarryLaws.{reader_ok_valid, records_fit, granules_pass, next_valid}
use Rattle.reader.proofs.EndingLaws.{records_listed}
use Rattle.reader.proofs.ReadLaws.{judge_accepted_exactly, read_accepted_exactly}
use Rattle.text.specs.Hex.{message_lines, lines_of}
use Rattle.text.proofs.MessageLaws.{lines_messages}
use Rattle.std.specs.Prelude.{Ok, Err}

done_accepted : (v : Verdict) (k n : ℕ) (f g : Grant) → answer_of v k f ≡ answer.Accepted n g → (v ≡ Accepted) × (n ≡ k)
done_accepted (Ok _) k n f g e = (refl, cc)
done_accepted (Err fault) k n f g e = let z : ◌≡◌ {A = ℕ} 0 1 = cc in absurd (omega arith)

-- the lines of a container are those of whole messages, whose records the reading hands out
pub record Lines (s : Reader) (c : List ℕ) : Type 0 where
  pub messages : List (List ℕ)
  pub all : AllMessages messages
  pub handed : records s c ≡ records_of messages
  pub lines : lines_of (records s c) ≡ message_lines messages

module _ (s : Reader) (c : List ℕ) (n : ℕ) (g : Grant) (e : (reading s c 352).answer ≡ answer.Accepted n g) where
  pub done : (first_fault (read_checks s c 352) ≡ Accepted) × (n ≡ length (records s c))
  unfolding reading
  done = done_accepted (first_fault (read_checks s c 352)) (length (records s c)) n (header_grant (format_of s.format) c) g e

  pub done_sized : n ≡ length (records s c)
  done_sized = done.1

  pub done_valid : reader_ok (reading s c 352).reader ≡ true
  unfolding reading
  done_valid =
      let k = (read_accepted_exactly s c 352).0 done.0 in
      ap (λ (v : Verdict). reader_ok (when_accepted v (next_reader s c) s)) done.0
      ∙ next_valid s c ((judge_accepted_exactly s c).1 (k.0, k.1, k.3))

  pub done_few : length (records s c) ≤ 352
  unfolding records
  done_few =
      let k = (read_accepted_exactly s c 352).0 done.0 in
      let r = reader_ok_valid s k.0 in
      records_fit s.format c (carried s) k.1 (omega (arith, length-take s.carry.len s.carry.bytes, leb-true s.carry.len 100 r.short))

  listed : Listed (records s c)
  unfolding records read_checks state_checks
  listed =
      let k = (read_accepted_exactly s c 352).0 done.0 in
      let p = accepted_pass (read_checks s c 352) done.0 in
      records_listed s.format c (carried s) k.1 (reader_ok_valid s k.0).carry (granules_pass (format_of s.format) c _ p.1.1.1)

  pub done_lines : Lines s c
  done_lines =
      let h = listed in
      record {
        messages = h.messages;
        all = h.all;
        handed = h.joined;
        lines = ap lines_of h.joined ∙ lines_messages h.messages h.all;
      }
