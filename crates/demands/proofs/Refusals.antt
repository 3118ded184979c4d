-- A refusal changes no state and no byte of lent memory. Assumes nothing.
use Prim.Native.Nat.{ℕ}
use mathlib.Core.Path.{◌≡◌}
use lib.ListN.{length}
use Rattle.cause.specs.Checks.{when_accepted, first_fault, Verdict, Refused}
use Rattle.cause.specs.declared.Cause.{Cause}
use Rattle.container.specs.Layout.{format_of, msg_start}
use Rattle.container.specs.Grants.{header_grant}
use Rattle.reader.specs.Reading.{read_checks, judge_checks, records, reading, read_room, judging}
use Rattle.reader.proofs.AnswerLaws.{read_answer_refused, judge_answer_refused}
use Rattle.ledger.proofs.AnswerLaws.{refused_same}
use Rattle.writer.specs.Filling.{fill_fault, filling, fill_bytes}
use Rattle.writer.proofs.AnswerLaws.{fill_answer_refused}
use Rattle.feeder.proofs.StepLaws.{refused_state, refused_part}
use Rattle.demands.specs.Demand1.{Untouched}

-- a value that changes only where a verdict is sound
unchanged : {A : Type 0} (v : Verdict) (a b : A) (k : Cause) (p : ℕ) → v ≡ Refused k p → when_accepted v a b ≡ b
unchanged v a b k p e = rw e

pub untouched : Untouched
unfolding reading read_room judging filling fill_bytes
untouched = record {
  read_state = λ s c room k p e. unchanged _ _ _ k p (read_answer_refused (first_fault (read_checks s c (length room))) (length (records s c)) (header_grant (format_of s.format) c) k p e);
  read_memory = λ s c room k p e. unchanged _ _ _ k p (read_answer_refused (first_fault (read_checks s c (length room))) (length (records s c)) (header_grant (format_of s.format) c) k p e);
  judge_state = λ s c k p e. unchanged _ _ _ k p (judge_answer_refused (first_fault (judge_checks s c)) (header_grant (format_of s.format) c) (msg_start (format_of s.format) c) k p e);
  fill_state = λ w l n c k p e. unchanged _ _ _ k p (fill_answer_refused (fill_fault w l n (length c)) _ k p e);
  fill_memory = λ w l n c k p e. unchanged _ _ _ k p (fill_answer_refused (fill_fault w l n (length c)) _ k p e);
  audit_state = refused_same;
  ask_state = refused_state;
  ask_part = refused_part;
}
