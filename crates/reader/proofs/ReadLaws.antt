-- A container is accepted, by a reading and by a judging, exactly where it keeps the packing rules. Assumes nothing.
use Prim.Native.Nat.{ℕ, ◌≤◌}
use mathlib.Core.Path.{◌≡◌, refl}
use mathlib.Core.Bool.{true}
use mathlib.Core.List.{List}
use mathlib.Core.Logic.{◌↔◌}
use native.Mathlib.Omega.{arith}
use lib.ListN.{length}
use borrow.Author.Tests.{le-leb, eq-eqb, leb-true, eqb-true}
use Rattle.cause.specs.Checks.{first_fault, Verdict, Accepted}
use Rattle.cause.proofs.CheckLaws.{pass_accepted, accepted_pass}
use Rattle.container.specs.Layout.{format_of, msg_start}
use Rattle.container.specs.Grants.{header_grant}
use Rattle.container.specs.declared.grant.Grant.{Grant}
use Rattle.placement.proofs.Keeps.{Keeps}
use Rattle.reader.specs.Reading.{carried, reader_ok, state_checks, judge_checks, read_checks, records, answer_of, reading, judge_answer_of, judging}
use Rattle.reader.specs.declared.reader.Reader.{Reader}
use Rattle.reader.specs.declared.reader.Answer.TheVariants as answer
use Rattle.reader.specs.declared.reader.JudgeAnswer.TheVariants as judge
use Rattle.placement.proofs.KeepsLaws.{passes_keeps, keeps_passes}
use Rattle.std.specs.Prelude.{Ok, Err}

-- an answer that accepts is that of a sound verdict
answer_exactly : (v : Verdict) (n : ℕ) (grant : Grant) → (answer_of v n grant ≡ answer.Accepted n grant) ↔ (v ≡ Accepted)
answer_exactly (Ok _) n grant = (λ e. refl, λ e. refl)
answer_exactly (Err fault) n grant =
    (λ e. let z : ◌≡◌ {A = ℕ} 0 1 = cc in absurd (omega arith), λ e. let z : ◌≡◌ {A = ℕ} 0 1 = cc in absurd (omega arith))

judge_answer_exactly : (v : Verdict) (grant : Grant) (starts : ℕ) → (judge_answer_of v grant starts ≡ judge.Accepted grant starts) ↔ (v ≡ Accepted)
judge_answer_exactly (Ok _) grant starts = (λ e. refl, λ e. refl)
judge_answer_exactly (Err fault) grant starts =
    (λ e. let z : ◌≡◌ {A = ℕ} 0 1 = cc in absurd (omega arith), λ e. let z : ◌≡◌ {A = ℕ} 0 1 = cc in absurd (omega arith))

module _ (s : Reader) (c : List ℕ) where
  -- no fault is found exactly where the state is valid, the lengths are right and the container keeps the rules
  pub judge_accepted_exactly : (first_fault (judge_checks s c) ≡ Accepted) ↔ ((reader_ok s ≡ true) × (length c ≡ 256) × Keeps (format_of s.format) (carried s) c)
  unfolding judge_checks state_checks
  judge_accepted_exactly = (
    λ e. let p = accepted_pass (judge_checks s c) e in (p.0, eqb-true (length c) 256 p.1.0, passes_keeps (format_of s.format) (carried s) c p.1.1),
    λ h. pass_accepted (judge_checks s c) (h.0, (eq-eqb (length c) 256 h.1, keeps_passes (format_of s.format) (carried s) c h.2)),
  )

  pub read_accepted_exactly : (room : ℕ) → (first_fault (read_checks s c room) ≡ Accepted) ↔ ((reader_ok s ≡ true) × (length c ≡ 256) × (352 ≤ room) × Keeps (format_of s.format) (carried s) c)
  unfolding read_checks state_checks
  read_accepted_exactly room = (
    λ e. let p = accepted_pass (read_checks s c room) e in (p.0, eqb-true (length c) 256 p.1.0, leb-true 352 room p.1.1.0, passes_keeps (format_of s.format) (carried s) c p.1.1.1),
    λ h. pass_accepted (read_checks s c room) (h.0, (eq-eqb (length c) 256 h.1, (le-leb 352 room h.2, keeps_passes (format_of s.format) (carried s) c h.3))),
  )

-- from a valid state and with the room named, a reading accepts exactly the containers that keep the rules
pub read_exactly : (s : Reader) (c : List ℕ) (room : ℕ) → reader_ok s ≡ true → length c ≡ 256 → 352 ≤ room
    → ((reading s c room).answer ≡ answer.Accepted (length (records s c)) (header_grant (format_of s.format) c)) ↔ Keeps (format_of s.format) (carried s) c
unfolding reading
read_exactly s c room valid size large =
    let a = answer_exactly (first_fault (read_checks s c room)) (length (records s c)) (header_grant (format_of s.format) c) in
    let r = read_accepted_exactly s c room in
    (λ e. (r.0 (a.0 e)).3, λ k. a.1 (r.1 (valid, size, large, k)))

-- and so does a judging
pub judge_exactly : (s : Reader) (c : List ℕ) → reader_ok s ≡ true → length c ≡ 256
    → ((judging s c).answer ≡ judge.Accepted (header_grant (format_of s.format) c) (msg_start (format_of s.format) c)) ↔ Keeps (format_of s.format) (carried s) c
unfolding judging
judge_exactly s c valid size =
    let a = judge_answer_exactly (first_fault (judge_checks s c)) (header_grant (format_of s.format) c) (msg_start (format_of s.format) c) in
    let r = judge_accepted_exactly s c in
    (λ e. (r.0 (a.0 e)).2, λ k. a.1 (r.1 (valid, size, k)))
