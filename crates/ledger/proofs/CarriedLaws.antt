-- What a container does to the messages of its direction, by what they pay: none is lost, and what is carried on passes 14. Assumes
-- nothing.
use Prim.Native.Nat.{ℕ, ◌+◌, ◌-◌, ◌%◌}
use mathlib.Core.Path.{◌≡◌, refl, ap, ◌∙◌}
use mathlib.Core.Bool.{true, false}
use mathlib.Core.List.{List, [], ◌∷◌}
use mathlib.Core.Logic.{⊎_elim}
use native.Mathlib.Omega.{arith}
use lib.ListN.{length, get_or, replicate}
use lib.Seq.{take_at}
use Rattle.lists.specs.Pick.{pick}
use Rattle.lists.proofs.Tests.{cases}
use Rattle.cause.specs.Checks.{Pass}
use Rattle.cause.specs.declared.Cause.TheVariants.{MissingPool}
use Rattle.container.specs.Layout.{format_of}
use Rattle.message.specs.Charges.{charges, charges_by, listed}
use Rattle.placement.specs.Cells.{cells, endings, startings, carry_after}
use Rattle.placement.specs.Checking.{granule_checks}
use Rattle.reader.specs.Reading.{reader_ok, carried, state_checks, next_reader}
use Rattle.reader.specs.declared.reader.Reader.{Reader}
use Rattle.reader.proofs.CarryLaws.{granules_pass, reader_ok_valid}
use Rattle.pools.specs.Pools.{payable, payable_by, message_checks, charged_to, paid_to}
use Rattle.pools.proofs.GranuleLaws.{All, payable_all}
use Rattle.ledger.specs.Entries.{cells_in}
use Rattle.pools.specs.declared.receiver.Receiver.{Receiver}
use Rattle.ledger.proofs.HeadSums.{head_of, heads_of, heads_kept}

-- ---- messages by their heads
-- what a message with these bytes 0 and 1 pays of pool p
abbrev pay_by : ℕ → ℕ → ℕ → ℕ
pay_by p first second = charged_to p (listed (charges_by (first % 16) first second))

paid_heads : (p : ℕ) (ms : List (List ℕ)) → paid_to p ms ≡ heads_of (pay_by p) refl ms
unfolding paid_to
paid_heads p [] = refl
paid_heads p (m ∷ ms) = ap (λ (n : ℕ). charged_to p (charges m) + n) (paid_heads p ms)

-- 1 where a message with these bytes 0 and 1 does not pass 14
abbrev fail_by : Receiver → ℕ → ℕ → ℕ
fail_by r first second = pick (payable_by r (first % 16) first second) 0 1

fail_none : (r : Receiver) → fail_by r 0 0 ≡ 0
fail_none r = refl

pass_fails : (r : Receiver) (ms : List (List ℕ)) → All (λ m. payable r m ≡ true) ms → heads_of (fail_by r) (fail_none r) ms ≡ 0
pass_fails r [] h = refl
pass_fails r (m ∷ ms) h =
    let i = pass_fails r ms h.1 in
    let z : fail_by r (get_or m 0 0) (get_or m 1 0) ≡ 0 = rw h.0 in
    omega arith

-- ---- the reader of a direction
-- what is carried behind a container
pub carried_next : (r : Reader) (c : List ℕ)
    → carried (next_reader r c) ≡ carry_after (format_of r.format) 0 (cells (format_of r.format) c 12 0 (carried r)) (carried r)
unfolding next_reader
carried_next r c =
    let m = carry_after (format_of r.format) 0 (cells (format_of r.format) c 12 0 (carried r)) (carried r) in
    take_at m (replicate (100 - length m) 0) (length m) refl

module _ (r : Reader) (c : List ℕ) (v : reader_ok r ≡ true) (n : length c ≡ 256) (h : Pass (state_checks r c)) where
  granules : Pass (granule_checks (format_of r.format) 0 (cells (format_of r.format) c 12 0 (carried r)))
  unfolding state_checks
  granules = granules_pass (format_of r.format) c (cells (format_of r.format) c 12 0 (carried r)) h

  -- what is carried in and what starts pays what ends and what is carried on
  pub paid_kept : (p : ℕ)
      → paid_to p (endings (format_of r.format) 0 (cells (format_of r.format) c 12 0 (carried r)) (carried r)) + charged_to p (charges (carried (next_reader r c)))
      ≡ paid_to p (startings (cells (format_of r.format) c 12 0 (carried r))) + charged_to p (charges (carried r))
  paid_kept p =
      let es = cells (format_of r.format) c 12 0 (carried r) in
      let k = heads_kept (pay_by p) refl r.format c n (carried r) (reader_ok_valid r v).carry granules in
      let a = paid_heads p (endings (format_of r.format) 0 es (carried r)) in
      let b = paid_heads p (startings es) in
      let z : charged_to p (charges (carried (next_reader r c))) ≡ head_of (pay_by p) refl (carry_after (format_of r.format) 0 es (carried r)) = ap (λ (m : List ℕ). charged_to p (charges m)) (carried_next r c) in
      omega arith

  -- where the carry and what starts pass 14, so does what is carried on
  pub next_passes : (a : Receiver) → payable a (carried r) ≡ true → Pass (message_checks a (cells_in r c)) → payable a (carried (next_reader r c)) ≡ true
  next_passes a e q =
      let es = cells (format_of r.format) c 12 0 (carried r) in
      let k = heads_kept (fail_by a) (fail_none a) r.format c n (carried r) (reader_ok_valid r v).carry granules in
      let b = pass_fails a (startings es) (payable_all a MissingPool 0 es q) in
      let z : fail_by a (get_or (carried r) 0 0) (get_or (carried r) 1 0) ≡ 0 = rw e in
      let o : head_of (fail_by a) (fail_none a) (carry_after (format_of r.format) 0 es (carried r)) ≡ 0 = omega arith in
      ap (payable a) (carried_next r c)
      ∙ ⊎_elim (λ t. t) (λ (t : payable a (carry_after (format_of r.format) 0 es (carried r)) ≡ false). absurd (let w : 1 ≡ 0 = rw t at o in omega arith))
      (cases (payable a (carry_after (format_of r.format) 0 es (carried r))))
