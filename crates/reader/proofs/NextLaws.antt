-- The reader behind an accepted container, as the code makes it. Assumes nothing.
use Prim.Native.Nat.{ℕ, ◌-◌, ◌≤◌}
use mathlib.Core.Path.{◌≡◌, sym, ap, ◌∙◌}
use mathlib.Core.Bool.{true}
use mathlib.Core.List.{List}
use native.Mathlib.Omega.{arith}
use lib.ListN.{length, take, drop}
use borrow.Author.Tests.{leb-true}
use Rattle.cause.specs.Checks.{first_fault, Accepted}
use Rattle.cause.proofs.CheckLaws.{accepted_pass}
use Rattle.container.specs.Layout.{Format, format_of, msg_start}
use Rattle.record.specs.Records.{records_of}
use Rattle.placement.specs.Cells.{cells, endings, carry_after, carry_ok}
use Rattle.placement.specs.Checking.{container_checks}
use Rattle.placement.proofs.Keeps.{progress}
use Rattle.reader.specs.Reading.{bytes_in, carry_with, reader_ok, carried, state_checks, next_reader, records}
use Rattle.reader.specs.TrackingMirror.{track_of, track_at, in_progress, GoingOn, looked}
use Rattle.reader.specs.declared.carry.Carry.{Carry}
use Rattle.reader.specs.declared.reader.Reader.{Reader}
use Rattle.reader.specs.declared.track.Track.{Track}
use Rattle.cause.specs.declared.Fault.{Fault}
use Rattle.std.specs.Prelude.{Result, Ok, Err}
use Rattle.cause.proofs.GivenLaws.{given_fault, given_fine}
use Rattle.reader.proofs.CarryLaws.{reader_ok_valid, carry_valid, granules_pass}
use Rattle.placement.proofs.ProgressLaws.{carry_of}
use Rattle.reader.proofs.TrackLaws.{Follows, follows, gathered_progress}
use Rattle.placement.proofs.FirmLaws.{carry_firm}

-- the bytes of a carry as the code takes them
pub carry_part : (k : Carry) → take (k.len - 0) (drop 0 k.bytes) ≡ bytes_in k
carry_part k = let z : k.len - 0 ≡ k.len = omega arith in rw z

-- a valid reader's carry is short
pub valid_short : (s : Reader) → reader_ok s ≡ true → s.carry.len ≤ 100
valid_short s valid = leb-true s.carry.len 100 (reader_ok_valid s valid).short

-- the message in progress behind an accepted container of format f, with m carried in
module _ (f : ℕ) (c m : List ℕ) (ok : carry_ok m ≡ true) (len : length c ≡ 256) {t : Track} (e : Ok t ≡ looked f c m) where
  abbrev fm : Format
  fm = format_of f

  accepted : (first_fault (container_checks fm c (cells fm c 12 0 m)) ≡ Accepted) × (t ≡ track_at fm c (msg_start fm c) (track_of m) 12)
  accepted = given_fine _ _ (sym e)

  followed : Follows fm c m 12 t (progress fm c m 12)
  followed = rw accepted.1 (follows f c m len (carry_firm m ok).begun 12 (omega arith))

  pub next_kept : t.kept ≤ length m
  next_kept = followed.kept_within

  pub next_from : t.from ≤ 12
  next_from = followed.from_below

  pub next_going : GoingOn fm c m t
  next_going o =
      let owes = followed.owes in
      let sized = followed.sized o in
      let p = granules_pass fm c (cells fm c 12 0 m) (accepted_pass (container_checks fm c (cells fm c 12 0 m)) accepted.0) in
      let short = rw (carry_of fm c m) at (carry_valid f c m len ok p).1 in
      rw (← followed.bytes o) (omega arith, short)

  carried_on : in_progress fm c m t 12 ≡ carry_after fm 0 (cells fm c 12 0 m) m
  carried_on = rw accepted.1 (gathered_progress f c len m ok 12 (omega arith)) ∙ sym (carry_of fm c m)

  -- a reader of that format that carried m has this behind the container
  pub next_carried : (s : Reader) → f ≡ s.format → m ≡ carried s → {k : Carry} → k ≡ carry_with (in_progress fm c m t 12)
      → ◌≡◌ {A = Reader} (record { format = s.format; carry = k }) (next_reader s c)
  unfolding next_reader
  next_carried s ef em ek =
      let same = ap carry_with carried_on ∙ (λ i. carry_with (carry_after (format_of (ef i)) 0 (cells (format_of (ef i)) c 12 0 (em i)) (em i))) in
      ap (λ (x : Carry). record { format = s.format; carry = x }) (ek ∙ same)

-- what the judging of a container b that is c says of a reader's checks
module _ (s : Reader) {f : ℕ} {b c m : List ℕ} (ef : f ≡ s.format) (eb : b ≡ c) (em : m ≡ carried s) {r : Result Track Fault} (e : r ≡ looked f b m) where
  seen : looked s.format c (carried s) ≡ r
  seen = sym (e ∙ (λ i. looked (ef i) (eb i) (em i)))

  pub state_fault : {fault : Fault} → r ≡ Err fault → first_fault (state_checks s c) ≡ Err fault
  unfolding state_checks
  state_fault q = given_fault _ _ (seen ∙ q)

  pub state_fine : {t : Track} → r ≡ Ok t → first_fault (state_checks s c) ≡ Accepted
  unfolding state_checks
  state_fine q = (given_fine _ _ (seen ∙ q)).0

-- the records of what a reader reads
pub records_are : (s : Reader) (c : List ℕ) {f : ℕ} {b m : List ℕ} → f ≡ s.format → b ≡ c → m ≡ carried s → records_of (endings (format_of f) 0 (cells (format_of f) b 12 0 m) m) ≡ records s c
unfolding records
records_are s c ef eb em = λ i. records_of (endings (format_of (ef i)) 0 (cells (format_of (ef i)) (eb i) 12 0 (em i)) (em i))
