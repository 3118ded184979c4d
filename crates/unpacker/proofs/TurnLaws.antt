-- A call as the code makes it, case by case. Assumes nothing.
use Prim.Native.Nat.{ℕ, ◌+◌, ◌/◌, ◌≤◌}
use mathlib.Core.Path.{◌≡◌, sym, ap, ◌∙◌}
use mathlib.Core.Bool.{Bool, true}
use mathlib.Core.List.{List, ◌++◌}
use native.Mathlib.Omega.{arith}
use lib.ListN.{length, take, drop}
use lib.Seq.{take-append_seam}
use lib.Dec.{leb}
use borrow.Author.Tests.{le-ltb, le-leb}
use Rattle.lists.specs.Pick.{pick}
use Rattle.lists.specs.Parts.{put}
use Rattle.cause.specs.Checks.{first_fault, when_accepted, Verdict, Refused}
use Rattle.cause.specs.declared.Cause.{Cause}
use Rattle.container.specs.declared.grant.Grant.{Grant}
use Rattle.reader.specs.Reading.{read_checks, records, reading, read_room}
use Rattle.reader.specs.declared.reader.Step.{Step}
use Rattle.reader.specs.declared.reader.Answer.TheVariants as answer
use Rattle.text.specs.Hex.{lines_of, lines_length, lines_room}
use Rattle.unpacker.specs.Stepping.{min_room, Turn, over, stepped, turn_by}
use Rattle.unpacker.specs.Stepping.{container_turn, turn, answered, no_room, consuming, consumed_room}
use Rattle.unpacker.specs.declared.unpack.Outcome.TheVariants.{Next}
use Rattle.unpacker.specs.declared.unpack.Unpacker.{Unpacker}
use Rattle.unpacker.specs.declared.unpack.Unpacked.{Unpacked}
use Rattle.unpacker.proofs.ReadingLaws.{done, done_sized, done_few}
use Rattle.cause.specs.declared.Fault.{Fault}
use Rattle.std.specs.Prelude.{Err}

-- the code has made the turn t: its answer, and the text at the front of the room
abbrev pub Made : Turn → Unpacked → List ℕ → List ℕ → Type 0
Made t r d₀ d = (r ≡ answered t) × (d ≡ put 0 t.text d₀)

pub as_turn : (t u : Turn) (r : Unpacked) (d₀ d : List ℕ) → t ≡ u → Made t r d₀ d → Made u r d₀ d
as_turn t u r d₀ d e h = (h.0 ∙ ap answered e, h.1 ∙ ap (λ (x : Turn). put 0 x.text d₀) e)

-- the verdict of a fault that has been made
pub over_as : (s : Unpacker) (f : Fault) (k : Cause) (p : ℕ) {t : Turn} → f ≡ record { cause = k; place = p } → over s (Refused k p) ≡ t → over s (Err f) ≡ t
over_as s f k p e h = ap (λ (x : Fault). over s (Err x)) e ∙ h

-- ---- a container

module _ (s : Unpacker) (c : List ℕ) (k : ℕ) (ek : k ≡ 352) (a : Step) (ea : a ≡ reading s.reader c k) where
  step : a ≡ reading s.reader c 352
  step = ea ∙ ap (reading s.reader c) ek

  module _ (n : ℕ) (g : Grant) (e : a.answer ≡ answer.Accepted n g) where
    accepted : (reading s.reader c 352).answer ≡ answer.Accepted n g
    accepted = sym (ap (λ (x : Step). x.answer) step) ∙ e

    pub records_within : n ≤ 352
    records_within = let z = done_few s.reader c n g accepted in omega (arith, done_sized s.reader c n g accepted)

    module _ (before list : List ℕ) (size : length before ≡ 352) (el : list ≡ read_room s.reader c before) where
      -- the records stand at the front
      room : list ≡ records s.reader c ++ drop (0 + length (records s.reader c)) before
      unfolding read_room
      room =
          el
          ∙ ap (λ (v : Verdict). when_accepted v (put 0 (records s.reader c) before) before)
          (ap (λ (j : ℕ). first_fault (read_checks s.reader c j)) size ∙ (done s.reader c n g accepted).0)

      pub records_are : take n list ≡ records s.reader c
      records_are =
          ap (λ (j : ℕ). take j list) (done_sized s.reader c n g accepted)
          ∙ ap (take (length (records s.reader c))) room
          ∙ take-append_seam (records s.reader c) (drop (0 + length (records s.reader c)) before)

      pub container_read : (d₀ d : List ℕ) (w : ℕ) → min_room ≤ length d₀ → w ≡ lines_length (take n list) (length d₀)
          → d ≡ lines_room (take n list) d₀
          → Made (container_turn s c) (record { unpacker = stepped s a.reader; used = 256; written = w; outcome = Next }) d₀ d
      container_read d₀ d w big ew ed =
          let l = records s.reader c in
          let few = done_few s.reader c n g accepted in
          let t : leb (length l) (length d₀ / 2) ≡ true = le-leb (length l) (length d₀ / 2) (omega arith) in
          let size : w ≡ length (lines_of l) = ew ∙ ap (λ (x : List ℕ). lines_length x (length d₀)) records_are ∙ ap
          (λ (b : Bool). pick b (length (lines_of l)) 0) t in
          as_turn (record { next = stepped s (reading s.reader c 352).reader; used = 256; text = lines_of l; outcome = Next })
          (container_turn s c) _ d₀ d
          (ap (turn_by s (reading s.reader c 352).reader (lines_of l)) (sym accepted)) (
            ap (λ (j : ℕ). record { unpacker = stepped s a.reader; used = 256; written = j; outcome = Next }) size
                ∙ ap (λ (x : Step). record { unpacker = stepped s x.reader; used = 256; written = length (lines_of l); outcome = Next })
                step,
            ed ∙ ap (λ (x : List ℕ). lines_room x d₀) records_are ∙ ap (λ (b : Bool). pick b (put 0 (lines_of l) d₀) d₀) t,
          )

-- ---- a call

module _ (s : Unpacker) (b : List ℕ) (ended : Bool) (d₀ d : List ℕ) (r : Unpacked) where
  abbrev Called : Type 0
  Called = (r ≡ consuming s b ended (length d₀)) × (d ≡ consumed_room s b ended d₀)

  pub called : min_room ≤ length d₀ → (t : Turn) → turn s b ended ≡ t → Made t r d₀ d → Called
  called h t e m =
      let large = le-ltb (length d₀) min_room h in
      let k = as_turn t (turn s b ended) r d₀ d (sym e) m in (
        k.0 ∙ sym (ap (λ (x : Bool). pick x (no_room s) (answered (turn s b ended))) large),
        k.1 ∙ sym
            (ap (λ (x : Bool). pick x d₀ (put 0 (turn s b ended).text d₀)) large),
      )
