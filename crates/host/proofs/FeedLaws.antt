-- A call of the feeder from C by its parts. Assumes nothing.
use Prim.Native.Nat.{ℕ, ◌≤◌}
use mathlib.Core.Path.{◌≡◌, refl, sym, ap, ◌∙◌}
use mathlib.Core.Bool.{Bool, true, false, ◌&&◌}
use mathlib.Core.List.{List, [], ◌∷◌}
use native.Mathlib.Omega.{arith}
use lib.ListN.{length}
use lib.Dec.{eqb, leb}
use borrow.Author.Tests.{eqb-true, leb-true}
use Rattle.lists.specs.Parts.{put}
use Rattle.lists.proofs.Tests.{and_left, and_right}
use Rattle.cause.specs.Checks.{check, first_fault, given, Verdict, Accepted, Refused}
use Rattle.cause.specs.declared.Cause.{Cause}
use Rattle.cause.specs.declared.Cause.TheVariants.{RoomTooSmall, InvalidState}
use Rattle.cause.proofs.CauseLaws.{number_most}
use Rattle.cause.proofs.CheckLaws.{accepted_pass}
use Rattle.cause.proofs.FaultLaws.{refused_at}
use Rattle.cause.proofs.GivenLaws.{given_fine}
use Rattle.feeder.specs.Feeding.{feed_ok, step_by, feeding, fed_part}
use Rattle.feeder.specs.Rules.{Moves, moved_over}
use Rattle.feeder.specs.declared.found.Waiting.{Waiting}
use Rattle.feeder.specs.declared.found.Waiting.TheVariants.{Responses, Others}
use Rattle.feeder.specs.declared.feed.Feed.{Feed}
use Rattle.feeder.specs.declared.feed.Answer.{Answer}
use Rattle.feeder.specs.declared.feed.Answer.TheVariants as ask
use Rattle.feeder.specs.declared.feed.Step.{Step}
use Rattle.feeder.proofs.StepCases.{feed_valid}
use Rattle.feeder.proofs.StepLaws.{part_short, refused_state, refused_part, refused_place, positions_low, step_moves}
use Rattle.host.specs.Feed.{feed_from, numbers_of, PositionsFit, longest_record, call_checks, list_number, asking, answer_code, Small, feed_code, feed_numbers, feed_room, Told}
use Rattle.std.specs.Prelude.{Option, Some, None, Ok, Err}
use Rattle.feeder.specs.Due.{Neither}
use Rattle.cause.specs.declared.Fault.{Fault}

-- ---- the three numbers

-- a feed of three numbers that is written again
three_numbers : (n : List ℕ) → length n ≡ 3 → numbers_of (feed_from n) ≡ n
three_numbers [] h = absurd (omega arith)
three_numbers (a ∷ []) h = absurd (omega arith)
three_numbers (a ∷ b ∷ []) h = absurd (omega arith)
three_numbers (a ∷ b ∷ c ∷ []) h = refl
three_numbers (a ∷ b ∷ c ∷ d ∷ n) h = absurd (omega arith)

-- ---- the numbers of an answer

list_most : (w : Option Waiting) → list_number w ≤ 2
list_most (Some Responses) = omega arith
list_most (Some Others) = omega arith
list_most None = omega arith

-- ---- a call

-- the place of a call's fault is 0
fault_zero : (f : ℕ) (n : List ℕ) (r o room : ℕ) (c : Cause) (p : ℕ) → first_fault (call_checks f n r o room) ≡ Refused c p → p ≡ 0
unfolding call_checks
fault_zero f n r o room c p = by (eqb (length n) 3 && feed_ok f r o (feed_from n)) (leb longest_record room)
  where
    by : (a b : Bool) → first_fault (check a InvalidState 0 ∷ check b RoomTooSmall 0 ∷ []) ≡ Refused c p → p ≡ 0
    by false b e = sym (refused_at _ _ _ _ e)
    by true false e = sym (refused_at _ _ _ _ e)
    by true true e = let z : ◌≡◌ {A = ℕ} 0 1 = cc in absurd (omega arith)

module _ (f : ℕ) (n R O room : List ℕ) where
  abbrev verdict : Verdict
  verdict = first_fault (call_checks f n (length R) (length O) (length room))

  -- a refusal before the ask
  module _ (fault : Fault) (e : verdict ≡ Err fault) where
    pub fault_small : fault.place ≤ 4096
    fault_small = let z = fault_zero f n (length R) (length O) (length room) fault.cause fault.place e in omega arith

    pub refused_code : answer_code (ask.Refused Neither fault.cause fault.place) 0 ≡ feed_code f n R O (length room)
    unfolding feed_code
    refused_code = rw e

    pub refused_numbers : n ≡ feed_numbers f n R O (length room)
    unfolding feed_numbers
    refused_numbers = rw e

    pub refused_room : room ≡ feed_room f n R O room
    unfolding feed_room
    refused_room = rw e

  -- a call that is accepted
  module _ (s : Feed) (e : Ok s ≡ given verdict (feed_from n)) where
    sound : verdict ≡ Accepted
    sound = (given_fine verdict (feed_from n) (sym e)).0

    asked : s ≡ feed_from n
    asked = (given_fine verdict (feed_from n) (sym e)).1

    passes : (length n ≡ 3) × (feed_ok f (length R) (length O) (feed_from n) ≡ true) × (121 ≤ length room)
    unfolding call_checks
    passes =
        let h = accepted_pass (call_checks f n (length R) (length O) (length room)) sound in (
          eqb-true (length n) 3 (and_left (eqb (length n) 3) (feed_ok f (length R) (length O) (feed_from n)) h.0),
          and_right (eqb (length n) 3) (feed_ok f (length R) (length O) (feed_from n)) h.0,
          leb-true 121 (length room) h.1.0,
        )

    pub three : length n ≡ 3
    three = passes.0

    module _ (t : Step) (et : t ≡ feeding f R O s) where
      pub next_fits : PositionsFit s → PositionsFit t.feed
      next_fits h = rw et (positions_low f R O s 4_294_967_295 (omega arith) h.0 h.1)

      -- the lists move, and what they move over is the part and fits in the room
      moves_over : Moves R O s t.feed × (fed_part f R O s ≡ moved_over R O s t.feed)
      moves_over = rw et (step_moves f R O s (feed_valid f R O s (rw asked passes.1)))

      pub moves : Moves R O s t.feed
      moves = moves_over.0

      pub moved_fits : length (moved_over R O s t.feed) ≤ length room
      moved_fits = let a = ap length moves_over.1 in let b = part_short f R O s in let c = passes.2 in omega arith

      pub answer_small : (x : ℕ) → x ≡ length (moved_over R O s t.feed) → Small t.answer x
      answer_small x ex = rw (ex ∙ ap length (sym moves_over.1)) (rw et (by (feeding f R O s).answer refl))
        where
          by : (a : Answer) → (feeding f R O s).answer ≡ a → Small a (length (fed_part f R O s))
          by (ask.Handed w) k = let h = part_short f R O s in omega arith
          by ask.Empty k = tt
          by (ask.Refused w c p) k = refused_place f R O s w c p k

      pub accepted_code : (x y : ℕ) → x ≡ length (moved_over R O s t.feed) → y ≡ answer_code t.answer x → Ok y ≡ given verdict (feed_code f n R O (length room))
      unfolding feed_code
      accepted_code x y ex ey =
          let ep : x ≡ length (fed_part f R O s) = ex ∙ ap length (sym moves_over.1) in
          ap Ok ey ∙ rw (sound, et, ep, asked)

      pub accepted_numbers : (m : List ℕ) → m ≡ numbers_of t.feed → m ≡ feed_numbers f n R O (length room)
      unfolding feed_numbers
      accepted_numbers m em = em ∙ rw (sound, et, asked)

      pub accepted_room : (d : List ℕ) → d ≡ put 0 (moved_over R O s t.feed) room → d ≡ feed_room f n R O room
      unfolding feed_room
      accepted_room d ed =
          let ep : d ≡ put 0 (fed_part f R O s) room = ed ∙ ap (λ (x : List ℕ). put 0 x room) (sym moves_over.1) in
          ep ∙ rw (sound, asked)

-- ---- what a code tells, and that a refusal changes nothing

answer_told : (a : Answer) (bytes : ℕ) → Small a bytes → Told a bytes (answer_code a bytes)
answer_told (ask.Handed w) bytes h = let m = list_most (Some w) in (omega arith, omega arith, omega arith)
answer_told ask.Empty bytes h = refl
answer_told (ask.Refused w c p) bytes h = let m = list_most w in let k = number_most c in (omega arith, omega arith, omega arith)

module _ (f : ℕ) (n R O room : List ℕ) where
  abbrev s : Feed
  s = feed_from n

  abbrev t : Step
  t = feeding f R O s

  asked_small : Small (asking f n R O (length room)).answer (length (fed_part f R O s))
  asked_small = by (verdict f n R O room) refl
    where
      by : (v : Verdict) → verdict f n R O room ≡ v → Small (step_by v s t).answer (length (fed_part f R O s))
      by (Err fault) e = fault_small f n R O room fault e
      by (Ok _) e =
          let loaded : Ok s ≡ given (verdict f n R O room) s = rw e in
          answer_small f n R O room s loaded t refl (length (fed_part f R O s)) (ap length (moves_over f n R O room s loaded t refl).1)

  pub code_told : Told (asking f n R O (length room)).answer (length (fed_part f R O s)) (feed_code f n R O (length room))
  unfolding feed_code
  code_told = answer_told (asking f n R O (length room)).answer (length (fed_part f R O s)) asked_small

  pub refused_untouched : (w : Option Waiting) (c : Cause) (p : ℕ) → (asking f n R O (length room)).answer ≡ ask.Refused w c p
      → (feed_numbers f n R O (length room) ≡ n) × (feed_room f n R O room ≡ room)
  refused_untouched w c p = by (verdict f n R O room) refl
    where
      by : (v : Verdict) → verdict f n R O room ≡ v → (step_by v s t).answer ≡ ask.Refused w c p
          → (feed_numbers f n R O (length room) ≡ n) × (feed_room f n R O room ≡ room)
      by (Err fault) ev e = (sym (refused_numbers f n R O room fault ev), sym (refused_room f n R O room fault ev))
      by (Ok _) ev e =
          let loaded : Ok s ≡ given (verdict f n R O room) s = rw ev in
          let same = refused_state f R O s w c p e in
          let none = refused_part f R O s w c p e in
          let m = accepted_numbers f n R O room s loaded t refl (numbers_of t.feed) refl in
          let d = accepted_room f n R O room s loaded t refl (put 0 (fed_part f R O s) room)
          (ap (λ (x : List ℕ). put 0 x room) (moves_over f n R O room s loaded t refl).1) in
          (sym m ∙ ap numbers_of same ∙ three_numbers n (three f n R O room s loaded), sym d ∙ rw none)
