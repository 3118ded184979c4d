-- What every ask keeps: what is handed out is what its list moves over, a refusal changes nothing, and the numbers are small. Assumes
-- nothing.
use Prim.Native.Nat.{ℕ, ◌+◌, ◌-◌, ◌≤◌, ◌<◌}
use mathlib.Core.Path.{◌≡◌, refl, sym}
use mathlib.Core.List.{List, [], append-nil}
use mathlib.Core.Logic.{inl, inr}
use native.Mathlib.Omega.{arith}
use lib.ListN.{length}
use Rattle.lists.specs.Parts.{part}
use Rattle.lists.proofs.PartLaws.{length_part}
use Rattle.cause.specs.declared.Cause.{Cause}
use Rattle.feeder.specs.Due.{list_of, position_of, due_of, found_at}
use Rattle.feeder.specs.Feeding.{response_step, other_step, empty_step, list_served, passed, feeding, fed_part}
use Rattle.feeder.specs.Rules.{Valid, Between, Moves, moved_over}
use Rattle.feeder.specs.declared.found.Waiting.{Waiting}
use Rattle.feeder.specs.declared.found.Waiting.TheVariants.{Responses, Others}
use Rattle.feeder.specs.declared.feed.Feed.{Feed}
use Rattle.feeder.specs.declared.feed.Answer.{Answer}
use Rattle.feeder.specs.declared.feed.Answer.TheVariants.{Handed, Empty, Refused}
use Rattle.feeder.specs.declared.feed.Step.{Step}
use Rattle.feeder.proofs.FoundLaws.{found_within}
use Rattle.feeder.proofs.StepCases.{by_outcome, by_found}
use Rattle.std.specs.Prelude.{Option, Some}

-- ---- what is handed out lies within its list

module _ (f : ℕ) (R O : List ℕ) (s : Feed) where
  -- a list that a record is handed out of goes on by at most 121 bytes, within its bounds
  abbrev Advances : Answer → Feed → Type 0
  Advances (Handed w) e = (position_of w s < position_of w e) × (position_of w e ≤ length (list_of w R O)) × (position_of w e ≤ position_of w s + 121)
  Advances Empty e = Unit {0}
  Advances (Refused w c p) e = Unit {0}

  abbrev StepAdvances : Step → Type 0
  StepAdvances t = Advances t.answer t.feed

  step_advances : StepAdvances (feeding f R O s)
  step_advances =
      by_outcome f R O s StepAdvances (λ _. tt) (λ _ _. tt)
      (λ v h.
      by_found f R O s StepAdvances tt tt (found_within Responses R s.response v.response) (found_within Others O s.other v.other) tt
      (due_of (length R) (length O) s))

  -- of the list served
  served_within : (a : Answer) (e : Feed) (v : Waiting) → list_served a ≡ Some v → Advances a e → (position_of v s ≤ position_of v e) × (position_of v e ≤ length (list_of v R O))
  served_within (Handed w) e v q h =
      let same : w ≡ v = cc in
      let to : Advances (Handed v) e = rw same at h in
      (omega arith, to.1)
  served_within Empty e v q h = let z : ◌≡◌ {A = ℕ} 0 1 = cc in absurd (omega arith)
  served_within (Refused w c p) e v q h = let z : ◌≡◌ {A = ℕ} 0 1 = cc in absurd (omega arith)

-- ---- the part, by the list that is served

module _ (f : ℕ) (R O : List ℕ) (s : Feed) (t : Step) (et : t ≡ feeding f R O s) where
  pub bounds : (w : Waiting) → list_served t.answer ≡ Some w → (position_of w s ≤ position_of w t.feed) × (position_of w t.feed ≤ length (list_of w R O))
  bounds w e = rw et (served_within f R O s (feeding f R O s).answer (feeding f R O s).feed w (rw et at e) (step_advances f R O s))

  pub part_is : (w : Option Waiting) → list_served t.answer ≡ w → passed R O s t w ≡ fed_part f R O s
  unfolding fed_part
  part_is w e = rw (← e, et)

-- ---- the part and the numbers, by the answer

handed_refused : {v : Waiting} {w : Option Waiting} {k : Cause} {p : ℕ} → Handed v ≡ Refused w k p → ⊥
handed_refused e = let z : ◌≡◌ {A = ℕ} 0 1 = cc in omega arith

empty_refused : {w : Option Waiting} {k : Cause} {p : ℕ} → Empty ≡ Refused w k p → ⊥
empty_refused e = let z : ◌≡◌ {A = ℕ} 0 1 = cc in omega arith

place_is : {v w : Option Waiting} {c k : Cause} {q p : ℕ} → Refused v c q ≡ Refused w k p → q ≡ p
place_is e = cc

module _ (f : ℕ) (R O : List ℕ) (s : Feed) where
  abbrev step : Step
  step = feeding f R O s

  part_by : (a : Answer) → step.answer ≡ a → fed_part f R O s ≡ passed R O s step (list_served a)
  unfolding fed_part
  part_by a e = rw e

  -- what is handed out is the bytes between the old and the new position of the list named
  pub part_between : (w : Waiting) → step.answer ≡ Handed w → Between (list_of w R O) (position_of w s) (position_of w step.feed) (fed_part f R O s)
  part_between w e =
      let h : Advances f R O s (Handed w) step.feed = rw e at (step_advances f R O s) in
      let n : length (passed R O s step (Some w)) ≡ position_of w step.feed - position_of w s =
      length_part (position_of w s) (position_of w step.feed - position_of w s) (list_of w R O) (omega arith) in
      rw (part_by (Handed w) e) (record { forward = h.0; within = h.1; long = omega arith; stands = rw n })

  -- nothing is handed out with any other answer
  pub part_none : ((w : Waiting) → step.answer ≡ Handed w → ⊥) → fed_part f R O s ≡ []
  part_none d = by step.answer refl
    where
      by : (a : Answer) → step.answer ≡ a → fed_part f R O s ≡ []
      by (Handed w) e = absurd (d w e)
      by Empty e = part_by Empty e
      by (Refused w c p) e = part_by (Refused w c p) e

  pub part_short : length (fed_part f R O s) ≤ 121
  part_short = by step.answer refl
    where
      by : (a : Answer) → step.answer ≡ a → length (fed_part f R O s) ≤ 121
      by (Handed w) e =
          let h : Advances f R O s (Handed w) step.feed = rw e at (step_advances f R O s) in
          let long = (part_between w e).long in
          omega arith
      by Empty e = rw (part_by Empty e) (omega arith)
      by (Refused w c p) e = rw (part_by (Refused w c p) e) (omega arith)

  -- a refusal moves neither list, keeps the run and hands out nothing
  abbrev Kept : Option Waiting → Cause → ℕ → Step → Type 0
  Kept w k p t = t.answer ≡ Refused w k p → t.feed ≡ s

  pub refused_state : (w : Option Waiting) (k : Cause) (p : ℕ) → step.answer ≡ Refused w k p → step.feed ≡ s
  refused_state w k p =
      by_outcome f R O s (Kept w k p) (λ _ _. refl) (λ _ _ _. refl)
      (λ v h.
      by_found f R O s (Kept w k p) (λ _. refl) (λ _. refl) (λ end q e. absurd (handed_refused e)) (λ end q e. absurd (handed_refused e))
      (λ e. absurd (empty_refused e)) (due_of (length R) (length O) s))

  pub refused_part : (w : Option Waiting) (k : Cause) (p : ℕ) → step.answer ≡ Refused w k p → fed_part f R O s ≡ []
  refused_part w k p e = part_by (Refused w k p) e

  -- a place is at most 4,096
  abbrev PlaceLow : Option Waiting → Cause → ℕ → Step → Type 0
  PlaceLow w k p t = t.answer ≡ Refused w k p → p ≤ 4096

  pub refused_place : (w : Option Waiting) (k : Cause) (p : ℕ) → step.answer ≡ Refused w k p → p ≤ 4096
  refused_place w k p =
      by_outcome f R O s (PlaceLow w k p) (λ _ e. let z = place_is e in omega arith) (λ _ _ e. let z = place_is e in omega arith)
      (λ v h.
      let a = v.response in
      let b = v.other in
      let c = h.0 in
      let d = h.1 in
      by_found f R O s (PlaceLow w k p) (λ e. let z = place_is e in omega arith) (λ e. let z = place_is e in omega arith)
      (λ end q e. absurd (handed_refused e)) (λ end q e. absurd (handed_refused e)) (λ e. absurd (empty_refused e)) (due_of (length R) (length O) s))

  -- positions stay low
  abbrev Low : ℕ → Step → Type 0
  Low n t = (t.feed.response ≤ n) × (t.feed.other ≤ n)

  pub positions_low : (n : ℕ) → 4096 ≤ n → s.response ≤ n → s.other ≤ n → Low n step
  positions_low n a b c =
      by_outcome f R O s (Low n) (λ _. (b, c)) (λ _ _. (b, c))
      (λ v h.
      by_found f R O s (Low n) (b, c) (b, c)
      (λ end e. let l = found_within Responses R s.response v.response end e in let k = h.0 in (omega arith, c))
      (λ end e. let l = found_within Others O s.other v.other end e in let k = h.1 in (b, omega arith)) (b, c) (due_of (length R) (length O) s))

-- ---- both lists at once

-- nothing lies between a position and itself
pub none_over : (at : ℕ) (l : List ℕ) → part at (at - at) l ≡ []
none_over at l = let z : at - at ≡ 0 = omega arith in rw z

module _ (f : ℕ) (R O : List ℕ) (s : Feed) (v : Valid f R O s) where
  abbrev StepMoves : Step → Type 0
  StepMoves t = Moves R O s t.feed × (passed R O s t (list_served t.answer) ≡ moved_over R O s t.feed)

  -- neither list moves
  stays : (e : Feed) → e.response ≡ s.response → e.other ≡ s.other → Moves R O s e × ([] ≡ moved_over R O s e)
  stays e x y =
      let a = v.response in
      let b = v.other in (
        record { forward = (omega arith, omega arith); within = (omega arith, omega arith); one = inl x },
        rw (x, y, none_over s.response R, none_over s.other O),
      )

  response_moves : (end : ℕ) → found_at Responses R s.response ≡ Some end → StepMoves (response_step (length O) s (Some end))
  response_moves end e =
      let h = found_within Responses R s.response v.response end e in (
        record { forward = (omega arith, omega arith); within = (h.1, v.other); one = inr refl },
        rw (none_over s.other O) (sym (append-nil (part s.response (end - s.response) R))),
      )

  other_moves : (end : ℕ) → found_at Others O s.other ≡ Some end → StepMoves (other_step s (Some end))
  other_moves end e =
      let h = found_within Others O s.other v.other end e in (
        record { forward = (omega arith, omega arith); within = (v.response, h.1); one = inl refl },
        rw (none_over s.response R),
      )

  pub step_moves : Moves R O s (feeding f R O s).feed × (fed_part f R O s ≡ moved_over R O s (feeding f R O s).feed)
  unfolding fed_part
  step_moves =
      by_outcome f R O s StepMoves (λ _. stays s refl refl) (λ _ _. stays s refl refl)
      (λ _ _.
      by_found f R O s StepMoves (stays s refl refl) (stays s refl refl) response_moves other_moves (stays (empty_step s).feed refl refl) (due_of (length R) (length O) s))
