-- Entries audited one after the other, step by step. Assumes nothing.
use Prim.Native.Nat.{ℕ, zero, suc, ◌+◌, ◌-◌, ◌*◌, ◌≤◌, ◌<◌}
use mathlib.Core.Path.{◌≡◌, refl, sym, ap, subst, ◌∙◌}
use mathlib.Core.Bool.{true}
use mathlib.Core.List.{List}
use native.Mathlib.Omega.{arith}
use lib.ListN.{length, take, drop, length-drop}
use Rattle.lists.specs.Parts.{part}
use Rattle.lists.proofs.PickLaws.{pick_both}
use Rattle.lists.proofs.PartLaws.{rest_is}
use Rattle.cause.specs.declared.Cause.{Cause}
use Rattle.cause.specs.declared.Cause.TheVariants.{InvalidState}
use Rattle.frame.specs.Framing.{framing}
use Rattle.frame.specs.declared.Framed.{Framed}
use Rattle.frame.specs.declared.Framed.TheVariants.{Broken, Short, Whole}
use Rattle.frame.proofs.FrameLaws.{whole_entry}
use Rattle.ledger.specs.Audit.{ledger_ok, auditing}
use Rattle.ledger.specs.Run.{halted, when_whole, followed, running, run_over}
use Rattle.ledger.specs.declared.ledger.Ledger.{Ledger}
use Rattle.ledger.specs.declared.ledger.Step.{Step}
use Rattle.ledger.specs.declared.entries.Run.{Run}
use Rattle.ledger.proofs.AnswerLaws.{accepted_valid, refused_same}
use Rattle.cause.specs.Checks.{Verdict, Accepted, Refused}
use Rattle.std.specs.Prelude.{Ok, Err}

-- ---- one entry

-- the audit of the entry of direction d whose container begins u bytes behind `at`
abbrev pub step_at : Ledger → ℕ → List ℕ → ℕ → ℕ → Step
step_at s at l d u = auditing s d (part (at + u) 256 l)

module _ (s : Ledger) (n at : ℕ) (l : List ℕ) where
  abbrev step : ℕ → ℕ → Step
  step d u = step_at s at l d u

  -- a whole entry, and what may follow
  abbrev onward : ℕ → ℕ → ℕ → Run
  onward k d u = followed (step d u).answer s n at (running k (step d u).ledger (n + 1) (at + (u + 256)) l)

  run_by_cases : (k : ℕ) (f : Framed) → framing (drop at l) ≡ f → running (suc k) s n at l ≡ when_whole f (halted s n at Accepted) (onward k)
  unfolding running
  run_by_cases k f e = ap (λ (x : Framed). when_whole x (halted s n at Accepted) (onward k)) e

  -- no more entries may be
  pub run_full : running zero s n at l ≡ halted s n at Accepted
  unfolding running
  run_full = refl

  -- no whole entry is left
  none_by : (k : ℕ) (f : Framed) → framing (drop at l) ≡ f → ((v d u : ℕ) → f ≡ Whole v d u → ⊥) → running (suc k) s n at l ≡ halted s n at Accepted
  none_by k Broken e h = run_by_cases k Broken e
  none_by k Short e h = run_by_cases k Short e
  none_by k (Whole v d u) e h = absurd (h v d u refl)

  pub run_none : (k : ℕ) → ((v d u : ℕ) → framing (drop at l) ≡ Whole v d u → ⊥) → running k s n at l ≡ halted s n at Accepted
  run_none zero h = run_full
  run_none (suc k) h = none_by k (framing (drop at l)) refl h

  module _ (k v d u : ℕ) (e : framing (drop at l) ≡ Whole v d u) where
    run_whole : (a : Verdict) → (step d u).answer ≡ a → running (suc k) s n at l ≡ followed a s n at (running k (step d u).ledger (n + 1) (at + (u + 256)) l)
    run_whole a q = run_by_cases k (Whole v d u) e ∙ ap (λ (x : Verdict). followed x s n at (running k (step d u).ledger (n + 1) (at + (u + 256)) l)) q

    -- the next entry is refused
    pub run_refused : (c : Cause) (p : ℕ) → (step d u).answer ≡ Refused c p → running (suc k) s n at l ≡ halted s n at (Refused c p)
    run_refused c p q = run_whole (Refused c p) q

    -- the next entry is accepted
    pub run_goes_on : (step d u).answer ≡ Accepted → running (suc k) s n at l ≡ running k (step d u).ledger (n + 1) (at + (u + 256)) l
    run_goes_on q = run_whole Accepted q

-- ---- the entries so far

-- n of them were accepted, up to byte `at`, and what is left gives the whole
pub record Running (first : Ledger) (limit : ℕ) (l : List ℕ) (s : Ledger) (n at : ℕ) : Type 0 where
  pub few : n ≤ limit
  pub inside : at ≤ length l
  pub kept : ledger_ok s ≡ true
  pub rest : running (limit - n) s n at l ≡ running limit first 0 0 l

pub running_none : (s : Ledger) (limit : ℕ) (l : List ℕ) → ledger_ok s ≡ true → Running s limit l s 0 0
running_none s limit l h =
    record { few = omega arith; inside = omega arith; kept = h; rest = ap (λ (k : ℕ). running k s 0 0 l) (omega arith) }

module _ (first : Ledger) (limit : ℕ) (l : List ℕ) (s : Ledger) (n at : ℕ) (r : Running first limit l s n at) where
  -- there are as many as may be
  pub running_full : limit ≤ n → halted s n at Accepted ≡ running limit first 0 0 l
  running_full h =
      let none : limit - n ≡ 0 = omega arith in
      sym (run_full s n at l) ∙ ap (λ (k : ℕ). running k s n at l) (sym none) ∙ r.rest

  -- no whole entry is left
  pub running_ends : ((v d u : ℕ) → framing (drop at l) ≡ Whole v d u → ⊥) → halted s n at Accepted ≡ running limit first 0 0 l
  running_ends h = sym (run_none s n at l (limit - n) h) ∙ r.rest

  module _ (more : n < limit) (v d u : ℕ) (e : framing (drop at l) ≡ Whole v d u) where
    one_left : suc (limit - (n + 1)) ≡ limit - n
    one_left = omega arith

    -- the bytes of the next entry
    pub entry_within : (u ≤ 5) × (at + u + 256 ≤ length l)
    entry_within = let w = whole_entry (drop at l) v d u e in let i = r.inside in (w.few, omega (arith, w.within, length-drop at l))

    pub entry_direction : d < 2
    entry_direction = let w = (whole_entry (drop at l) v d u e).direction in omega arith

    module _ (t : Step) (q : t ≡ step_at s at l d u) where
      answered : (a : Verdict) → t.answer ≡ a → (step_at s at l d u).answer ≡ a
      answered a h = sym (ap (λ (x : Step). x.answer) q) ∙ h

      pub running_refused : (c : Cause) (p : ℕ) → t.answer ≡ Refused c p → halted s n at (Refused c p) ≡ running limit first 0 0 l
      running_refused c p h =
          sym (run_refused s n at l (limit - (n + 1)) v d u e c p (answered (Refused c p) h)) ∙ ap (λ (k : ℕ). running k s n at l) one_left ∙ r.rest

      -- a refusal hands back the ledger handed in
      pub running_back : (c : Cause) (p : ℕ) → t.answer ≡ Refused c p → t.ledger ≡ s
      running_back c p h = ap (λ (x : Step). x.ledger) q ∙ refused_same s d (part (at + u) 256 l) c p (answered (Refused c p) h)

      pub running_more : t.answer ≡ Accepted → Running first limit l t.ledger (n + 1) (at + (u + 256))
      running_more h =
          let a = answered Accepted h in
          let w = entry_within.1 in
          record {
            few = omega arith;
            inside = omega arith;
            kept = ap (λ (x : Step). ledger_ok x.ledger) q ∙ accepted_valid s d (part (at + u) 256 l) a;
            rest = ap (λ (x : Step). running (limit - (n + 1)) x.ledger (n + 1) (at + (u + 256)) l) q
                ∙ sym (run_goes_on s n at l (limit - (n + 1)) v d u e a) ∙ ap (λ (k : ℕ). running k s n at l) one_left ∙ r.rest;
          }

-- ---- how far a run goes

-- from n entries and byte `at` on, at most k entries of 257 to 261 bytes each
pub record Bounded (k n at : ℕ) (l : List ℕ) (r : Run) : Type 0 where
  pub least : n ≤ r.accepted
  pub limit : r.accepted ≤ n + k
  pub far : at + 257 * (r.accepted - n) ≤ r.used
  pub near : r.used ≤ at + 261 * (r.accepted - n)
  pub inside : r.used ≤ length l

bounded_stop : (k : ℕ) (s : Ledger) (n at : ℕ) (l : List ℕ) (a : Verdict) → at ≤ length l → Bounded k n at l (halted s n at a)
bounded_stop k s n at l a h = record { least = omega arith; limit = omega arith; far = omega arith; near = omega arith; inside = h }

bounded_more : (k n at u : ℕ) (l : List ℕ) (r : Run) → 257 ≤ u → u ≤ 261 → Bounded k (n + 1) (at + u) l r → Bounded (suc k) n at l r
bounded_more k n at u l r low high b =
    let x = b.least in
    let y = b.limit in
    let f = b.far in
    let m = b.near in
    record { least = omega arith; limit = omega arith; far = omega arith; near = omega arith; inside = b.inside }

module _ (l : List ℕ) where
  bounded_answer : (k : ℕ) (s : Ledger) (n at u : ℕ) (a : Verdict) (r : Run) → at ≤ length l → 257 ≤ u → u ≤ 261 → Bounded k (n + 1) (at + u) l r
      → Bounded (suc k) n at l (followed a s n at r)
  bounded_answer k s n at u (Err fault) r h low high b = bounded_stop (suc k) s n at l (Refused fault.cause fault.place) h
  bounded_answer k s n at u (Ok _) r h low high b = bounded_more k n at u l r low high b

  bounded_frame : (k : ℕ) (s : Ledger) (n at : ℕ) (f : Framed) → framing (drop at l) ≡ f → at ≤ length l
      → ((t : Ledger) (u : ℕ) → at + u ≤ length l → Bounded k (n + 1) (at + u) l (running k t (n + 1) (at + u) l))
      → Bounded (suc k) n at l (when_whole f (halted s n at Accepted) (onward s n at l k))
  bounded_frame k s n at Broken e h go = bounded_stop (suc k) s n at l Accepted h
  bounded_frame k s n at Short e h go = bounded_stop (suc k) s n at l Accepted h
  bounded_frame k s n at (Whole v d u) e h go =
      let w = whole_entry (drop at l) v d u e in
      let some = w.some in
      let few = w.few in
      bounded_answer k s n at (u + 256) (step_at s at l d u).answer (running k (step_at s at l d u).ledger (n + 1) (at + (u + 256)) l) h (omega arith) (omega arith)
      (go (step_at s at l d u).ledger (u + 256) (omega (arith, w.within, length-drop at l)))

  pub run_bounded : (k : ℕ) (s : Ledger) (n at : ℕ) → at ≤ length l → Bounded k n at l (running k s n at l)
  run_bounded zero s n at h = subst (Bounded 0 n at l) (sym (run_full s n at l)) (bounded_stop 0 s n at l Accepted h)
  run_bounded (suc k) s n at h =
      subst (Bounded (suc k) n at l) (sym (run_by_cases s n at l k (framing (drop at l)) refl))
      (bounded_frame k s n at (framing (drop at l)) refl h (λ t u fit. run_bounded k t (n + 1) (at + u) fit))

-- a run over entries, from any ledger
pub over_bounded : (s : Ledger) (limit : ℕ) (l : List ℕ) → Bounded limit 0 0 l (run_over s limit l)
over_bounded s limit l =
    pick_both (Bounded limit 0 0 l) (ledger_ok s) (run_bounded l limit s 0 0 (omega arith)) (bounded_stop limit s 0 0 l (Refused InvalidState 0) (omega arith))

-- ---- the entry at the front of what is left, as the code takes it

pub framed_here : (l : List ℕ) (at : ℕ) {f g : Framed} → f ≡ framing (take (length l - at) (drop at l)) → f ≡ g → framing (drop at l) ≡ g
framed_here l at e h = sym (ap framing (rest_is l at)) ∙ sym e ∙ h

pub entry_is : (s : Ledger) (l : List ℕ) (at d u : ℕ) {t : Step} → t ≡ auditing s d (take ((at + u + 256) - (at + u)) (drop (at + u) l)) → t ≡ step_at s at l d u
entry_is s l at d u e = let k : (at + u + 256) - (at + u) ≡ 256 = omega arith in e ∙ ap (λ (n : ℕ). auditing s d (take n (drop (at + u) l))) k

pub front_is : (s : Ledger) (l : List ℕ) (at d u : ℕ) {x : List ℕ} → x ≡ take 256 (take (length l - (at + u)) (drop (at + u) l)) → {t : Step} → t ≡ auditing s d x → t ≡ step_at s at l d u
front_is s l at d u ex e = e ∙ ap (auditing s d) (ex ∙ ap (take 256) (rest_is l (at + u)))
