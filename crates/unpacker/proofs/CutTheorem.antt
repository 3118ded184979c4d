-- Whatever the parts in which an input is handed over, the calls print the text for the whole. Assumes nothing.
use Prim.Native.Nat.{ℕ, zero, suc, ◌+◌, ◌-◌, ◌≤◌, ◌<◌}
use mathlib.Core.Path.{◌≡◌, refl, sym, ap, ◌∙◌, subst}
use mathlib.Core.Bool.{Bool, true, false}
use mathlib.Core.List.{List, [], ◌∷◌, ◌++◌, append_assoc}
use mathlib.Core.Logic.{⊎_elim}
use native.Mathlib.Omega.{arith}
use lib.ListN.{length, take, length-append, length-drop}
use lib.Dec.{eqb, ltb, leb}
use borrow.Author.Tests.{ltb-false, leb-false, eq-eqb, ne_eqb}
use Rattle.lists.specs.Pick.{pick}
use Rattle.lists.specs.Parts.{join_all}
use Rattle.lists.proofs.Tests.{cases, never_both}
use Rattle.lists.proofs.PickLaws.{pick_both, pick_by}
use Rattle.cause.specs.declared.Cause.TheVariants.{BrokenRecord, InvalidState, TooLong}
use Rattle.record.specs.Number.{read_number, Value}
use Rattle.record.specs.declared.number.Number.{Number}
use Rattle.record.proofs.NumberTakes.{Takes, takes_number}
use Rattle.reader.specs.Reading.{reading}
use Rattle.reader.specs.declared.reader.Reader.{Reader}
use Rattle.reader.specs.declared.reader.Answer.{Answer}
use Rattle.reader.specs.declared.reader.Answer.TheVariants as answer
use Rattle.unpacker.specs.Unpacking.{max_containers, unpack_text}
use Rattle.unpacker.specs.Stepping.{most_number, Turn, waiting, over, begin_by, turn_by}
use Rattle.unpacker.specs.Stepping.{running, Running, valid_state, turn, fresh_unpacker, text_from}
use Rattle.unpacker.specs.Cutting.{behind, left_by, run}
use Rattle.unpacker.specs.declared.unpack.Outcome.{Outcome}
use Rattle.unpacker.specs.declared.unpack.Outcome.TheVariants.{More, Next, Over}
use Rattle.unpacker.specs.declared.unpack.Unpacker.{Unpacker}
use Rattle.unpacker.proofs.StateLaws.{turn_bad, turn_new, turn_running, State, bad, new, runs, state_of}
use Rattle.unpacker.proofs.CallTheorem.{onward, one_call}
use Rattle.cause.specs.Checks.{Verdict, Accepted, Refused}
use Rattle.std.specs.Prelude.{Option, Some, None}

-- ---- a call gives the verdict, uses a byte and goes on, or asks for more of an input that has not ended

-- the calls that may still go on
abbrev pub calls_left : Unpacker → ℕ
calls_left s = pick (eqb s.offset 0) (max_containers + 2) ((max_containers + 1) - s.entries)

pub data Steps (s : Unpacker) (b : List ℕ) (ended : Bool) (t : Turn) : Type 0 where
  stops : (v : Verdict) → t.outcome ≡ Over v → t.used ≡ 0 → Steps s b ended t
  goes : t.outcome ≡ Next → 0 < t.used → t.used ≤ length b → calls_left t.next < calls_left s → Steps s b ended t
  waits : t.outcome ≡ More → t.next ≡ s → t.used ≡ 0 → ended ≡ false → Steps s b ended t

-- the verdict where the input has ended, else more bytes are asked for
ended_steps : (s : Unpacker) (b : List ℕ) (ended : Bool) (v : Verdict) → Steps s b ended (pick ended (over s v) (waiting s))
ended_steps s b true v = stops v refl refl
ended_steps s b false v = waits refl refl refl refl

left_new : (s : Unpacker) → s.offset ≡ 0 → calls_left s ≡ max_containers + 2
left_new s z = rw (eq-eqb s.offset 0 z)

left_running : (s : Unpacker) → (s.offset ≡ 0 → ⊥) → calls_left s ≡ (max_containers + 1) - s.entries
left_running s d = rw (ne_eqb s.offset 0 d)

begin_steps : (s : Unpacker) (b : List ℕ) (ended : Bool) → s.offset ≡ 0 → (r : Option Number) → read_number b ≡ r → Steps s b ended (begin_by s r)
begin_steps s b ended z None e = stops (Refused BrokenRecord 0) refl refl
begin_steps s b ended z (Some number) e =
    let takes : Takes (Value number.value number.used) 5 (length b) = subst (λ (r : Option Number). Takes r 5 (length b)) e (takes_number b) in
    let some = takes.0 in
    let fewer : pick (eqb number.used 0) (max_containers + 2) ((max_containers + 1) - 0) < calls_left s = rw (ne_eqb number.used 0 (λ (q : number.used ≡ 0). omega arith), left_new s z)
    (omega arith) in
    ⊎_elim (λ (t : ltb number.value 2 ≡ true). rw t (goes refl some takes.1.1 fewer))
    (λ (t : ltb number.value 2 ≡ false). rw t (stops (Refused InvalidState 0) refl refl)) (cases (ltb number.value 2))

running_some : (s : Unpacker) → Running s → s.offset ≡ 0 → ⊥
running_some s r z = omega (arith, r.reached)

module _ (s : Unpacker) (b : List ℕ) (ended : Bool) (r : Running s) where
  read_steps : s.entries < max_containers → 256 ≤ length b → (next : Reader) (lines : List ℕ) (a : Answer) → Steps s b ended (turn_by s next lines a)
  read_steps few long next lines (answer.Accepted n g) =
      let here = left_running s (running_some s r) in
      let there : pick (eqb (s.offset + 256) 0) (max_containers + 2) ((max_containers + 1) - (s.entries + 1)) ≡ (max_containers + 1) - (s.entries + 1) =
      rw (ne_eqb (s.offset + 256) 0 (λ (q : s.offset + 256 ≡ 0). omega arith)) in
      goes refl (omega arith) long (omega arith)
  read_steps few long next lines (answer.Refused c p) = stops (Refused c p) refl refl

  running_steps : Steps s b ended (running s b ended)
  running_steps =
      pick_both (Steps s b ended) (eqb (length b) 0) (ended_steps s b ended Accepted)
      (pick_by (Steps s b ended) (leb max_containers s.entries) (λ e. stops (Refused TooLong 0) refl refl)
      (λ some. pick_by (Steps s b ended) (ltb (length b) 256) (λ e. ended_steps s b ended (Refused BrokenRecord s.offset))
      (λ e. read_steps (leb-false max_containers s.entries some) (ltb-false (length b) 256 e) _ _ (reading s.reader (take 256 b) 352).answer)))

steps_by : (s : Unpacker) (b : List ℕ) (ended : Bool) → State s → Steps s b ended (turn s b ended)
steps_by s b ended (bad e) = subst (Steps s b ended) (sym (turn_bad s b ended e)) (stops (Refused InvalidState 0) refl refl)
steps_by s b ended (new good z) =
    subst (Steps s b ended) (sym (turn_new s b ended good z))
    (pick_by (Steps s b ended) (pick ended true (leb most_number (length b))) (λ t. begin_steps s b ended z (read_number b) refl)
    (λ t. waits refl refl refl (going ended t)))
  where
    going : (ended : Bool) → pick ended true (leb most_number (length b)) ≡ false → ended ≡ false
    going true t = t
    going false t = refl
steps_by s b ended (runs r) = subst (Steps s b ended) (sym (turn_running s b ended r)) (running_steps s b ended r)

pub turn_steps : (s : Unpacker) (b : List ℕ) (ended : Bool) → Steps s b ended (turn s b ended)
turn_steps s b ended = steps_by s b ended (state_of s)

used_by : (s : Unpacker) (b : List ℕ) (ended : Bool) (t : Turn) → Steps s b ended t → t.used ≤ length b
used_by s b ended t (stops v e none) = omega arith
used_by s b ended t (goes e some within fewer) = within
used_by s b ended t (waits e same none going) = omega arith

-- no call uses more than is at hand
pub turn_within : (s : Unpacker) (b : List ℕ) (ended : Bool) → (turn s b ended).used ≤ length b
turn_within s b ended = used_by s b ended (turn s b ended) (turn_steps s b ended)

-- ---- the theorem

-- the outcome of a call decides what is behind it
told : (t : Turn) (o : Outcome) (x y : List ℕ) → t.outcome ≡ o → t.text ++ behind t.outcome x y ≡ t.text ++ behind o x y
told t o x y e = ap (λ (q : Outcome). t.text ++ behind q x y) e

-- any cutting prints the text for what is left, from any state
pub run_text : (k : ℕ) (s : Unpacker) (b : List ℕ) (ps : List (List ℕ)) → length b + length (join_all ps) + length ps < k
    → run k s b ps ≡ text_from s (b ++ join_all ps)
unfolding run
run_text zero s b ps h = absurd (omega arith)
run_text (suc k) s b [] h = by (turn_steps s b true) (λ n c q. run_text k n c [] q) ∙ sym (one_call s b [] true (λ e. refl))
  where
    t : Turn
    t = turn s b true

    by : Steps s b true t → ((n : Unpacker) (c : List ℕ) → length c + 0 + 0 < k → run k n c [] ≡ text_from n (c ++ []))
        → t.text ++ behind t.outcome (run k t.next (left_by t b) []) [] ≡ onward t b []
    by (stops v e none) ih = told t (Over v) _ _ e ∙ sym (told t (Over v) _ _ e)
    by (goes e some within fewer) ih =
        told t Next _ _ e ∙ ap (λ (x : List ℕ). t.text ++ x) (ih t.next (left_by t b) (omega (arith, length-drop t.used b))) ∙ sym
        (told t Next _ _ e)
    by (waits e same none going) ih = absurd (never_both going refl)
run_text (suc k) s b (p ∷ ps) h =
    by (turn_steps s b false) (λ n c q. run_text k n c (p ∷ ps) q) (λ n c q. run_text k n c ps q) ∙ sym
    (one_call s b (p ++ join_all ps) false (λ e. absurd (never_both refl e)))
  where
    t : Turn
    t = turn s b false

    by : Steps s b false t
        → ((n : Unpacker) (c : List ℕ) → length c + length (p ++ join_all ps) + suc (length ps) < k
        → run k n c (p ∷ ps) ≡ text_from n (c ++ (p ++ join_all ps)))
        → ((n : Unpacker) (c : List ℕ) → length c + length (join_all ps) + length ps < k → run k n c ps ≡ text_from n (c ++ join_all ps))
        → t.text ++ behind t.outcome (run k t.next (left_by t b) (p ∷ ps)) (run k t.next (left_by t b ++ p) ps) ≡ onward t b
        (p ++ join_all ps)
    by (stops v e none) again more = told t (Over v) _ _ e ∙ sym (told t (Over v) _ _ e)
    by (goes e some within fewer) again more =
        told t Next _ _ e ∙ ap (λ (x : List ℕ). t.text ++ x) (again t.next (left_by t b) (omega (arith, length-drop t.used b))) ∙ sym
        (told t Next _ _ e)
    by (waits e same none going) again more =
        told t More _ _ e
        ∙ ap (λ (x : List ℕ). t.text ++ x)
        (more t.next (left_by t b ++ p)
        (omega (arith, length-drop t.used b, length-append (left_by t b) p, length-append p (join_all ps)))
        ∙ ap (text_from t.next) (append_assoc (left_by t b) p (join_all ps)))
        ∙ sym (told t More _ _ e)

pub fresh_text : (l : List ℕ) → text_from fresh_unpacker l ≡ unpack_text l
unfolding text_from valid_state unpack_text
fresh_text l = refl

-- whatever the parts, enough calls from fresh print the text for the whole input
pub any_cut : (ps : List (List ℕ)) (k : ℕ) → length (join_all ps) + length ps < k → run k fresh_unpacker [] ps ≡ unpack_text (join_all ps)
any_cut ps k h = run_text k fresh_unpacker [] ps (omega arith) ∙ fresh_text (join_all ps)
