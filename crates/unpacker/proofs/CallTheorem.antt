-- A call changes nothing of the text for the whole: what it prints and what is printed behind it. Assumes nothing.
use Prim.Native.Nat.{ℕ, zero, suc, ◌+◌, ◌-◌, ◌≤◌, ◌<◌}
use mathlib.Core.Path.{◌≡◌, refl, sym, ap, ◌∙◌, subst}
use mathlib.Core.Bool.{Bool, true, false}
use mathlib.Core.List.{List, [], ◌++◌, append-nil}
use mathlib.Core.Logic.{⊎_elim}
use native.Mathlib.Omega.{arith}
use lib.ListN.{length, take, drop, length-append}
use lib.Seq.{take-append-le, drop-append-le}
use lib.Dec.{eqb, ltb, leb}
use borrow.Author.Tests.{ltb-true, ltb-false, leb-true, leb-false, lt-ltb, le-ltb, eq-eqb, ne_eqb, eqb-true, eqb-false}
use Rattle.lists.specs.Pick.{pick}
use Rattle.lists.proofs.Tests.{cases}
use Rattle.cause.specs.declared.Cause.TheVariants.{BrokenRecord, TooLong, InvalidState}
use Rattle.container.specs.declared.grant.Grant.{Grant}
use Rattle.record.specs.Number.{read_number, Value}
use Rattle.record.specs.declared.number.Number.{Number}
use Rattle.record.proofs.NumberLaws.{read_small}
use Rattle.record.proofs.NumberTakes.{Takes, takes_number, number_append}
use Rattle.reader.specs.Reading.{reader_with, records, reading}
use Rattle.reader.specs.declared.reader.Reader.{Reader}
use Rattle.reader.specs.declared.reader.Answer.{Answer}
use Rattle.reader.specs.declared.reader.Answer.TheVariants as answer
use Rattle.text.specs.Lines.{verdict_line}
use Rattle.text.specs.Hex.{lines_of}
use Rattle.unpacker.specs.Unpacking.{max_containers, lines_then, containers_text, text_behind}
use Rattle.unpacker.specs.Stepping.{most_number, Turn, waiting, over, started, begin_by, beginning, stepped}
use Rattle.unpacker.specs.Stepping.{turn_by, container_turn, Running, valid_state, turn, text_from}
use Rattle.unpacker.specs.Cutting.{behind, left_by}
use Rattle.unpacker.specs.declared.unpack.Unpacker.{Unpacker}
use Rattle.unpacker.proofs.ReadingLaws.{done_valid}
use Rattle.unpacker.proofs.StateLaws.{new_none, turn_bad, turn_new, turn_running, text_bad, text_new}
use Rattle.unpacker.proofs.StateLaws.{text_running, State, bad, new, runs, state_of}
use Rattle.cause.specs.Checks.{Verdict, Accepted, Refused}
use Rattle.std.specs.Prelude.{Option, Some, None}

-- ---- the containers, one by one

module _ (s : Reader) (e o : ℕ) (l : List ℕ) where
  containers_none : (k : ℕ) → length l ≡ 0 → containers_text k s e o l ≡ verdict_line e Accepted
  unfolding containers_text
  containers_none zero z = rw (eq-eqb (length l) 0 z)
  containers_none (suc k) z = rw (eq-eqb (length l) 0 z)

  module _ (some : length l ≡ 0 → ⊥) where
    containers_most : containers_text 0 s e o l ≡ verdict_line e (Refused TooLong 0)
    unfolding containers_text
    containers_most = rw (ne_eqb (length l) 0 some)

    containers_short : (k : ℕ) → length l < 256 → containers_text (suc k) s e o l ≡ verdict_line e (Refused BrokenRecord o)
    unfolding containers_text
    containers_short k h = rw (ne_eqb (length l) 0 some, lt-ltb (length l) 256 h)

    containers_next : (k : ℕ) → 256 ≤ length l
        → containers_text (suc k) s e o l ≡ lines_then e (reading s (take 256 l) 352).answer (lines_of (records s (take 256 l)))
        (containers_text k (reading s (take 256 l) 352).reader (e + 1) (o + 256) (drop 256 l))
    unfolding containers_text
    containers_next k h = rw (ne_eqb (length l) 0 some, le-ltb (length l) 256 h)

-- ---- one call

-- what a call prints and what is printed behind it, where m stands behind the bytes at hand
abbrev pub onward : Turn → List ℕ → List ℕ → List ℕ
onward t b m = t.text ++ behind t.outcome (text_from t.next (left_by t b ++ m)) (text_from t.next (left_by t b ++ m))

-- the input has ended only where nothing follows
abbrev pub Ends : Bool → List ℕ → Type 0
Ends ended m = ended ≡ true → m ≡ []

-- a verdict
line_alone : (s : Unpacker) (v : Verdict) (b m text : List ℕ) → text ≡ verdict_line s.entries v → text ≡ onward (over s v) b m
line_alone s v b m text e = e ∙ sym (append-nil (verdict_line s.entries v))

-- ---- before the format

-- a format that was read is one byte, and starts a valid state
started_runs : (f u : ℕ) (b : List ℕ) → read_number b ≡ Value f u → f < 2 → Running (started f u)
started_runs f u b e small =
    let one : u ≡ 1 = read_small b f u e (omega arith) in record { few = omega arith; reached = one; kept = rw (lt-ltb f 2 small) }

begin_cases : (s : Unpacker) (b m : List ℕ) → s.entries ≡ 0 → (r : Option Number) → read_number b ≡ r
    → text_behind (b ++ m) r ≡ onward (begin_by s r) b m
begin_cases s b m z None e = line_alone s (Refused BrokenRecord 0) b m _ (ap (λ (k : ℕ). verdict_line k (Refused BrokenRecord 0)) (sym z))
begin_cases s b m z (Some number) e = ⊎_elim good other (cases (ltb number.value 2))
  where
    good : ltb number.value 2 ≡ true → text_behind (b ++ m) (Value number.value number.used) ≡ onward (begin_by s (Value number.value number.used)) b m
    good t =
        let takes : Takes (Value number.value number.used) 5 (length b) = subst (λ (r : Option Number). Takes r 5 (length b)) e (takes_number b) in
        rw t (ap (λ (x : List ℕ). containers_text max_containers (reader_with number.value []) 0 number.used x) (drop-append-le number.used b m takes.1.1)
        ∙ sym (text_running (started number.value number.used) (drop number.used b ++ m) (started_runs number.value number.used b e (ltb-true number.value 2 t))))

    other : ltb number.value 2 ≡ false → text_behind (b ++ m) (Value number.value number.used) ≡ onward (begin_by s (Value number.value number.used)) b m
    other t = rw t (line_alone s (Refused InvalidState 0) b m _ (ap (λ (k : ℕ). verdict_line k (Refused InvalidState 0)) (sym z)))

-- nothing that follows changes the number
number_same : (b m : List ℕ) (ended : Bool) → Ends ended m → pick ended true (leb most_number (length b)) ≡ true
    → read_number (b ++ m) ≡ read_number b
number_same b m true ends t = ap (λ (x : List ℕ). read_number (b ++ x)) (ends refl) ∙ ap read_number (append-nil b)
number_same b m false ends t = number_append b m (leb-true most_number (length b) t)

new_call : (s : Unpacker) (b m : List ℕ) (ended : Bool) → Ends ended m → valid_state s ≡ true → s.offset ≡ 0
    → text_from s (b ++ m) ≡ onward (beginning s b ended) b m
new_call s b m ended ends good z = ⊎_elim there short (cases (pick ended true (leb most_number (length b))))
  where
    there : pick ended true (leb most_number (length b)) ≡ true → text_from s (b ++ m) ≡ onward (beginning s b ended) b m
    there t =
        text_new s (b ++ m) good z ∙ ap (text_behind (b ++ m)) (number_same b m ended ends t) ∙ begin_cases s b m (new_none s good z)
        (read_number b) refl
        ∙ ap (λ (x : Bool). onward (pick x (begin_by s (read_number b)) (waiting s)) b m) (sym t)

    short : pick ended true (leb most_number (length b)) ≡ false → text_from s (b ++ m) ≡ onward (beginning s b ended) b m
    short t = ap (λ (x : Bool). onward (pick x (begin_by s (read_number b)) (waiting s)) b m) (sym t)

-- ---- behind the format

-- the state behind an accepted container is valid
stepped_runs : (s : Unpacker) (c : List ℕ) (n : ℕ) (g : Grant) → Running s → s.entries < max_containers
    → (reading s.reader c 352).answer ≡ answer.Accepted n g
    → Running (stepped s (reading s.reader c 352).reader)
stepped_runs s c n g r few e = record { few = omega arith; reached = omega (arith, r.reached); kept = done_valid s.reader c n g e }

module _ (s : Unpacker) (b m : List ℕ) (r : Running s) where
  -- the text for what is left, where k containers more are allowed
  left : (k : ℕ) → max_containers - s.entries ≡ k → text_from s (b ++ m) ≡ containers_text k s.reader s.entries s.offset (b ++ m)
  left k e = text_running s (b ++ m) r ∙ ap (λ (j : ℕ). containers_text j s.reader s.entries s.offset (b ++ m)) e

  some_left : (length b ≡ 0 → ⊥) → length (b ++ m) ≡ 0 → ⊥
  some_left some z = some (omega (arith, length-append b m))

  ended_none : m ≡ [] → length b ≡ 0 → text_from s (b ++ m) ≡ onward (over s Accepted) b m
  ended_none em z =
      line_alone s Accepted b m _
      (left (max_containers - s.entries) refl ∙ containers_none s.reader s.entries s.offset (b ++ m) (max_containers - s.entries)
      (omega (arith, length-append b m, ap length em)))

  too_many : max_containers ≤ s.entries → (length b ≡ 0 → ⊥) → text_from s (b ++ m) ≡ onward (over s (Refused TooLong 0)) b m
  too_many h some =
      line_alone s (Refused TooLong 0) b m _
      (left 0 (omega arith) ∙ containers_most s.reader s.entries s.offset (b ++ m) (some_left some))

  module _ (few : s.entries < max_containers) (some : length b ≡ 0 → ⊥) where
    abbrev k : ℕ
    k = max_containers - (s.entries + 1)

    one_more : max_containers - s.entries ≡ suc k
    one_more = omega arith

    ended_short : m ≡ [] → length b < 256 → text_from s (b ++ m) ≡ onward (over s (Refused BrokenRecord s.offset)) b m
    ended_short em h =
        line_alone s (Refused BrokenRecord s.offset) b m _
        (left (suc k) one_more ∙ containers_short s.reader s.entries s.offset (b ++ m) (some_left some) k
        (omega (arith, length-append b m, ap length em)))

    -- a whole container
    module _ (long : 256 ≤ length b) where
      abbrev c : List ℕ
      c = take 256 b

      read_by : (a : Answer) → (reading s.reader c 352).answer ≡ a
          → lines_then s.entries a (lines_of (records s.reader c))
          (containers_text k (reading s.reader c 352).reader (s.entries + 1) (s.offset + 256) (drop 256 b ++ m))
          ≡ onward (turn_by s (reading s.reader c 352).reader (lines_of (records s.reader c)) a) b m
      read_by (answer.Accepted n g) e =
          ap (λ (x : List ℕ). lines_of (records s.reader c) ++ x)
          (sym (text_running (stepped s (reading s.reader c 352).reader) (drop 256 b ++ m) (stepped_runs s c n g r few e)))
      read_by (answer.Refused q p) e = line_alone s (Refused q p) b m _ refl

      whole : text_from s (b ++ m) ≡ onward (container_turn s c) b m
      whole =
          let front : take 256 (b ++ m) ≡ c = take-append-le 256 b m long in
          let rest : drop 256 (b ++ m) ≡ drop 256 b ++ m = drop-append-le 256 b m long in
          left (suc k) one_more
          ∙ containers_next s.reader s.entries s.offset (b ++ m) (some_left some) k (omega (arith, length-append b m))
          ∙ ap (λ (x : List ℕ). lines_then s.entries (reading s.reader x 352).answer (lines_of (records s.reader x))
          (containers_text k (reading s.reader x 352).reader (s.entries + 1) (s.offset + 256) (drop 256 (b ++ m)))) front
          ∙ ap (λ (x : List ℕ). lines_then s.entries (reading s.reader c 352).answer (lines_of (records s.reader c))
          (containers_text k (reading s.reader c 352).reader (s.entries + 1) (s.offset + 256) x)) rest
          ∙ read_by (reading s.reader c 352).answer refl

  -- by the tests of a call
  by_length : (ended : Bool) → Ends ended m → s.entries < max_containers → (length b ≡ 0 → ⊥) → (t : Bool) → ltb (length b) 256 ≡ t
      → text_from s (b ++ m) ≡ onward
      (pick t (pick ended (over s (Refused BrokenRecord s.offset)) (waiting s)) (container_turn s (take 256 b))) b m
  by_length true ends few some true e = ended_short few some (ends refl) (ltb-true (length b) 256 e)
  by_length false ends few some true e = refl
  by_length ended ends few some false e = whole few some (ltb-false (length b) 256 e)

  by_count : (ended : Bool) → Ends ended m → (length b ≡ 0 → ⊥) → (t : Bool) → leb max_containers s.entries ≡ t
      → text_from s (b ++ m) ≡ onward
      (pick t (over s (Refused TooLong 0))
      (pick (ltb (length b) 256) (pick ended (over s (Refused BrokenRecord s.offset)) (waiting s)) (container_turn s (take 256 b)))) b m
  by_count ended ends some true e = too_many (leb-true max_containers s.entries e) some
  by_count ended ends some false e = by_length ended ends (leb-false max_containers s.entries e) some (ltb (length b) 256) refl

  running_call : (ended : Bool) → Ends ended m → (t : Bool) → eqb (length b) 0 ≡ t
      → text_from s (b ++ m) ≡ onward
      (pick t (pick ended (over s Accepted) (waiting s))
      (pick (leb max_containers s.entries) (over s (Refused TooLong 0))
      (pick (ltb (length b) 256) (pick ended (over s (Refused BrokenRecord s.offset)) (waiting s)) (container_turn s (take 256 b))))) b m
  running_call true ends true e = ended_none (ends refl) (eqb-true (length b) 0 e)
  running_call false ends true e = refl
  running_call ended ends false e = by_count ended ends (eqb-false (length b) 0 e) (leb max_containers s.entries) refl

call_by : (s : Unpacker) (b m : List ℕ) (ended : Bool) → Ends ended m → State s → text_from s (b ++ m) ≡ onward (turn s b ended) b m
call_by s b m ended ends (bad e) =
    line_alone s (Refused InvalidState 0) b m _ (text_bad s (b ++ m) e) ∙ ap (λ (t : Turn). onward t b m) (sym (turn_bad s b ended e))
call_by s b m ended ends (new good z) = new_call s b m ended ends good z ∙ ap (λ (t : Turn). onward t b m) (sym (turn_new s b ended good z))
call_by s b m ended ends (runs r) =
    running_call s b m r ended ends (eqb (length b) 0) refl ∙ ap (λ (t : Turn). onward t b m) (sym (turn_running s b ended r))

-- a call changes nothing of the text for the whole
pub one_call : (s : Unpacker) (b m : List ℕ) (ended : Bool) → Ends ended m → text_from s (b ++ m) ≡ onward (turn s b ended) b m
one_call s b m ended ends = call_by s b m ended ends (state_of s)
