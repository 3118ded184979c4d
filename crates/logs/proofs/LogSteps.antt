-- How the definitions of the log go, one entry at a time, and what an entry looks at. Assumes nothing.
use Prim.Native.Nat.{ℕ, zero, suc, ◌+◌, ◌%◌, ◌<◌, ◌≤◌}
use mathlib.Core.Path.{◌≡◌, refl, sym, ap, ◌∙◌}
use mathlib.Core.Bool.{Bool, true, false}
use mathlib.Core.List.{List, ◌++◌}
use native.Mathlib.Omega.{arith}
use lib.ListN.{length, take, drop, length-drop, length-append}
use lib.Seq.{take-append-le, drop-append-le}
use lib.Dec.{ltb, leb, eqb}
use borrow.Author.Tests.{eqb-false, ltb-false, leb-true, leb-false, le-ltb, lt-leb, eq-eqb, ne_eqb}
use Rattle.lists.specs.Pick.{pick}
use Rattle.lists.proofs.Tests.{never_both}
use Rattle.lists.proofs.PickLaws.{pick_by}
use Rattle.cause.specs.declared.Cause.TheVariants.{BrokenRecord, TooLong}
use Rattle.record.specs.Number.{read_number, Value}
use Rattle.record.specs.declared.number.Number.{Number}
use Rattle.ledger.specs.Audit.{auditing}
use Rattle.logs.specs.Log.{Next, over, onward, next_of, framed, judged, judged_at, after, entries_from}
use Rattle.logs.specs.Stream.{max_entries, whole, settled, ready, closing, stopped_at, stepped, read_from, Over}
use Rattle.ledger.specs.declared.ledger.Ledger.{Ledger}
use Rattle.logs.specs.declared.log.LogVerdict.{LogVerdict}
use Rattle.logs.specs.declared.log.LogVerdict.TheVariants.{Accepted, Refused}
use Rattle.logs.specs.declared.log.LogReader.{LogReader}
use Rattle.record.proofs.NumberTakes.{Takes, takes_number, number_append, number_stays}
use Rattle.cause.specs.Checks.{Verdict}
use Rattle.std.specs.Prelude.{Ok, Err, Option, Some, None}

-- the entry at the front of the bytes from `at` on
abbrev pub next_at : LogReader → List ℕ → Next
next_at s l = next_of s.ledger s.entries s.offset l

-- ---- a call

pub read_stop : (k : ℕ) (ended : Bool) (b : List ℕ) (at : ℕ) (s : LogReader) → ready s.entries (drop at b) ended ≡ false
    → read_from k ended b at s ≡ stopped_at at s (closing s.entries (length (drop at b)) ended)
unfolding read_from
read_stop zero ended b at s h = refl
read_stop (suc k) ended b at s h =
    ap (λ (t : Bool). pick t (after (next_at s (drop at b)) (λ v. stopped_at at s (Over v)) (λ next u. read_from k ended b (at + u) (stepped s next u)))
    (stopped_at at s (closing s.entries (length (drop at b)) ended))) h

read_can : (k : ℕ) (ended : Bool) (b : List ℕ) (at : ℕ) (s : LogReader) → ready s.entries (drop at b) ended ≡ true
    → read_from (suc k) ended b at s
    ≡ after (next_at s (drop at b)) (λ v. stopped_at at s (Over v)) (λ next u. read_from k ended b (at + u) (stepped s next u))
unfolding read_from
read_can k ended b at s h =
    ap (λ (t : Bool). pick t (after (next_at s (drop at b)) (λ v. stopped_at at s (Over v)) (λ next u. read_from k ended b (at + u) (stepped s next u)))
    (stopped_at at s (closing s.entries (length (drop at b)) ended))) h

pub read_over : (k : ℕ) (ended : Bool) (b : List ℕ) (at : ℕ) (s : LogReader) (v : LogVerdict) → ready s.entries (drop at b) ended ≡ true
    → next_at s (drop at b) ≡ over v → read_from (suc k) ended b at s ≡ stopped_at at s (Over v)
read_over k ended b at s v h e =
    read_can k ended b at s h
    ∙ ap (λ (n : Next). after n (λ v. stopped_at at s (Over v)) (λ next u. read_from k ended b (at + u) (stepped s next u))) e

pub read_on_steps : (k : ℕ) (ended : Bool) (b : List ℕ) (at : ℕ) (s : LogReader) (next : Ledger) (u : ℕ) → ready s.entries (drop at b) ended ≡ true
    → next_at s (drop at b) ≡ onward next u → read_from (suc k) ended b at s ≡ read_from k ended b (at + u) (stepped s next u)
read_on_steps k ended b at s next u h e =
    read_can k ended b at s h
    ∙ ap (λ (n : Next). after n (λ v. stopped_at at s (Over v)) (λ next u. read_from k ended b (at + u) (stepped s next u))) e

-- ---- the whole log

pub entries_none : (k : ℕ) (s : Ledger) (e o : ℕ) (l : List ℕ) → length l ≡ 0 → entries_from k s e o l ≡ Accepted e
unfolding entries_from
entries_none zero s e o l h = rw (eq-eqb (length l) 0 h)
entries_none (suc k) s e o l h = rw (eq-eqb (length l) 0 h)

pub entries_limit : (s : Ledger) (e o : ℕ) (l : List ℕ) → (length l ≡ 0 → ⊥) → entries_from zero s e o l ≡ Refused e TooLong 0
unfolding entries_from
entries_limit s e o l h = rw (ne_eqb (length l) 0 h)

pub entries_over : (k : ℕ) (s : Ledger) (e o : ℕ) (l : List ℕ) (v : LogVerdict) → (length l ≡ 0 → ⊥) → next_of s e o l ≡ over v
    → entries_from (suc k) s e o l ≡ v
unfolding entries_from
entries_over k s e o l v h n = rw (ne_eqb (length l) 0 h, n)

pub entries_on : (k : ℕ) (s : Ledger) (e o : ℕ) (l : List ℕ) (next : Ledger) (u : ℕ) → (length l ≡ 0 → ⊥) → next_of s e o l ≡ onward next u
    → entries_from (suc k) s e o l ≡ entries_from k next (e + 1) (o + u) (drop u l)
unfolding entries_from
entries_on k s e o l next u h n = rw (ne_eqb (length l) 0 h, n)

-- ---- an entry

-- an entry that is taken has at least 257 bytes, at most 261, and no more than are there
abbrev pub Fits : Next → ℕ → Type 0
Fits (over v) m = Unit {0}
Fits (onward next u) m = (257 ≤ u) × ((u ≤ 261) × (u ≤ m))

fits_judged : (e u m : ℕ) (next : Ledger) (a : Verdict) → 257 ≤ u → u ≤ 261 → u ≤ m → Fits (judged e u next a) m
fits_judged e u m next (Err fault) x y z = tt
fits_judged e u m next (Ok _) x y z = (x, (y, z))

fits_framed : (s : Ledger) (e o : ℕ) (l : List ℕ) (r : Option Number) → Takes r 5 (length l) → Fits (framed s e o l r) (length l)
fits_framed s e o l None h = tt
fits_framed s e o l (Some number) h =
    pick_by (λ (n : Next). Fits n (length l)) (ltb (length l) (number.used + 256)) (λ t. tt)
    (λ t. fits_judged e (number.used + 256) (length l) (auditing s (number.value % 2) (take 256 (drop number.used l))).ledger (auditing s (number.value % 2) (take 256 (drop number.used l))).answer
    (omega (arith, h.0)) (omega (arith, h.1.0)) (ltb-false (length l) (number.used + 256) t))

pub next_fits : (s : Ledger) (e o : ℕ) (l : List ℕ) → Fits (next_of s e o l) (length l)
unfolding next_of
next_fits s e o l = fits_framed s e o l (read_number l) (takes_number l)

-- where the bytes of an entry are there, those behind them change nothing
framed_same : (s : Ledger) (e o : ℕ) (l m : List ℕ) (v u : ℕ) → u + 256 ≤ length l → framed s e o (l ++ m) (Value v u) ≡ framed s e o l (Value v u)
framed_same s e o l m v u h =
    let longer : ltb (length (l ++ m)) (u + 256) ≡ false = le-ltb (length (l ++ m)) (u + 256) (omega (arith, length-append l m)) in
    let long : ltb (length l) (u + 256) ≡ false = le-ltb (length l) (u + 256) h in
    let body : take 256 (drop u (l ++ m)) ≡ take 256 (drop u l) =
    ap (λ (x : List ℕ). take 256 x) (drop-append-le u l m (omega arith)) ∙ take-append-le 256 (drop u l) m (omega (arith, length-drop u l)) in
    ap (λ (t : Bool). pick t (over (Refused e BrokenRecord o)) (judged_at s e (v % 2) (l ++ m) u)) longer
    ∙ ap (λ (x : List ℕ). judged e (u + 256) (auditing s (v % 2) x).ledger (auditing s (v % 2) x).answer) body
    ∙ ap (λ (t : Bool). pick t (over (Refused e BrokenRecord o)) (judged_at s e (v % 2) l u)) (sym long)

framed_append : (s : Ledger) (e o : ℕ) (l m : List ℕ) (r : Option Number) → Takes r 5 (length l) → 261 ≤ length l
    → framed s e o (l ++ m) r ≡ framed s e o l r
framed_append s e o l m None t h = refl
framed_append s e o l m (Some number) t h = framed_same s e o l m number.value number.used (omega (arith, t.1.0))

-- no more than 261 bytes are looked at
next_append : (s : Ledger) (e o : ℕ) (l m : List ℕ) → 261 ≤ length l → next_of s e o (l ++ m) ≡ next_of s e o l
unfolding next_of
next_append s e o l m h =
    ap (λ (r : Option Number). framed s e o (l ++ m) r) (number_append l m (omega arith)) ∙ framed_append s e o l m (read_number l) (takes_number l) h

framed_whole : (s : Ledger) (e o : ℕ) (l m : List ℕ) (r : Option Number) → read_number l ≡ r → whole l r ≡ true
    → framed s e o (l ++ m) (read_number (l ++ m)) ≡ framed s e o l r
framed_whole s e o l m None n h = absurd (never_both refl h)
framed_whole s e o l m (Some number) n h =
    ap (λ (r : Option Number). framed s e o (l ++ m) r) (number_stays l m number.value number.used n) ∙ framed_same s e o l m number.value number.used (leb-true (number.used + 256) (length l) h)

next_whole : (s : Ledger) (e o : ℕ) (l m : List ℕ) → whole l (read_number l) ≡ true → next_of s e o (l ++ m) ≡ next_of s e o l
unfolding next_of
next_whole s e o l m h = framed_whole s e o l m (read_number l) refl h

-- an entry that can be judged before the log has ended does not change by what follows
settled_same : (s : Ledger) (e o : ℕ) (l m : List ℕ) (t : Bool) → leb 261 (length l) ≡ t → pick t true (whole l (read_number l)) ≡ true
    → next_of s e o (l ++ m) ≡ next_of s e o l
settled_same s e o l m true t h = next_append s e o l m (leb-true 261 (length l) t)
settled_same s e o l m false t h = next_whole s e o l m h

-- ---- when an entry can be judged

pub record Ready (e : ℕ) (l : List ℕ) (ended : Bool) : Type 0 where
  pub some : length l ≡ 0 → ⊥
  pub few : e < max_entries
  pub settled : settled l ended ≡ true

ready_few : (e : ℕ) (l : List ℕ) (ended : Bool) (t : Bool) → leb max_entries e ≡ t → (length l ≡ 0 → ⊥) → pick t false (settled l ended) ≡ true
    → Ready e l ended
ready_few e l ended true f n h = absurd (never_both refl h)
ready_few e l ended false f n h = record { some = n; few = leb-false max_entries e f; settled = h }

ready_some : (e : ℕ) (l : List ℕ) (ended : Bool) (t : Bool) → eqb (length l) 0 ≡ t → pick t false (pick (leb max_entries e) false (settled l ended)) ≡ true
    → Ready e l ended
ready_some e l ended true n h = absurd (never_both refl h)
ready_some e l ended false n h = ready_few e l ended (leb max_entries e) refl (eqb-false (length l) 0 n) h

pub when_ready : (e : ℕ) (l : List ℕ) (ended : Bool) → ready e l ended ≡ true → Ready e l ended
when_ready e l ended h = ready_some e l ended (eqb (length l) 0) refl h

-- where none of the other reasons holds, it can be judged if its bytes are there
pub ready_last : (e : ℕ) (l : List ℕ) (ended : Bool) → (length l ≡ 0 → ⊥) → e < max_entries → ended ≡ false → length l < 261
    → ready e l ended ≡ whole l (read_number l)
ready_last e l ended some few more short =
    ap (λ (t : Bool). pick t false (pick (leb max_entries e) false (settled l ended))) (ne_eqb (length l) 0 some)
    ∙ ap (λ (t : Bool). pick t false (settled l ended)) (lt-leb max_entries e few)
    ∙ ap (λ (t : Bool). settled l t) more
    ∙ ap (λ (t : Bool). pick t true (whole l (read_number l))) (lt-leb 261 (length l) short)

-- by what follows it, an entry that can be judged does not change
pub next_same : (s : Ledger) (e o : ℕ) (l m : List ℕ) (i : ℕ) → ready i l false ≡ true → next_of s e o (l ++ m) ≡ next_of s e o l
next_same s e o l m i h = settled_same s e o l m (leb 261 (length l)) refl (when_ready i l false h).settled
