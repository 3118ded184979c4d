-- The states of an input between two calls, and what a call comes to in each. Assumes nothing.
use Prim.Native.Nat.{ℕ, ◌+◌, ◌-◌, ◌*◌}
use mathlib.Core.Path.{◌≡◌, sym, ◌∙◌}
use mathlib.Core.Bool.{Bool, true, false, ◌&&◌}
use mathlib.Core.List.{List}
use mathlib.Core.Logic.{⊎_elim}
use native.Mathlib.Omega.{arith}
use lib.Dec.{eqb, leb}
use borrow.Author.Tests.{le-leb, leb-true, eq-eqb, ne_eqb, eqb-true, eqb-false}
use Rattle.lists.proofs.Tests.{cases, and_left, and_right, and_both}
use Rattle.cause.specs.declared.Cause.TheVariants.{InvalidState}
use Rattle.record.specs.Number.{read_number}
use Rattle.reader.specs.Reading.{reader_ok}
use Rattle.text.specs.Lines.{verdict_line}
use Rattle.unpacker.specs.Unpacking.{max_containers, containers_text, text_behind}
use Rattle.unpacker.specs.Stepping.{over, beginning, running, Running, valid_state, turn, text_from}
use Rattle.unpacker.specs.declared.unpack.Unpacker.{Unpacker}
use Rattle.cause.specs.Checks.{Refused}

module _ (s : Unpacker) where
  abbrev far : Bool
  far = eqb s.offset (256 * s.entries + 1) && reader_ok s.reader

  -- ---- the test of a state, as the code makes it

  pub valid_new : s.offset ≡ 0 → eqb s.entries 0 ≡ valid_state s
  unfolding valid_state
  valid_new z = rw (eq-eqb s.offset 0 z)

  module _ (some : s.offset ≡ 0 → ⊥) where
    behind : valid_state s ≡ (leb s.entries max_containers && far)
    unfolding valid_state
    behind = rw (ne_eqb s.offset 0 some)

    pub valid_running : valid_state s ≡ true → Running s
    valid_running e =
        let h : (leb s.entries max_containers && far) ≡ true = sym behind ∙ e in
        let r = and_right (leb s.entries max_containers) far h in
        record {
          few = leb-true s.entries max_containers (and_left (leb s.entries max_containers) far h);
          reached =
              eqb-true s.offset (256 * s.entries + 1) (and_left (eqb s.offset (256 * s.entries + 1)) (reader_ok s.reader) r);
          kept = and_right (eqb s.offset (256 * s.entries + 1)) (reader_ok s.reader) r;
        }

  running_some : Running s → s.offset ≡ 0 → ⊥
  running_some r z = omega (arith, r.reached)

  running_valid : Running s → valid_state s ≡ true
  running_valid r =
      behind (running_some r)
      ∙ and_both (leb s.entries max_containers) far (le-leb s.entries max_containers r.few)
      (and_both (eqb s.offset (256 * s.entries + 1)) (reader_ok s.reader) (eq-eqb s.offset (256 * s.entries + 1) r.reached)
      r.kept)

  pub new_none : valid_state s ≡ true → s.offset ≡ 0 → s.entries ≡ 0
  new_none e z = eqb-true s.entries 0 (valid_new z ∙ e)

  -- ---- a call, and the text for what is left

  module _ (b : List ℕ) (ended : Bool) where
    pub turn_bad : valid_state s ≡ false → turn s b ended ≡ over s (Refused InvalidState 0)
    unfolding turn
    turn_bad e = rw e

    pub turn_new : valid_state s ≡ true → s.offset ≡ 0 → turn s b ended ≡ beginning s b ended
    unfolding turn
    turn_new e z = rw (e, eq-eqb s.offset 0 z)

    pub turn_running : Running s → turn s b ended ≡ running s b ended
    unfolding turn
    turn_running r = rw (running_valid r, ne_eqb s.offset 0 (running_some r))

  module _ (l : List ℕ) where
    pub text_bad : valid_state s ≡ false → text_from s l ≡ verdict_line s.entries (Refused InvalidState 0)
    unfolding text_from
    text_bad e = rw e

    pub text_new : valid_state s ≡ true → s.offset ≡ 0 → text_from s l ≡ text_behind l (read_number l)
    unfolding text_from
    text_new e z = rw (e, eq-eqb s.offset 0 z)

    pub text_running : Running s → text_from s l ≡ containers_text (max_containers - s.entries) s.reader s.entries s.offset l
    unfolding text_from
    text_running r = rw (running_valid r, ne_eqb s.offset 0 (running_some r))

-- a state is not valid, stands before the format, or behind it
pub data State (s : Unpacker) : Type 0 where
  bad : valid_state s ≡ false → State s
  new : valid_state s ≡ true → s.offset ≡ 0 → State s
  runs : Running s → State s

pub state_of : (s : Unpacker) → State s
state_of s =
    ⊎_elim
    (λ (good : valid_state s ≡ true). ⊎_elim (λ (z : eqb s.offset 0 ≡ true). new good (eqb-true s.offset 0 z))
    (λ (z : eqb s.offset 0 ≡ false). runs (valid_running s (eqb-false s.offset 0 z) good)) (cases (eqb s.offset 0)))
    (λ (e : valid_state s ≡ false). bad e) (cases (valid_state s))
