-- The audit of an entry that reads and whose pools exist, by the rows of what it began and granted. Assumes nothing.
use Prim.Native.Nat.{ℕ, zero, suc, ◌+◌, ◌*◌, ◌≤◌, ◌<◌}
use mathlib.Core.Path.{◌≡◌, refl, sym, ap, ap₂, subst, ◌∙◌}
use mathlib.Core.Bool.{true, false}
use mathlib.Core.List.{List, [], ◌∷◌, ◌++◌, append-nil}
use mathlib.Core.Logic.{⊎_elim}
use native.Mathlib.Omega.{arith}
use lib.ListN.{length, get_or, drop}
use lib.Seq.{get_or-take, get_or-drop}
use lib.Dec.{eqb, leb}
use borrow.Author.Tests.{eqb-true, eq-eqb, lt-ltb}
use Rattle.lists.proofs.Tests.{cases}
use Rattle.cause.specs.Checks.{Check, check, Pass, first_fault, or_else, Verdict, Accepted}
use Rattle.cause.specs.declared.Cause.TheVariants.{BegunOverGranted}
use Rattle.cause.proofs.CheckLaws.{pass_accepted, first_append}
use Rattle.container.specs.Layout.{format_of}
use Rattle.container.specs.Grants.{header_grant}
use Rattle.message.specs.Charges.{charges}
use Rattle.reader.specs.Reading.{bytes_in, state_checks, next_reader}
use Rattle.reader.specs.declared.carry.Carry.{Carry}
use Rattle.pools.specs.Pools.{message_checks, grant_checks, charged_to, paid_to, granted_to}
use Rattle.ledger.specs.Entries.{cells_in}
use Rattle.ledger.specs.Audit.{receiver_of, reader_of, ledger_ok, opposite, begun, granted, credit_checks, capacity_checks, audit_checks, held_after, open_after, next_ledger, auditing}
use Rattle.pools.specs.Rows.{row, table, nested, flattened, entry_of, rows}
use Rattle.ledger.specs.CountingMirror.{credit_row_checks, capacity_row_checks, settled_held, settled_open, entered, count_checks, settling}
use Rattle.ledger.specs.declared.ledger.Ledger.{Ledger}
use Rattle.pools.proofs.RowLaws.{row_at, row_equal}
use Rattle.ledger.proofs.AcceptedLaws.{AcceptedEntry, accepted_by, open_carried, open_next}
use Rattle.std.specs.Prelude.{Ok, Err}

-- entry p of row e of a flat table
pub nested_entry : (l : List ℕ) (e p : ℕ) → e < 2 → p < 14 → entry_of (nested l) e p ≡ get_or l (14 * e + p) 0
nested_entry l zero p h k = get_or-take 14 l p 0 k ∙ ap (λ (i : ℕ). get_or l i 0) (omega arith)
nested_entry l (suc zero) p h k = get_or-take 14 (drop 14 l) p 0 k ∙ get_or-drop 14 l p 0
nested_entry l (suc (suc e)) p h k = absurd (omega arith)

-- two rows as a flat table
flattened_rows : (f : ℕ → ℕ → ℕ) → flattened (rows f) ≡ table f
flattened_rows f = ap (λ (t : List ℕ). row (f 0) 14 0 ++ t) (append-nil (row (f 1) 14 0))

table_equal : (f g : ℕ → ℕ → ℕ) → ((e p : ℕ) → e < 2 → p < 14 → f e p ≡ g e p) → table f ≡ table g
table_equal f g h = ap₂ ◌++◌ (row_equal (f 0) (g 0) (λ p k. h 0 p (omega arith) k)) (row_equal (f 1) (g 1) (λ p k. h 1 p (omega arith) k))

-- checks that pass change no verdict
pub skip : (a b : List Check) → Pass a → first_fault (a ++ b) ≡ first_fault b
skip a b h = first_append a b ∙ ap (λ (v : Verdict). or_else v (first_fault b)) (pass_accepted a h)

module _ (s : Ledger) (d : ℕ) (c : List ℕ) (h : d < 2) where
  -- what the entry began and granted, pool by pool
  abbrev pub paid_row : List ℕ
  paid_row = row (λ p. paid_to p (begun s d c)) 14 0

  abbrev pub given_row : List ℕ
  given_row = row (λ p. granted_to p (granted s d c)) 14 0

  abbrev o : ℕ
  o = opposite d

  below : o < 2
  below = omega arith

  -- 15 and 16 by rows
  short_checks : (k p : ℕ) → p + k ≤ 14 → credit_checks s d (begun s d c) k p ≡ credit_row_checks (get_or (nested s.held) d []) paid_row k p
  unfolding credit_checks credit_row_checks
  short_checks zero p b = refl
  short_checks (suc k) p b =
      ap₂ ◌∷◌
      (ap₂ (λ (x y : ℕ). check (leb x y) BegunOverGranted p) (sym (row_at (λ q. paid_to q (begun s d c)) p (omega arith))) (sym (nested_entry s.held d p h (omega arith))))
      (short_checks k (p + 1) (omega arith))

  over_checks : (k p : ℕ) → p + k ≤ 14
      → capacity_checks s o (granted s d c) k p ≡ capacity_row_checks (get_or (nested s.held) o []) (get_or (nested s.opened) o []) given_row (receiver_of s o).capacities k p
  unfolding capacity_checks capacity_row_checks
  over_checks zero p b = refl
  over_checks (suc k) p b =
      ap₂ ◌∷◌ (rw (row_at (λ q. granted_to q (granted s d c)) p (omega arith), nested_entry s.held o p below (omega arith), nested_entry s.opened o p below (omega arith)))
      (over_checks k (p + 1) (omega arith))

  -- an entry that reads and whose pools exist is judged by its rows
  module _ (v : ledger_ok s ≡ true) (n : length c ≡ 256) (r : Pass (state_checks (reader_of s d) c))
      (m : Pass (message_checks (receiver_of s d) (cells_in (reader_of s d) c))) (g : Pass (grant_checks (receiver_of s o) (header_grant (format_of s.format) c) (cells_in (reader_of s d) c))) where
    count_verdict : first_fault (audit_checks s d c) ≡ first_fault (count_checks s d paid_row given_row)
    unfolding audit_checks
    count_verdict =
        let pools = credit_checks s d (begun s d c) 14 0 ++ capacity_checks s o (granted s d c) 14 0 in
        let grants = grant_checks (receiver_of s o) (header_grant (format_of s.format) c) (cells_in (reader_of s d) c) in
        let messages = message_checks (receiver_of s d) (cells_in (reader_of s d) c) in
        rw (lt-ltb d 2 h, v, eq-eqb (length c) 256 n)
        (skip (state_checks (reader_of s d) c) (messages ++ (grants ++ pools)) r ∙ skip messages (grants ++ pools) m ∙ skip grants pools g
        ∙ ap₂ (λ (x y : List Check). first_fault (x ++ y)) (short_checks 14 0 (omega arith)) (over_checks 14 0 (omega arith)))

    -- the tables behind an accepted entry
    module _ (a : AcceptedEntry s d c) where
      abbrev next : Carry
      next = (next_reader (reader_of s d) c).carry

      abbrev carry_row : List ℕ
      carry_row = row (λ p. charged_to p (charges (bytes_in next))) 14 0

      held_entry : (e p : ℕ) → e < 2 → p < 14 → settled_held d (nested s.held) paid_row given_row e p ≡ held_after s d c e p
      held_entry e p b k =
          rw (nested_entry s.held e p b k, row_at (λ q. paid_to q (begun s d c)) p k, row_at (λ q. granted_to q (granted s d c)) p k)

      own_open : (p : ℕ) → p < 14 → settled_open d (nested s.opened) carry_row d p ≡ open_after s d c d p
      own_open p k =
          rw (eq-eqb d d refl) (row_at (λ q. charged_to q (charges (bytes_in next))) p k)
          ∙ sym (open_carried s d c a p k) ∙ open_next s d c d p h k

      open_entry : (e p : ℕ) → e < 2 → p < 14 → settled_open d (nested s.opened) carry_row e p ≡ open_after s d c e p
      open_entry e p b k =
          ⊎_elim
          (λ (t : eqb e d ≡ true).
          subst (λ (x : ℕ). settled_open d (nested s.opened) carry_row x p ≡ open_after s d c x p) (sym (eqb-true e d t)) (own_open p k))
          (λ (t : eqb e d ≡ false). rw t (nested_entry s.opened e p b k)) (cases (eqb e d))

      tables : next_ledger s d c
          ≡ entered s d next (flattened (rows (settled_held d (nested s.held) paid_row given_row))) (flattened (rows (settled_open d (nested s.opened) carry_row)))
      unfolding next_ledger
      tables =
          let f = settled_held d (nested s.held) paid_row given_row in
          let g = settled_open d (nested s.opened) carry_row in
          sym (ap₂ (entered s d next) (flattened_rows f ∙ table_equal f (held_after s d c) held_entry) (flattened_rows g ∙ table_equal g (open_after s d c) open_entry))

    -- so the audit settles it
    pub settles : auditing s d c ≡ settling s d (next_reader (reader_of s d) c).carry paid_row given_row
    unfolding auditing settling
    settles = by (first_fault (audit_checks s d c)) refl (sym count_verdict)
      where
        by : (w : Verdict) → first_fault (audit_checks s d c) ≡ w → first_fault (count_checks s d paid_row given_row) ≡ first_fault (audit_checks s d c)
            → auditing s d c ≡ settling s d (next_reader (reader_of s d) c).carry paid_row given_row
        by (Ok _) e q = rw (q, e) (ap (λ (l : Ledger). record { ledger = l; answer = Accepted }) (tables (accepted_by s d c e)))
        by (Err fault) e q = rw (q, e)
