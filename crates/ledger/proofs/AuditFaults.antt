-- The audit refuses with the first of the faults of the checks. Assumes nothing.
use Prim.Native.Nat.{ℕ, ◌+◌, ◌≤◌, ◌<◌}
use mathlib.Core.Path.{◌≡◌, refl, ap, ap₂, ◌∙◌, subst}
use mathlib.Core.Bool.{false, ◌&&◌}
use mathlib.Core.List.{List, [], ◌∷◌, ◌++◌}
use mathlib.Core.Logic.{◌⊎◌, inl, inr, ⊎_elim, ◌↔◌}
use native.Mathlib.Omega.{arith}
use lib.ListN.{length}
use lib.Dec.{eqb, ltb, leb}
use borrow.Author.Tests.{le-ltb, lt-leb, ne_eqb, ltb-false, leb-false, eqb-false}
use Rattle.cause.specs.Checks.{Check, check, Accepted, Refused}
use Rattle.cause.specs.declared.Cause.{Cause}
use Rattle.cause.specs.declared.Cause.TheVariants.{InvalidState, ContainerLength, MissingPool, MissingGrantPool, BegunOverGranted, GrantedOverCapacity}
use Rattle.container.specs.Layout.{Format, format_of}
use Rattle.container.specs.Grants.{header_grant}
use Rattle.placement.specs.Cells.{Cell}
use Rattle.placement.proofs.Keeps.{progress}
use Rattle.reader.specs.Reading.{carried, state_checks}
use Rattle.placement.proofs.ProgressLaws.{list_from, cells_of}
use Rattle.pools.specs.PoolRules.{capacity_of}
use Rattle.pools.specs.Pools.{grantable, start_payable, start_grantable, each_granule, paid_to, granted_to}
use Rattle.ledger.specs.Entries.{cells_in}
use Rattle.ledger.specs.Audit.{receiver_of, reader_of, held_of, open_of, ledger_ok, opposite, begun, granted, credit_checks, capacity_checks, audit_checks, auditing}
use Rattle.pools.specs.declared.receiver.Receiver.{Receiver}
use Rattle.ledger.specs.declared.ledger.Ledger.{Ledger}
use Rattle.pools.proofs.GranuleLaws.{granule_checks_law}
use Rattle.ledger.proofs.AcceptedLaws.{credit_each, capacity_each}
use Rattle.cause.proofs.EachLaws.{Each, each_rises, each_sounds, each_fails}
use Rattle.cause.proofs.NamedLaws.{turn_of}
use Rattle.ledger.proofs.EntryFaults.{entry_cell, AuditCells, message, heading, granting, over, full}
use Rattle.cause.proofs.FirstLaws.{Site, tests, tests_append, Fails, fails_front, fails_back, Rises, rises_from, rises_to, rises_append, Sounds, sounds_append, First, None, Lists, listed_first, listed_none}
use Rattle.cause.proofs.RankedLaws.{ranked, tests_ranked, fails_as, Ranked}
use Rattle.lists.proofs.FailLaws.{and_fails, fail_left, fail_right}
use Rattle.placement.proofs.ContainerFaults.{container_sites, container_complete, container_rises, container_sound}

module _ (s : Ledger) (d : ℕ) (c : List ℕ) where
  abbrev fm : Format
  fm = format_of s.format

  abbrev m : List ℕ
  m = carried (reader_of s d)

  abbrev cell : ℕ → Cell
  cell = entry_cell s d c

  abbrev own : Receiver
  own = receiver_of s d

  abbrev far : Receiver
  far = receiver_of s (opposite d)

  abbrev Of : ℕ → Cause → ℕ → Type 0
  Of = Ranked (AuditCells s d c)

  cells_are : cells_in (reader_of s d) c ≡ list_from cell 12 0
  unfolding progress
  cells_are = cells_of fm c m 12 0

  abbrev payments : List Check
  payments = each_granule (start_payable own) MissingPool 0 (list_from cell 12 0)

  abbrev heading' : Check
  heading' = check (grantable far (header_grant fm c)) MissingGrantPool 12

  abbrev crdts : List Check
  crdts = each_granule (start_grantable far) MissingGrantPool 0 (list_from cell 12 0)

  abbrev helds : List Check
  helds = credit_checks s d (begun s d c) 14 0

  abbrev rooms : List Check
  rooms = capacity_checks s (opposite d) (granted s d c) 14 0

  -- the checks of 14, 21, 15 and 16, number by number
  by_message : Each (λ n g. each_granule (start_payable own) MissingPool g (list_from cell n g)) (λ g. start_payable own (cell g)) MissingPool
  by_message = granule_checks_law (start_payable own) MissingPool cell

  by_crdt : Each (λ n g. each_granule (start_grantable far) MissingGrantPool g (list_from cell n g)) (λ g. start_grantable far (cell g)) MissingGrantPool
  by_crdt = granule_checks_law (start_grantable far) MissingGrantPool cell

  by_credit : Each (credit_checks s d (begun s d c)) (λ p. leb (paid_to p (begun s d c)) (held_of s d p)) BegunOverGranted
  by_credit = credit_each s d (begun s d c)

  abbrev needed : ℕ → ℕ
  needed p = held_of s (opposite d) p + (granted_to p (granted s d c) + open_of s (opposite d) p)

  by_capacity : Each (capacity_checks s (opposite d) (granted s d c)) (λ p. leb (needed p) (capacity_of far p)) GrantedOverCapacity
  by_capacity = capacity_each s (opposite d) (granted s d c)

  -- what comes behind the messages, and behind the reader's checks
  abbrev behind : List Site
  behind = ranked (heading' ∷ crdts) ++ (ranked helds ++ ranked rooms)

  abbrev rest : List Site
  rest = ranked payments ++ behind

  abbrev sites : List Site
  sites =
      ranked (check (ltb d 2 && ledger_ok s) InvalidState 0 ∷ check (eqb (length c) 256) ContainerLength 0 ∷ []) ++ (container_sites fm m c ++ rest)

  rest_tests : tests rest ≡ payments ++ (heading' ∷ crdts ++ (helds ++ rooms))
  rest_tests =
      tests_append (ranked payments) behind
      ∙ ap₂ ◌++◌ (tests_ranked payments) (tests_append (ranked (heading' ∷ crdts)) (ranked helds ++ ranked rooms)
      ∙ ap₂ ◌++◌ (tests_ranked (heading' ∷ crdts)) (tests_append (ranked helds) (ranked rooms) ∙ ap₂ ◌++◌ (tests_ranked helds) (tests_ranked rooms)))

  sites_tests : tests sites ≡ audit_checks s d c
  unfolding audit_checks state_checks
  sites_tests =
      ap (λ (l : List Check). check (ltb d 2 && ledger_ok s) InvalidState 0 ∷ check (eqb (length c) 256) ContainerLength 0 ∷ l)
      (tests_append (container_sites fm m c) rest ∙ ap₂ ◌++◌ (tests_ranked (state_checks (reader_of s d) c)) (rest_tests ∙ rw cells_are))

  -- the turn of 21 at a granule
  crdt_turn : (g : ℕ) → g < 12 → turn_of MissingGrantPool g ≡ 530 + g
  crdt_turn g b = rw (ne_eqb g 12 (λ e. omega arith))

  sites_rise : Rises 0 sites 800
  sites_rise = (
    omega arith,
    (
      omega arith,
      rises_from 3 4 (container_sites fm m c ++ rest) 800 (omega arith)
          (rises_append 4 (container_sites fm m c) 500 rest 800 (container_rises fm m c)
          (rises_append 500 (ranked payments) 512 behind 800 (each_rises by_message 12 500 (λ g b. refl) 12 0 (omega arith))
          (rises_append 512 (ranked (heading' ∷ crdts)) 600 (ranked helds ++ ranked rooms) 800
          (omega arith, rises_from 521 530 (ranked crdts) 600 (omega arith) (rises_to 530 (ranked crdts) 542 600 (omega arith) (each_rises by_crdt 12 530 crdt_turn 12 0 (omega arith))))
          (rises_append 600 (ranked helds) 700 (ranked rooms) 800 (rises_to 600 (ranked helds) 614 700 (omega arith) (each_rises by_credit 14 600 (λ p b. refl) 14 0 (omega arith)))
          (rises_to 700 (ranked rooms) 714 800 (omega arith) (each_rises by_capacity 14 700 (λ p b. refl) 14 0 (omega arith))))))),
    ),
  )

  sites_sound : Sounds Of sites
  sites_sound = (
    λ t. (refl, AuditCells.invalid (⊎_elim (λ a. inl (ltb-false d 2 a)) (λ b. inr b) (and_fails (ltb d 2) (ledger_ok s) t))),
    (
      λ t. (refl, AuditCells.size (eqb-false (length c) 256 t)),
      sounds_append Of (container_sites fm m c) rest (container_sound fm m c Of (λ k p f. (refl, AuditCells.container f)))
          (sounds_append Of (ranked payments) behind (each_sounds by_message 12 Of (λ g b e. (refl, message g b e)) 12 0 (omega arith))
          (sounds_append Of (ranked (heading' ∷ crdts)) (ranked helds ++ ranked rooms)
          (λ e. (refl, heading e), each_sounds by_crdt 12 Of (λ g b e. (refl, granting g b e)) 12 0 (omega arith))
          (sounds_append Of (ranked helds) (ranked rooms) (each_sounds by_credit 14 Of (λ p b e. (refl, over p b (leb-false (paid_to p (begun s d c)) (held_of s d p) e))) 14 0 (omega arith))
          (each_sounds by_capacity 14 Of (λ p b e. (refl, full p b (leb-false (needed p) (capacity_of far p) e))) 14 0 (omega arith))))),
    ),
  )

  -- where a part's faults stand among all
  in_rest : (r : ℕ) (k : Cause) (p : ℕ) → Fails r k p rest → Fails r k p sites
  in_rest r k p h = inr (inr (fails_back r k p (container_sites fm m c) rest h))

  in_behind : (r : ℕ) (k : Cause) (p : ℕ) → Fails r k p behind → Fails r k p sites
  in_behind r k p h = in_rest r k p (fails_back r k p (ranked payments) behind h)

  in_grants : (r : ℕ) (k : Cause) (p : ℕ) → Fails r k p (ranked (heading' ∷ crdts)) → Fails r k p sites
  in_grants r k p h = in_behind r k p (fails_front r k p (ranked (heading' ∷ crdts)) (ranked helds ++ ranked rooms) h)

  in_pools : (r : ℕ) (k : Cause) (p : ℕ) → Fails r k p (ranked helds ++ ranked rooms) → Fails r k p sites
  in_pools r k p h = in_behind r k p (fails_back r k p (ranked (heading' ∷ crdts)) (ranked helds ++ ranked rooms) h)

  sites_complete : (k : Cause) (p : ℕ) → AuditCells s d c k p → Fails (turn_of k p) k p sites
  sites_complete k p (AuditCells.invalid h) = inl (refl, fails_as _ _ _ (invalid_false h))
    where
      invalid_false : (2 ≤ d) ⊎ (ledger_ok s ≡ false) → (ltb d 2 && ledger_ok s) ≡ false
      invalid_false (inl l) = fail_left (ltb d 2) (ledger_ok s) (le-ltb d 2 l)
      invalid_false (inr e) = fail_right (ltb d 2) (ledger_ok s) e
  sites_complete k p (AuditCells.size e) = inr (inl (refl, fails_as _ _ _ (ne_eqb (length c) 256 e)))
  sites_complete k p (AuditCells.container f) = inr (inr (fails_front _ _ _ (container_sites fm m c) rest (container_complete fm m c _ _ f)))
  sites_complete k p (message g b e) =
      in_rest _ _ _ (fails_front _ _ _ (ranked payments) behind (each_fails by_message 12 0 g (omega arith) b e))
  sites_complete k p (heading e) = in_grants _ _ _ (inl (refl, fails_as _ _ _ e))
  sites_complete k p (granting g b e) = in_grants _ _ _ (inr (each_fails by_crdt 12 0 g (omega arith) b e))
  sites_complete k p (over q b h) =
      in_pools _ _ _ (fails_front (600 + q) BegunOverGranted q (ranked helds) (ranked rooms) (each_fails by_credit 14 0 q (omega arith) (omega arith) (lt-leb (paid_to q (begun s d c)) (held_of s d q) h)))
  sites_complete k p (full q b h) =
      in_pools _ _ _ (fails_back (700 + q) GrantedOverCapacity q (ranked helds) (ranked rooms) (each_fails by_capacity 14 0 q (omega arith) (omega arith) (lt-leb (needed q) (capacity_of far q) h)))

  audit_lists : Lists Of (audit_checks s d c)
  audit_lists = record {
    sites = sites;
    last = 800;
    same = sites_tests;
    rises = sites_rise;
    sounds = sites_sound;
    complete = λ r k p f. subst (λ (n : ℕ). Fails n k p sites) f.0 (sites_complete k p f.1);
  }

  -- the audit refuses with a cause and a place exactly where it is the first fault
  pub audit_first : (k : Cause) (p : ℕ) → ((auditing s d c).answer ≡ Refused k p) ↔ First Of k p
  unfolding auditing
  audit_first k p = listed_first audit_lists k p

  -- and accepts exactly where there is none
  pub audit_none : ((auditing s d c).answer ≡ Accepted) ↔ None Of
  unfolding auditing
  audit_none = listed_none audit_lists
