-- The audit of an entry by the verdicts of its parts: what refuses it, and what it settles. Assumes nothing.
use Prim.Native.Nat.{ℕ, zero, suc, ◌+◌, ◌-◌, ◌/◌, ◌%◌, ◌^◌, ◌≤◌, ◌<◌}
use mathlib.Core.Path.{◌≡◌, refl, sym, ap, ap₂, ◌∙◌}
use mathlib.Core.Bool.{Bool, true, false, ◌&&◌, not}
use mathlib.Core.List.{List, [], ◌∷◌, ◌++◌}
use mathlib.Core.Logic.{⊎_elim}
use native.Mathlib.Omega.{arith}
use lib.ListN.{length, get_or, take, drop, length-take, get_or-eq_default}
use lib.Dec.{ltb}
use borrow.Author.Tests.{eq-eqb, ne_eqb, lt-ltb, ltb-true, leb-true, not-true, not-false}
use Rattle.lists.proofs.Order.{lt_or_le}
use Rattle.lists.proofs.Tests.{and_left, and_right}
use Rattle.cause.specs.Checks.{Check, Pass, first_fault, given, Verdict, Accepted, Refused}
use Rattle.cause.specs.declared.Cause.{Cause}
use Rattle.cause.specs.declared.Cause.TheVariants.{InvalidState, ContainerLength}
use Rattle.cause.specs.declared.Fault.{Fault}
use Rattle.cause.proofs.GivenLaws.{given_fault, given_fine}
use Rattle.cause.proofs.CheckLaws.{accepted_pass}
use Rattle.std.specs.Prelude.{Result, Ok, Err}
use Rattle.container.specs.Layout.{format_of, msg_start, header}
use Rattle.container.specs.Grants.{header_grant}
use Rattle.container.specs.declared.grant.Grant.{Grant}
use Rattle.message.specs.Charges.{charges}
use Rattle.reader.specs.Reading.{bytes_in, carried, state_checks, judge_checks, next_reader}
use Rattle.reader.specs.declared.carry.Carry.{Carry}
use Rattle.reader.proofs.AnswerLaws.{judge_state}
use Rattle.reader.proofs.CarryLaws.{next_valid}
use Rattle.reader.proofs.NextLaws.{carry_part, valid_short}
use Rattle.pools.specs.Pools.{message_checks, grant_checks, charged_to, paid_to, granted_by, granted_to}
use Rattle.ledger.specs.Entries.{cells_in}
use Rattle.ledger.specs.Audit.{receiver_of, reader_of, ledger_ok, opposite, begun, granted, credit_checks, capacity_checks, audit_checks, auditing}
use Rattle.pools.specs.Rows.{row, nested, flattened, entry_of, rows}
use Rattle.pools.specs.TalliesMirror.{starts_checks, starts_pay, grant_check, crdt_checks, crdt_gives}
use Rattle.pools.specs.Tallies.{tally_of, begun_tally, grants_give, granted_tally}
use Rattle.ledger.specs.CountingMirror.{credit_row_checks, capacity_row_checks, settled_held, settled_open, entered, count_checks, settling}
use Rattle.pools.specs.declared.receiver.Receiver.{Receiver}
use Rattle.ledger.specs.declared.ledger.Ledger.{Ledger}
use Rattle.ledger.specs.declared.ledger.Step.{Step}
use Rattle.pools.proofs.RowLaws.{row_equal}
use Rattle.cause.proofs.EachLaws.{Each, each_passes}
use Rattle.ledger.proofs.CountLaws.{short_checks, over_checks}
use Rattle.pools.proofs.PassLaws.{stops_before, goes_behind, begun_is, granted_is}
use Rattle.pools.proofs.EntryLaws.{starts_checks_law, starts_pay_law, crdt_checks_law, crdt_gives_law}
use Rattle.ledger.proofs.ValidLaws.{ledger_valid}
use Rattle.ledger.proofs.SettleLaws.{skip, paid_row, given_row, settles}

-- ---- the pools

-- checks of pools that pass, pool by pool
pool_at : {checks : ℕ → ℕ → List Check} {test : ℕ → Bool} {a : Cause} → Each checks test a → first_fault (checks 14 0) ≡ Accepted → (p : ℕ) → p < 14 → test p ≡ true
pool_at {checks} s e p b = each_passes s 14 0 (accepted_pass (checks 14 0) e) p (omega arith) (omega arith)

-- no entry behind the last pool
past : (l : List ℕ) (p : ℕ) → length l ≤ 14 → 14 ≤ p → get_or l p 0 ≡ 0
past l p n h = get_or-eq_default l 0 (omega arith)

row_short : (l : List ℕ) (e : ℕ) → length (get_or (nested l) e []) ≤ 14
row_short l zero = rw (length-take 14 l) (omega arith)
row_short l (suc zero) = rw (length-take 14 (drop 14 l)) (omega arith)
row_short l (suc (suc e)) = omega arith

-- RP of a header's grant
pub grant_plane : (f : ℕ) (c : List ℕ) {g : Grant} → g ≡ header_grant (format_of f) c → g.rp < 8
grant_plane f c {g} e =
    let q : g.rp ≡ header (format_of f) c 2 / 2 % 8 = ap (λ (x : Grant). x.rp) e in omega arith

-- an entry that reads, by the verdicts of 15 and then 16
module _ (s : Ledger) (d : ℕ) (next : Carry) (begun granted : List ℕ) {held : List (List ℕ)} (eh : held ≡ nested s.held) {v : Verdict}
    (ev : v ≡ first_fault (credit_row_checks (get_or held d []) begun 14 0)) where
  abbrev shorts : List Check
  shorts = credit_row_checks (get_or (nested s.held) d []) begun 14 0

  abbrev overs : List Check
  overs =
      capacity_row_checks (get_or (nested s.held) (1 - d) []) (get_or (nested s.opened) (1 - d) []) granted (receiver_of s (1 - d)).capacities 14 0

  short_verdict : v ≡ first_fault shorts
  short_verdict = ev ∙ ap (λ (t : List (List ℕ)). first_fault (credit_row_checks (get_or t d []) begun 14 0)) eh

  settle_refused : {f : Fault} → first_fault (count_checks s d begun granted) ≡ Err f → {r : Step} → r ≡ record { ledger = s; answer = Err f } → r ≡ settling s d next begun granted
  unfolding settling
  settle_refused e er = er ∙ rw e

  pub short_refused : {f : Fault} → v ≡ Err f → {r : Step} → r ≡ record { ledger = s; answer = Err f } → r ≡ settling s d next begun granted
  short_refused e er = settle_refused (stops_before shorts overs short_verdict e) er

  module _ (sound : v ≡ Accepted) where
    pub begun_covered : length begun ≡ 14 → (p : ℕ) → get_or begun p 0 ≤ entry_of held d p
    begun_covered n p =
        ⊎_elim
        (λ (b : p < 14). leb-true (get_or begun p 0) (entry_of held d p) (pool_at (short_checks (get_or held d []) begun) (sym ev ∙ sound) p b))
        (λ (b : 14 ≤ p). let z = past begun p (omega arith) b in omega arith) (lt_or_le p 14)

    module _ {opened : List (List ℕ)} (eo : opened ≡ nested s.opened) {o : ℕ} (oo : o ≡ 1 - d) {r : Receiver} (er : r ≡ receiver_of s o) {w : Verdict}
        (ew : w ≡ first_fault (capacity_row_checks (get_or held o []) (get_or opened o []) granted r.capacities 14 0)) where
      over_verdict : w ≡ first_fault overs
      over_verdict =
          ew ∙ (λ i. first_fault (capacity_row_checks (get_or (eh i) o []) (get_or (eo i) o []) granted (er i).capacities 14 0))
          ∙ ap (λ (x : ℕ). first_fault (capacity_row_checks (get_or (nested s.held) x []) (get_or (nested s.opened) x []) granted (receiver_of s x).capacities 14 0)) oo

      count_verdict : first_fault (count_checks s d begun granted) ≡ w
      count_verdict = goes_behind shorts overs short_verdict sound ∙ sym over_verdict

      pub over_refused : {f : Fault} → w ≡ Err f → {x : Step} → x ≡ record { ledger = s; answer = Err f } → x ≡ settling s d next begun granted
      over_refused e ex = settle_refused (count_verdict ∙ e) ex

      module _ (fine : w ≡ Accepted) where
        pub granted_fits : length granted ≡ 14 → ((p : ℕ) → get_or r.capacities p 0 < 2 ^ 32) → (p : ℕ) → entry_of held o p + get_or granted p 0 < 2 ^ 32
        granted_fits n limit p =
            ⊎_elim
            (λ (b : p < 14).
            let k = leb-true (entry_of held o p + (get_or granted p 0 + entry_of opened o p)) (get_or r.capacities p 0) (pool_at (over_checks (get_or held o []) (get_or opened o []) granted r.capacities) (sym ew ∙ fine) p b) in
            let m = limit p in omega arith)
            (λ (b : 14 ≤ p).
            let z = past granted p (omega arith) b in
            let y : entry_of held o p ≡ 0 = ap (λ (t : List (List ℕ)). entry_of t o p) eh ∙ past (get_or (nested s.held) o []) p (row_short s.held o) b in omega arith) (lt_or_le p 14)

        -- the ledger behind an entry whose counts are accepted
        pub settle_done : {h f : List ℕ} {hs fs : List (List ℕ)} {paid : List ℕ} {l : Ledger} → paid ≡ row (λ p. charged_to p (charges (take (next.len - 0) next.bytes))) 14 0
            → hs ≡ rows (settled_held d held begun granted) → h ≡ flattened hs
            → fs ≡ rows (settled_open d opened paid) → f ≡ flattened fs
            → l ≡ entered s d next h f → ◌≡◌ {A = Step} (record { ledger = l; answer = Accepted }) (settling s d next begun granted)
        unfolding settling
        settle_done {h} {f} ep ehs eh' efs ef el =
            let carry = ep ∙ ap (λ (m : List ℕ). row (λ p. charged_to p (charges m)) 14 0) (carry_part next) in
            let one : h ≡ flattened (rows (settled_held d (nested s.held) begun granted)) = eh' ∙ ap flattened (ehs ∙ ap (λ (t : List (List ℕ)). rows (settled_held d t begun granted)) eh) in
            let two : f ≡ flattened (rows (settled_open d (nested s.opened) (row (λ p. charged_to p (charges (bytes_in next))) 14 0))) =
            ef ∙ ap flattened (efs ∙ ap₂ (λ (t : List (List ℕ)) (x : List ℕ). rows (settled_open d t x)) eo carry) in
            rw (count_verdict ∙ fine) (ap (λ (x : Ledger). record { ledger = x; answer = Accepted }) (el ∙ ap₂ (entered s d next) one two))

-- ---- the entry

module _ (s : Ledger) (d : ℕ) (c : List ℕ) where
  audit_refused : {f : Fault} → first_fault (audit_checks s d c) ≡ Err f → {r : Step} → r ≡ record { ledger = s; answer = Err f } → r ≡ auditing s d c
  unfolding auditing
  audit_refused e er = er ∙ rw e

  module _ {t : Bool} (et : t ≡ (ltb d 2 && ledger_ok s)) where
    pub audit_invalid : not t ≡ true → {f : Fault} → f ≡ record { cause = InvalidState; place = 0 } → {r : Step} → r ≡ record { ledger = s; answer = Err f } → r ≡ auditing s d c
    unfolding audit_checks
    audit_invalid n ef er = audit_refused (rw (sym et ∙ not-true t n)) (er ∙ ap (λ (f : Fault). record { ledger = s; answer = Err f }) ef)

    module _ (n : not t ≡ false) where
      pub audit_long : (length c ≡ 256 → ⊥) → {f : Fault} → f ≡ record { cause = ContainerLength; place = 0 } → {r : Step} → r ≡ record { ledger = s; answer = Err f } → r ≡ auditing s d c
      unfolding audit_checks
      audit_long e ef er =
          audit_refused (rw (sym et ∙ not-false t n, ne_eqb (length c) 256 e)) (er ∙ ap (λ (f : Fault). record { ledger = s; answer = Err f }) ef)

      pub audit_admitted : (d < 2) × (ledger_ok s ≡ true)
      audit_admitted = let e = sym et ∙ not-false t n in (ltb-true d 2 (and_left (ltb d 2) (ledger_ok s) e), and_right (ltb d 2) (ledger_ok s) e)

  module _ (h : d < 2) (v : ledger_ok s ≡ true) (n : length c ≡ 256) where
    abbrev o : ℕ
    o = opposite d

    abbrev state : List Check
    state = state_checks (reader_of s d) c

    abbrev messages : List Check
    messages = message_checks (receiver_of s d) (cells_in (reader_of s d) c)

    abbrev grants : List Check
    grants = grant_checks (receiver_of s o) (header_grant (format_of s.format) c) (cells_in (reader_of s d) c)

    abbrev pools : List Check
    pools = credit_checks s d (begun s d c) 14 0 ++ capacity_checks s o (granted s d c) 14 0

    entry_accepted : first_fault (audit_checks s d c) ≡ first_fault (state ++ (messages ++ (grants ++ pools)))
    unfolding audit_checks
    entry_accepted = rw (lt-ltb d 2 h, v, eq-eqb (length c) 256 n)

    judge_verdict : first_fault (judge_checks (reader_of s d) c) ≡ first_fault state
    judge_verdict = judge_state (reader_of s d) c (ledger_valid s d v h).reader n

    -- a container that does not read
    pub read_refused : {k : Cause} {p : ℕ} → first_fault (judge_checks (reader_of s d) c) ≡ Refused k p → {f : Fault} → f ≡ record { cause = k; place = p }
        → {r : Step} → r ≡ record { ledger = s; answer = Err f } → r ≡ auditing s d c
    read_refused e ef er =
        audit_refused (entry_accepted ∙ stops_before state (messages ++ (grants ++ pools)) judge_verdict e) (er ∙ ap (λ (f : Fault). record { ledger = s; answer = Err f }) ef)

    module _ (j : first_fault (judge_checks (reader_of s d) c) ≡ Accepted) where
      reads : Pass state
      reads = accepted_pass state (sym judge_verdict ∙ j)

      -- the next carry is short
      pub next_short : {k : Carry} → k ≡ (next_reader (reader_of s d) c).carry → k.len ≤ 100
      next_short e = rw e (valid_short (next_reader (reader_of s d) c) (next_valid (reader_of s d) c j))

      -- 14 by the messages that start
      module _ {r : Receiver} (er : r ≡ receiver_of s d) {w : ℕ} (ew : w ≡ msg_start (format_of s.format) c) {t : Result (List ℕ) Fault} (counted : t ≡ begun_tally r c w) where
        begun_told : t ≡ given (first_fault messages) (paid_row s d c h)
        unfolding begun
        begun_told =
            counted ∙ begun_is r c w n ∙ (λ i. tally_of (starts_checks (er i) c (ew i) 12 0) (starts_pay c (ew i) 12 0))
            ∙ ap (λ (l : List Check). tally_of l (starts_pay c (msg_start (format_of s.format) c) 12 0)) (starts_checks_law s.format c n (receiver_of s d) 12 0 (carried (reader_of s d)) (omega arith))
            ∙ ap (given (first_fault messages))
            (row_equal (starts_pay c (msg_start (format_of s.format) c) 12 0) (λ p. paid_to p (begun s d c)) (λ p b. starts_pay_law s.format c n p 12 0 (carried (reader_of s d)) (omega arith)))

        pub begun_refused : {f : Fault} → t ≡ Err f → {x : Step} → x ≡ record { ledger = s; answer = Err f } → x ≡ auditing s d c
        begun_refused e ex =
            audit_refused (entry_accepted ∙ skip state (messages ++ (grants ++ pools)) reads
            ∙ stops_before messages (grants ++ pools) refl (given_fault (first_fault messages) (paid_row s d c h) (sym begun_told ∙ e))) ex

        -- 21 by the grants
        module _ {paid : List ℕ} (sound : t ≡ Ok paid) {q : Receiver} (eq : q ≡ receiver_of s o) {g : Grant} (eg : g ≡ header_grant (format_of s.format) c)
            {u : Result (List ℕ) Fault} (gives : u ≡ granted_tally q g c w) where
          paid_is : (first_fault messages ≡ Accepted) × (paid ≡ paid_row s d c h)
          paid_is = given_fine (first_fault messages) (paid_row s d c h) (sym begun_told ∙ sound)

          begun_pass : Pass messages
          begun_pass = accepted_pass messages paid_is.0

          granted_told : u ≡ given (first_fault grants) (given_row s d c h)
          unfolding granted begun granted_to
          granted_told =
              gives ∙ granted_is q c w g n (grant_plane s.format c eg)
              ∙ (λ i. tally_of (grant_check (eq i) (eg i) 12 ∷ crdt_checks (eq i) c (ew i) 12 0) (grants_give (eg i) c (ew i)))
              ∙ ap (λ (l : List Check). tally_of (grant_check (receiver_of s o) (header_grant (format_of s.format) c) 12 ∷ l) (grants_give (header_grant (format_of s.format) c) c (msg_start (format_of s.format) c)))
              (crdt_checks_law s.format c n (receiver_of s o) 12 0 (carried (reader_of s d)) (omega arith))
              ∙ ap (given (first_fault grants))
              (row_equal (λ p. granted_by p (header_grant (format_of s.format) c) + crdt_gives c (msg_start (format_of s.format) c) 12 0 p) (λ p. granted_to p (granted s d c))
              (λ p b. ap (λ (x : ℕ). granted_by p (header_grant (format_of s.format) c) + x) (crdt_gives_law s.format c n p 12 0 (carried (reader_of s d)) (omega arith))))

          pub granted_refused : {f : Fault} → u ≡ Err f → {x : Step} → x ≡ record { ledger = s; answer = Err f } → x ≡ auditing s d c
          granted_refused e ex =
              audit_refused (entry_accepted ∙ skip state (messages ++ (grants ++ pools)) reads ∙ skip messages (grants ++ pools) begun_pass
              ∙ stops_before grants pools refl (given_fault (first_fault grants) (given_row s d c h) (sym granted_told ∙ e))) ex

          -- then 15 and 16
          pub audit_settles : {given : List ℕ} → u ≡ Ok given → {next : Carry} → next ≡ (next_reader (reader_of s d) c).carry → {x : Step} → x ≡ settling s d next paid given → x ≡ auditing s d c
          audit_settles {given} e en ex =
              let whole = given_fine (first_fault grants) (given_row s d c h) (sym granted_told ∙ e) in
              ex ∙ (λ i. settling s d (en i) (paid_is.1 i) (whole.1 i))
              ∙ sym (settles s d c h v n reads begun_pass (accepted_pass grants whole.0))
