-- The link reads exactly the containers that keep the rules in the papers' words, counts the messages that start in them, and carries no
-- response. Assumes nothing.
use Prim.Native.Nat.{ℕ, zero, suc, ◌+◌, ◌<◌}
use mathlib.Core.Path.{◌≡◌, sym, ap, ◌∙◌}
use mathlib.Core.Bool.{Bool, true, false, ◌&&◌}
use mathlib.Core.List.{List, [], ◌∷◌, ◌++◌, append_assoc, append-nil}
use mathlib.Core.Logic.{◌⊎◌, ⊎_elim, ◌↔◌}
use native.Mathlib.Numerals.{add-one}
use native.Mathlib.Omega.{arith}
use lib.ListN.{length}
use lib.Dec.{eqb}
use borrow.Author.Tests.{eqb-true}
use Rattle.lists.specs.Pick.{pick}
use Rattle.lists.proofs.Tests.{cases}
use Rattle.cause.specs.Checks.{Pass, first_fault, passes}
use Rattle.container.specs.Layout.{Format, format_of, granule}
use Rattle.container.specs.Grants.{header_grant}
use Rattle.container.proofs.Formats.{lawful_of}
use Rattle.message.specs.Heads.{size_by}
use Rattle.message.specs.Places.{responses_by}
use Rattle.message.specs.Charges.{charges}
use Rattle.message.specs.HeadRules.{byte, type}
use Rattle.message.proofs.ChargeLaws.{responses_pay}
use Rattle.message.proofs.HeadRuleLaws.{row_size}
use Rattle.placement.specs.Cells.{cell_at, after, cells, startings}
use Rattle.reader.specs.Reading.{carried, state_checks}
use Rattle.placement.specs.Rules.{Rules, start_bit}
use Rattle.reader.specs.ValidState.{ValidState, Part}
use Rattle.reader.specs.declared.reader.Reader.{Reader}
use Rattle.placement.proofs.KeepsLaws.{passes_keeps, keeps_passes}
use Rattle.placement.proofs.RulesLaws.{rules_exactly}
use Rattle.reader.proofs.ReadRules.{carry_exactly}
use Rattle.pools.specs.Pools.{message_checks, grant_checks, charged_to}
use Rattle.pools.specs.PoolRules.{KeepsPools}
use Rattle.pools.specs.declared.receiver.Receiver.{Receiver}
use Rattle.pools.proofs.PaymentRuleLaws.{pays_exactly, responses_counted}
use Rattle.pools.proofs.GrantRuleLaws.{gives_exactly}
use Rattle.pools.proofs.KeepsPoolsLaws.{pools_exactly}
use Rattle.history.specs.Link.{opposite}
use Rattle.ledger.specs.Entries.{cells_in, starts_in}
use Rattle.demands.specs.Tap.{receiver_for, rule_checks}
use Rattle.demands.specs.LinkRules.{KeepsRules, started_in, LinkRules}
use Rattle.demands.proofs.TapLaws.{reads_by, by_reads}

-- ---- the messages that start
module _ (fm : Format) (c : List ℕ) where
  -- the message that starts in granule g, if one does
  abbrev starting : ℕ → List (List ℕ)
  starting g = pick (eqb (start_bit fm c g) 1) (granule fm g c ∷ []) []

  started_next : (g : ℕ) → started_in fm c (g + 1) ≡ started_in fm c g ++ starting g
  unfolding started_in
  started_next g = ap (started_in fm c) (add-one g)

  -- those in k granules from g on, behind those below g
  started_behind : (k g : ℕ) (m : List ℕ) → started_in fm c g ++ startings (cells fm c k g m) ≡ started_in fm c (g + k)
  unfolding cells startings
  started_behind zero g m = append-nil (started_in fm c g) ∙ ap (started_in fm c) (omega arith)
  started_behind (suc k) g m =
      let x = after fm g (cell_at fm g c m) m in
      sym (append_assoc (started_in fm c g) (starting g) (startings (cells fm c k (g + 1) x)))
      ∙ ap (λ (l : List (List ℕ)). l ++ startings (cells fm c k (g + 1) x)) (sym (started_next g))
      ∙ started_behind k (g + 1) x ∙ ap (started_in fm c) (omega arith)

starts_all : (s : Reader) (c : List ℕ) → starts_in s c ≡ started_in (format_of s.format) c 12
unfolding started_in
starts_all s c = started_behind (format_of s.format) c 12 0 (carried s)

-- ---- the containers that the link reads
module _ (own other : Receiver) (s : Reader) (c : List ℕ) (valid : ValidState s) where
  abbrev fm : Format
  fm = format_of s.format

  -- the checks of the reader are the rules for bytes, heads and placement
  state_rules : length c ≡ 256 → Pass (state_checks s c) ↔ Rules fm (carried s) c
  unfolding state_checks
  state_rules n =
      let r = rules_exactly fm (lawful_of s.format) (carried s) c n ((carry_exactly (carried s)).1 valid.carry) in
      (λ h. r.1 (passes_keeps fm (carried s) c h), λ k. keeps_passes fm (carried s) c (r.0 k))

  -- the checks of pools are the rules for pools
  pools_rules : Rules fm (carried s) c → (Pass (message_checks own (cells_in s c)) × Pass (grant_checks other (header_grant fm c) (cells_in s c))) ↔ KeepsPools own other fm c
  pools_rules k = pools_exactly own other fm (carried s) c (λ g b t. ((k.granules g b).head t).eight)

  abbrev test : Bool
  test = eqb (length c) 256 && passes (first_fault (rule_checks own other s c))

  test_exactly : (test ≡ true) ↔ KeepsRules own other s c
  test_exactly = (
    λ e. let r = reads_by own other s c e in let k = (state_rules r.long).0 r.state in record { size = r.long; rules = k; pools = (pools_rules k).0 (r.messages, r.grants) },
    λ r. let p = (pools_rules r.rules).1 r.pools in by_reads own other s c (record { long = r.size; state = (state_rules r.size).1 r.rules; messages = p.0; grants = p.1 }),
  )

-- ---- responses
-- a message longer than a granule is none
no_response : (t o : ℕ) → 20 < size_by t o → responses_by t ≡ 0
no_response t o h = ⊎_elim single (λ (e : eqb t 3 ≡ false). ⊎_elim double (λ (f : eqb t 4 ≡ false). rw (e, f)) (cases (eqb t 4))) (cases (eqb t 3))
  where
    single : eqb t 3 ≡ true → responses_by t ≡ 0
    single e = let z : 20 < 10 = rw (eqb-true t 3 e) at h in absurd (omega arith)

    double : eqb t 4 ≡ true → responses_by t ≡ 0
    double e = let z : 20 < 20 = rw (eqb-true t 4 e) at h in absurd (omega arith)

none_carried : (m : List ℕ) → (m ≡ []) ⊎ Part m → charged_to 9 (charges m) ≡ 0
none_carried m v =
    ⊎_elim (λ (e : m ≡ []). rw e)
    (λ (p : Part m).
    let e = row_size p.sized in
    let some = p.some in
    let more = p.not_all in
    responses_counted m p.headed.eight ∙ no_response (type m) (byte m 1) (omega arith)) v

pub link_rules : LinkRules
link_rules = record {
  reads_exactly = λ f a b d s c valid. test_exactly (receiver_for a b d) (receiver_for a b (opposite d)) s c valid;
  starts_are = starts_all;
  pays_exactly = pays_exactly;
  responses_pay = responses_pay;
  responses_counted = responses_counted;
  responses_whole = λ s v. none_carried (carried s) v.carry;
  gives_exactly = gives_exactly;
}
