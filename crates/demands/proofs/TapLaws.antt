-- The bench's reader and pools are a lawful link: no message is lost, states stay valid, and nothing is counted past the last pool.
-- Assumes nothing.
use Prim.Native.Nat.{ℕ, ◌+◌, ◌%◌, ◌≤◌, ◌<◌}
use mathlib.Core.Path.{◌≡◌, refl}
use mathlib.Core.Bool.{Bool, true, false, ◌&&◌, ◌||◌, not}
use mathlib.Core.List.{List, [], ◌∷◌, ◌++◌}
use mathlib.Core.Logic.{⊎_elim}
use native.Mathlib.Omega.{arith}
use lib.ListN.{length, get_or}
use lib.Dec.{eqb, ltb, leb}
use borrow.Author.Tests.{eqb-true, ltb-true, leb-true, eq-eqb, ne_eqb}
use Rattle.lists.specs.Pick.{pick}
use Rattle.lists.proofs.PickLaws.{pick_both}
use Rattle.lists.proofs.Tests.{cases, and_left, and_right, and_both}
use Rattle.cause.specs.Checks.{Pass, first_fault, passes, Verdict, Accepted}
use Rattle.cause.specs.declared.Cause.TheVariants.{MissingPool, MissingGrantPool}
use Rattle.cause.proofs.CheckLaws.{accepted_pass, pass_accepted, pass_front, pass_back, pass_append}
use Rattle.container.specs.Layout.{format_of}
use Rattle.container.specs.Grants.{header_grant}
use Rattle.container.specs.declared.grant.Grant.{Grant}
use Rattle.message.specs.Heads.{type_of, class_of}
use Rattle.message.specs.Places.{responses_by}
use Rattle.message.specs.Charges.{charges, res_plane, shared_crdt, req_pool, dat_pool, push_pool, credits_of, one_of, paid_by, listed}
use Rattle.message.specs.declared.charge.Charge.{Charge}
use Rattle.message.specs.declared.heads.Class.{Class}
use Rattle.message.specs.declared.heads.Class.TheVariants.{Unknown, Request, Response, Snoop, Data, RequestData, Misc}
use Rattle.reader.specs.Reading.{carried, reader_ok, reader_with, state_checks, judge_checks, next_reader}
use Rattle.reader.specs.declared.reader.Reader.{Reader}
use Rattle.reader.proofs.CarryLaws.{with_valid, next_valid}
use Rattle.pools.specs.Pools.{receiver_ok, capacities_ok, pays_req, payable, grantable, message_checks, grant_checks, charged_to, paid_to, granted_by, granted_to}
use Rattle.pools.proofs.GranuleLaws.{All, payable_all, grantable_all}
use Rattle.ledger.specs.Audit.{configured}
use Rattle.pools.specs.declared.receiver.Receiver.{Receiver}
use Rattle.ledger.proofs.CarriedLaws.{paid_kept, next_passes}
use Rattle.history.specs.Link.{Direction, direction0, direction1, opposite, Link, Lawful}
use Rattle.ledger.specs.Entries.{cells_in, starts_in}
use Rattle.demands.specs.Tap.{grants_from}
use Rattle.demands.specs.Tap.{receiver_for, rule_checks, link_of}
use Rattle.std.specs.Prelude.{Ok, Err}

-- a verdict that passes is sound
pub passes_accepted : (v : Verdict) → passes v ≡ true → v ≡ Accepted
passes_accepted (Ok _) e = refl
passes_accepted (Err fault) e = let z : ◌≡◌ {A = Bool} false true = e in absurd (let y : ◌≡◌ {A = ℕ} 0 1 = cc in omega arith)

pub accepted_passes : (v : Verdict) → v ≡ Accepted → passes v ≡ true
accepted_passes v e = rw e

-- a container that reads, rule by rule
pub record Reads (own other : Receiver) (s : Reader) (c : List ℕ) : Type 0 where
  pub long : length c ≡ 256
  pub state : Pass (state_checks s c)
  pub messages : Pass (message_checks own (cells_in s c))
  pub grants : Pass (grant_checks other (header_grant (format_of s.format) c) (cells_in s c))

module _ (own other : Receiver) (s : Reader) (c : List ℕ) where
  abbrev test : Bool
  test = eqb (length c) 256 && passes (first_fault (rule_checks own other s c))

  pub reads_by : test ≡ true → Reads own other s c
  reads_by e =
      let h = accepted_pass (rule_checks own other s c) (passes_accepted (first_fault (rule_checks own other s c)) (and_right (eqb (length c) 256) (passes (first_fault (rule_checks own other s c))) e)) in
      let b = pass_back (state_checks s c) (message_checks own (cells_in s c) ++ (grant_checks other (header_grant (format_of s.format) c) (cells_in s c) ++ [])) h in
      record {
        long = eqb-true (length c) 256 (and_left (eqb (length c) 256) (passes (first_fault (rule_checks own other s c))) e);
        state = pass_front (state_checks s c) (message_checks own (cells_in s c) ++ (grant_checks other (header_grant (format_of s.format) c) (cells_in s c) ++ [])) h;
        messages = pass_front (message_checks own (cells_in s c)) (grant_checks other (header_grant (format_of s.format) c) (cells_in s c) ++ []) b;
        grants = pass_front (grant_checks other (header_grant (format_of s.format) c) (cells_in s c)) [] (pass_back (message_checks own (cells_in s c)) (grant_checks other (header_grant (format_of s.format) c) (cells_in s c) ++ []) b);
      }

  pub by_reads : Reads own other s c → test ≡ true
  by_reads r =
      and_both (eqb (length c) 256) (passes (first_fault (rule_checks own other s c))) (eq-eqb (length c) 256 r.long)
      (accepted_passes (first_fault (rule_checks own other s c)) (pass_accepted (rule_checks own other s c)
      (pass_append (state_checks s c) (message_checks own (cells_in s c) ++ (grant_checks other (header_grant (format_of s.format) c) (cells_in s c) ++ [])) r.state
      (pass_append (message_checks own (cells_in s c)) (grant_checks other (header_grant (format_of s.format) c) (cells_in s c) ++ []) r.messages
      (pass_append (grant_checks other (header_grant (format_of s.format) c) (cells_in s c)) [] r.grants tt)))))

-- ---- no pool past the last
-- a valid receiver has at most eight planes
planes_most : (r : Receiver) → receiver_ok r ≡ true → r.planes ≤ 8
planes_most r e =
    leb-true r.planes 8 (and_right (leb 1 r.planes) (leb r.planes 8) (and_left (leb 1 r.planes && leb r.planes 8) (capacities_ok r 14 0) e))

-- what is charged to a pool below 14 is not charged past it
charged_past : (k q p : ℕ) (cs : List Charge) → q < 14 → 14 ≤ p → charged_to p cs ≡ 0 → charged_to p (credits_of k q ∷ cs) ≡ 0
charged_past k q p cs b h e = rw (ne_eqb q p (λ (z : q ≡ p). omega arith), e)

req_below : (first : ℕ) → res_plane first < 8 → req_pool first < 14
req_below first h = ⊎_elim (λ (t : shared_crdt first ≡ true). rw t (omega arith)) (λ (t : shared_crdt first ≡ false). rw t (omega arith)) (cases (shared_crdt first))

dat_below : (first : ℕ) → dat_pool first < 14
dat_below first = pick_both (λ (q : ℕ). q < 14) (shared_crdt first) (omega arith) (omega arith)

push_below : (second : ℕ) → push_pool second < 14
push_below second = pick_both (λ (q : ℕ). q < 14) (eqb (second % 2) 1) (omega arith) (omega arith)

-- what a message whose pools exist pays lies below pool 14
module _ (r : Receiver) (v : receiver_ok r ≡ true) (p : ℕ) (h : 14 ≤ p) where
  plane_below : (first : ℕ) → ltb (res_plane first) r.planes ≡ true → req_pool first < 14
  plane_below first e =
      let a = planes_most r v in
      let b = ltb-true (res_plane first) r.planes e in
      req_below first (omega arith)

  paid_class : (k : Class) (t first second : ℕ) → (not (pays_req k) || ltb (res_plane first) r.planes) ≡ true
      → charged_to p (listed (paid_by k t first second)) ≡ 0
  paid_class Unknown t first second e = refl
  paid_class Request t first second e = charged_past 1 (req_pool first) p [] (plane_below first e) h refl
  paid_class Response t first second e = charged_past (responses_by t) 9 p [] (omega arith) h refl
  paid_class Snoop t first second e = charged_past 1 10 p [] (omega arith) h refl
  paid_class Data t first second e = charged_past 1 (dat_pool first) p [] (dat_below first) h refl
  paid_class RequestData t first second e =
      charged_past 1 (req_pool first) p (one_of (push_pool second) ∷ []) (plane_below first e) h (charged_past 1 (push_pool second) p [] (push_below second) h refl)
  paid_class Misc t first second e = refl

  paid_past : (m : List ℕ) → payable r m ≡ true → charged_to p (charges m) ≡ 0
  paid_past m e = paid_class (class_of (type_of m)) (type_of m) (get_or m 0 0) (get_or m 1 0) (and_left (not (pays_req (class_of (type_of m))) || ltb (res_plane (get_or m 0 0)) r.planes) _ e)

  pub paid_none : (ms : List (List ℕ)) → All (λ m. payable r m ≡ true) ms → paid_to p ms ≡ 0
  unfolding paid_to
  paid_none [] h = refl
  paid_none (m ∷ ms) h =
      let a = paid_past m h.0 in
      let b = paid_none ms h.1 in
      omega arith

  -- a grant whose pools exist gives nothing past it
  given_past : (n : Grant) → grantable r n ≡ true → granted_by p n ≡ 0
  given_past n e =
      rw (ne_eqb p 9 (λ (z : p ≡ 9). omega arith), ne_eqb p 10 (λ (z : p ≡ 10). omega arith))
      (⊎_elim (λ (t : n.shc ≡ true). rw (t, ne_eqb p 0 (λ (z : p ≡ 0). omega arith), ne_eqb p 11 (λ (z : p ≡ 11). omega arith))) own (cases n.shc))
    where
      past : (eqb n.dat 0 || (r.push && ltb n.rp 2)) ≡ true → pick (eqb p (12 + n.rp)) n.dat 0 ≡ 0
      past d =
          ⊎_elim
          (λ (t : eqb n.dat 0 ≡ true). let z = eqb-true n.dat 0 t in pick_both (λ (q : ℕ). q ≡ 0) (eqb p (12 + n.rp)) z refl)
          (λ (t : eqb n.dat 0 ≡ false).
          let q : (r.push && ltb n.rp 2) ≡ true = rw t at d in
          let b = ltb-true n.rp 2 (and_right r.push (ltb n.rp 2) q) in
          rw (ne_eqb p (12 + n.rp) (λ (z : p ≡ 12 + n.rp). omega arith)))
          (cases (eqb n.dat 0))

      own : n.shc ≡ false → pick n.shc (pick (eqb p 0) n.req (pick (eqb p 11) n.dat 0)) (pick (eqb p (1 + n.rp)) n.req (pick (eqb p (12 + n.rp)) n.dat 0)) ≡ 0
      own t =
          let a = planes_most r v in
          let counted = eqb n.dat 0 || (r.push && ltb n.rp 2) in
          let w : (ltb n.rp r.planes && counted) ≡ true = rw t at e in
          let b = ltb-true n.rp r.planes (and_left (ltb n.rp r.planes) counted w) in
          let d = and_right (ltb n.rp r.planes) counted w in
          rw (t, ne_eqb p (1 + n.rp) (λ (z : p ≡ 1 + n.rp). omega arith)) (past d)

  pub given_none : (ns : List Grant) → All (λ n. grantable r n ≡ true) ns → granted_to p ns ≡ 0
  unfolding granted_to
  given_none [] h = refl
  given_none (n ∷ ns) h =
      let a = given_past n h.0 in
      let b = given_none ns h.1 in
      omega arith

-- ---- the laws of the link
module _ (f : ℕ) (a b : Receiver) (v : configured f a b ≡ true) where
  abbrev K : Link
  K = link_of f a b

  pub receiver_valid : (d : Direction) → receiver_ok (receiver_for a b d) ≡ true
  receiver_valid direction0 = and_left (receiver_ok a) (receiver_ok b) (and_right (ltb f 2) (receiver_ok a && receiver_ok b) v)
  receiver_valid direction1 = and_right (receiver_ok a) (receiver_ok b) (and_right (ltb f 2) (receiver_ok a && receiver_ok b) v)

  -- a state of the link, test by test
  state_reader : (d : Direction) (s : Reader) → K.state_ok d s ≡ true → reader_ok s ≡ true
  state_reader d s e = and_left (reader_ok s) (payable (receiver_for a b d) (carried s)) e

  state_passes : (d : Direction) (s : Reader) → K.state_ok d s ≡ true → payable (receiver_for a b d) (carried s) ≡ true
  state_passes d s e = and_right (reader_ok s) (payable (receiver_for a b d) (carried s)) e

  rules : (d : Direction) (s : Reader) (c : List ℕ) → K.reads d s c ≡ true → Reads (receiver_for a b d) (receiver_for a b (opposite d)) s c
  rules d s c e = reads_by (receiver_for a b d) (receiver_for a b (opposite d)) s c e

  none_lost : (d : Direction) (s : Reader) (c : List ℕ) (p : ℕ) → K.state_ok d s ≡ true → K.reads d s c ≡ true
      → K.carried s p + K.begins d s c p ≡ K.finishes d s c p + K.carried (K.next d s c) p
  none_lost d s c p k e =
      let r = rules d s c e in
      let q = paid_kept s c (state_reader d s k) r.long r.state p in
      omega arith

  next_ok : (d : Direction) (s : Reader) (c : List ℕ) → K.state_ok d s ≡ true → K.reads d s c ≡ true → K.state_ok d (K.next d s c) ≡ true
  unfolding judge_checks
  next_ok d s c k e =
      let r = rules d s c e in
      let j : first_fault (judge_checks s c) ≡ Accepted = pass_accepted (judge_checks s c) (state_reader d s k, (eq-eqb (length c) 256 r.long, r.state)) in
      and_both (reader_ok (next_reader s c)) (payable (receiver_for a b d) (carried (next_reader s c))) (next_valid s c j)
      (next_passes s c (state_reader d s k) r.long r.state (receiver_for a b d) (state_passes d s k) r.messages)

  no_finish : (d : Direction) (s : Reader) (c : List ℕ) (p : ℕ) → K.state_ok d s ≡ true → K.reads d s c ≡ true → 14 ≤ p → K.finishes d s c p ≡ 0
  no_finish d s c p k e h =
      let r = rules d s c e in
      let n = none_lost d s c p k e in
      let x = paid_none (receiver_for a b d) (receiver_valid d) p h (starts_in s c) (payable_all (receiver_for a b d) MissingPool 0 (cells_in s c) r.messages) in
      let m = paid_past (receiver_for a b d) (receiver_valid d) p h (carried s) (state_passes d s k) in
      omega arith

  -- every grant of a container that reads finds its pools
  grants_pass : (d : Direction) (s : Reader) (c : List ℕ) → Pass (grant_checks (receiver_for a b (opposite d)) (header_grant (format_of s.format) c) (cells_in s c))
      → All (λ n. grantable (receiver_for a b (opposite d)) n ≡ true) (grants_from s c)
  grants_pass d s c h = (h.0, grantable_all (receiver_for a b (opposite d)) MissingGrantPool 0 (cells_in s c) h.1)

  pub lawful : Lawful (link_of f a b)
  lawful = record {
    none_at_first = λ p. refl;
    none_lost = none_lost;
    fresh_ok = λ d. and_both (reader_ok (reader_with f [])) true (with_valid f [] (and_left (ltb f 2) (receiver_ok a && receiver_ok b) v) refl (omega arith)) refl;
    next_ok = next_ok;
    no_grant_law = λ d s c p e h. given_none (receiver_for a b (opposite d)) (receiver_valid (opposite d)) p h (grants_from s c) (grants_pass d s c (rules d s c e).grants);
    no_begin = λ d s c p e h. paid_none (receiver_for a b d) (receiver_valid d) p h (starts_in s c) (payable_all (receiver_for a b d) MissingPool 0 (cells_in s c) (rules d s c e).messages);
    no_finish = no_finish;
  }
