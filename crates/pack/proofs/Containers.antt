-- The containers of a list that is accepted carry all its messages. Assumes nothing.
use Prim.Native.Nat.{ℕ, zero, suc, ◌+◌, ◌-◌, ◌*◌, ◌≤◌, ◌<◌}
use mathlib.Core.Path.{◌≡◌, refl, sym, ap, ◌∙◌, subst}
use mathlib.Core.Bool.{Bool, true, false, ◌&&◌}
use mathlib.Core.List.{List, [], ◌∷◌, ◌++◌, append_assoc, append-nil}
use mathlib.Core.Logic.{⊎_elim}
use native.Mathlib.Omega.{arith}
use lib.ListN.{length, drop, length-append, length-drop}
use lib.Seq.{drop-drop, drop_at}
use lib.Dec.{eqb}
use borrow.Author.Tests.{lt-ltb, eq-eqb, eqb-true}
use Rattle.lists.specs.Pick.{pick}
use Rattle.lists.specs.Parts.{IsBytes, join_all}
use Rattle.lists.proofs.Tests.{cases, and_left, and_right, and_both}
use Rattle.cause.specs.Checks.{first_fault, Verdict, Accepted}
use Rattle.cause.specs.declared.Cause.TheVariants.{InvalidState}
use Rattle.cause.proofs.CheckLaws.{both_accepted}
use Rattle.container.specs.Layout.{Format, format_of}
use Rattle.message.proofs.HeadLaws.{is_message_law, message_size, size_most}
use Rattle.record.specs.Number.{number, read_number}
use Rattle.record.specs.Records.{record_of, records_of, AllMessages, list_fault}
use Rattle.record.proofs.NumberLaws.{written_read, number_small}
use Rattle.text.specs.Lines.{refusal_line}
use Rattle.writer.specs.Laying.{filled, owes_after, used_of}
use Rattle.writer.specs.Filling.{tail_of, writer_with, call_checks, fill_fault}
use Rattle.round_trip.specs.Calls.{Fills, FillingLeft, none, zero_grant, GrantsNothing, first_grants, UsedUp}
use Rattle.writer.specs.declared.writer.Writer.{Writer}
use Rattle.writer.proofs.Simulation.{idle}
use Rattle.writer.proofs.StateCases.{fill_callable}
use Rattle.round_trip.proofs.RoundTrip.{tail_of_law, list_left}
use Rattle.round_trip.proofs.Return.{list_returned}
use Rattle.round_trip.proofs.Bound.{Going, going_first, going_more, going_fills, going_none, one_more, plane_grants_nothing, call_accepted}
use Rattle.pack.specs.Packing.{containers_of, most_containers, output_of, list_output, output_behind, pack_output, CarriesAll}

-- ---- containers one by one

-- where nothing is left there is none
pub containers_none : (k : ℕ) (fm : Format) (t l : List ℕ) → (eqb (length t) 0 && eqb (length l) 0) ≡ true → containers_of k fm t l ≡ []
unfolding containers_of
containers_none zero fm t l e = refl
containers_none (suc k) fm t l e = rw e

pub containers_more : (k : ℕ) (fm : Format) (t l : List ℕ) → (eqb (length t) 0 && eqb (length l) 0) ≡ false
    → containers_of (suc k) fm t l ≡ filled fm zero_grant t l ∷ containers_of k fm (owes_after fm zero_grant t l)
    (drop (used_of fm zero_grant t l) l)
unfolding containers_of
containers_more k fm t l e = rw e

pub containers_out : (fm : Format) (t l : List ℕ) → containers_of 0 fm t l ≡ []
unfolding containers_of
containers_out fm t l = refl

-- writers of one format that are the same owe the same
pub same_tail : (f : ℕ) (t : List ℕ) (w : Writer) → w ≡ writer_with f t → tail_of w ≡ t
same_tail f t w e = ap tail_of e ∙ tail_of_law f t

-- ---- all containers of a list

module _ (f : ℕ) (small : f < 2) (l : List ℕ) (hb : IsBytes l) (short : length l ≤ 4096) where
  quiet : (i : ℕ) → GrantsNothing zero_grant
  quiet i = plane_grants_nothing 0 (omega arith)

  abbrev Fillings : List (List ℕ) → ℕ → Writer → Type 0
  Fillings cs at w = FillingLeft (writer_with f []) l cs (first_grants (λ i. zero_grant) (length cs)) at w

  -- fills that use the list up, behind the containers cs
  record Behind (cs : List (List ℕ)) (j at : ℕ) (t : List ℕ) : Type 0 where
    used_up : UsedUp f l (λ i. zero_grant) (length cs + j)
    all : used_up.containers ≡ cs ++ containers_of j (format_of f) t (drop at l)

  ends : (j at : ℕ) (w : Writer) (t : List ℕ) (cs : List (List ℕ)) → w ≡ writer_with f t → at ≤ length l → Fillings cs at w
      → (eqb (length t) 0 && eqb (length (drop at l)) 0) ≡ true → Behind cs j at t
  ends j at w t cs e within done test =
      let none-owed : length t ≡ 0 = eqb-true (length t) 0 (and_left (eqb (length t) 0) (eqb (length (drop at l)) 0) test) in
      let none_left : length (drop at l) ≡ 0 = eqb-true (length (drop at l)) 0
      (and_right (eqb (length t) 0) (eqb (length (drop at l)) 0) test) in
      let reached : at ≡ length l = omega (arith, length-drop at l) in
      record {
        used_up = record {
          containers = cs;
          writer = w;
          fills = subst (λ (i : ℕ). Fillings cs i w) reached done;
          owes_none = ap length (same_tail f t w e) ∙ none-owed;
          few = omega arith;
        };
        all = sym (ap (λ (x : List (List ℕ)). cs ++ x) (containers_none j (format_of f) t (drop at l) test) ∙ append-nil cs);
      }

  -- the tail is the one that the writer owes
  owed : (k at : ℕ) (w : Writer) (t : List ℕ) (g : Going f l k at w) → w ≡ writer_with f t → g.tail ≡ t
  owed k at w t g e = sym (tail_of_law f g.tail) ∙ ap tail_of (sym g.is_writer) ∙ same_tail f t w e

  -- where something is left, a message is not finished
  unfinished_left : (at : ℕ) (w : Writer) (t : List ℕ) → Going f l 0 at w → w ≡ writer_with f t
      → (eqb (length t) 0 && eqb (length (drop at l)) 0) ≡ true
  unfinished_left at w t g e =
      let a = going_none f l at w g in
      let none-owed : length t ≡ 0 = sym (ap length (same_tail f t w e)) ∙ a.1 in
      let none_left : length (drop at l) ≡ 0 = length-drop at l ∙ omega (arith, a.0) in
      and_both (eqb (length t) 0) (eqb (length (drop at l)) 0) (eq-eqb (length t) 0 none-owed) (eq-eqb (length (drop at l)) 0 none_left)

  -- one fill more
  module _ (k at : ℕ) (w : Writer) (t : List ℕ) (cs : List (List ℕ)) (g : Going f l k at w) (e : w ≡ writer_with f t)
      (done : Fillings cs at w) where
    abbrev fm : Format
    fm = format_of f

    abbrev c : List ℕ
    c = filled fm zero_grant t (drop at l)

    abbrev u : ℕ
    u = used_of fm zero_grant t (drop at l)

    abbrev t' : List ℕ
    t' = owes_after fm zero_grant t (drop at l)

    call : Fills w (drop at l) zero_grant c u (writer_with f t')
    call =
        subst (λ (x : List ℕ). Fills w (drop at l) zero_grant (filled fm zero_grant x (drop at l)) (used_of fm zero_grant x (drop at l))
        (writer_with f (owes_after fm zero_grant x (drop at l)))) (owed k at w t g e)
        (going_fills f l k at w g zero_grant (quiet 0).low (quiet 0).allowed small hb short)

    going : Going f l (k - 1) (at + u) (writer_with f t')
    going = going_more f l k at w g zero_grant (quiet 0).no_counts_held c u (writer_with f t') call

    more : Fillings (cs ++ (c ∷ [])) (at + u) (writer_with f t')
    more = one_more f small l hb short (λ i. zero_grant) quiet cs at w c u (writer_with f t') done call

    onward : (j : ℕ) → (eqb (length t) 0 && eqb (length (drop at l)) 0) ≡ false → Behind (cs ++ (c ∷ [])) j (at + u) t'
        → Behind cs (suc j) at t
    onward j test r =
        let few = r.used_up.few in
        record {
          used_up = record {
            containers = r.used_up.containers;
            writer = r.used_up.writer;
            fills = r.used_up.fills;
            owes_none = r.used_up.owes_none;
            few = omega (arith, length-append cs (c ∷ []));
          };
          all =
              r.all ∙ append_assoc cs (c ∷ []) (containers_of j fm t' (drop (at + u) l))
              ∙ ap (λ (x : List ℕ). cs ++ (c ∷ containers_of j fm t' x)) (sym (drop-drop u at l))
              ∙ ap (λ (x : List (List ℕ)). cs ++ x) (sym (containers_more j fm t (drop at l) test));
        }

  -- j fills finish j messages
  goes : (j k at : ℕ) (w : Writer) (t : List ℕ) (cs : List (List ℕ)) → Going f l k at w → w ≡ writer_with f t → Fillings cs at w → k ≤ j
      → Behind cs j at t
  goes zero k at w t cs g e done b =
      let z : k ≡ 0 = omega arith in
      ends zero at w t cs e g.left.within done (unfinished_left at w t (subst (λ (i : ℕ). Going f l i at w) z g) e)
  goes (suc j) k at w t cs g e done b =
      ⊎_elim (λ (test : (eqb (length t) 0 && eqb (length (drop at l)) 0) ≡ true). ends (suc j) at w t cs e g.left.within done test)
      (λ (test : (eqb (length t) 0 && eqb (length (drop at l)) 0) ≡ false).
      onward k at w t cs g e done j test
      (goes j (k - 1) (at + u k at w t cs g e done) (writer_with f (t' k at w t cs g e done)) (t' k at w t cs g e done)
      (cs ++ (c k at w t cs g e done ∷ [])) (going k at w t cs g e done) refl (more k at w t cs g e done) (omega arith)))
      (cases (eqb (length t) 0 && eqb (length (drop at l)) 0))

-- ---- the number of records

records_few : (ms : List (List ℕ)) → AllMessages ms → 11 * length ms ≤ length (records_of ms)
records_few [] a = omega arith
records_few (m ∷ ms) a =
    let h = is_message_law m a.0 in
    let least = (message_size m h).least in
    let sized = h.sized in
    let short : length m < 128 = omega (arith, size_most m) in
    let one = ap length (number_small (length m) short) in
    let rest = records_few ms a.1 in
    omega (arith, length-append (record_of m) (records_of ms), length-append (number (length m)) m)

-- ---- the output

pub list_checks_accepted : (f : ℕ) (l : List ℕ) → fill_fault (writer_with f []) l zero_grant 256 ≡ Accepted → list_fault l ≡ Accepted
unfolding fill_fault
list_checks_accepted f l e = (both_accepted (first_fault (call_checks (writer_with f []) (length l) zero_grant 256)) (list_fault l) e).1

-- a list that the first fill accepts
pub list_carried : (f : ℕ) (l : List ℕ) → IsBytes l → f < 2 → fill_fault (writer_with f []) l zero_grant 256 ≡ Accepted
    → CarriesAll f l (list_output f l)
list_carried f l hb small e =
    let short = (fill_callable (writer_with f []) l zero_grant 256 e).short in
    let ms = list_left l hb (list_checks_accepted f l e) in
    let count = ap length ms.1.records in
    let few : length ms.0 ≤ most_containers = omega (arith, records_few ms.0 ms.1.all) in
    let r = goes f small l hb short most_containers (length ms.0) 0 (writer_with f []) [] [] (going_first f l ms.0 ms.1) refl none
    few in
    record {
      used_up = r.used_up;
      output = ap (λ (v : Verdict). output_of v (containers_of most_containers (format_of f) [] l)) e ∙ ap join_all (sym r.all);
      all_out = list_returned f l r.used_up.containers _ r.used_up.writer small r.used_up.fills r.used_up.owes_none;
    }

-- messages of at most 4,096 bytes behind a format
pub messages_carried : (f : ℕ) (ms : List (List ℕ)) → f < 2 → IsBytes (records_of ms) → AllMessages ms → length (records_of ms) ≤ 4096
    → CarriesAll f (records_of ms) (pack_output (number f ++ records_of ms))
unfolding pack_output
messages_carried f ms small hb a short =
    let l = records_of ms in
    let sound = call_accepted f zero_grant [] [] l ms small (omega arith) refl idle (record { within = omega arith; records = refl; all = a })
    hb short 256 refl in
    let out : output_behind (number f ++ l) (read_number (number f ++ l)) ≡ list_output f l =
    ap (output_behind (number f ++ l)) (written_read f l (omega arith))
    ∙ ap (λ (t : Bool). pick t (list_output f (drop (length (number f)) (number f ++ l))) (refusal_line InvalidState 0)) (lt-ltb f 2 small)
    ∙ ap (list_output f) (drop_at (number f) l (length (number f)) refl) in
    subst (CarriesAll f l) (sym out) (list_carried f l hb small sound)
