-- The fills of one list, one behind the other: what stands in the room, and that where the first is accepted, all are. Assumes nothing.
use Prim.Native.Nat.{ℕ, zero, suc, ◌+◌, ◌-◌, ◌*◌, ◌≤◌, ◌<◌}
use mathlib.Core.Path.{◌≡◌, refl, sym, ap, ◌∙◌, subst}
use mathlib.Core.Bool.{true, false, ◌&&◌}
use mathlib.Core.List.{List, [], ◌++◌, append_assoc, append-nil}
use mathlib.Core.Logic.{◌⊎◌, inl, inr, ⊎_elim}
use native.Mathlib.Omega.{arith}
use native.Mathlib.Nat.{zero-add}
use lib.ListN.{length, take, drop, length-append, length-drop}
use lib.Seq.{drop-drop}
use lib.Dec.{eqb}
use borrow.Author.Tests.{eqb-true}
use borrow.Rule.Slice.PartMut.{put_mid, put_same}
use Rattle.lists.specs.Parts.{put, join_all, IsBytes}
use Rattle.lists.proofs.Tests.{and_right}
use Rattle.lists.proofs.PartLaws.{rest_is, length_zero, length_part, length_put, put_middle}
use Rattle.lists.proofs.PutLaws.{put_none, put_more}
use Rattle.cause.specs.Checks.{when_accepted, Verdict, Accepted, Refused}
use Rattle.std.specs.Prelude.{Ok, Err}
use Rattle.cause.specs.declared.Cause.{Cause}
use Rattle.container.specs.Layout.{Format, format_of}
use Rattle.writer.specs.Laying.{filled, owes_after, used_of}
use Rattle.writer.specs.Filling.{tail_of, writer_with, fill_fault, answer_of, filling, fill_bytes}
use Rattle.round_trip.specs.Calls.{Fills, zero_grant}
use Rattle.writer.specs.declared.writer.Writer.{Writer}
use Rattle.writer.specs.declared.writer.Step.{Step}
use Rattle.writer.specs.declared.writer.Answer.{Answer}
use Rattle.writer.specs.declared.writer.Answer.TheVariants as answer
use Rattle.writer.proofs.StateCases.{fill_callable}
use Rattle.writer.proofs.AnswerLaws.{fill_answer_refused, fill_answer_accepted}
use Rattle.round_trip.proofs.RoundTrip.{tail_of_law, list_left, box_length}
use Rattle.writer.proofs.Simulation.{idle, Left}
use Rattle.round_trip.proofs.Bound.{Going, going_first, going_more, going_fills, left_here, call_accepted}
use Rattle.pack.specs.Packing.{containers_of, most_containers, max_output, output_of, list_output, Written}
use Rattle.pack.proofs.Containers.{containers_none, containers_more, containers_out, list_checks_accepted}

-- an answer says one thing
same_used : (a : Answer) (u v : ℕ) → a ≡ answer.Accepted u → a ≡ answer.Accepted v → u ≡ v
same_used a u v p q = cc

never_both : (a : Answer) (u : ℕ) (c : Cause) (p : ℕ) → a ≡ answer.Accepted u → a ≡ answer.Refused c p → ⊥
never_both a u c p e q = let z : ◌≡◌ {A = ℕ} 0 1 = cc in omega arith

-- ---- a fill behind an accepted one

-- a writer along a list, with any number of messages not finished
abbrev pub Under : ℕ → List ℕ → Writer → ℕ → Type 0
Under f l w at = (k : ℕ) × Going f l k at w

-- what the list's first fill finds
abbrev pub found : ℕ → List ℕ → Verdict
found f l = fill_fault (writer_with f []) l zero_grant 256

module _ (f : ℕ) (small : f < 2) (l : List ℕ) (hb : IsBytes l) where
  -- a list that the first fill accepts
  starts : found f l ≡ Accepted → Under f l (writer_with f []) 0
  starts e = let k = list_left l hb (list_checks_accepted f l e) in (length k.0, going_first f l k.0 k.1)

  short : found f l ≡ Accepted → length l ≤ 4096
  short e = (fill_callable (writer_with f []) l zero_grant 256 e).short

  module _ (few : length l ≤ 4096) (w : Writer) (at : ℕ) (g : Under f l w at) where
    abbrev fm : Format
    fm = format_of f

    abbrev t : List ℕ
    t = g.1.tail

    owes : tail_of w ≡ t
    owes = ap tail_of g.1.is_writer ∙ tail_of_law f t

    abbrev box : List ℕ
    box = filled fm zero_grant (tail_of w) (drop at l)

    abbrev used : ℕ
    used = used_of fm zero_grant (tail_of w) (drop at l)

    abbrev next : Writer
    next = writer_with f (owes_after fm zero_grant (tail_of w) (drop at l))

    call : Fills w (drop at l) zero_grant box used next
    call =
        subst (λ (x : List ℕ). Fills w (drop at l) zero_grant (filled fm zero_grant x (drop at l)) (used_of fm zero_grant x (drop at l))
        (writer_with f (owes_after fm zero_grant x (drop at l)))) (sym owes)
        (going_fills f l g.0 at w g.1 zero_grant (omega arith) refl small hb few)

    whole_box : length box ≡ 256
    whole_box =
        ap (λ (x : List ℕ). length (filled fm zero_grant x (drop at l))) owes
        ∙ box_length f zero_grant (omega arith) refl g.1.carry t (drop at l) g.1.rest g.1.link
        (left_here l at g.1.rest g.1.left)

    onward : Under f l next (at + used)
    onward = (g.0 - 1, going_more f l g.0 at w g.1 zero_grant refl box used next call)

-- ---- before the first fill, or behind one of those that follow an accepted first one

abbrev Standing : ℕ → List ℕ → Writer → ℕ → ℕ → Type 0
Standing f l w at to = ((at ≡ 0) × (w ≡ writer_with f []) × (to ≡ 0)) ⊎ ((found f l ≡ Accepted) × Under f l w at)

-- the containers filled so far stand at the front of the room d, over d₀, in `to` bytes; `left` more may follow
pub record Packed (f : ℕ) (l d₀ d : List ℕ) (w : Writer) (at to : ℕ) : Type 0 where
  pub text : List ℕ
  pub left : ℕ
  pub within : at ≤ length l
  pub reached : length text ≡ to
  pub bound : to + 256 * left ≡ max_output
  pub room : d ≡ put 0 text d₀
  pub long : length d ≡ length d₀
  pub owed : w.len ≡ length (tail_of w)
  pub rest : join_all (containers_of most_containers (format_of f) [] l)
      ≡ text ++ join_all (containers_of left (format_of f) (tail_of w) (drop at l))
  pub standing : Standing f l w at to

pub packed_none : (f : ℕ) (l d : List ℕ) (w : Writer) → w ≡ writer_with f [] → Packed f l d d w 0 0
packed_none f l d w e = record {
  text = [];
  left = most_containers;
  within = omega arith;
  reached = refl;
  bound = refl;
  room = sym (put_none 0 d);
  long = refl;
  owed = subst (λ (x : Writer). x.len ≡ length (tail_of x)) (sym e) refl;
  rest = ap (λ (x : Writer). join_all (containers_of most_containers (format_of f) (tail_of x) l)) (sym e);
  standing = inl (refl, e, refl);
}

module _ (f : ℕ) (l d₀ d : List ℕ) (w : Writer) (at to : ℕ) (h : Packed f l d₀ d w at to) where
  -- where no container is to come
  ended : containers_of h.left (format_of f) (tail_of w) (drop at l) ≡ [] → found f l ≡ Accepted → Written (list_output f l) d₀ d (Ok to)
  ended e s =
      let all : list_output f l ≡ h.text =
      ap (λ (v : Verdict). output_of v (containers_of most_containers (format_of f) [] l)) s
      ∙ h.rest ∙ ap (λ (x : List (List ℕ)). h.text ++ join_all x) e ∙ append-nil h.text in
      let b = h.bound in
      (sym (ap length all ∙ h.reached), omega arith, h.room ∙ ap (λ (x : List ℕ). put 0 x d₀) (sym all))

  pub packed_out : to ≡ max_output → Written (list_output f l) d₀ d (Ok max_output)
  packed_out b =
      let z : h.left ≡ 0 = omega (arith, h.bound) in
      subst (λ (n : ℕ). Written (list_output f l) d₀ d (Ok n)) b
      (ended (ap (λ (k : ℕ). containers_of k (format_of f) (tail_of w) (drop at l)) z ∙ containers_out (format_of f) (tail_of w) (drop at l))
      (⊎_elim (λ a. let z = a.2 in absurd (omega arith)) (λ b. b.0) h.standing))

  module _ (small : f < 2) (hb : IsBytes l) where
    -- the list is used up and nothing is owed
    pub packed_done : (eqb w.len 0 && eqb (length l - at) 0) ≡ true → Written (list_output f l) d₀ d (Ok to)
    packed_done test =
        let owed : (eqb (length (tail_of w)) 0 && eqb (length (drop at l)) 0) ≡ true =
        ap (λ (k : ℕ). eqb k 0 && eqb (length (drop at l)) 0) (sym h.owed) ∙ ap (λ (k : ℕ). eqb w.len 0 && eqb k 0) (length-drop at l)
        ∙ test in
        let none : length l - at ≡ 0 = eqb-true (length l - at) 0 (and_right (eqb w.len 0) (eqb (length l - at) 0) test) in
        ended (containers_none h.left (format_of f) (tail_of w) (drop at l) owed)
        (⊎_elim (λ a. let z = a.0 in empty_accepted (length_zero l (omega arith))) (λ b. b.0) h.standing)
      where
        empty_accepted : l ≡ [] → found f l ≡ Accepted
        empty_accepted e =
            let left : Left l 0 [] = record { within = omega arith; records = e; all = tt } in
            call_accepted f zero_grant [] [] l [] small (omega arith) refl idle left hb (omega (arith, ap length e)) 256 refl

    -- one turn, before the list is used up
    module _ (big : max_output ≤ length d₀) (few : to < max_output) (r : Step) (d' : List ℕ)
        (er : r ≡ filling w (take (length l - at) (drop at l)) zero_grant (length (take ((to + 256) - to) (drop to d))))
        (ed : d' ≡ fill_bytes w (take (length l - at) (drop at l)) zero_grant (take ((to + 256) - to) (drop to d))) where
      abbrev part : List ℕ
      part = take ((to + 256) - to) (drop to d)

      fits : to + 256 ≤ max_output
      fits = let b = h.bound in omega arith

      long_part : length part ≡ 256
      long_part =
          let a = fits in
          let b = h.long in
          let e : (to + 256) - to ≡ 256 = omega arith in
          ap (λ (k : ℕ). length (take k (drop to d))) e ∙ length_part to 256 d (omega arith)

      step : r ≡ filling w (drop at l) zero_grant 256
      step = er ∙ ap (λ (x : List ℕ). filling w x zero_grant (length part)) (rest_is l at) ∙ ap (filling w (drop at l) zero_grant) long_part

      became : d' ≡ fill_bytes w (drop at l) zero_grant part
      became = ed ∙ ap (λ (x : List ℕ). fill_bytes w x zero_grant part) (rest_is l at)

      first : at ≡ 0 → w ≡ writer_with f [] → r ≡ filling (writer_with f []) l zero_grant 256
      first ea ew =
          step ∙ ap (λ (x : Writer). filling x (drop at l) zero_grant 256) ew ∙ ap
          (λ (k : ℕ). filling (writer_with f []) (drop k l) zero_grant 256) ea

      answered : at ≡ 0 → w ≡ writer_with f []
          → answer_of (found f l) (used_of (format_of f) zero_grant (tail_of (writer_with f [])) l) ≡ r.answer
      unfolding filling
      answered ea ew = sym (ap (λ (x : Step). x.answer) (first ea ew))

      -- ---- a refusal

      refused_first : (c : Cause) (p : ℕ) → r.answer ≡ answer.Refused c p
          → (found f l ≡ Refused c p) × (at ≡ 0) × (w ≡ writer_with f []) × (to ≡ 0)
      refused_first c p q =
          ⊎_elim (λ a. (fill_answer_refused (found f l) _ c p (answered a.0 a.1 ∙ q), a.0, a.1, a.2))
          (λ b. absurd (never_both r.answer _ c p
          (ap (λ (x : Step). x.answer) step ∙ (call f small l hb (short f small l hb b.0) w at b.1).answer) q)) h.standing

      -- nothing has changed
      unchanged : (c : Cause) (p : ℕ) → r.answer ≡ answer.Refused c p → put_mid to ((to + 256) - to) d d' ≡ d₀
      unfolding fill_bytes
      unchanged c p q =
          let a = refused_first c p q in
          let v : fill_fault w (drop at l) zero_grant (length part) ≡ Refused c p =
          ap (fill_fault w (drop at l) zero_grant) long_part ∙ ap (λ (x : Writer). fill_fault x (drop at l) zero_grant 256) a.2 ∙ ap
          (λ (k : ℕ). fill_fault (writer_with f []) (drop k l) zero_grant 256) a.1 ∙ a.0 in
          let same : d' ≡ part = became ∙ ap
          (λ (x : Verdict). when_accepted x (filled (format_of w.format) zero_grant (tail_of w) (drop at l)) part) v in
          let none : h.text ≡ [] = length_zero h.text (h.reached ∙ a.3) in
          ap (put_mid to ((to + 256) - to) d) same ∙ put_same to ((to + 256) - to) d ∙ h.room ∙ ap (λ (x : List ℕ). put 0 x d₀) none
          ∙ put_none 0 d₀

      pub packed_refused : (c : Cause) (p : ℕ) → r.answer ≡ answer.Refused c p
          → Written (list_output f l) d₀ (put_mid to ((to + 256) - to) d d') (Err (record { cause = c; place = p }))
      packed_refused c p q =
          (ap (λ (v : Verdict). output_of v (containers_of most_containers (format_of f) [] l)) (refused_first c p q).0, unchanged c p q)

      -- ---- a container

      module _ (u : ℕ) (q : r.answer ≡ answer.Accepted u) where
        going : (found f l ≡ Accepted) × Under f l w at
        going =
            ⊎_elim (λ a. let e = (fill_answer_accepted (found f l) _ u (answered a.0 a.1 ∙ q)).0 in
            (e, rw (a.0, a.1) (starts f small l hb e)))
            (λ b. b) h.standing

        few_bytes : length l ≤ 4096
        few_bytes = short f small l hb going.0

        filled_call : Fills w (drop at l) zero_grant (filled (format_of f) zero_grant (tail_of w) (drop at l))
            (used_of (format_of f) zero_grant (tail_of w) (drop at l)) (writer_with f (owes_after (format_of f) zero_grant (tail_of w) (drop at l)))
        filled_call = call f small l hb few_bytes w at going.1

        used_is : used_of (format_of f) zero_grant (tail_of w) (drop at l) ≡ u
        used_is = same_used r.answer _ u (ap (λ (x : Step). x.answer) step ∙ filled_call.answer) q

        next_is : r.writer ≡ writer_with f (owes_after (format_of f) zero_grant (tail_of w) (drop at l))
        next_is = ap (λ (x : Step). x.writer) step ∙ filled_call.next

        under : Under f l r.writer (at + u)
        under =
            subst (λ (x : Writer). Under f l x (at + u)) (sym next_is)
            (subst (λ (k : ℕ). Under f l (writer_with f (owes_after (format_of f) zero_grant (tail_of w) (drop at l))) (at + k)) used_is
            (onward f small l hb few_bytes w at going.1))

        abbrev full : List ℕ
        full = filled (format_of f) zero_grant (tail_of w) (drop at l)

        is_box : d' ≡ full
        is_box = became ∙ filled_call.bytes part long_part

        long_box : length full ≡ 256
        long_box = whole_box f small l hb few_bytes w at going.1

        behind : put_mid to ((to + 256) - to) d d' ≡ put 0 (h.text ++ full) d₀
        behind =
            let a = fits in
            let b = h.reached in
            let e : (to + 256) - to ≡ 256 = omega arith in
            put_middle to ((to + 256) - to) d d' (ap length is_box ∙ long_box ∙ sym e)
            ∙ ap (λ (x : List ℕ). put to x d) is_box ∙ ap (put to full) h.room
            ∙ ap (λ (k : ℕ). put k full (put 0 h.text d₀)) (sym b ∙ sym (zero-add (length h.text)))
            ∙ put_more 0 h.text full d₀ (omega arith)

        long_text : length (h.text ++ full) ≡ to + 256
        long_text = length-append h.text full ∙ omega (arith, h.reached, long_box)

        module _ (test : (eqb w.len 0 && eqb (length l - at) 0) ≡ false) where
          owed_left : (eqb (length (tail_of w)) 0 && eqb (length (drop at l)) 0) ≡ false
          owed_left =
              ap (λ (k : ℕ). eqb k 0 && eqb (length (drop at l)) 0) (sym h.owed) ∙ ap (λ (k : ℕ). eqb w.len 0 && eqb k 0)
              (length-drop at l) ∙ test

          rest_more : (j : ℕ) → h.left ≡ suc j
              → join_all (containers_of most_containers (format_of f) [] l) ≡ (h.text ++ full) ++ join_all
              (containers_of j (format_of f) (tail_of r.writer) (drop (at + u) l))
          rest_more j e =
              let fm = format_of f in
              let tail : tail_of r.writer ≡ owes_after fm zero_grant (tail_of w) (drop at l) = ap tail_of next_is ∙ tail_of_law f _ in
              let list : drop (at + u) l ≡ drop (used_of fm zero_grant (tail_of w) (drop at l)) (drop at l) = sym (drop-drop u at l) ∙ ap
              (λ (k : ℕ). drop k (drop at l)) (sym used_is) in
              h.rest ∙ ap (λ (k : ℕ). h.text ++ join_all (containers_of k fm (tail_of w) (drop at l))) e
              ∙ ap (λ (x : List (List ℕ)). h.text ++ join_all x) (containers_more j fm (tail_of w) (drop at l) owed_left)
              ∙ ap (λ (x : List ℕ). h.text
              ++ (full ++ join_all (containers_of j fm x (drop (used_of fm zero_grant (tail_of w) (drop at l)) (drop at l))))) (sym tail)
              ∙ ap (λ (x : List ℕ). h.text ++ (full ++ join_all (containers_of j fm (tail_of r.writer) x))) (sym list)
              ∙ sym (append_assoc h.text full _)

          by : (k : ℕ) → h.left ≡ k → Packed f l d₀ (put_mid to ((to + 256) - to) d d') r.writer (at + u) (to + 256)
          by zero e = let b = h.bound in absurd (omega arith)
          by (suc j) e =
              let b = h.bound in
              let a = fits in
              record {
                text = h.text ++ full;
                left = j;
                within = under.1.left.within;
                reached = long_text;
                bound = omega arith;
                room = behind;
                long = ap length behind ∙ length_put 0 (h.text ++ full) d₀ (omega (arith, long_text));
                owed = subst (λ (x : Writer). x.len ≡ length (tail_of x)) (sym next_is)
                    (sym (ap length (tail_of_law f (owes_after (format_of f) zero_grant (tail_of w) (drop at l)))));
                rest = rest_more j e;
                standing = inr (going.0, under);
              }

          pub packed_more : (next : ℕ) → next ≡ to + 256 → Packed f l d₀ (put_mid to ((to + 256) - to) d d') r.writer (at + u) next
          packed_more next e = rw e (by h.left refl)
