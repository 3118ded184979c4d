-- The messages that a reader hands out are those that end in the container by where they lie, in order of their last granules. Assumes
-- nothing.
use Prim.Native.Nat.{ℕ, zero, suc, ◌+◌, ◌-◌, ◌*◌, ◌≤◌, ◌<◌}
use mathlib.Core.Path.{◌≡◌, refl, sym, ap, ◌∙◌, subst}
use mathlib.Core.Bool.{Bool, true, false, ◌&&◌}
use mathlib.Core.List.{List, [], ◌∷◌, ◌++◌, append-nil}
use mathlib.Core.Logic.{◌⊎◌, inl, inr, ⊎_elim}
use native.Mathlib.Omega.{arith}
use lib.ListN.{length, take, length-append}
use lib.Dec.{eqb, ltb, leb}
use borrow.Author.Tests.{ltb-true, ltb-false, leb-true, leb-false, eq-eqb, eqb-true, eqb-false}
use Rattle.lists.specs.Pick.{pick}
use Rattle.lists.proofs.Tests.{cases, true_t, never_both}
use Rattle.lists.proofs.Order.{lt_or_le}
use Rattle.container.specs.Layout.{Format, wide, granule, msg_start, bit}
use Rattle.container.specs.Lawful.{Lawful}
use Rattle.message.specs.Heads.{msg_size}
use Rattle.message.specs.HeadRules.{Bytes}
use Rattle.message.proofs.HeadLaws.{size_append}
use Rattle.message.proofs.HeadRuleLaws.{bytes_size, bytes_some, size_bytes}
use Rattle.placement.specs.Cells.{owed, cell_at, whole, ended, cells, carry_after, carry_ok}
use Rattle.placement.proofs.Keeps.{progress, cell_of, ended_to, KeepsGranule}
use Rattle.placement.specs.Rules.{start_bit, Origin, There, front, next, full, before, GoesOn}
use Rattle.placement.specs.Rules.Origin.{carry, at}
use Rattle.placement.specs.Completion.{so_far, Ended, Completes, In, Rising, bytes_of, InOrder, CarriesOn}
use Rattle.placement.proofs.ProgressLaws.{carry_of}
use Rattle.placement.proofs.FirmLaws.{carry_firm}
use Rattle.placement.proofs.OccupyLaws.{full_none, granule_sized, Under, Follow, on_goes, goes_on, far_owed, far_wide, before_wide, before_narrow, front_long}

-- ---- lists of messages
in_left : (e : Ended) (a b : List Ended) → In e a → In e (a ++ b)
in_left e [] b h = absurd h
in_left e (f ∷ a) b h = ⊎_elim (λ (x : e ≡ f). inl x) (λ (x : In e a). inr (in_left e a b x)) h

in_right : (e : Ended) (a b : List Ended) → In e b → In e (a ++ b)
in_right e [] b h = h
in_right e (f ∷ a) b h = inr (in_right e a b h)

in_cases : (e : Ended) (a b : List Ended) → In e (a ++ b) → In e a ⊎ In e b
in_cases e [] b h = inr h
in_cases e (f ∷ a) b h =
    ⊎_elim (λ (x : e ≡ f). inl (inl x)) (λ (x : In e (a ++ b)). ⊎_elim (λ (y : In e a). inl (inr y)) (λ (y : In e b). inr y) (in_cases e a b x)) h

bytes_append : (a b : List Ended) → bytes_of (a ++ b) ≡ bytes_of a ++ bytes_of b
bytes_append [] b = refl
bytes_append (e ∷ a) b = rw (bytes_append a b)

rising_more : (a : List Ended) (e : Ended) → Rising a → ((f : Ended) → In f a → f.last < e.last) → Rising (a ++ (e ∷ []))
rising_more [] e r h = (λ f x. absurd x, tt)
rising_more (d ∷ a) e r h = (
  λ f x. ⊎_elim (λ (y : In f a). r.0 f y) (λ (y : In f (e ∷ [])). ⊎_elim (λ (z : f ≡ e). subst (λ (t : Ended). d.last < t.last) (sym z) (h d (inl refl))) (λ z. absurd z) y) (in_cases f a (e ∷ []) x),
  rising_more a e r.1 (λ f x. h f (inr x)),
)

ended_same : (e f : Ended) → e.origin ≡ f.origin → e.last ≡ f.last → e.bytes ≡ f.bytes → e ≡ f
ended_same e f p q r = λ i. record { origin = p i; last = q i; bytes = r i }

full_grows : (fm : Format) (s g h : ℕ) → g ≤ h → length (full fm s g) ≤ length (full fm s h)
unfolding full
full_grows fm s g zero l = let e : g ≡ 0 = omega arith in rw e (omega arith)
full_grows fm s g (suc h) l =
    ⊎_elim (λ (t : eqb g (suc h) ≡ true). rw (eqb-true g (suc h) t) (omega arith))
    (λ (t : eqb g (suc h) ≡ false). let d = eqb-false g (suc h) t in let i = full_grows fm s g h (omega arith) in rw (length-append (full fm s h) (pick (leb s h && eqb (fm.size h) 20) (h ∷ []) [])) (omega arith))
    (cases (eqb g (suc h)))

module _ (fm : Format) (law : Lawful fm) (m c : List ℕ) (n256 : length c ≡ 256) (valid : carry_ok m ≡ true) where
  abbrev Done : Ended → Type 0
  Done e = Completes fm m c e

  -- ---- which message, and where it ends, decide all
  done_size : (e f : Ended) (x : Done e) (y : Done f) → e.origin ≡ f.origin → x.size ≡ y.size
  done_size e f x y o =
      sym (bytes_size (front fm m c e.origin) x.sized) ∙ ap (λ (r : Origin). msg_size (front fm m c r)) o ∙ bytes_size (front fm m c f.origin) y.sized

  done_same : (e f : Ended) → Done e → Done f → e.origin ≡ f.origin → e.last ≡ f.last → e ≡ f
  done_same e f x y o l =
      ended_same e f o l
      (x.cut
      ∙ ap (λ (k : ℕ). take k (so_far fm m c e.origin (suc e.last))) (done_size e f x y o)
      ∙ ap (λ (r : Origin). take y.size (so_far fm m c r (suc e.last))) o
      ∙ ap (λ (k : ℕ). take y.size (so_far fm m c f.origin (suc k))) l ∙ sym y.cut)

  not_later : (e f : Ended) → Done e → Done f → e.origin ≡ f.origin → e.last < f.last → ⊥
  not_later e f x y o l = ⊎_elim begins goes y.lies
    where
      begins : f.origin ≡ at f.last → ⊥
      begins a =
          ⊎_elim (λ (d : e.origin ≡ at e.last). let z : f.last ≡ e.last = cc (d, o, a) in omega arith)
          (λ (v : GoesOn fm m c e.origin x.size e.last). let z : f.last + 1 ≤ e.last = subst (λ (r : Origin). next r ≤ e.last) (o ∙ a) v.later in omega arith)
          x.lies

      goes : GoesOn fm m c f.origin y.size f.last → ⊥
      goes v =
          let s = done_size e f x y o in
          let a : x.size ≤ before fm m c f.origin (suc e.last) = subst (λ (r : Origin). x.size ≤ before fm m c r (suc e.last)) o x.all in
          let k = full_grows fm (next f.origin) (suc e.last) f.last (omega arith) in
          let w = v.more in
          omega arith

  pub done_once : (e f : Ended) → Done e → Done f → e.origin ≡ f.origin → e ≡ f
  done_once e f x y o =
      ⊎_elim (λ (l : e.last < f.last). absurd (not_later e f x y o l))
      (λ (l : f.last ≤ e.last). ⊎_elim (λ (k : f.last < e.last). absurd (not_later f e y x (sym o) k)) (λ (k : e.last ≤ f.last). done_same e f x y o (omega arith)) (lt_or_le f.last e.last))
      (lt_or_le e.last f.last)

  -- ---- one granule: the message that ends there, none or one
  data Here (g : ℕ) (ys : List (List ℕ)) : Type 0 where
    none : ys ≡ [] → ((e : Ended) → Done e → e.last ≡ g → ⊥) → Here g ys
    one : (e : Ended) → ys ≡ e.bytes ∷ [] → Done e → e.last ≡ g → ((f : Ended) → Done f → f.last ≡ g → f.origin ≡ e.origin) → Here g ys

  module _ (g : ℕ) (p : List ℕ) (b : g < 12) (fol : Follow fm law m c n256 valid g p) (k : KeepsGranule fm g (cell_at fm g c p)) where
    abbrev x : List ℕ
    x = granule fm g c

    abbrev on : Bool
    on = ltb 0 (owed p) && wide fm g

    abbrev st : Bool
    st = bit (msg_start fm c) g

    -- how a message that ends here came here
    comes : (e : Ended) (d : Done e) → e.last ≡ g → ((e.origin ≡ at g) × (st ≡ true)) ⊎ (GoesOn fm m c e.origin d.size g × (on ≡ true))
    comes e d l = ⊎_elim (λ (a : e.origin ≡ at g). let t : There fm c (at g) = subst (There fm c) a d.there in inl (a, eq-eqb (start_bit fm c g) 1 t.1)) (λ (v : GoesOn fm m c e.origin d.size g). inr (v, goes_on fm law m c n256 valid g p b fol e.origin d.size v)) ways
      where
        ways : (e.origin ≡ at g) ⊎ GoesOn fm m c e.origin d.size g
        ways = subst (λ (j : ℕ). (e.origin ≡ at j) ⊎ GoesOn fm m c e.origin d.size j) l d.lies

    goes_under : (o : Origin) (n : ℕ) → GoesOn fm m c o n g → Under fm m c o n g
    goes_under o n v = record { there = v.there; bytes = v.bytes; later = v.later; more = v.more }

    -- where a message goes on
    module _ (eo : on ≡ true) where
      not_start : st ≡ true → ⊥
      not_start t = k.apart (true_t on eo) (true_t st t)

      -- what was read with this granule of a message that goes on here
      far : (o : Origin) (n : ℕ) → GoesOn fm m c o n g → (p ++ x ≡ so_far fm m c o (suc g)) × (msg_size (p ++ x) ≡ n) × (length (p ++ x) ≡ before fm m c o (suc g))
      far o n v =
          let u = goes_under o n v in
          let q = far_owed fm law m c n256 valid o n g (omega arith) u p (fol.only o n u) in
          let fl = front_long fm law m c n256 valid o n v.there v.bytes in
          let e : p ++ x ≡ so_far fm m c o (suc g) = ap (λ (j : List ℕ). j ++ x) (fol.only o n u) ∙ sym (far_wide fm law m c n256 valid o g v.later v.wide) in
          let l : length x ≡ 20 = twenty v.wide in
          let s : msg_size (p ++ x) ≡ msg_size p = size_append p x (omega (arith, q.1)) in
          (e, s ∙ q.0, length-append p x ∙ rw (before_wide fm law m c n256 valid o g v.later v.wide) (omega (arith, q.1)))
        where
          twenty : fm.size g ≡ 20 → length x ≡ 20
          twenty w = granule_sized fm law m c n256 valid g b ∙ w

      here_on : Here g (pick (whole (p ++ x)) (take (msg_size (p ++ x)) (p ++ x) ∷ []) [])
      here_on = ⊎_elim last more (cases (whole (p ++ x)))
        where
          Goal : Type 0
          Goal = Here g (pick (whole (p ++ x)) (take (msg_size (p ++ x)) (p ++ x) ∷ []) [])

          way : (o : Origin) × (n : ℕ) × GoesOn fm m c o n g
          way = on_goes fm law m c n256 valid g p b fol eo

          last : whole (p ++ x) ≡ true → Goal
          last t =
              let o = way.0 in
              let n = way.1 in
              let v = way.2 in
              let q = far o n v in
              let l = leb-true (msg_size (p ++ x)) (length (p ++ x)) t in
              rw t (one (record { origin = o; last = g; bytes = take (msg_size (p ++ x)) (p ++ x) }) refl
              (record {
                size = n;
                there = v.there;
                sized = v.bytes;
                inside = b;
                lies = inr v;
                all = omega (arith, q.1, q.2);
                cut = ap (λ (j : ℕ). take j (p ++ x)) q.1 ∙ ap (take n) q.0;
              })
              refl
              (λ f d e. ⊎_elim (λ a. absurd (not_start a.1)) (λ a. fol.same f.origin o d.size n (goes_under f.origin d.size a.0) (goes_under o n v)) (comes f d e)))

          more : whole (p ++ x) ≡ false → Goal
          more t =
              let l = leb-false (msg_size (p ++ x)) (length (p ++ x)) t in
              rw t (none refl (λ f d e. ⊎_elim (λ a. not_start a.1) (λ a. let q = far f.origin d.size a.0 in let y : d.size ≤ before fm m c f.origin (suc g) = subst (λ (j : ℕ). d.size ≤ before fm m c f.origin (suc j)) e d.all in omega (arith, q.1, q.2)) (comes f d e)))

    -- where one starts
    here_start : on ≡ false → st ≡ true → Here g (pick (whole x) (take (msg_size x) x ∷ []) [])
    here_start eo es = ⊎_elim last more (cases (whole x))
      where
        Goal : Type 0
        Goal = Here g (pick (whole x) (take (msg_size x) x ∷ []) [])

        nil : full fm (g + 1) (suc g) ≡ []
        nil = full_none fm (g + 1) (suc g) (omega arith)

        last : whole x ≡ true → Goal
        last t =
            let l = leb-true (msg_size x) (length x) t in
            rw t (one (record { origin = at g; last = g; bytes = take (msg_size x) x }) refl
            (record {
              size = msg_size x;
              there = (b, eqb-true (start_bit fm c g) 1 es);
              sized = size_bytes x (k.known (true_t st es));
              inside = b;
              lies = inl refl;
              all = rw nil (omega arith);
              cut = rw (nil, append-nil x);
            })
            refl
            (λ f d e. ⊎_elim (λ a. a.0) (λ a. absurd (never_both eo a.1)) (comes f d e)))

        more : whole x ≡ false → Goal
        more t =
            let l = leb-false (msg_size x) (length x) t in
            rw t (none refl (λ f d e. ⊎_elim (λ a. short f d e a.0) (λ a. never_both eo a.1) (comes f d e)))
          where
            short : (f : Ended) (d : Done f) → f.last ≡ g → f.origin ≡ at g → ⊥
            short f d e a =
                let s : msg_size x ≡ d.size = ap (λ (r : Origin). msg_size (front fm m c r)) (sym a) ∙ bytes_size (front fm m c f.origin) d.sized in
                let y : d.size ≤ before fm m c f.origin (suc g) = subst (λ (j : ℕ). d.size ≤ before fm m c f.origin (suc j)) e d.all in
                let z : d.size ≤ length x + 20 * length (full fm (g + 1) (suc g)) = subst (λ (r : Origin). d.size ≤ before fm m c r (suc g)) a y in
                let w : length (full fm (g + 1) (suc g)) ≡ 0 = rw nil in
                let l = leb-false (msg_size x) (length x) t in
                omega arith

    here : Here g (ended (cell_at fm g c p) p)
    here = by on st refl refl
      where
        by : (a s : Bool) → on ≡ a → st ≡ s → Here g (ended (cell_at fm g c p) p)
        by true s ea es = rw ea (here_on ea)
        by false true ea es = rw (ea, es) (here_start ea es)
        by false false ea es = rw (ea, es) (none refl (λ f d e. ⊎_elim (λ a. never_both es a.1) (λ a. never_both ea a.1) (comes f d e)))

  -- ---- the granules below g
  record To (g : ℕ) (xs : List (List ℕ)) : Type 0 where
    list : List Ended
    out : xs ≡ bytes_of list
    each : (e : Ended) → In e list → Done e
    below : (e : Ended) → In e list → e.last < g
    rising : Rising list
    every : (e : Ended) → Done e → e.last < g → In e list

  to_next : (g : ℕ) (xs ys : List (List ℕ)) → To g xs → Here g ys → To (suc g) (xs ++ ys)
  to_next g xs ys t (none z h) = record {
    list = t.list;
    out = rw (z, append-nil xs) t.out;
    each = t.each;
    below = λ e i. let l = t.below e i in omega arith;
    rising = t.rising;
    every = λ e d l. t.every e d (let q : e.last ≡ g → ⊥ = h e d in omega arith);
  }
  to_next g xs ys t (one n z d l h) = record {
    list = t.list ++ (n ∷ []);
    out = rw (bytes_append t.list (n ∷ []), z, t.out);
    each = λ e i. ⊎_elim (λ (a : In e t.list). t.each e a) (λ (a : In e (n ∷ [])). ⊎_elim (λ (q : e ≡ n). subst Done (sym q) d) (λ q. absurd q) a) (in_cases e t.list (n ∷ []) i);
    below = λ e i. ⊎_elim (λ (a : In e t.list). let q = t.below e a in below_next e.last q) (λ (a : In e (n ∷ [])). ⊎_elim (λ (q : e ≡ n). subst (λ (r : Ended). r.last < suc g) (sym q) (rw l (omega arith))) (λ q. absurd q) a) (in_cases e t.list (n ∷ []) i);
    rising = rising_more t.list n t.rising (λ f i. rw l (t.below f i));
    every = λ e x q. ⊎_elim (λ (a : eqb e.last g ≡ true). let ea = eqb-true e.last g a in in_right e t.list (n ∷ []) (inl (done_same e n x d (h e x ea) (ea ∙ sym l)))) (λ (a : eqb e.last g ≡ false). let ea = eqb-false e.last g a in in_left e t.list (n ∷ []) (t.every e x (below_less e.last ea q))) (cases (eqb e.last g));
  }
    where
      below_next : (j : ℕ) → j < g → j < suc g
      below_next j q = omega arith

      below_less : (j : ℕ) → (j ≡ g → ⊥) → j < suc g → j < g
      below_less j q r = omega arith

  -- ---- a message that the granules below some granule hold to its end has a last one
  module _ (o : Origin) (n lim : ℕ) (t : There fm c o) (r : Bytes (front fm m c o) n) (inside : lim ≤ 12) (fits : n ≤ before fm m c o lim) where
    abbrev Last : Type 0
    Last = (e : Ended) × Done e × (e.origin ≡ o) × (e.last < lim)

    search_last : (j g : ℕ) → g + j ≡ lim → next o ≤ g → before fm m c o g < n → Last
    search_last zero g s h l = let z : g ≡ lim = omega arith in let y : before fm m c o lim < n = subst (λ (i : ℕ). before fm m c o i < n) z l in absurd (omega arith)
    search_last (suc j) g s h l =
        ⊎_elim
        (λ (a : leb n (before fm m c o (suc g)) ≡ true). (
          record { origin = o; last = g; bytes = take n (so_far fm m c o (suc g)) },
          record { size = n; there = t; sized = r; inside = omega arith; lies = inr (record { there = t; bytes = r; later = h; wide = twenty (leb-true n (before fm m c o (suc g)) a); more = l }); all = leb-true n (before fm m c o (suc g)) a; cut = refl },
          refl,
          omega arith,
        ))
        (λ (a : leb n (before fm m c o (suc g)) ≡ false). search_last j (suc g) (omega arith) (omega arith) (leb-false n (before fm m c o (suc g)) a))
        (cases (leb n (before fm m c o (suc g))))
      where
        twenty : n ≤ before fm m c o (suc g) → fm.size g ≡ 20
        twenty a = ⊎_elim (λ (w : eqb (fm.size g) 20 ≡ true). eqb-true (fm.size g) 20 w) (λ (w : eqb (fm.size g) 20 ≡ false). absurd (omega (arith, before_narrow fm law m c n256 valid o g h (eqb-false (fm.size g) 20 w)))) (cases (eqb (fm.size g) 20))

  -- of the carried message
  pub carry_last : (n lim : ℕ) → Bytes m n → lim ≤ 12 → n ≤ before fm m c carry lim → (e : Ended) × Done e × (e.origin ≡ carry) × (e.last < lim)
  carry_last n lim r inside fits = search_last carry n lim tt r inside fits lim 0 (omega arith) (omega arith) (rw (full_none fm 0 0 (omega arith)) (omega (arith, carried)))
    where
      carried : length m < n
      carried =
          let f = carry_firm m valid in
          let e = bytes_size m r in
          let z = bytes_some m r in
          ⊎_elim (λ (k : ltb 0 (owed m) ≡ true). let l = ltb-true 0 (owed m) k in omega arith)
          (λ (k : ltb 0 (owed m) ≡ false). let q : owed m ≡ 0 = omega (arith, ltb-false 0 (owed m) k) in let y : msg_size m ≡ 0 = rw (f.idle q) in absurd (omega arith))
          (cases (ltb 0 (owed m)))

  -- and of one that starts
  has_last : (o : Origin) (n : ℕ) → There fm c o → Bytes (front fm m c o) n → n ≤ before fm m c o 12 → (e : Ended) × Done e × (e.origin ≡ o) × (e.last < 12)
  has_last carry n t r fits = carry_last n 12 r (omega arith) fits
  has_last (at s) n t r fits =
      ⊎_elim
      (λ (a : leb n (length (granule fm s c)) ≡ true). (
        record { origin = at s; last = s; bytes = take n (so_far fm m c (at s) (suc s)) },
        record { size = n; there = t; sized = r; inside = t.0; lies = inl refl; all = rw (full_none fm (s + 1) (suc s) (omega arith)) (omega (arith, leb-true n (length (granule fm s c)) a)); cut = refl },
        refl,
        t.0,
      ))
      (λ (a : leb n (length (granule fm s c)) ≡ false). rest (leb-false n (length (granule fm s c)) a))
      (cases (leb n (length (granule fm s c))))
    where
      rest : length (granule fm s c) < n → (e : Ended) × Done e × (e.origin ≡ at s) × (e.last < 12)
      rest a =
          let z = t.0 in
          search_last (at s) n 12 t r (omega arith) fits (11 - s) (suc s) (omega arith) (omega arith) (rw (full_none fm (s + 1) (suc s) (omega arith)) (omega arith))

  module _ (kg : (g : ℕ) → g < 12 → KeepsGranule fm g (cell_of fm c m g)) (all : (g : ℕ) → g ≤ 12 → Follow fm law m c n256 valid g (progress fm c m g)) where
    to_all : (g : ℕ) → g ≤ 12 → To g (ended_to fm c m g)
    unfolding ended_to cell_of
    to_all zero b = record { list = []; out = refl; each = λ e i. absurd i; below = λ e i. absurd i; rising = tt; every = λ e d l. absurd (omega arith) }
    to_all (suc g) b = to_next g (ended_to fm c m g) (ended (cell_at fm g c (progress fm c m g)) (progress fm c m g)) (to_all g (omega arith)) (here g (progress fm c m g) b (all g (omega arith)) (kg g b))

    -- the messages handed out are those that end here, in order of completion
    pub in_order : InOrder fm m c (ended_to fm c m 12)
    in_order =
        let t = to_all 12 (omega arith) in
        record {
          list = t.list;
          out = t.out;
          each = t.each;
          rising = t.rising;
          every = λ o n h r f. let e = has_last o n h r f in (e.0, t.every e.0 e.1 e.3, e.2);
          once = λ e f i j o. done_once e f (t.each e i) (t.each f j) o;
        }

    -- and what is carried on is what was read of the one that does not
    pub carries_on : CarriesOn fm m c (carry_after fm 0 (cells fm c 12 0 m) m)
    carries_on = rw (carry_of fm c m) (record { left = left; none = nothing })
      where
        f : Follow fm law m c n256 valid 12 (progress fm c m 12)
        f = all 12 (omega arith)

        ahead : (o : Origin) → There fm c o → next o ≤ 12
        ahead carry t = omega arith
        ahead (at s) t = omega (arith, t.0)

        left : (o : Origin) (n : ℕ) → There fm c o → Bytes (front fm m c o) n → before fm m c o 12 < n → progress fm c m 12 ≡ so_far fm m c o 12
        left o n t r l = f.only o n (record { there = t; bytes = r; later = ahead o t; more = l })

        nothing : ((o : Origin) (n : ℕ) → There fm c o → Bytes (front fm m c o) n → n ≤ before fm m c o 12) → progress fm c m 12 ≡ []
        nothing h =
            ⊎_elim (λ (k : ltb 0 (owed (progress fm c m 12)) ≡ true). let u = f.under (ltb-true 0 (owed (progress fm c m 12)) k) in let y = h u.0 u.1 u.2.there u.2.bytes in let z = u.2.more in absurd (omega arith))
            (λ (k : ltb 0 (owed (progress fm c m 12)) ≡ false). f.idle (omega (arith, ltb-false 0 (owed (progress fm c m 12)) k)))
            (cases (ltb 0 (owed (progress fm c m 12))))
