-- Laws of lists in another order. Assumes nothing.
use Prim.Native.Nat.{ℕ, ◌+◌}
use mathlib.Core.Path.{◌≡◌, refl, sym, ap, ◌∙◌, subst}
use mathlib.Core.Bool.{Bool, true, false, ◌&&◌}
use mathlib.Core.List.{List, [], ◌∷◌, ◌++◌, append_assoc}
use native.Mathlib.Omega.{arith}
use lib.ListN.{length, length-append}
use Rattle.lists.specs.Pick.{pick}
use Rattle.lists.specs.Reordering.{keep, Reordered}

-- ---- what passes a test

pub keep_append : {A : Type 0} (test : A → Bool) (a b : List A) → keep test (a ++ b) ≡ keep test a ++ keep test b
keep_append test [] b = refl
keep_append {A = A} test (x ∷ a) b =
    ap (λ (r : List A). pick (test x) (x ∷ []) [] ++ r) (keep_append test a b) ∙ sym (append_assoc (pick (test x) (x ∷ []) []) (keep test a) (keep test b))

-- a test that every element passes
pub keep_all : {A : Type 0} (a : List A) → keep (λ x. true) a ≡ a
keep_all [] = refl
keep_all {A = A} (x ∷ a) = ap (λ (r : List A). x ∷ r) (keep_all a)

length_keep : {A : Type 0} (test : A → Bool) (a b : List A) → length (keep test (a ++ b)) ≡ length (keep test a) + length (keep test b)
length_keep test a b = ap length (keep_append test a b) ∙ length-append (keep test a) (keep test b)

-- ---- lists in another order

module _ {A : Type 0} (classes : ℕ → A → Bool) where
  pub same_order : {a b : List A} → a ≡ b → Reordered classes a b
  same_order {a = a} e = subst (Reordered classes a) e (record { each_once = λ test. refl; in_order = λ k. refl })

  pub reordered_on : {a b c : List A} → Reordered classes a b → Reordered classes b c → Reordered classes a c
  reordered_on p q = record { each_once = λ test. p.each_once test ∙ q.each_once test; in_order = λ k. p.in_order k ∙ q.in_order k }

  -- two lists in another order, one behind the other
  pub reordered_append : {a b c d : List A} → Reordered classes a b → Reordered classes c d → Reordered classes (a ++ c) (b ++ d)
  reordered_append {a = a} {b = b} {c = c} {d = d} p q = record {
    each_once = λ test.
        length_keep test a c ∙ ap (λ (n : ℕ). n + length (keep test c)) (p.each_once test)
        ∙ ap (λ (n : ℕ). length (keep test b) + n) (q.each_once test) ∙ sym (length_keep test b d);
    in_order = λ k.
        keep_append (classes k) a c ∙ ap (λ (r : List A). r ++ keep (classes k) c) (p.in_order k)
        ∙ ap (λ (r : List A). keep (classes k) b ++ r) (q.in_order k) ∙ sym (keep_append (classes k) b d);
  }

  -- what passes from a first list to a second one, and on
  pub reordered_through : (a m b c d e : List A) → Reordered classes (a ++ m) b → Reordered classes (c ++ d) (m ++ e) → Reordered classes ((a ++ c) ++ d) (b ++ e)
  reordered_through a m b c d e p q =
      reordered_on (same_order (append_assoc a c d))
      (reordered_on (reordered_append {a = a} {b = a} (same_order refl) q)
      (reordered_on (same_order (sym (append_assoc a m e))) (reordered_append {c = e} {d = e} p (same_order refl))))

  pub reordered_length : {a b : List A} → Reordered classes a b → length a ≡ length b
  reordered_length {a = a} {b = b} p = sym (ap length (keep_all a)) ∙ p.each_once (λ x. true) ∙ ap length (keep_all b)

-- where all elements are of one class, the order is the same
pub one_class : {A : Type 0} {a b : List A} → Reordered (λ k x. true) a b → a ≡ b
one_class {a = a} {b = b} p = sym (keep_all a) ∙ p.in_order 0 ∙ keep_all b

-- ---- two elements change places

once_swapped : {A : Type 0} (t u : Bool) (x y : A) → length (pick t (x ∷ []) [] ++ (pick u (y ∷ []) [] ++ [])) ≡ length (pick u (y ∷ []) [] ++ (pick t (x ∷ []) [] ++ []))
once_swapped true true x y = refl
once_swapped true false x y = refl
once_swapped false true x y = refl
once_swapped false false x y = refl

order_swapped : {A : Type 0} (t u : Bool) (x y : A) → (t && u) ≡ false
    → pick t (x ∷ []) [] ++ (pick u (y ∷ []) [] ++ []) ≡ pick u (y ∷ []) [] ++ (pick t (x ∷ []) [] ++ [])
order_swapped true true x y e = let z : true ≡ false = e in let w : ◌≡◌ {A = ℕ} 0 1 = cc in absurd (omega arith)
order_swapped true false x y e = refl
order_swapped false true x y e = refl
order_swapped false false x y e = refl

-- two elements that have no class in common
pub swapped : {A : Type 0} (classes : ℕ → A → Bool) (x y : A) → ((k : ℕ) → (classes k x && classes k y) ≡ false)
    → Reordered classes (x ∷ y ∷ []) (y ∷ x ∷ [])
swapped classes x y apart = record {
  each_once = λ test. once_swapped (test x) (test y) x y;
  in_order = λ k. order_swapped (classes k x) (classes k y) x y (apart k);
}

-- two elements that have a class in common never do
pub never_passes : {A : Type 0} (classes : ℕ → A → Bool) (x y : A) (k : ℕ) → classes k x ≡ true → classes k y ≡ true
    → Reordered classes (x ∷ y ∷ []) (y ∷ x ∷ []) → x ≡ y
never_passes {A = A} classes x y k p q r = let e : x ∷ y ∷ [] ≡ y ∷ x ∷ [] = rw (p, q) at (r.in_order k) in cc
