-- Lists in another order: each element once, and the elements of one class in their order.
use Rattle.std.specs.Prelude.{ℕ, ◌≡◌, Bool, List, [], ◌∷◌, ◌++◌, length}
use Rattle.lists.specs.Pick.{pick}

-- the elements that pass a test, in order
abbrev pub keep : {A : Type 0} → (A → Bool) → List A → List A
keep test [] = []
keep test (x ∷ l) = pick (test x) (x ∷ []) [] ++ keep test l

-- a is b in another order; an element is of class k where it passes the test of k
pub record Reordered {A : Type 0} (classes : ℕ → A → Bool) (a b : List A) : Type 0 where
  -- whatever is counted, there are as many in a as in b
  pub each_once : (test : A → Bool) → length (keep test a) ≡ length (keep test b)
  -- those of one class stand in the same order
  pub in_order : (k : ℕ) → keep (classes k) a ≡ keep (classes k) b
