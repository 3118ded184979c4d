-- One check of each granule, and what it passes for: the messages that start, and the grants among them. Assumes nothing.
use Prim.Native.Nat.{ℕ, ◌+◌}
use mathlib.Core.Path.{◌≡◌, refl}
use mathlib.Core.Bool.{Bool, true}
use mathlib.Core.List.{List, [], ◌∷◌, ◌++◌}
use Rattle.lists.specs.Pick.{pick}
use Rattle.cause.specs.Checks.{Pass}
use Rattle.cause.specs.declared.Cause.{Cause}
use Rattle.cause.proofs.EachLaws.{Each}
use Rattle.message.specs.Heads.{is_misc, crdt_grant}
use Rattle.placement.specs.Cells.{Cell, startings}
use Rattle.placement.proofs.ProgressLaws.{list_from}
use Rattle.pools.specs.Pools.{payable, grantable, form_in, start_payable, start_grantable, each_granule, grants_in}
use Rattle.pools.specs.declared.receiver.Receiver.{Receiver}
use Rattle.pools.proofs.PoolRuleLaws.{by_test}

-- one check of each granule, by its cell
pub granule_checks_law : (test : Cell → Bool) (k : Cause) (f : ℕ → Cell) → Each (λ n g. each_granule test k g (list_from f n g)) (λ g. test (f g)) k
unfolding each_granule list_from
granule_checks_law test k f = record { none = λ g. refl; more = λ n g. refl }

-- what holds of each of a list
abbrev pub All : {A : Type 0} → (A → Type 0) → List A → Type 0
All P [] = Unit {0}
All P (x ∷ l) = P x × All P l

-- one more, if there is one
more : {A : Type 0} (P : A → Type 0) (t : Bool) (x : A) (l : List A) → (t ≡ true → P x) → All P l → All P (pick t (x ∷ []) [] ++ l)
more P t x l h r = by_test t (λ e. rw e (h e, r)) (λ e. rw e r)

module _ (r : Receiver) (k : Cause) where
  pub payable_all : (g : ℕ) (es : List Cell) → Pass (each_granule (start_payable r) k g es) → All (λ m. payable r m ≡ true) (startings es)
  unfolding each_granule startings
  payable_all g [] h = tt
  payable_all g (e ∷ es) h = more (λ m. payable r m ≡ true) e.starts e.bytes (startings es) (λ t. rw t at h.0) (payable_all (g + 1) es h.1)

  pub grantable_all : (g : ℕ) (es : List Cell) → Pass (each_granule (start_grantable r) k g es) → All (λ n. grantable r n ≡ true) (grants_in (startings es))
  unfolding each_granule startings grants_in
  grantable_all g [] h = tt
  grantable_all g (e ∷ es) h = by_test e.starts (λ t. rw t (granting t (grantable_all (g + 1) es h.1))) (λ t. rw t (grantable_all (g + 1) es h.1))
    where
      granting : e.starts ≡ true → All (λ n. grantable r n ≡ true) (grants_in (startings es))
          → All (λ n. grantable r n ≡ true) (pick (is_misc e.bytes crdt_grant) (form_in e.bytes ∷ []) [] ++ grants_in (startings es))
      granting t = more (λ n. grantable r n ≡ true) (is_misc e.bytes crdt_grant) (form_in e.bytes) (grants_in (startings es)) (λ i. rw (t, i) at h.0)
