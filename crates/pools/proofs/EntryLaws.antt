-- What the code judges and counts granule by granule is what the messages that start in an entry ask for. Assumes nothing.
use Prim.Native.Nat.{ℕ, zero, suc, ◌+◌, ◌%◌, ◌≤◌, ◌<◌}
use mathlib.Core.Path.{◌≡◌, refl, sym, ap, ap₂, ◌∙◌}
use mathlib.Core.Bool.{Bool, true, false, ◌&&◌, ◌||◌, not}
use mathlib.Core.List.{List, [], ◌∷◌, ◌++◌}
use native.Mathlib.Omega.{arith}
use native.Mathlib.Nat.{zero-add, add-zero}
use lib.ListN.{length, get_or}
use Rattle.lists.specs.Pick.{pick}
use Rattle.lists.proofs.PartLaws.{get_d_part}
use Rattle.cause.specs.Checks.{Check, check}
use Rattle.cause.specs.declared.Cause.TheVariants.{MissingPool, MissingGrantPool}
use Rattle.container.specs.Layout.{format_of, start, granule, msg_start, bit}
use Rattle.container.specs.Grants.{grant_of}
use Rattle.container.specs.declared.grant.Grant.{Grant}
use Rattle.container.proofs.Formats.{lawful_of}
use Rattle.message.specs.Heads.{is_misc, misc_by, crdt_grant}
use Rattle.message.specs.Charges.{charges_by, listed, charges}
use Rattle.placement.specs.Cells.{cells, cell_at, after, startings}
use Rattle.pools.specs.Pools.{payable_by, grantable, form_in, start_payable, start_grantable, each_granule, charged_to, paid_to, granted_by, granted_to, grants_in}
use Rattle.pools.specs.TalliesMirror.{first_at, second_at, starts_checks, starts_pay, grants_at, grant_at, crdt_checks, crdt_gives}
use Rattle.pools.specs.declared.receiver.Receiver.{Receiver}

pick_and : {A : Type 0} (a b : Bool) (x y : A) → pick (a && b) x y ≡ pick a (pick b x y) y
pick_and true b x y = refl
pick_and false b x y = refl

-- what is made of a list, by an operation along it
module _ {A : Type 0} (op : A → A → A) (none : A) (unit : (a : A) → op none a ≡ a) where
  -- of one more element, or of none
  one_more : {B : Type 0} (F : List B → A) (h : B → A) → ((x : B) (l : List B) → F (x ∷ l) ≡ op (h x) (F l)) → (b : Bool) (x : B) (l : List B)
      → F (pick b (x ∷ []) [] ++ l) ≡ op (pick b (h x) none) (F l)
  one_more F h e true x l = e x l
  one_more F h e false x l = sym (unit (F l))

  -- of the messages that start, granule by granule
  module _ (f : ℕ) (c : List ℕ) (F : List (List ℕ) → A) (h : List ℕ → A) (empty : F [] ≡ none) (more : (x : List ℕ) (l : List (List ℕ)) → F (x ∷ l) ≡ op (h x) (F l))
      (G : ℕ → ℕ → A) (u : ℕ → A) (last : (g : ℕ) → G 0 g ≡ none) (next : (k g : ℕ) → G (suc k) g ≡ op (pick (bit (msg_start (format_of f) c) g) (u g) none) (G k (g + 1)))
      (same : (g : ℕ) → g < 12 → h (granule (format_of f) g c) ≡ u g) where
    along : (k g : ℕ) (m : List ℕ) → g + k ≤ 12 → G k g ≡ F (startings (cells (format_of f) c k g m))
    unfolding cells startings
    along zero g m b = last g ∙ sym empty
    along (suc k) g m b =
        let fm = format_of f in
        let t = bit (msg_start fm c) g in
        let n = after fm g (cell_at fm g c m) m in
        next k g ∙ ap₂ (λ (x y : A). op (pick t x none) y) (sym (same g (omega arith))) (along k (g + 1) n (omega arith))
        ∙ sym (one_more F h more t (granule fm g c) (startings (cells fm c k (g + 1) n)))

module _ (f : ℕ) (c : List ℕ) (whole : length c ≡ 256) where
  -- the first bytes of a granule
  byte : (g : ℕ) → g < 12 → (i : ℕ) → i < 10 → get_or (granule (format_of f) g c) i 0 ≡ get_or c (start g + i) 0
  byte g b i h = let l = (lawful_of f).least g b in get_d_part (start g) ((format_of f).size g) c (rw whole ((lawful_of f).inside g b)) i (omega arith)

  byte_0 : (g : ℕ) → g < 12 → get_or (granule (format_of f) g c) 0 0 ≡ first_at c g
  byte_0 g b = byte g b 0 (omega arith) ∙ ap (λ (i : ℕ). get_or c i 0) (add-zero (start g))

  byte_1 : (g : ℕ) → g < 12 → get_or (granule (format_of f) g c) 1 0 ≡ second_at c g
  byte_1 g b = byte g b 1 (omega arith)

  -- by the first two bytes
  by_head : {A : Type 0} (h : ℕ → ℕ → A) (g : ℕ) → g < 12 → h (get_or (granule (format_of f) g c) 0 0) (get_or (granule (format_of f) g c) 1 0) ≡ h (first_at c g) (second_at c g)
  by_head h g b = ap₂ h (byte_0 g b) (byte_1 g b)

  -- by the grant of bytes 2 to 6
  form_same : (g : ℕ) → g < 12 → form_in (granule (format_of f) g c) ≡ grant_at c g
  form_same g b =
      λ j. grant_of (byte g b 2 (omega arith) j) (byte g b 3 (omega arith) j) (byte g b 4 (omega arith) j) (byte g b 5 (omega arith) j) (byte g b 6 (omega arith) j)

  pub starts_checks_law : (r : Receiver) (k g : ℕ) (m : List ℕ) → g + k ≤ 12
      → starts_checks r c (msg_start (format_of f) c) k g ≡ each_granule (start_payable r) MissingPool g (cells (format_of f) c k g m)
  unfolding starts_checks each_granule cells
  starts_checks_law r zero g m b = refl
  starts_checks_law r (suc k) g m b =
      ap₂ (λ (t : Bool) (l : List Check). check (not (bit (msg_start (format_of f) c) g) || t) MissingPool g ∷ l)
      (sym (by_head (λ x y. payable_by r (x % 16) x y) g (omega arith)))
      (starts_checks_law r k (g + 1) (after (format_of f) g (cell_at (format_of f) g c m) m) (omega arith))

  pub starts_pay_law : (p k g : ℕ) (m : List ℕ) → g + k ≤ 12
      → starts_pay c (msg_start (format_of f) c) k g p ≡ paid_to p (startings (cells (format_of f) c k g m))
  unfolding starts_pay paid_to
  starts_pay_law p =
      along ◌+◌ 0 zero-add f c (paid_to p) (λ m. charged_to p (charges m)) refl (λ x l. refl)
      (λ k g. starts_pay c (msg_start (format_of f) c) k g p) (λ g. charged_to p (listed (charges_by (first_at c g % 16) (first_at c g) (second_at c g)))) (λ g. refl) (λ k g. refl)
      (by_head (λ x y. charged_to p (listed (charges_by (x % 16) x y))))

  -- what is made of the grants among the messages that start
  module _ {A : Type 0} (op : A → A → A) (none : A) (unit : (a : A) → op none a ≡ a) (F : List Grant → A) (h : Grant → A) (empty : F [] ≡ none)
      (more : (n : Grant) (l : List Grant) → F (n ∷ l) ≡ op (h n) (F l)) (G : ℕ → ℕ → A) (last : (g : ℕ) → G 0 g ≡ none)
      (next : (k g : ℕ) → G (suc k) g ≡ op (pick (grants_at c (msg_start (format_of f) c) g) (h (grant_at c g)) none) (G k (g + 1))) where
    grants_along : (k g : ℕ) (m : List ℕ) → g + k ≤ 12 → G k g ≡ F (grants_in (startings (cells (format_of f) c k g m)))
    unfolding grants_in
    grants_along =
        along op none unit f c (λ l. F (grants_in l)) (λ m. pick (is_misc m crdt_grant) (h (form_in m)) none) empty
        (λ x l. one_more op none unit F h more (is_misc x crdt_grant) (form_in x) (grants_in l))
        G (λ g. pick (misc_by (first_at c g % 16) (second_at c g) crdt_grant) (h (grant_at c g)) none) last
        (λ k g. next k g ∙ ap (λ (x : A). op x (G k (g + 1))) (pick_and (bit (msg_start (format_of f) c) g) (misc_by (first_at c g % 16) (second_at c g) crdt_grant) (h (grant_at c g)) none))
        (λ g b. ap₂ (λ (t : Bool) (n : Grant). pick t (h n) none) (by_head (λ x y. misc_by (x % 16) y crdt_grant) g b) (form_same g b))

  pub crdt_checks_law : (r : Receiver) (k g : ℕ) (m : List ℕ) → g + k ≤ 12
      → crdt_checks r c (msg_start (format_of f) c) k g ≡ each_granule (start_grantable r) MissingGrantPool g (cells (format_of f) c k g m)
  unfolding crdt_checks each_granule cells
  crdt_checks_law r zero g m b = refl
  crdt_checks_law r (suc k) g m b =
      ap₂ ◌∷◌
      (ap₂ (λ (t : Bool) (n : Grant). check (not (bit (msg_start (format_of f) c) g && t) || grantable r n) MissingGrantPool g)
      (sym (by_head (λ x y. misc_by (x % 16) y crdt_grant) g (omega arith))) (sym (form_same g (omega arith))))
      (crdt_checks_law r k (g + 1) (after (format_of f) g (cell_at (format_of f) g c m) m) (omega arith))

  pub crdt_gives_law : (p k g : ℕ) (m : List ℕ) → g + k ≤ 12
      → crdt_gives c (msg_start (format_of f) c) k g p ≡ granted_to p (grants_in (startings (cells (format_of f) c k g m)))
  unfolding crdt_gives granted_to
  crdt_gives_law p =
      grants_along ◌+◌ 0 zero-add (granted_to p) (granted_by p) refl (λ n l. refl) (λ k g. crdt_gives c (msg_start (format_of f) c) k g p) (λ g. refl) (λ k g. refl)
