-- The numbers of a configuration, one after the other: what each comes to, and what is looked at. Assumes nothing.
use Prim.Native.Nat.{ℕ, zero, suc, ◌-◌, ◌+◌, ◌*◌, ◌≤◌, ◌<◌}
use mathlib.Core.Path.{◌≡◌, refl, sym, ap, subst, ◌∙◌}
use mathlib.Core.Bool.{true, false}
use mathlib.Core.List.{List, ◌++◌}
use native.Mathlib.Omega.{arith}
use lib.ListN.{length, take, drop, set, length-drop}
use lib.Seq.{drop-drop, drop-append-le}
use Rattle.lists.specs.Pick.{pick}
use Rattle.lists.proofs.PickLaws.{pick_both}
use Rattle.lists.specs.Parts.{part}
use Rattle.lists.proofs.PartLaws.{rest_is, pad_whole, length_part}
use Rattle.cause.specs.declared.Cause.TheVariants.{BrokenRecord, InvalidState}
use Rattle.record.specs.Number.{read_number, Broken, Value}
use Rattle.record.specs.declared.number.Number.{Number}
use Rattle.pools.specs.Pools.{receiver_by_numbers}
use Rattle.logs.specs.Log.{receiver_at, ConfigurationAnswer, misconfigures, configures, configuration_from, configuration_at, configuration_of, number_then, value_ok}
use Rattle.logs.specs.declared.configuration.Configuration.{Configuration}
use Rattle.cause.specs.declared.Fault.{Fault}
use Rattle.record.proofs.NumberTakes.{Takes, takes_number, number_append}
use Rattle.std.specs.Prelude.{Option, Some, None, Result, Ok}

-- the receiver that sixteen of 33 numbers name
pub receiver_named : (l : List ℕ) (i : ℕ) → length l ≡ 33 → i ≤ 17 → receiver_by_numbers l i ≡ receiver_at l i
receiver_named l i long low = rw (pad_whole 14 (part (i + 2) 14 l) (length_part (i + 2) 14 l (omega arith)))

-- ---- one number

pub configuration_broken : (k : ℕ) (ns : List ℕ) (i at : ℕ) (l : List ℕ) → read_number l ≡ Broken → configuration_from (suc k) ns i at l ≡ misconfigures BrokenRecord at
unfolding configuration_from
configuration_broken k ns i at l e = rw e

pub configuration_wrong : (k : ℕ) (ns : List ℕ) (i at : ℕ) (l : List ℕ) (v u : ℕ) → read_number l ≡ Value v u → value_ok ns i v ≡ false
    → configuration_from (suc k) ns i at l ≡ misconfigures InvalidState 0
unfolding configuration_from
configuration_wrong k ns i at l v u e f =
    ap (λ (r : Option Number). number_then r ns i at (λ v u. configuration_from k (set ns i v) (i + 1) (at + u) (drop u l))) e
    ∙ ap (λ t. pick t (configuration_from k (set ns i v) (i + 1) (at + u) (drop u l)) (misconfigures InvalidState 0)) f

pub configuration_on : (k : ℕ) (ns : List ℕ) (i at : ℕ) (l : List ℕ) (v u : ℕ) → read_number l ≡ Value v u → value_ok ns i v ≡ true
    → configuration_from (suc k) ns i at l ≡ configuration_from k (set ns i v) (i + 1) (at + u) (drop u l)
unfolding configuration_from
configuration_on k ns i at l v u e f =
    ap (λ (r : Option Number). number_then r ns i at (λ v u. configuration_from k (set ns i v) (i + 1) (at + u) (drop u l))) e
    ∙ ap (λ t. pick t (configuration_from k (set ns i v) (i + 1) (at + u) (drop u l)) (misconfigures InvalidState 0)) f

pub configuration_done : (ns : List ℕ) (i at : ℕ) (l : List ℕ) → configuration_from zero ns i at l ≡ configures ns at
unfolding configuration_from
configuration_done ns i at l = refl

-- ---- the loop over them

-- it has come to number i, at byte `at`
pub record Setting-at (b : List ℕ) (ns : List ℕ) (at i : ℕ) : Type 0 where
  pub low : i ≤ 33
  pub within : at ≤ length b
  pub same : configuration_at b ≡ configuration_from (33 - i) ns i at (drop at b)

module _ (b : List ℕ) (ns : List ℕ) (at i : ℕ) (h : Setting-at b ns at i) (more : i < 33) (r : Option Number)
    (read : r ≡ read_number (take (length b - at) (drop at b))) where
  number_here : read_number (drop at b) ≡ r
  number_here = sym (read ∙ ap (λ (l : List ℕ). read_number l) (rest_is b at))

  suc_left : 33 - i ≡ suc (33 - (i + 1))
  suc_left = omega arith

  pub loop_broken : r ≡ Broken → configuration_at b ≡ misconfigures BrokenRecord at
  loop_broken e =
      h.same ∙ ap (λ (k : ℕ). configuration_from k ns i at (drop at b)) suc_left
      ∙ configuration_broken (33 - (i + 1)) ns i at (drop at b) (number_here ∙ e)

  pub loop_wrong : (v u : ℕ) → r ≡ Value v u → value_ok ns i v ≡ false → configuration_at b ≡ misconfigures InvalidState 0
  loop_wrong v u e f =
      h.same ∙ ap (λ (k : ℕ). configuration_from k ns i at (drop at b)) suc_left
      ∙ configuration_wrong (33 - (i + 1)) ns i at (drop at b) v u (number_here ∙ e) f

  pub loop_takes : (v u : ℕ) → r ≡ Value v u → (u ≤ 5) × (at + u ≤ length b)
  loop_takes v u e =
      let t : Takes (Value v u) 5 (length (drop at b)) = rw (number_here, e) at (takes_number (drop at b)) in
      (t.1.0, omega (arith, t.1.1, length-drop at b, h.within))

  pub loop_on : (v u : ℕ) → r ≡ Value v u → value_ok ns i v ≡ true → Setting-at b (set ns i v) (at + u) (i + 1)
  loop_on v u e f = record {
    low = omega arith;
    within = (loop_takes v u e).1;
    same =
        h.same ∙ ap (λ (k : ℕ). configuration_from k ns i at (drop at b)) suc_left
        ∙ configuration_on (33 - (i + 1)) ns i at (drop at b) v u (number_here ∙ e) f
        ∙ ap (λ (l : List ℕ). configuration_from (33 - (i + 1)) (set ns i v) (i + 1) (at + u) l) (drop-drop u at b);
  }

pub configuration_ends : (b : List ℕ) (ns : List ℕ) (at i : ℕ) → Setting-at b ns at i → 33 ≤ i → configuration_at b ≡ configures ns at
configuration_ends b ns at i h full =
    let none : 33 - i ≡ 0 = omega arith in
    h.same ∙ ap (λ (k : ℕ). configuration_from k ns i at (drop at b)) none ∙ configuration_done ns i at (drop at b)

-- ---- what the code's answer says of a configuration

good_by : (t : ConfigurationAnswer) (c : Configuration) → configuration_of t ≡ Ok c → t ≡ configures c.numbers c.used
good_by (misconfigures x y) c q = absurd (let z : ◌≡◌ {A = ℕ} 0 1 = cc in omega arith)
good_by (configures ns n) c q =
    let same : record { numbers = ns; used = n } ≡ c = cc in
    ap (λ (x : Configuration). configures x.numbers x.used) same

pub told_good : (b : List ℕ) (r : Result Configuration Fault) → r ≡ configuration_of (configuration_at b) → (c : Configuration) → r ≡ Ok c
    → configuration_at b ≡ configures c.numbers c.used
told_good b r e c q = good_by (configuration_at b) c (sym e ∙ q)

-- ---- how far it goes

-- k numbers from byte `at` on, of m bytes, have at least a byte each and at most five, and no more than are there
abbrev pub Holds : ConfigurationAnswer → ℕ → ℕ → ℕ → Type 0
Holds (misconfigures c p) at k m = Unit {0}
Holds (configures ns n) at k m = (at + k ≤ n) × ((n ≤ at + 5 * k) × (n ≤ at + m))

holds_more : (t : ConfigurationAnswer) (at u k m n : ℕ) → 1 ≤ u → u ≤ 5 → u + m ≤ n → Holds t (at + u) k m → Holds t at (suc k) n
holds_more (misconfigures c p) at u k m n x y z h = tt
holds_more (configures ns j) at u k m n x y z h = (omega (arith, h.0), (omega (arith, h.1.0), omega (arith, h.1.1)))

holds_number : (r : Option Number) (ns : List ℕ) (i at k m : ℕ) (f : ℕ → ℕ → ConfigurationAnswer) → Takes r 5 m
    → ((v u : ℕ) → u ≤ m → Holds (f v u) (at + u) k (m - u)) → Holds (number_then r ns i at f) at (suc k) m
holds_number None ns i at k m f t h = tt
holds_number (Some number) ns i at k m f t h =
    pick_both (λ (x : ConfigurationAnswer). Holds x at (suc k) m) (value_ok ns i number.value)
    (holds_more (f number.value number.used) at number.used k (m - number.used) m t.0 t.1.0 (omega (arith, t.1.1)) (h number.value number.used t.1.1)) tt

pub configuration_holds : (k : ℕ) (ns : List ℕ) (i at : ℕ) (l : List ℕ) → Holds (configuration_from k ns i at l) at k (length l)
unfolding configuration_from
configuration_holds zero ns i at l = (omega arith, (omega arith, omega arith))
configuration_holds (suc k) ns i at l =
    holds_number (read_number l) ns i at k (length l) (λ v u. configuration_from k (set ns i v) (i + 1) (at + u) (drop u l)) (takes_number l)
    (λ v u fit. subst (λ (n : ℕ). Holds (configuration_from k (set ns i v) (i + 1) (at + u) (drop u l)) (at + u) k n) (length-drop u l)
    (configuration_holds k (set ns i v) (i + 1) (at + u) (drop u l)))

number_same : (r : Option Number) (ns : List ℕ) (i at m : ℕ) (f g : ℕ → ℕ → ConfigurationAnswer) → Takes r 5 m
    → ((v u : ℕ) → u ≤ 5 → u ≤ m → f v u ≡ g v u) → number_then r ns i at f ≡ number_then r ns i at g
number_same None ns i at m f g t h = refl
number_same (Some number) ns i at m f g t h =
    ap (λ (x : ConfigurationAnswer). pick (value_ok ns i number.value) x (misconfigures InvalidState 0)) (h number.value number.used t.1.0 t.1.1)

-- no more than five bytes a number are looked at
pub configuration_append : (k : ℕ) (ns : List ℕ) (i at : ℕ) (l m : List ℕ) → 5 * k ≤ length l → configuration_from k ns i at (l ++ m) ≡ configuration_from k ns i at l
unfolding configuration_from
configuration_append zero ns i at l m h = refl
configuration_append (suc k) ns i at l m h =
    ap (λ (r : Option Number). number_then r ns i at (λ v u. configuration_from k (set ns i v) (i + 1) (at + u) (drop u (l ++ m)))) (number_append l m (omega arith))
    ∙ number_same (read_number l) ns i at (length l) (λ v u. configuration_from k (set ns i v) (i + 1) (at + u) (drop u (l ++ m)))
    (λ v u. configuration_from k (set ns i v) (i + 1) (at + u) (drop u l)) (takes_number l)
    (λ v u five fit. ap (λ (x : List ℕ). configuration_from k (set ns i v) (i + 1) (at + u) x) (drop-append-le u l m fit)
    ∙ configuration_append k (set ns i v) (i + 1) (at + u) (drop u l) m (omega (arith, length-drop u l)))
