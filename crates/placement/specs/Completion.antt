-- Order of completion (document 01, "The writer's one way": "The reader writes finished messages as records, in order of their last
-- granules"): which messages end in a container, where, and with which bytes, by the granules that each lies in.
use Rattle.std.specs.Prelude.{ℕ, suc, ◌≤◌, ◌<◌, ◌≡◌, List, [], ◌∷◌, ◌++◌, ◌⊎◌, take}
use Rattle.container.specs.Layout.{Format, granule}
use Rattle.message.specs.HeadRules.{Bytes}
use Rattle.placement.specs.Rules.{Origin, There, front, next, full, before, GoesOn}
use Rattle.placement.specs.Rules.Origin.{carry, at}

-- the bytes of granules, one behind the other
abbrev pub gather : Format → List ℕ → List ℕ → List ℕ
gather fm c [] = []
gather fm c (g ∷ gs) = granule fm g c ++ gather fm c gs

-- the bytes that a message has room for before granule g: what was carried or its first granule, and those of 20 bytes from the next on
abbrev pub so_far : Format → List ℕ → List ℕ → Origin → ℕ → List ℕ
so_far fm m c o g = front fm m c o ++ gather fm c (full fm (next o) g)

-- a message that has ended: which one it is, its last granule, its bytes
pub record Ended : Type 0 where
  pub origin : Origin
  pub last : ℕ
  pub bytes : List ℕ

pub record Completes (fm : Format) (m c : List ℕ) (e : Ended) : Type 0 where
  pub size : ℕ
  pub there : There fm c e.origin
  pub sized : Bytes (front fm m c e.origin) size
  -- it starts or goes on in its last granule, one of this container, and none of it lies behind that
  pub inside : e.last < 12
  pub lies : (e.origin ≡ at e.last) ⊎ GoesOn fm m c e.origin size e.last
  pub all : size ≤ before fm m c e.origin (suc e.last)
  -- its bytes are what was carried of it and its granules' bytes, cut at its size
  pub cut : e.bytes ≡ take size (so_far fm m c e.origin (suc e.last))

-- e is one of a list
abbrev pub In : Ended → List Ended → Type 0
In e [] = ⊥
In e (f ∷ l) = (e ≡ f) ⊎ In e l

-- the last granule of each is below those of all behind it
abbrev pub Rising : List Ended → Type 0
Rising [] = Unit {0}
Rising (e ∷ l) = ((f : Ended) → In f l → e.last < f.last) × Rising l

abbrev pub bytes_of : List Ended → List (List ℕ)
bytes_of [] = []
bytes_of (e ∷ l) = e.bytes ∷ bytes_of l

-- the messages xs are those that end in container c, with m carried in, in order of completion
pub record InOrder (fm : Format) (m c : List ℕ) (xs : List (List ℕ)) : Type 0 where
  pub list : List Ended
  pub out : xs ≡ bytes_of list
  -- each ends in this container, with those bytes
  pub each : (e : Ended) → In e list → Completes fm m c e
  -- last granules rise strictly
  pub rising : Rising list
  -- every message that was carried in or starts, and that the granules of this container hold to its end, is one of them
  pub every : (o : Origin) (n : ℕ) → There fm c o → Bytes (front fm m c o) n → n ≤ before fm m c o 12 → (e : Ended) × In e list × (e.origin ≡ o)
  -- and no message twice
  pub once : (e f : Ended) → In e list → In f list → e.origin ≡ f.origin → e ≡ f

-- r is what is carried on: the bytes so far of the message that does not end here, or none
pub record CarriesOn (fm : Format) (m c r : List ℕ) : Type 0 where
  pub left : (o : Origin) (n : ℕ) → There fm c o → Bytes (front fm m c o) n → before fm m c o 12 < n → r ≡ so_far fm m c o 12
  pub none : ((o : Origin) (n : ℕ) → There fm c o → Bytes (front fm m c o) n → n ≤ before fm m c o 12) → r ≡ []

-- the message of which m was carried ends in container c, whatever else that holds
pub record CarryEnds (fm : Format) (m c : List ℕ) : Type 0 where
  pub ended : Ended
  pub completes : Completes fm m c ended
  pub carried : ended.origin ≡ carry
  -- five granules of 20 bytes, G0 to G4, hold what is left of the longest message
  pub early : ended.last ≤ 4
