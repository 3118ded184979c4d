-- The idle container: nothing but zeros outside the link header.
use Rattle.std.specs.Prelude.{ℕ, ◌+◌, Bool, true, ◌&&◌, ◌||◌, List, [], ◌∷◌, length, eqb}
use Rattle.container.specs.Layout.{Format}

-- bytes that stand from place i on are zero, but for the link header
unfoldable pub idle_from : (ℕ → Bool) → List ℕ → ℕ → Bool
idle_from link [] i = true
idle_from link (b ∷ c) i = (link i || eqb b 0) && idle_from link c (i + 1)

-- an idle container: 256 bytes, and nothing but zeros outside the link header
abbrev pub idle : Format → List ℕ → Bool
idle fm c = eqb (length c) 256 && idle_from fm.link c 0
