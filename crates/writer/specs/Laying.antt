-- A container made of cells (document 01, "Container bytes"): each granule in its own part, the header, zeros elsewhere.
use Rattle.std.specs.Prelude.{ℕ, ◌+◌, ◌*◌, ◌/◌, ◌%◌, List, [], ◌∷◌, set, replicate}
use Rattle.lists.specs.Pick.{pick}
use Rattle.lists.specs.Parts.{put}
use Rattle.container.specs.Layout.{Format, start, container_size, granules}
use Rattle.container.specs.declared.grant.Grant.{Grant}
use Rattle.placement.specs.Cells.{Cell}
use Rattle.writer.specs.Plan.{plan, cursor_last, cursor_of}

-- MsgStart of cells, bit g for granule g
abbrev pub start_bits : List Cell → ℕ
start_bits [] = 0
start_bits (e ∷ es) = pick e.starts 1 0 + 2 * start_bits es

-- the first byte of a grant form
abbrev pub form_byte : Grant → ℕ
form_byte n = pick n.shc 1 0 + 2 * n.rp

-- P0 to P9
abbrev pub header_bytes : Grant → ℕ → List ℕ
header_bytes n w = w % 256 ∷ w / 256 ∷ form_byte n ∷ n.req ∷ n.rsp ∷ n.snp ∷ n.dat ∷ 0 ∷ 0 ∷ 0 ∷ []

-- header bytes from Pi on, each at its place
unfoldable pub set_all : (ℕ → ℕ) → ℕ → List ℕ → List ℕ → List ℕ
set_all place i [] c = c
set_all place i (v ∷ vs) c = set_all place (i + 1) vs (set c (place i) v)

-- cells from granule g on, each in its own part
unfoldable pub lay_cells : ℕ → List Cell → List ℕ → List ℕ
lay_cells g [] c = c
lay_cells g (e ∷ es) c = lay_cells (g + 1) es (put (start g) e.bytes c)

-- the container of twelve cells under a grant; the link header is zero
unfoldable pub container_of : Format → Grant → List Cell → List ℕ
container_of fm n es = set_all fm.place 0 (header_bytes n (start_bits es)) (lay_cells 0 es (replicate container_size 0))

-- the container that a writer owing t fills from the list l
unfoldable pub filled : Format → Grant → List ℕ → List ℕ → List ℕ
filled fm n t l = container_of fm n (plan fm n l granules 0 (cursor_of t))

-- what it owes, and how many bytes of the list it has used, behind that container
unfoldable pub owes_after : Format → Grant → List ℕ → List ℕ → List ℕ
owes_after fm n t l = (cursor_last fm n l granules 0 (cursor_of t)).owes

unfoldable pub used_of : Format → Grant → List ℕ → List ℕ → ℕ
used_of fm n t l = (cursor_last fm n l granules 0 (cursor_of t)).at
