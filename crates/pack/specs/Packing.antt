-- What `pack` writes for an input, a format and a list of records: the containers that carry the list, or the line of a refusal.
use Rattle.std.specs.Prelude.{ℕ, zero, suc, ◌*◌, ◌≤◌, ◌≡◌, ◌&&◌, List, [], ◌∷◌, length, drop, eqb, ltb, Result, Ok, Err, Option, Some, None}
use Rattle.lists.specs.Pick.{pick}
use Rattle.lists.specs.Parts.{put, join_all}
use Rattle.cause.specs.declared.Fault.{Fault}
use Rattle.cause.specs.declared.Cause.TheVariants.{BrokenRecord, InvalidState}
use Rattle.container.specs.Layout.{Format, format_of}
use Rattle.record.specs.Number.{read_number}
use Rattle.record.specs.declared.number.Number.{Number}
use Rattle.writer.specs.Laying.{filled, owes_after, used_of}
use Rattle.writer.specs.Filling.{writer_with, fill_fault}
use Rattle.round_trip.specs.Calls.{zero_grant, first_grants, UsedUp, AllOut}
use Rattle.text.specs.Lines.{refusal_line}
use Rattle.cause.specs.Checks.{Verdict}

-- the containers of a list l behind an owed tail t: while a byte of either is left, one more, filled with no grant; at most k
unfoldable pub containers_of : ℕ → Format → List ℕ → List ℕ → List (List ℕ)
containers_of zero fm t l = []
containers_of (suc k) fm t l =
    pick (eqb (length t) 0 && eqb (length l) 0) []
    (filled fm zero_grant t l ∷ containers_of k fm (owes_after fm zero_grant t l) (drop (used_of fm zero_grant t l) l))

-- the most containers: a list of at most 4,096 bytes has at most 372 records, and each container finishes a message
abbrev pub most_containers : ℕ
most_containers = 384

-- their bytes
abbrev pub max_output : ℕ
max_output = 256 * most_containers

-- containers, or the line of a refusal, by a verdict
abbrev pub output_of : Verdict → List (List ℕ) → List ℕ
output_of (Ok _) cs = join_all cs
output_of (Err fault) cs = refusal_line fault.cause fault.place

-- a list of a format, by what the first fill finds of it: 18, then 17
abbrev pub list_output : ℕ → List ℕ → List ℕ
list_output f l = output_of (fill_fault (writer_with f []) l zero_grant 256) (containers_of most_containers (format_of f) [] l)

-- by the number at the front of the input: 17, 19, then the list behind it
abbrev pub output_behind : List ℕ → Option Number → List ℕ
output_behind l None = refusal_line BrokenRecord 0
output_behind l (Some number) = pick (ltb number.value 2) (list_output number.value (drop number.used l)) (refusal_line InvalidState 0)

unfoldable pub pack_output : List ℕ → List ℕ
pack_output l = output_behind l (read_number l)

-- an output at the front of a room, in n bytes; or the fault whose line is the output, and the room as it was
abbrev pub Written : List ℕ → List ℕ → List ℕ → Result ℕ Fault → Type 0
Written out before after (Ok n) = (n ≡ length out) × (n ≤ max_output) × (after ≡ put 0 out before)
Written out before after (Err fault) = (out ≡ refusal_line fault.cause fault.place) × (after ≡ before)

-- what is answered, and the room afterwards: the output at its front; a room that not every output fits is left as it was
abbrev pub pack_length : List ℕ → ℕ → ℕ
pack_length l n = pick (ltb n max_output) 0 (length (pack_output l))

abbrev pub pack_room : List ℕ → List ℕ → List ℕ
pack_room l room = pick (ltb (length room) max_output) room (put 0 (pack_output l) room)

-- an output that carries a list: fills that use the list up and owe no tail, and a new reader hands out all its messages
pub record CarriesAll (f : ℕ) (l out : List ℕ) : Type 0 where
  pub used_up : UsedUp f l (λ i. zero_grant) most_containers
  pub output : out ≡ join_all used_up.containers
  pub all_out : AllOut f used_up.containers (first_grants (λ i. zero_grant) (length used_up.containers)) l
