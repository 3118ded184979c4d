-- The messages that end in a container, written as records granule by granule. Assumes nothing.
use Prim.Native.Nat.{ℕ, ◌+◌, ◌%◌, ◌≤◌, ◌<◌}
use mathlib.Core.Path.{◌≡◌, refl, sym, ap, ◌∙◌, subst}
use mathlib.Core.Bool.{true}
use mathlib.Core.List.{List, ◌++◌}
use native.Mathlib.Omega.{arith}
use native.Mathlib.Nat.{zero-add}
use native.Mathlib.Numerals.{add-one}
use lib.ListN.{length, length-append}
use Rattle.lists.specs.Parts.{put}
use Rattle.lists.proofs.PartLaws.{length_put}
use Rattle.lists.proofs.PutLaws.{put_none, put_more}
use Rattle.container.specs.Layout.{Format, format_of, msg_start}
use Rattle.record.specs.Records.{records_of}
use Rattle.placement.specs.Cells.{cells, endings, ended, carry_ok}
use Rattle.placement.proofs.Keeps.{progress, cell_of, ended_to}
use Rattle.reader.specs.TrackingMirror.{track_of, track_after, track_at, ended_by, Ending}
use Rattle.reader.specs.declared.track.Track.{Track}
use Rattle.placement.proofs.ProgressLaws.{endings_of}
use Rattle.reader.proofs.TrackLaws.{Follows, follows, ended_by_law, ending_sized, firm}
use Rattle.placement.proofs.FirmLaws.{carry_firm}
use Rattle.reader.proofs.CarryLaws.{ended_room, ok_valid, valid_ok}
use Rattle.record.proofs.RecordLaws.{records_append}

-- the messages whose last granules are below g stand as records at the front of the room l, over l₀
pub record Writing (f : ℕ) (c m l₀ l : List ℕ) (t : Track) (at g : ℕ) : Type 0 where
  pub within : g ≤ 12
  pub track : t ≡ track_at (format_of f) c (msg_start (format_of f) c) (track_of m) g
  pub reached : at ≡ length (records_of (ended_to (format_of f) c m g))
  pub room : l ≡ put 0 (records_of (ended_to (format_of f) c m g)) l₀
  pub long : length l ≡ length l₀

pub writing_none : (f : ℕ) (c m l : List ℕ) (t : Track) → t ≡ track_of m → Writing f c m l l t 0 0
unfolding ended_to track_at
writing_none f c m l t e = record { within = omega arith; track = e; reached = refl; room = sym (put_none 0 l); long = refl }

module _ (f : ℕ) (c m l₀ l : List ℕ) (t : Track) (at g starts : ℕ) (n : length c ≡ 256) (big : 352 ≤ length l₀) (es : starts ≡ msg_start (format_of f) c)
    (ok : carry_ok m ≡ true) (h : Writing f c m l₀ l t at g) where
  abbrev fm : Format
  fm = format_of f

  pub writing_all : 12 ≤ g → (at ≡ length (records_of (endings fm 0 (cells fm c 12 0 m) m))) × (l ≡ put 0 (records_of (endings fm 0 (cells fm c 12 0 m) m)) l₀)
  writing_all k =
      let w = h.within in
      let e : g ≡ 12 = omega arith in
      let q : records_of (ended_to fm c m g) ≡ records_of (endings fm 0 (cells fm c 12 0 m) m) = ap (λ (j : ℕ). records_of (ended_to fm c m j)) e ∙ ap records_of (sym (endings_of fm c m)) in
      (h.reached ∙ ap length q, h.room ∙ ap (λ (r : List ℕ). put 0 r l₀) q)

  -- granule g
  module _ (b : g < 12) where
    followed : Follows fm c m g t (progress fm c m g)
    followed = subst (λ (k : Track). Follows fm c m g k (progress fm c m g)) (sym h.track) (follows f c m n (carry_firm m ok).begun g (omega arith))

    granular : 0 < t.owed → length (progress fm c m g) % 20 ≡ 0
    granular k = (firm f c n m ok g (omega arith)).granular

    abbrev before : List ℕ
    before = records_of (ended_to fm c m g)

    abbrev here : List ℕ
    here = records_of (ended_by fm c m starts t g)

    next : records_of (ended_to fm c m (g + 1)) ≡ before ++ here
    unfolding ended_to cell_of
    next =
        ap (λ (k : ℕ). records_of (ended_to fm c m k)) (add-one g)
        ∙ records_append (ended_to fm c m g) (ended (cell_of fm c m g) (progress fm c m g))
        ∙ ap (λ (e : List (List ℕ)). before ++ records_of e)
        (sym (ap (λ (s : ℕ). ended_by fm c m s t g) es ∙ ended_by_law f c m g t (progress fm c m g) b n followed granular))

    fits : length before + length here ≤ length l₀
    fits =
        let few = (valid_ok m (ok_valid m ok)).1 in
        let r = ended_room f c m n (g + 1) (omega arith) in
        let k = ap length next ∙ length-append before here in
        omega arith

    -- what the code asks before it writes what ends there
    pub writing_asks : (t.kept ≤ length m) × (((t.from ≤ g) × (g < 12)) × (Ending fm c m t g × (at + length here ≤ length l)))
    writing_asks =
        let r = h.reached in
        let k = h.long in
        let j = fits in
        (followed.kept_within, ((followed.from_below, b), (ending_sized f c m g t (progress fm c m g) b n followed granular, omega arith)))

    pub writing_more : (d : List ℕ) (k : Track) (end : ℕ) → end ≡ at + length here → d ≡ put at here l → k ≡ track_after fm c starts g t
        → Writing f c m l₀ d k end (g + 1)
    unfolding track_at
    writing_more d k end p q e =
        let r = h.reached in
        let j = fits in
        let len = ap length next ∙ length-append before here in
        let is : d ≡ put 0 (records_of (ended_to fm c m (g + 1))) l₀ =
        q ∙ ap (put at here) h.room ∙ ap (λ (i : ℕ). put i here (put 0 before l₀)) (r ∙ sym (zero-add (length before)))
        ∙ put_more 0 before here l₀ (omega arith) ∙ ap (λ (x : List ℕ). put 0 x l₀) (sym next) in
        record {
          within = omega arith;
          track = e ∙ ap (λ (s : ℕ). track_after fm c s g t) es ∙ ap (track_after fm c (msg_start fm c) g) h.track ∙ ap (track_at fm c (msg_start fm c) (track_of m)) (sym (add-one g));
          reached = omega arith;
          room = is;
          long = ap length is ∙ length_put 0 (records_of (ended_to fm c m (g + 1))) l₀ (omega arith);
        }
