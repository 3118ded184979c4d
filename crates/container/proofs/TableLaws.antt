-- The layout is that of the table. Assumes nothing.
use mathlib.Core.Path.{refl, ◌∙◌}
use lib.ListN.{drop}
use lib.Seq.{get_or-drop, get_or-take}
use Rattle.container.specs.Layout.{format_of, start}
use Rattle.container.specs.Table.{Table, linked}
use Rattle.container.proofs.Formats.{granule_length}

pub table : Table
unfolding linked
table = record {
  starts = λ f g i c b l. get_or-take ((format_of f).size g) (drop (start g) c) i 0 l ∙ get_or-drop (start g) c i 0;
  long = λ f g c b n. granule_length f g c b n;
  sizes_x = refl;
  sizes_y = refl;
  link_x = refl;
  link_y = refl;
  header_x = λ c. refl;
  header_y = λ c. refl;
  form = λ fm c. refl;
}
