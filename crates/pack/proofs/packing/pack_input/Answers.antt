use Prim.Native.Nat.{ℕ, ◌≤◌}
use mathlib.Core.Path.{◌≡◌, sym, ◌∙◌, subst}
use mathlib.Core.List.{List}
use borrow.Author.Rules.{rules}
use lib.ListN.{length}
use Rattle.std.specs.Prelude.{Some}
use Rattle.std.proofs.lemmas.Result.{err_from_is_err_and}
use Rattle.record.specs.Number.{read_number}
use Rattle.pack.specs.Packing.{Written}
use Rattle.pack.proofs.Outputs.{no_number, no_format, list_is, number_within}
use Rattle.pack.proofs.packing.pack_input.Goals.{In_ok-value}
use Rattle.pack.proofs.packing.pack_input.Goals as goal

pub returns-in_err-value : goal.returns-in_err-value
returns-in_err-value c =
    let p = err_from_is_err_and c.from_residual.result c.from_residual.ensures.1 in
    rw (p.1, p.2) (no_number c.args.input.now c.args.room.now _ _ _ c.read_number.ensures c.at.ensures c.in_err-value.ensures.value)

-- the number at the front

found : (c : In_ok-value) → Some c.in_ok-value.field-0 ≡ read_number c.args.input.now
found c = sym c.in_ok-value.ensures.ok_part ∙ c.read_number.ensures

pub returns-in-Err : goal.returns-in-Err
returns-in-Err c = no_format c.args.input.now c.args.room.now _ (found (goal.at.returns-in-Err c).In_ok-value) _ _ (sym c.in-Err.is ∙ c.fresh.ensures)

within : (c : In_ok-value) → c.in_ok-value.field-0.used ≤ length c.args.input.now
within c = number_within c.args.input.now c.args.room.now _ (found c) (λ i. (c.type_inv.input i).fits)

pub slice_bounds-pack_list-count : goal.slice_bounds-pack_list-count
slice_bounds-pack_list-count c = within (goal.at.slice_bounds-pack_list-count c).In_ok-value

pub slice_bounds-pack_list-start : goal.slice_bounds-pack_list-start
slice_bounds-pack_list-start c = let h = within (goal.at.slice_bounds-pack_list-start c).In_ok-value in search rules

pub returns-in-Ok : goal.returns-in-Ok
returns-in-Ok c =
    subst (λ (out : List ℕ). Written out c.args.room.now c.pack_list.new.room c.pack_list.result)
    (list_is c.args.input.now c.args.room.now _ (found (goal.at.returns-in-Ok c).In_ok-value) _ (sym c.in-Ok.is ∙ c.fresh.ensures)) c.pack_list.ensures
