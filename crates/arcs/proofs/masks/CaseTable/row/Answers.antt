use Rattle.std.proofs.Common.{◌≡◌, ◌+◌, ◌∙◌, ap, get_or, arith}
use Rattle.std.proofs.lemmas.List.FromFn.{get_or-map-range_with_len}
use Rattle.arcs.specs.declared.masks.CaseRow.{CaseRow}
use Rattle.arcs.specs.Masks.{case_row}
use Rattle.arcs.proofs.masks.CaseTable.row.Goals as goal

pub returns : goal.returns
returns c =
    let no_row : CaseRow = record { arcs = 0; ends = 0 } in
    let index : 0 + c.args.mask ≡ c.args.mask = omega arith in
    ap (λ rows. get_or rows c.args.mask no_row) c.args.self.now.right ∙ get_or-map-range_with_len case_row 0 64 c.args.mask c.args.mask no_row c.requires index
