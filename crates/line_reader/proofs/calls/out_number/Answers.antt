-- `line_reader::calls::out_number` meets its contract.
-- Assumes nothing.
use Prim.Native.Nat.{ℕ, ◌-◌, ◌≤◌}
use mathlib.Core.List.{List}
use mathlib.Core.Path.{ap, ◌∙◌}
use native.Mathlib.Omega.{arith}
use lib.ListN.{length, drop, length-drop}
use lib.Seq.{take_all}
use Rattle.numeral.specs.Read.{read_decimal}
use Rattle.line.proofs.LineLaws.{out-long}
use Rattle.line_reader.proofs.calls.out_number.Goals as goal

pub slice_bounds-read_decimal-count : goal.slice_bounds-read_decimal-count
slice_bounds-read_decimal-count c = omega (arith, out-long _ c.requires)

pub slice_bounds-read_decimal-start : goal.slice_bounds-read_decimal-start
slice_bounds-read_decimal-start c = omega (arith, out-long _ c.requires)

pub returns : goal.returns
returns c =
    let w : List ℕ = c.args.word.now in
    let all : length (drop 4 w) ≤ length w - 4 = rw length-drop (omega arith) in
    c.read_decimal.ensures ∙ ap (read_decimal 200) (take_all _ _ all)
