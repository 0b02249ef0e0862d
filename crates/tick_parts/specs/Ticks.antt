-- Ticks, and more ticks behind them. Assumes nothing.
use Rattle.std.specs.Prelude.{ℕ, ◌++◌}
use Rattle.item_calls.specs.Lines.{Ticks, ticked}

-- Some ticks, then n more, with so many before these.
abbrev pub afterwards : Ticks → ℕ → ℕ → Ticks
afterwards t n before = record {
  model = (ticked n n before t.model).model;
  texts = t.texts ++ (ticked n n before t.model).texts;
}
