-- A part of a text that is told by its places. Assumes nothing.
use Rattle.std.specs.Prelude.{◌-◌, take, drop}
use Rattle.text.specs.declared.Span.{Span}
use Rattle.text.specs.Text.{Text}

unfoldable pub part : Text → Span → Text
part text s = take (s.end - s.start) (drop s.start text)
