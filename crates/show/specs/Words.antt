-- The words that the page's rows tell of. Assumes nothing.
use Rattle.std.specs.Prelude.{ℕ, zero, suc, ◌+◌, List, [], ◌∷◌, ◌++◌, ◌≡◌}
use Rattle.device.specs.declared.Model.{Model}
use Rattle.item_state.specs.Told.{read_word}
use Rattle.wording.specs.Wording.{Texts}
use Rattle.wording.specs.Text.{PutEach}
use Rattle.page.specs.Row.{lines}
use Rattle.page.specs.Clock.{clock_rows}
use Rattle.page.specs.Setup.{setup_rows, more_setup_rows}
use Rattle.page.specs.Results.{up_rows, down_rows, difference_rows, port_rows, last_rows}

-- what reads of n addresses from a on would give
unfoldable pub words_from : Model → ℕ → ℕ → List ℕ
words_from m a zero = []
words_from m a (suc n) = read_word m a ∷ words_from m (a + 1) n

-- those of B0h to FFh
unfoldable pub page_words : Model → List ℕ
page_words m = words_from m 0xB0 80

-- To put rows of a model by its words.
abbrev pub PutRows : (Model → List Texts) → List ℕ → List ℕ → ℕ → ℕ → List ℕ → Type 0
PutRows rows ws l at r l' = (m : Model) → ws ≡ page_words m → PutEach l at (lines (rows m)) r l'

-- The rows of all registers.
unfoldable pub register_rows : Model → List Texts
register_rows m =
    clock_rows m
    ++ (setup_rows m ++ (more_setup_rows m ++ (up_rows m ++ (down_rows m ++ (difference_rows m ++ (port_rows m ++ last_rows m))))))
