-- The page of `show`: its rows, in the order of the page. Assumes nothing.
use Rattle.std.specs.Prelude.{List, ◌++◌}
use Rattle.device.specs.declared.Model.{Model}
use Rattle.wording.specs.Wording.{Texts}
use Rattle.page.specs.Row.{lines}
use Rattle.page.specs.Clock.{clock_rows}
use Rattle.page.specs.Setup.{setup_rows, more_setup_rows}
use Rattle.page.specs.Results.{up_rows, down_rows, difference_rows, port_rows, last_rows}
use Rattle.page.specs.Run.{run_rows}
use Rattle.page.specs.Commands.{command_rows}

unfoldable pub page : Model → List Texts
page m =
    clock_rows m
    ++ (setup_rows m
    ++ (more_setup_rows m
    ++ (up_rows m
    ++ (down_rows m ++ (difference_rows m ++ (port_rows m ++ (last_rows m ++ (run_rows m ++ command_rows m))))))))

-- the page's texts, each row with its line feed
unfoldable pub page_texts : Model → Texts
page_texts m = lines (page m)
