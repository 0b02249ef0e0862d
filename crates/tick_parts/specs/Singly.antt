-- Ticks one by one, and what each of them reported. What stands in quotation marks is that of docs/ITEMS.md. Assumes nothing.
use Rattle.std.specs.Prelude.{ℕ, zero, suc, ◌+◌, [], ◌++◌}
use Rattle.device.specs.declared.Model.{Model}
use Rattle.device.specs.declared.Answer.{Answer}
use Rattle.device.specs.declared.Answer.TheVariants.{Refused, Accepted, Ticked, Stretched, Good, Failed}
use Rattle.device.specs.Call.{Call}
use Rattle.device.specs.Reply.{reply}
use Rattle.wording.specs.Wording.{Texts, reports_at}
use Rattle.item_calls.specs.Lines.{Ticks}

-- "` WHAT@I` for each thing that the I-th of these ticks reported": "`failed-flight`, `started-flight`, `failed-temperature` or
-- `started-temperature`, in this order within one tick"
unfoldable pub one_reported : Answer → ℕ → Texts
one_reported (Refused r) i = []
one_reported (Accepted flight temperature) i = []
one_reported (Ticked flight temperature) i =
    reports_at flight.failed flight.started temperature.failed temperature.started i
one_reported (Stretched flight temperature) i = []
one_reported Good i = []
one_reported Failed i = []

-- n single ticks, with so many before them: the model that the last one leaves, and what each reported, the first of them first
unfoldable pub singly : ℕ → ℕ → Model → Ticks
singly zero before m = record { model = m; texts = [] }
singly (suc n) before m =
    let r = reply m Call.tick in
    let rest = singly n (before + 1) r.model in
    record { model = rest.model; texts = one_reported r.answer (before + 1) ++ rest.texts }
