-- A replay: from the text that is read to the text that is written, by the rules of docs/ITEMS.md. No piece of the input is in it, and
-- what is written goes through no buffer of answers. (What a line leaves of the model and beside it is `line_done` of session, which also puts
-- the line's answer into a buffer: here into one without places, of which nothing is used.) What stands in quotation marks is that of docs/ITEMS.md. Assumes nothing.
--
-- The names are a list of 5,120 places: the file's path from the first on, the item's name from the place 4,096 on. The program hands
-- over no path of more than 4,096 bytes; of a longer one, the item's name would take the places from 4,096 on.
--
-- The counts by their places: 2 lines, 3 calls, 4 refusals, 5 those that are not announced, 6 bad lines, 7 expectations, 8 those that
-- differ, 9 ticks since the last start, 10 differences in the record, 11 entries of the probe table, 14 not 0 in a check, 15 and 16 where
-- the item's and the file's name end, 17 to 19 what 4, 6 and all that needs a look were before the line. 0, 12, 13 and 20 are places in a
-- buffer of answers, and 21 the ticks that are left of a line under way: all of them are 0 between two lines here. 1 has no use.
use Rattle.std.specs.Prelude.{ℕ, ◌-◌, Bool, cond, List, [], ◌∷◌, ◌++◌, eqb, pos, get_or, set, replicate}
use Rattle.item_state.specs.Log.{call_counted}
use Rattle.numeral.specs.Place.{joined}
use Rattle.device.specs.declared.Model.{Model}
use Rattle.device.specs.Model.{fresh_model}
use Rattle.line.specs.declared.Content.{Content}
use Rattle.line.specs.Line.{line_reading}
use Rattle.line_buffer.specs.Lines.{text_lines, each_line}
use Rattle.wording.specs.Wording.{Texts, line_feed, tick_head, at_head}
use Rattle.item_calls.specs.Lines.{moved, ticked}
use Rattle.item_checks.specs.Fault.{left_of}
use Rattle.item_checks.specs.Close.{expected_of}
use Rattle.answer_text.specs.Texts.{Told, behind}
use Rattle.answer_text.specs.Line.{line_told}
use Rattle.session.specs.Line.{State, line_done, Replay, with_log}
use Rattle.session.specs.Ends.{names_begun, counts_begun, last_texts}
use Rattle.line_text.specs.Text.{fault_told, item_told, names_after, bare, head_of, elsewhere}
use Rattle.line_text.specs.Text.{told_text, told_counts}

-- ---- "`tick N`" and "`at T`"

-- What a line of ticks runs: the words before its reports, how many ticks, how many of those that it counts were before them, and the
-- counts after it, but for the call that it is.
pub record TickLine : Type 0 where
  pub head : Texts
  pub ticks : ℕ
  pub before : ℕ
  pub counts : List ℕ

-- "N single ticks"; "single ticks until T ticks .. have passed", count 9 being those that have. No other line is one; `tick 1` is
-- told by its single tick, in the same words.
unfoldable pub tick_lines : Content → List ℕ → List TickLine
tick_lines Content.Nothing counts = []
tick_lines Content.TooLong counts = []
tick_lines Content.UnknownWord counts = []
tick_lines Content.BadNumber counts = []
tick_lines Content.WrongCount counts = []
tick_lines Content.Item counts = []
tick_lines (Content.Bus n) counts = []
tick_lines (Content.BusOut size n) counts = []
tick_lines (Content.Tick n) counts =
    cond (eqb n 1) [] (record { head = tick_head n; ticks = n; before = 0; counts = moved n counts } ∷ [])
tick_lines (Content.Flight up down) counts = []
tick_lines (Content.Temperature n) counts = []
tick_lines Content.Int counts = []
tick_lines Content.Awaited counts = []
tick_lines Content.Regs counts = []
tick_lines (Content.Expect a n) counts = []
tick_lines Content.Show counts = []
tick_lines (Content.Set a n) counts = []
tick_lines (Content.At t) counts =
    let n = t - get_or counts 9 0 in
    record { head = at_head t; ticks = n; before = t - n; counts = set counts 9 t } ∷ []
tick_lines (Content.Stretch n) counts = []
tick_lines Content.Frames counts = []
tick_lines (Content.Probe n) counts = []
tick_lines Content.Degrees counts = []
tick_lines (Content.Record n) counts = []
tick_lines (Content.Listing old first) counts = []
tick_lines (Content.Quietest n) counts = []

-- "then ` WHAT@I` for each thing that the I-th of these ticks reported"
unfoldable pub ticks_told : TickLine → Model → Told
ticks_told t m = record {
  texts = t.head ++ ((ticked t.ticks t.ticks t.before m).texts ++ (line_feed ∷ []));
  counts = call_counted 0 t.counts;
}

unfoldable pub ticks_done : TickLine → State → State
ticks_done t s = record {
  model = (ticked t.ticks t.ticks t.before s.model).model;
  flash = s.flash;
  differences = s.differences;
  probes = s.probes;
  log = s.log;
}

-- ---- any line

-- What a line tells: its ticks as a whole, or what any other line tells. (`line_told` also has lines of ticks in the
-- parts in which the code answers them; none is handed to it here.)
unfoldable pub told_by : List TickLine → Content → List ℕ → State → List ℕ → Told
told_by [] content numbers s counts = line_told content numbers (bare s counts) s.differences s.probes
told_by (t ∷ ts) content numbers s counts = ticks_told t s.model

-- What it leaves of the model, the user flash, the record and the probe table. The counts after it are those of `content_page`.
unfoldable pub done_by : List TickLine → Content → List ℕ → State → State
done_by [] content numbers s = line_done content numbers s
done_by (t ∷ ts) content numbers s = ticks_done t s

-- "A line that is none of these is no call": a bad line's text, or an item's name, before what a line tells.
unfoldable pub opening : Content → List ℕ → List ℕ → List ℕ → Told
opening content text names counts = behind (fault_told content counts) (item_told (left_of content counts) text names)

-- All that a line tells: a bad line's text or an item's name, and behind it what the line tells of the model
unfoldable pub own_whole : Content → List ℕ → List ℕ → List ℕ → State → List ℕ → Told
own_whole content text numbers names s counts =
    let left = left_of content counts in
    behind (opening content text names counts) (λ after. told_by (tick_lines left after) left numbers s after)

-- and what it leaves
unfoldable pub done_whole : Content → List ℕ → List ℕ → List ℕ → State → List ℕ → State
done_whole content text numbers names s counts =
    let left = left_of content counts in
    let after = (opening content text names counts).counts in
    done_by (tick_lines left after) left numbers (with_log s record { counts = after; answers = [] })

-- ---- line by line

-- All that is written so far; the numbers of the line before, in whose places the next ones are read; and what is kept from line to
-- line, the model first. There is no buffer: the places of one among the counts are 0.
pub record Page : Type 0 where
  pub text : List ℕ
  pub numbers : List ℕ
  pub replay : Replay

-- A line that was read, and the words that it expects: its text stands behind the texts of the lines before it.
unfoldable pub content_page : Content → List (List ℕ) → List ℕ → List ℕ → Page → Page
content_page content expected line numbers p =
    let r = p.replay in
    let head = head_of r in
    let names = names_after (left_of content head.counts) line r.names in
    let own = own_whole content line numbers r.names r.state head.counts in record {
      text = p.text ++ told_text expected names head own;
      numbers = numbers;
      replay = record {
        state =
            with_log (done_whole content line numbers r.names r.state head.counts)
            record { counts = elsewhere 0 0 0 0 (told_counts expected own); answers = [] };
        names = names;
      };
    }

unfoldable pub page_line : List ℕ → Page → Page
page_line line p =
    let read = line_reading p.numbers line in content_page read.content (expected_of line) line read.numbers p

-- ---- a whole text

-- "Without such a line the text starts on a fresh model"; "a user flash of 8,192 bytes of its own, all FFh at its start, a record of at
-- most 4,096 differences and a probe table of at most 1,024 entries, both empty there"
unfoldable pub first_page : List ℕ → Bool → Page
first_page path check = record {
  text = [];
  numbers = replicate 512 0;
  replay = record {
    state = record {
      model = fresh_model;
      flash = replicate 8192 0xFF;
      differences = replicate 4096 (pos 0);
      probes = replicate 1024 0;
      log = record { counts = counts_begun (replicate 5120 0) path check (replicate 22 0); answers = [] };
    };
    names = names_begun (replicate 5120 0) path;
  };
}

unfoldable pub last_page : List ℕ → Bool → List ℕ → Page
last_page path check text = each_line page_line (text_lines text) (first_page path check)

-- The last line; a check has none.
unfoldable pub last_text : List ℕ → List ℕ
last_text counts = cond (eqb (get_or counts 14 0) 0) (joined (last_texts counts)) []

-- All that is written for a text: its path, whether it is a check, and the text.
unfoldable pub replay_text : List ℕ → Bool → List ℕ → List ℕ
replay_text path check text =
    let p = last_page path check text in p.text ++ last_text p.replay.state.log.counts
