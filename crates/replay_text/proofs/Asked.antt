-- What the lines that ask add to a text, behind any lines of it and outside a check: what the registers of the model before the line hold.
-- What stands in quotation marks is that of docs/ITEMS.md. Assumes nothing.
use Prim.Native.Nat.{ℕ, zero, suc, ◌+◌, ◌*◌, ◌/◌, ◌%◌, ◌≤◌, ◌<◌}
use mathlib.Core.Bool.{Bool, true, false}
use mathlib.Core.List.{List, [], ◌∷◌, ◌++◌, append-nil}
use mathlib.Core.Logic.{◌↔◌}
use mathlib.Core.Path.{◌≡◌, refl, sym, ap, subst, ◌∙◌}
use native.Mathlib.Omega.{arith}
use lib.ListN.{length, get_or, take, drop, length-take}
use Rattle.unit.specs.Choice.{pick}
use Rattle.numeral.specs.Ascii.{ascii}
use Rattle.numeral.specs.Digit.{digits}
use Rattle.numeral.specs.Place.{joined}
use Rattle.numeral.specs.Print.{decimal}
use Rattle.numeral.specs.Read.{read_hex}
use Rattle.hit.specs.Mean.{All}
use Rattle.device.specs.declared.Model.{Model}
use Rattle.device.specs.declared.Schedule.{Schedule}
use Rattle.device.specs.Event.{is_awaited}
use Rattle.device.specs.Model.{is_sound}
use Rattle.device.specs.Question.{awaited_told}
use Rattle.device.specs.Registers.{register_word}
use Rattle.device.specs.Reply.{flag}
use Rattle.device.proofs.RegisterMeaning.{reads-setup, reads-status}
use Rattle.device.proofs.StatusMeaning.{interrupt-yes, interrupt-no}
use Rattle.page.specs.Row.{lines}
use Rattle.page.specs.Page.{page, page_texts}
use Rattle.page.proofs.Width.{page-narrow}
use Rattle.line.specs.declared.Content.{Content}
use Rattle.line.specs.Line.{Bounded, line_reading}
use Rattle.line.proofs.BoundLaws.{line-bounded}
use Rattle.line_buffer.specs.Lines.{each_line}
use Rattle.wording.specs.Wording.{Texts, line_feed}
use Rattle.item_state.specs.Told.{told_value}
use Rattle.item_calls.specs.Lines.{call_line, timed_line, beside}
use Rattle.item_questions.specs.Answers.{interrupt, awaited, registers, expectation}
use Rattle.item_questions.proofs.Meaning.{rows_of, ten-rows, told_each, differing_at, differs-line, ok-said-exactly, reads-back}
use Rattle.item_checks.specs.Fault.{is_fault, is_past_or_full, left_of}
use Rattle.item_checks.specs.Open.{is_item}
use Rattle.item_checks.specs.Close.{expected_of}
use Rattle.answer_text.specs.Texts.{call_told, told_of_expect, question_told, analysis_told}
use Rattle.answer_text.specs.Line.{line_told}
use Rattle.answer_text.proofs.Bytes.{regs-word}
use Rattle.session.specs.Line.{State, line_done, with_log}
use Rattle.session.specs.Ends.{counts_begun}
use Rattle.line_text.specs.Text.{fault_told, item_told, head_of, judged_text}
use Rattle.line_room.specs.Form.{Waits}
use Rattle.line_room.proofs.Kept.{ticked-keeps, line-keeps}
use Rattle.line_room.proofs.Waits.{fresh-waits, keeps-waits}
use Rattle.replay_text.specs.Replay.{TickLine, tick_lines, ticks_done, told_by, done_by, opening, own_whole, done_whole, Page, content_page, page_line, first_page}
use Rattle.replay_text.specs.LastLine.{counts_of, read_on, line_own, is_bad}
use Rattle.replay_text.proofs.Words.{registers-small}
use Rattle.replay_text.proofs.Numbers.{reading-alike}
use Rattle.replay_text.proofs.Bad.{line_adds}
use Rattle.replay_text.proofs.Text.{check-left, good-line-text}
use Rattle.replay_text.proofs.Carried.{is_carried, line-unmarked}
use Rattle.replay_text.proofs.Order.{InOrder, order-line, order-first, order-lines}
use Rattle.std.specs.Prelude.{Ok, Some}

-- ---- what each of these lines tells, and that it leaves the model

module _ (line numbers names : List ℕ) (s : State) (c : List ℕ) where
  own-int : ((own_whole Content.Int line numbers names s c).texts ≡ interrupt s.model) × ((done_whole Content.Int line numbers names s c).model ≡ s.model)
  unfolding own_whole done_whole opening fault_told left_of is_fault is_past_or_full item_told is_item told_by done_by tick_lines line_told line_done call_told question_told analysis_told call_line timed_line beside
  own-int = (append-nil (interrupt s.model), refl)

  own-awaited : ((own_whole Content.Awaited line numbers names s c).texts ≡ awaited s.model) × ((done_whole Content.Awaited line numbers names s c).model ≡ s.model)
  unfolding own_whole done_whole opening fault_told left_of is_fault is_past_or_full item_told is_item told_by done_by tick_lines line_told line_done call_told question_told analysis_told call_line timed_line beside
  own-awaited = (append-nil (awaited s.model), refl)

  own-regs : ((own_whole Content.Regs line numbers names s c).texts ≡ registers s.model) × ((done_whole Content.Regs line numbers names s c).model ≡ s.model)
  unfolding own_whole done_whole opening fault_told left_of is_fault is_past_or_full item_told is_item told_by done_by tick_lines line_told line_done call_told question_told analysis_told call_line timed_line beside
  own-regs = (append-nil (registers s.model), refl)

  own-expect : (a n : ℕ) → ((own_whole (Content.Expect a n) line numbers names s c).texts ≡ expectation s.model a (take n numbers))
      × ((done_whole (Content.Expect a n) line numbers names s c).model ≡ s.model)
  unfolding own_whole done_whole opening fault_told left_of is_fault is_past_or_full item_told is_item told_by done_by tick_lines line_told line_done call_told question_told told_of_expect analysis_told call_line timed_line beside
  own-expect a n = (append-nil (expectation s.model a (take n numbers)), refl)

  own-show : ((own_whole Content.Show line numbers names s c).texts ≡ page_texts s.model) × ((done_whole Content.Show line numbers names s c).model ≡ s.model)
  unfolding own_whole done_whole opening fault_told left_of is_fault is_past_or_full item_told is_item told_by done_by tick_lines line_told line_done call_told question_told analysis_told call_line timed_line beside
  own-show = (append-nil (page_texts s.model), refl)

-- ---- every page of a text

-- A text that is no check stays none.
pub check-lines : (ls : List (List ℕ)) (p : Page) → InOrder p → get_or (counts_of (each_line page_line ls p)) 14 0 ≡ get_or (counts_of p) 14 0
unfolding each_line
check-lines [] p o = refl
check-lines (l ∷ ls) p o = check-lines ls (page_line l p) (order-line l p o) ∙ check-left l p o.long

-- The ticks until the next starts are words of 32 bits throughout.
waits-done : (ts : List TickLine) (content : Content) (numbers : List ℕ) (s : State) → Waits s.model → Waits (done_by ts content numbers s).model
unfolding done_by line_done ticks_done
waits-done [] content numbers s w =
    line-keeps Waits fresh-waits (λ m c fits. keeps-waits m c) content numbers record { model = s.model; flash = s.flash; log = s.log } w
waits-done (t ∷ ts) content numbers s w = ticked-keeps Waits fresh-waits (λ m c fits. keeps-waits m c) t.ticks t.ticks t.before s.model w

waits-line : (line : List ℕ) (p : Page) → Waits p.replay.state.model → Waits (page_line line p).replay.state.model
unfolding page_line content_page done_whole
waits-line line p w =
    let read = line_reading p.numbers line in
    let counts = (head_of p.replay).counts in
    let left = left_of read.content counts in
    let after = (opening read.content line p.replay.names counts).counts in
    waits-done (tick_lines left after) left read.numbers (with_log p.replay.state record { counts = after; answers = [] }) w

waits-lines : (ls : List (List ℕ)) (p : Page) → Waits p.replay.state.model → Waits (each_line page_line ls p).replay.state.model
unfolding each_line
waits-lines [] p w = w
waits-lines (l ∷ ls) p w = waits-lines ls (page_line l p) (waits-line l p w)

waits-first : (path : List ℕ) (check : Bool) → Waits (first_page path check).replay.state.model
unfolding first_page
waits-first path check = fresh-waits

-- ---- a line of a text

-- what holds of each row holds of the row at each place
by_place : (P : Texts → Type 0) (rows : List Texts) → All P rows → (i : ℕ) → i < length rows → P (get_or rows i [])
by_place P [] all i less = absurd (omega (arith, less))
by_place P (row ∷ rows) all zero less = all.0
by_place P (row ∷ rows) all (suc i) less = by_place P rows all.1 i (omega (arith, less))

-- "The INT answer is yes exactly when INT_EN (bit 9 of 42h) is 1 and the status is not 0": 42h is read at C2h, the status at FEh.
abbrev pub Interrupts : Model → Type 0
Interrupts m = (register_word m 0xC2 / 512 % 2 ≡ 1) × ¬ (register_word m 0xFE ≡ 0)

yes-said : (m : Model) → is_sound m ≡ true → Interrupts m → joined (interrupt m) ≡ ascii "int yes\n"
unfolding interrupt told_value joined
yes-said m sound both =
    let enabled : register_word m 0xC2 ≡ _ = reads-setup m 0x42 (omega arith) (omega arith) in
    let told = (interrupt-yes m).1 (sound, rw enabled at both.0, rw (reads-status m) at both.1) in
    rw told (append-nil (ascii "int yes\n"))

no-said : (m : Model) → is_sound m ≡ true → ¬ Interrupts m → joined (interrupt m) ≡ ascii "int no\n"
unfolding interrupt told_value joined
no-said m sound not-both =
    let enabled : register_word m 0xC2 ≡ _ = reads-setup m 0x42 (omega arith) (omega arith) in
    let told = (interrupt-no m sound).1 (λ both. not-both (rw enabled both.0, rw (reads-status m) both.1)) in
    rw told (append-nil (ascii "int no\n"))

awaited-value : (m : Model) (k : Schedule) → is_sound m ≡ true → told_value (awaited_told m k) ≡ flag (is_awaited k)
unfolding awaited_told told_value
awaited-value m k sound = rw sound (go (is_awaited k))
  where
    go : (t : Bool) → told_value (pick t (Ok 1) (Ok 0)) ≡ flag t
    go true = refl
    go false = refl

-- Behind any lines of a text that is no check:
module _ (path : List ℕ) (before : List (List ℕ)) (line : List ℕ) where
  abbrev here : Page
  here = each_line page_line before (first_page path false)

  abbrev model : Model
  model = here.replay.state.model

  abbrev after : Model
  after = (page_line line here).replay.state.model

  order : InOrder here
  order = order-lines before (first_page path false) (order-first path false)

  sound : is_sound model ≡ true
  sound = order.sound

  outside : get_or (counts_of here) 14 0 ≡ 0
  unfolding first_page counts_begun
  outside = check-lines before (first_page path false) (order-first path false)

  -- A line without `=>` that is not bad adds what it tells, and leaves the model that it leaves.
  module _ (k : Content) (is : (read_on line here).content ≡ k) (good : is_fault k (counts_of here) ≡ false) (unmarked : expected_of line ≡ []) (T : Texts) where
    adds : let read = read_on line here in
        let s = here.replay.state in
        let h = (head_of here.replay).counts in
        ((own_whole k line read.numbers here.replay.names s h).texts ≡ T) × ((done_whole k line read.numbers here.replay.names s h).model ≡ model)
        → (line_adds line here ≡ joined T) × ((page_line line here).replay.state.model ≡ model)
    unfolding is_bad line_own page_line content_page judged_text
    adds own =
        let fine : is_bad line here ≡ false = rw is good in
        let told : (line_own line here).texts ≡ T = rw is own.0 in
        (good-line-text line here order.long fine outside ∙ rw unmarked (ap joined told), rw is own.1)

  module _ (unmarked : expected_of line ≡ []) where
    -- `regs`: ten lines of eight words, each register's by its address; the model is left as it is
    pub regs-asked : (read_on line here).content ≡ Content.Regs
        → (line_adds line here ≡ joined (rows_of (register_word model) 0xB0 10)) × (after ≡ model)
    unfolding is_fault is_past_or_full
    regs-asked is =
        let read = read_on line here in
        let r = adds Content.Regs is refl unmarked (registers model) (own-regs line read.numbers here.replay.names here.replay.state (head_of here.replay).counts) in
        (r.0 ∙ ap joined (ten-rows model sound), r.1)

    -- line i, of ten, and column j, of eight
    pub regs-word-asked : (read_on line here).content ≡ Content.Regs → (i j : ℕ) → i < 10 → j < 8
        → take 4 (drop (43 * i + (3 + 5 * j)) (line_adds line here)) ≡ digits 16 4 (register_word model (0xB0 + 8 * i + j))
    regs-word-asked is i j few less =
        rw ((regs-asked is).0, ← ten-rows model sound) (regs-word model i j sound few less)

    -- `int`
    pub int-asked : (read_on line here).content ≡ Content.Int
        → (Interrupts model → line_adds line here ≡ ascii "int yes\n") × (¬ Interrupts model → line_adds line here ≡ ascii "int no\n") × (after ≡ model)
    unfolding is_fault is_past_or_full
    int-asked is =
        let read = read_on line here in
        let r = adds Content.Int is refl unmarked (interrupt model) (own-int line read.numbers here.replay.names here.replay.state (head_of here.replay).counts) in
        (λ yes. r.0 ∙ yes-said model sound yes, λ no. r.0 ∙ no-said model sound no, r.1)

    -- `awaited`: "each 0 or 1", 1 where the kind is awaited
    pub awaited-asked : (read_on line here).content ≡ Content.Awaited
        → (line_adds line here
        ≡ joined (ascii "awaited " ∷ decimal (flag (is_awaited model.flight.schedule)) ∷ ascii " " ∷ decimal (flag (is_awaited model.temperature.schedule)) ∷ line_feed ∷ []))
        × (after ≡ model)
    unfolding is_fault is_past_or_full awaited
    awaited-asked is =
        let read = read_on line here in
        let r = adds Content.Awaited is refl unmarked (awaited model) (own-awaited line read.numbers here.replay.names here.replay.state (head_of here.replay).counts) in
        (r.0 ∙ rw (awaited-value model model.flight.schedule sound, awaited-value model model.temperature.schedule sound), r.1)

  -- `show`: the rows of the model's page, each with its line feed, and none of more than 80 characters
  pub show-asked : (read_on line here).content ≡ Content.Show
      → (line_adds line here ≡ joined (lines (page model))) × ((i : ℕ) → i < length (page model) → length (joined (get_or (page model) i [])) ≤ 80) × (after ≡ model)
  unfolding is_fault is_past_or_full page_texts is_carried
  show-asked is =
      let read = read_on line here in
      let r = adds Content.Show is refl (line-unmarked here.numbers line (ap is_carried is)) (page_texts model) (own-show line read.numbers here.replay.names here.replay.state (head_of here.replay).counts) in
      let w : Waits model = waits-lines before (first_page path false) (waits-first path false) in
      (r.0, by_place (λ (row : Texts). length (joined row) ≤ 80) (page model) (page-narrow model (omega (arith, w.flight.wait)) (omega (arith, w.temperature.wait))), r.1)

  -- `expect A W ..`, of n words: the words that the line gives
  module _ (a n : ℕ) (is : (read_on line here).content ≡ Content.Expect a n) where
    abbrev given : List ℕ
    given = take n (read_on line here).numbers

    -- every register from A on holds the word given for it
    abbrev pub Holding : Type 0
    Holding = (i : ℕ) → i < length given → register_word model (a + i) ≡ get_or given i 0

    bounded : Bounded (Content.Expect a n)
    bounded = subst Bounded is (line-bounded here.numbers line)

    -- they are n, and the registers are those that a read has
    pub given-words : (length given ≡ n) × (0xB0 ≤ a) × (a + n ≤ 0x100)
    given-words =
        let long : length (read_on line here).numbers ≡ 512 = (reading-alike here.numbers here.numbers refl line).kept ∙ order.numbers in
        let all = length-take n (read_on line here).numbers in
        (omega (arith, all, long, bounded.0, bounded.1, bounded.3), omega (arith, bounded.0), omega (arith, bounded.1, bounded.3))

    high : a + length given ≤ 0x100
    high = omega (arith, given-words.0, given-words.2)

    expected : (line_adds line here ≡ joined (expectation model a given)) × (after ≡ model)
    unfolding is_fault is_past_or_full is_carried
    expected =
        adds (Content.Expect a n) is refl (line-unmarked here.numbers line (ap is_carried is)) (expectation model a given)
        (own-expect line (read_on line here).numbers here.replay.names here.replay.state (head_of here.replay).counts a n)

    -- "`expect A ok`" exactly when each register holds the word given,
    pub expect-ok : (line_adds line here ≡ joined (ascii "expect " ∷ digits 16 2 a ∷ ascii " ok" ∷ line_feed ∷ [])) ↔ Holding
    expect-ok =
        let both = ok-said-exactly model a sound given-words.1 given high in
        (λ said. both.0 (sym expected.0 ∙ said), λ all. expected.0 ∙ both.1 all)

    -- or "`expect A differs`" and each register that holds another one, in order, with both words,
    pub expect-differs : ¬ Holding
        → line_adds line here ≡ joined (ascii "expect " ∷ digits 16 2 a ∷ ascii " differs" ∷ (told_each model a given (differing_at model a given) ++ (line_feed ∷ [])))
    expect-differs some = expected.0 ∙ ap joined (differs-line model a sound given-words.1 given high some)

    -- and the model is left as it is.
    pub expect-leaves : after ≡ model
    expect-leaves = expected.1

-- ---- words that read back

-- What `regs` adds reads back as the registers' words: line i, of ten, and column j, of eight.
pub regs-back-asked : (path : List ℕ) (before : List (List ℕ)) (line : List ℕ) → expected_of line ≡ []
    → let here = each_line page_line before (first_page path false) in
    (read_on line here).content ≡ Content.Regs → (i j : ℕ) → i < 10 → j < 8
    → read_hex 4 4 (take 4 (drop (43 * i + (3 + 5 * j)) (line_adds line here))) ≡ Some (register_word here.replay.state.model (0xB0 + 8 * i + j))
regs-back-asked path before line unmarked is i j few less =
    let here = each_line page_line before (first_page path false) in
    rw (regs-word-asked path before line unmarked is i j few less)
    (reads-back (register_word here.replay.state.model (0xB0 + 8 * i + j)) (registers-small path false before (0xB0 + 8 * i + j)))
