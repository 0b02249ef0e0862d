-- Turns come to the page of the definition, whatever is kept between them, if each line does. Assumes nothing.
use Prim.Native.Nat.{ℕ, zero, suc, ◌+◌, ◌-◌, ◌*◌, ◌/◌, ◌≤◌, ◌<◌}
use mathlib.Core.Bool.{Bool, true, false, cond, true≢false, false≢true}
use mathlib.Core.List.{List, [], ◌∷◌, ◌++◌, append_assoc}
use mathlib.Core.Logic.{◌⊎◌, ⊎_elim, inl, inr}
use mathlib.Core.Path.{◌≡◌, refl, sym, ap, subst, ◌∙◌}
use native.Mathlib.Omega.{arith}
use lib.Dec.{eqb, leb}
use lib.ListN.{length, get_or, set, take}
use lib.Seq.{get_or-set_other}
use borrow.Author.Tests.{eq-eqb, eqb-true, leb-true}
use Rattle.unit.proofs.Cases.{by-test}
use Rattle.line_buffer.specs.Lines.{has_line, with_first, lines_in, rest_in, last_line, each_line, piece_read, pieces_read}
use Rattle.line_buffer.proofs.LineLaws.{line-not-there}
use Rattle.line_buffer.proofs.Pieces.{no_lines, all_rest, rest-none, none-taken}
use Rattle.session.proofs.FeedLaws.{fed-none}
use Rattle.session.specs.Feed.{Fed, has_room, line_fed, fed}
use Rattle.session.specs.Flush.{is_long, written_now, kept_to, after_writing, line_ending}
use Rattle.session.specs.Turns.{Turned, flushed, turned, following, with_bytes}
use Rattle.replay_text.specs.Replay.{Page, page_line}
use Rattle.replay_text.specs.Turns.{drained, turns_for, pieces_turned}

-- where the answers end, and the ticks of a line under way that are left
abbrev pub used_of : Fed → ℕ
used_of f = get_or f.replay.state.log.counts 0 0

abbrev pub ticks_left : Fed → ℕ
ticks_left f = get_or f.replay.state.log.counts 21 0

-- How many turns are left at most: 4,097 for each byte, since each line has a line feed; of a line under way one for each part.
abbrev measure_by : Bool → ℕ → ℕ → ℕ
measure_by whole bytes ticks = cond whole (4097 * bytes) (4097 * (bytes - 1) + (ticks + 1048575) / 1048576)

abbrev pub measure : Fed → ℕ
measure f = measure_by (eqb (ticks_left f) 0) (length f.left) (ticks_left f)

abbrev pub page_after : List ℕ → Page → Page
page_after bytes p = each_line page_line (lines_in bytes) p

-- What is kept between two turns of a replay is told by two relations to what was written so far and to the page of the definition: of a
-- line that is not under way, and of one that is.
module _ (Idle Under : List ℕ → Fed → Page → Type 0) where
  -- One comes from the other: what is left to be answered comes to the same page, and it is less.
  pub record Comes (w : List ℕ) (f g : Fed) (p : Page) : Type 0 where
    pub page : Page
    pub there : Idle w g page ⊎ Under w g page
    pub after : page_after g.left page ≡ page_after f.left p
    pub rest : rest_in g.left ≡ rest_in f.left
    pub less : measure g < measure f

  -- What is asked of a line, and of answers that are written.
  pub record Steps : Type 0 where
    pub whole : (w : List ℕ) (f : Fed) (p : Page) → Idle w f p → ticks_left f ≡ 0
    pub going : (w : List ℕ) (f : Fed) (p : Page) → Under w f p → (ticks_left f ≡ 0 → ⊥) × (has_line f.left ≡ true)
    pub line : (w : List ℕ) (f : Fed) (p : Page) → Idle w f p → used_of f ≤ 49152 → has_line f.left ≡ true → Comes w f (line_fed f) p
    pub part : (w : List ℕ) (f : Fed) (p : Page) → Under w f p → used_of f ≤ 70680 → Comes w f (line_fed f) p
    pub bytes : (w : List ℕ) (f : Fed) (p : Page) (left : List ℕ) → Idle w f p → Idle w (with_bytes left f) p
    pub idle : (w : List ℕ) (f : Fed) (p : Page) → Idle w f p → Idle (w ++ written_now f.replay.state.log) (flushed f) p × (used_of (flushed f) ≡ 0)
    pub under : (w : List ℕ) (f : Fed) (p : Page) → Under w f p
        → Under (w ++ written_now f.replay.state.log) (flushed f) p × (used_of (flushed f) ≤ 70680)

  module _ (s : Steps) where
    -- ---- lines that are answered in one turn

    -- what comes from another comes no farther
    pub record Reached (w : List ℕ) (f g : Fed) (p : Page) : Type 0 where
      pub page : Page
      pub there : Idle w g page ⊎ Under w g page
      pub after : page_after g.left page ≡ page_after f.left p
      pub rest : rest_in g.left ≡ rest_in f.left
      pub less : measure g ≤ measure f

    from-comes : {w : List ℕ} {f g : Fed} {p : Page} → Comes w f g p → Reached w f g p
    from-comes c = record { page = c.page; there = c.there; after = c.after; rest = c.rest; less = omega (arith, c.less) }

    room-used : (counts : List ℕ) → has_room counts ≡ true → (get_or counts 21 0 ≡ 0) × (get_or counts 0 0 ≤ 49152)
    unfolding has_room
    room-used counts = go (eqb (get_or counts 21 0) 0) refl
      where
        go : (t : Bool) → eqb (get_or counts 21 0) 0 ≡ t → cond t (leb (get_or counts 0 0) 49152) false ≡ true → (get_or counts 21 0 ≡ 0) × (get_or counts 0 0 ≤ 49152)
        go true e room = (eqb-true (get_or counts 21 0) 0 e, leb-true (get_or counts 0 0) 49152 room)
        go false e room = absurd (false≢true room)

    -- where there is room behind a line, it is not under way
    stays-idle : {w : List ℕ} {g : Fed} {p : Page} → Idle w g p ⊎ Under w g p → ticks_left g ≡ 0 → Idle w g p
    stays-idle {w} {g} {p} there none = ⊎_elim (λ i. i) (λ u. absurd ((s.going w g p u).0 none)) there

    -- lines while there is room
    lines-fed : (turns : ℕ) (w : List ℕ) (f : Fed) (p : Page) → Idle w f p → used_of f ≤ 49152 → Reached w f (fed turns f) p
    unfolding fed
    lines-fed zero w f p i low = record { page = p; there = inl i; after = refl; rest = refl; less = omega arith }
    lines-fed (suc turns) w f p i low = go (has_line f.left) refl (has_room (line_fed f).replay.state.log.counts) refl (lines-fed turns w (line_fed f))
      where
        go : (t : Bool) → has_line f.left ≡ t → (u : Bool) → has_room (line_fed f).replay.state.log.counts ≡ u
            → ((q : Page) → Idle w (line_fed f) q → used_of (line_fed f) ≤ 49152 → Reached w (line_fed f) (fed turns (line_fed f)) q)
            → Reached w f (cond t (cond u (fed turns (line_fed f)) (line_fed f)) f) p
        go true some true room later =
            let c = s.line w f p i low some in
            let used = room-used (line_fed f).replay.state.log.counts room in
            let r = later c.page (stays-idle c.there used.0) used.1 in
            record { page = r.page; there = r.there; after = r.after ∙ c.after; rest = r.rest ∙ c.rest; less = omega (arith, r.less, c.less) }
        go true some false room later = from-comes (s.line w f p i low some)
        go false none u room later = record { page = p; there = inl i; after = refl; rest = refl; less = omega arith }

    -- behind one line, answered or a part of it
    fed-behind : (turns : ℕ) (w : List ℕ) (f : Fed) (p : Page) → has_line f.left ≡ true → Comes w f (line_fed f) p → Comes w f (fed (suc turns) f) p
    unfolding fed
    fed-behind turns w f p some c = rw some (go (has_room (line_fed f).replay.state.log.counts) refl)
      where
        go : (u : Bool) → has_room (line_fed f).replay.state.log.counts ≡ u → Comes w f (cond u (fed turns (line_fed f)) (line_fed f)) p
        go true room =
            let used = room-used (line_fed f).replay.state.log.counts room in
            let r = lines-fed turns w (line_fed f) c.page (stays-idle c.there used.0) used.1 in
            record { page = r.page; there = r.there; after = r.after ∙ c.after; rest = r.rest ∙ c.rest; less = omega (arith, r.less, c.less) }
        go false room = c

    some_byte : (bytes : List ℕ) → has_line bytes ≡ true → (P : ℕ → Type 0) → ((n : ℕ) → P (suc n)) → P (length bytes)
    some_byte [] some P each = absurd (true≢false (sym some ∙ line-not-there [] (omega arith)))
    some_byte (b ∷ bs) some P each = each (length bs)

    -- ---- one turn, and what is written in it

    -- Ready for a turn.
    abbrev pub Ready : List ℕ → Fed → Page → Type 0
    Ready w f p = (Idle w f p × (used_of f ≡ 0)) ⊎ (Under w f p × (used_of f ≤ 70680))

    fed-comes : (w : List ℕ) (f : Fed) (p : Page) → Ready w f p → has_line f.left ≡ true → Comes w f (fed (length f.left) f) p
    fed-comes w f p ready some =
        some_byte f.left some (λ n. Comes w f (fed n f) p)
        (λ n. fed-behind n w f p some (⊎_elim (λ i. s.line w f p i.0 (omega (arith, i.1)) some) (λ u. s.part w f p u.0 u.1) ready))

    -- After a turn it is ready for the next, or no line is left.
    pub record After (w : List ℕ) (f : Fed) (p : Page) (t : Turned) : Type 0 where
      pub page : Page
      pub ready : Ready (w ++ t.text) t.fed page
      pub after : page_after t.fed.left page ≡ page_after f.left p
      pub rest : rest_in t.fed.left ≡ rest_in f.left
      pub less : measure t.fed < measure f

    ticks-written : (counts : List ℕ) → get_or (after_writing counts) 21 0 ≡ get_or counts 21 0
    unfolding after_writing
    ticks-written counts = go (eqb (get_or counts 21 0) 0) (is_long counts)
      where
        go : (t u : Bool)
            → get_or (cond t (set (set counts 0 0) 13 0) (cond u (set (set counts 0 (kept_to counts)) 13 (kept_to counts)) counts)) 21 0 ≡ get_or counts 21 0
        go true u = get_or-set_other (set counts 0 0) 13 21 0 0 (λ e. omega arith) ∙ get_or-set_other counts 0 21 0 0 (λ e. omega arith)
        go false true =
            get_or-set_other (set counts 0 (kept_to counts)) 13 21 (kept_to counts) 0 (λ e. omega arith)
            ∙ get_or-set_other counts 0 21 (kept_to counts) 0 (λ e. omega arith)
        go false false = refl

    ticks-flushed : (f : Fed) → ticks_left (flushed f) ≡ ticks_left f
    unfolding flushed
    ticks-flushed f = ticks-written f.replay.state.log.counts

    pub left-flushed : (f : Fed) → (flushed f).left ≡ f.left
    unfolding flushed
    left-flushed f = refl

    pub measure-flushed : (f : Fed) → measure (flushed f) ≡ measure f
    measure-flushed f = rw (ticks-flushed f, left-flushed f)

    -- answers are written
    flushed-ready : (w : List ℕ) (g : Fed) (p : Page) → Idle w g p ⊎ Under w g p → Ready (w ++ written_now g.replay.state.log) (flushed g) p
    flushed-ready w g p =
        ⊎_elim (λ i. inl (s.idle w g p i)) (λ u. inr (s.under w g p u))

    pub turn-after : (w : List ℕ) (f : Fed) (p : Page) → Ready w f p → has_line f.left ≡ true → After w f p (turned f)
    unfolding turned
    turn-after w f p ready some =
        let c = fed-comes w f p ready some in
        let g = fed (length f.left) f in
        record {
          page = c.page;
          ready = flushed-ready w g c.page c.there;
          after = rw (left-flushed g) c.after;
          rest = rw (left-flushed g) c.rest;
          less = rw (measure-flushed g) c.less;
        }

    -- ---- turns until no line is left

    pub record Drained (w : List ℕ) (f : Fed) (p : Page) (t : Turned) : Type 0 where
      pub there : Idle (w ++ t.text) t.fed (page_after f.left p)
      pub used : used_of t.fed ≡ 0
      pub left : t.fed.left ≡ rest_in f.left

    -- a line under way is still left
    pub ready-idle : (w : List ℕ) (f : Fed) (p : Page) → Ready w f p → has_line f.left ≡ false → Idle w f p × (used_of f ≡ 0)
    ready-idle w f p ready none = ⊎_elim (λ i. i) (λ u. absurd (true≢false (sym (s.going w f p u.0).1 ∙ none))) ready

    pub page-same : (bytes : List ℕ) (p : Page) → has_line bytes ≡ false → page_after bytes p ≡ p
    unfolding each_line
    page-same bytes p none = rw (no_lines bytes none)

    last-drained : (w : List ℕ) (f : Fed) (p : Page) (t : Turned) → After w f p t → has_line t.fed.left ≡ false → Drained w f p t
    last-drained w f p t a none =
        let i = ready-idle (w ++ t.text) t.fed a.page a.ready none in
        let same : a.page ≡ page_after f.left p = sym (page-same t.fed.left a.page none) ∙ a.after in
        record {
          there = subst (Idle (w ++ t.text) t.fed) same i.0;
          used = i.1;
          left = sym (all_rest t.fed.left none) ∙ a.rest;
        }

    more-drained : (w : List ℕ) (f : Fed) (p : Page) (t : Turned) → (a : After w f p t) → (u : Turned) → Drained (w ++ t.text) t.fed a.page u
        → Drained w f p (following t.text u)
    more-drained w f p t a u d = record {
      there =
          subst (λ (x : List ℕ). Idle x u.fed (page_after f.left p)) (append_assoc w t.text u.text)
          (subst (Idle ((w ++ t.text) ++ u.text) u.fed) a.after d.there);
      used = d.used;
      left = d.left ∙ a.rest;
    }

    lines-drained : (turns : ℕ) (w : List ℕ) (f : Fed) (p : Page) → Ready w f p → has_line f.left ≡ true → measure f < turns → Drained w f p (drained turns f)
    unfolding drained
    lines-drained zero w f p ready some less = absurd (omega arith)
    lines-drained (suc turns) w f p ready some less =
        let a = turn-after w f p ready some in
        go a (has_line (turned f).fed.left) refl (λ there. lines-drained turns (w ++ (turned f).text) (turned f).fed a.page a.ready there (omega (arith, a.less)))
      where
        go : (a : After w f p (turned f)) (t : Bool) → has_line (turned f).fed.left ≡ t
            → (has_line (turned f).fed.left ≡ true → Drained (w ++ (turned f).text) (turned f).fed a.page (drained turns (turned f).fed))
            → Drained w f p (cond t (following (turned f).text (drained turns (turned f).fed)) (turned f))
        go a true e later = more-drained w f p (turned f) a (drained turns (turned f).fed) (later e)
        go a false e later = last-drained w f p (turned f) a e

    -- where there is none, a turn writes what is not written yet
    none-drained : (turns : ℕ) (w : List ℕ) (f : Fed) (p : Page) → Idle w f p → has_line f.left ≡ false → Drained w f p (drained (suc turns) f)
    unfolding drained turned flushed
    none-drained turns w f p i none =
        let k = s.idle w f p i in
        rw (fed-none (length f.left) f none, left-flushed f, none) record {
          there = subst (Idle (w ++ written_now f.replay.state.log) (flushed f)) (sym (page-same f.left p none)) k.0;
          used = k.1;
          left = left-flushed f ∙ sym (all_rest f.left none);
        }

    pub measure-low : (f : Fed) → ticks_left f ≡ 0 → measure f ≡ 4097 * length f.left
    measure-low f none = rw (eq-eqb (ticks_left f) 0 none)

    turns-some : (n : ℕ) → (P : ℕ → Type 0) → ((k : ℕ) → P (suc k)) → P (4097 * (n + 1))
    turns-some n P each = go (4097 * (n + 1)) (omega arith)
      where
        go : (k : ℕ) → 0 < k → P k
        go zero low = absurd (omega arith)
        go (suc k) low = each k

    all-drained : (w : List ℕ) (f : Fed) (p : Page) → Idle w f p → used_of f ≡ 0 → Drained w f p (drained (turns_for f.left) f)
    all-drained w f p i low =
        by-test (has_line f.left)
        (λ some. lines-drained (turns_for f.left) w f p (inl (i, low)) some (omega (arith, measure-low f (s.whole w f p i))))
        (λ none. turns-some (length f.left) (λ n. Drained w f p (drained n f)) (λ k. none-drained k w f p i none))

    -- ---- pieces

    ending-lines : (held : List ℕ) → has_line held ≡ false → lines_in (held ++ (10 ∷ [])) ≡ held ∷ []
    unfolding lines_in with_first has_line
    ending-lines [] none = refl
    ending-lines (c ∷ cs) none = go (eqb c 10) none (ending-lines cs)
      where
        go : (t : Bool) → cond t true (has_line cs) ≡ false → (has_line cs ≡ false → lines_in (cs ++ (10 ∷ [])) ≡ cs ∷ [])
            → cond t ([] ∷ lines_in (cs ++ (10 ∷ []))) (with_first c (lines_in (cs ++ (10 ∷ [])))) ≡ (c ∷ cs) ∷ []
        go true e later = absurd (true≢false e)
        go false e later = rw (later e)

    pub last-lines : (held : List ℕ) → has_line held ≡ false → lines_in (line_ending held) ≡ last_line held
    unfolding line_ending last_line lines_in
    last-lines [] none = refl
    last-lines (c ∷ cs) none = ending-lines (c ∷ cs) none

    -- What is written for all pieces, and the page to which they come.
    pub record Written (w : List ℕ) (t : Turned) (p : Page) : Type 0 where
      pub there : Idle (w ++ t.text) t.fed p
      pub used : used_of t.fed ≡ 0

    pub all-written : (ps : List (List ℕ)) (w : List ℕ) (f : Fed) (p : Page) → Idle w f p → used_of f ≡ 0 → has_line f.left ≡ false
        → Written w (pieces_turned ps f) (pieces_read page_line ps record { state = p; held = take 1002 f.left })
    unfolding pieces_turned pieces_read piece_read
    all-written [] w f p i low none =
        let bytes = line_ending (take 1002 f.left) in
        let d = all-drained w (with_bytes bytes f) p (s.bytes w f p bytes i) low in
        let same : page_after bytes p ≡ each_line page_line (last_line (take 1002 f.left)) p =
        ap (λ (ls : List (List ℕ)). each_line page_line ls p) (last-lines (take 1002 f.left) (none-taken 1002 f.left none)) in
        record { there = subst (Idle _ _) same d.there; used = d.used }
    all-written (piece ∷ ps) w f p i low none =
        let bytes = take 1002 f.left ++ piece in
        let t = drained (turns_for bytes) (with_bytes bytes f) in
        let d = all-drained w (with_bytes bytes f) p (s.bytes w f p bytes i) low in
        let later = all-written ps (w ++ t.text) t.fed (page_after bytes p) d.there d.used (ap has_line d.left ∙ rest-none bytes) in
        let held : take 1002 t.fed.left ≡ take 1002 (rest_in bytes) = ap (take 1002) d.left in
        rw (← held) record {
          there = subst (λ (x : List ℕ). Idle x (pieces_turned ps t.fed).fed (pieces_read page_line ps record { state = page_after bytes p; held = take 1002 t.fed.left })) (append_assoc w t.text (pieces_turned ps t.fed).text) later.there;
          used = later.used;
        }
