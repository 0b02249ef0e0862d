-- The terms of the second demand beside those of `Plain` in `device`: limits, directions, single measurements, and what sets and clears
-- a bit. Quotations are from 01.
use Rattle.std.specs.Prelude.{ℕ, ◌+◌, ◌-◌, ◌*◌, ◌/◌, ◌%◌, ◌^◌, ◌≤◌, ◌<◌, min, Bool, true, List, [], ◌∷◌, ◌⊎◌, ◌≡◌, length, get_or, leb, eqb}
use Rattle.device.specs.Base.{both, either, negate, AlarmTime, word_of}
use Rattle.device.specs.declared.Model.{Model}
use Rattle.device.specs.Status.{Bit, TO, AF, TOF, TE, LDO, TOF-EVTMG, TEMP-EVTMG, FLASH, HALT, INIT, POR, place}
use Rattle.device.specs.Registers.{register_word}
use Rattle.device.specs.Tick.{tick_model}
use Rattle.device.specs.Call.{Call, transaction, tick, flight, temperature, stretch, on_frame, on_time}
use Rattle.device.specs.Reply.{reply, number_in, values_in}
use Rattle.device.specs.History.{Kind, differences, temperatures, by_kind, Entry}
use Rattle.demands.specs.EventHistory.{is_refusal, is_delivery}

-- A model accepts a call: the answer has no number of 01's table.
abbrev pub Accepts : Model → Call → Type 0
Accepts m c = number_in (reply m c).answer ≡ []

-- Set-ups that differ at most in the words of 34h, 36h and 37h.
pub record OtherStored (s t : List ℕ) : Type 0 where
  pub long : (length s ≡ 16) × (length t ≡ 16)
  pub words : (a : ℕ) → 0x34 < a → a ≤ 0x43 → ¬ (a ≡ 0x36) → ¬ (a ≡ 0x37) → word_of t a ≡ word_of s a

-- AM, "(3:2 of 43h)"
abbrev pub mode_of : Model → ℕ
mode_of m = word_of m.setup 0x43 / 4 % 4

-- "H = STOP + 1 and at most 6 (STOP is 15:13 of 39h)"
abbrev pub hits_of : Model → ℕ
hits_of m = min (word_of m.setup 0x39 / 8192 % 8 + 1) 6

-- "A word is late when it is at least 512 × 2^k × 65,536, k = TIMOUT (2:0 of 39h), or no hit"; "2^31 or more means no hit"
abbrev pub least_late : Model → ℕ
least_late m = min (512 * 2 ^ (word_of m.setup 0x39 % 8) * 65536) (2 ^ 31)

-- "A word is open when it is at least (512 × (PORTCYC + 1) − 8) × 65,536 (PORTCYC is 1:0 of 40h)"
abbrev pub least_open : Model → ℕ
least_open m = (512 * (word_of m.setup 0x40 % 4 + 1) - 8) * 65536

-- some word of a list is at least this one
abbrev pub Some : ℕ → List ℕ → Type 0
Some least ws = (i : ℕ) × (i < length ws) × (least ≤ get_or ws i 0)

-- The two directions of a flight measurement: whether the model measures it, and where its results begin. "Up results stand at C5h to
-- D2h, down at D4h to E1h (HIT 1 to 6, then AVG ..)"
pub data Direction : Type 0 where
  upstream : Direction
  downstream : Direction

abbrev pub by_direction : {A : Type 0} → Direction → A → A → A
by_direction upstream u d = u
by_direction downstream u d = d

abbrev pub measured : Direction → Model → Bool
measured s m = by_direction s m.flight.up m.flight.down

abbrev pub results_at : Direction → ℕ
results_at s = by_direction s 0xC5 0xD4

-- the call is a transaction with this first byte
abbrev pub Sent : ℕ → Call → Type 0
Sent op c = on_frame c (λ f o x. eqb (get_or f 0 0) op) ≡ true

-- "TOF_Up (00h), TOF_Down (01h), TOF_Diff (02h) start a flight measurement, Temperature (03h) a temperature one": a single one
unfoldable pub single : Kind → ℕ → Bool
single k op = by_kind k (leb op 0x02) (eqb op 0x03)

-- whether no entry is an accepted delivery of the kind
unfoldable pub undelivered : Kind → List Entry → Bool
undelivered k [] = true
undelivered k (e ∷ es) = both (either (is_refusal e.answer) (negate (is_delivery k e.call))) (undelivered k es)

-- "a tick's answer says for each kind .. whether one failed in it", 1 or 0; a stretch's names "the tick at which one failed" (Note 1), or 0
abbrev pub failed_in : Kind → Model → Call → ℕ
failed_in k m c =
    let told : ℕ = get_or (values_in (reply m c).answer) (by_kind k 1 3) 0 in
    on_time c 0 told (λ n. told)

-- "A measurement is settled when it is good or failed.": an accepted call settles one of the kind
abbrev pub Settles : Kind → Model → Call → Type 0
Settles k m c = (is_delivery k c ≡ true) ⊎ ((c ≡ tick) × (failed_in k m c ≡ 1))

-- The bit is set in the word that FEh reads; the bits of a kind.
abbrev pub Set : Bit → Model → Type 0
Set b m = register_word m 0xFE / 2 ^ place b % 2 ≡ 1

abbrev pub own_bit : Kind → Bit
own_bit k = by_kind k TOF TE

abbrev pub event_bit : Kind → Bit
event_bit k = by_kind k TOF-EVTMG TEMP-EVTMG

-- A read of n words from B0h on covers FEh.
abbrev pub ReadsStatus : List ℕ → Type 0
ReadsStatus f = (0xB0 ≤ get_or f 0 0) × (get_or f 0 0 ≤ 0xFE) × (0xFE < get_or f 0 0 + (length f - 1) / 2)

-- What clears a bit: "reading it clears it after the word is taken"; "04h Reset gives .. status 0000h"; LDO_OFF (0Dh) "the Interrupt
-- Status register LDO bit is cleared" (000).
abbrev pub Clears : Bit → Call → Type 0
Clears b (transaction f o x) = ReadsStatus f ⊎ (get_or f 0 0 ≡ 0x04) ⊎ ((b ≡ LDO) × (get_or f 0 0 ≡ 0x0D))
Clears b tick = ⊥
Clears b (flight u d) = ⊥
Clears b (temperature w) = ⊥
Clears b (stretch n) = ⊥

-- "A word late: the measurement fails, .. TO is set"; "any open fails the measurement and sets TO", and "A short alone does not set TO"
-- (Note 3); a measurement that fails in a tick does so "as if all its words were late or open"
abbrev pub TimesOut : Model → Call → Type 0
TimesOut m (transaction f o x) = ⊥
TimesOut m tick = (k : Kind) × (failed_in k m tick ≡ 1)
TimesOut m (flight u d) = Some (least_late m) u ⊎ Some (least_late m) d
TimesOut m (temperature w) = Some (least_open m) w
TimesOut m (stretch n) = ⊥

-- "AM (3:2 of 43h): 01b sets AF in a tick where minutes change to the alarm's; 10b where hours change to the alarm's; 11b where minutes
-- change and both match": from the clock of one model to that of the next, by the time of day that 35h means
abbrev pub Rings : Model → Model → ℕ → ℕ → Type 0
Rings m n minute hour =
    ((mode_of m ≡ 0b01) × (¬ (m.clock.minute ≡ n.clock.minute)) × (n.clock.minute ≡ minute)) ⊎
    ((mode_of m ≡ 0b10) × (¬ (m.clock.hour ≡ n.clock.hour)) × (n.clock.hour ≡ hour)) ⊎
    ((mode_of m ≡ 0b11) × (¬ (m.clock.minute ≡ n.clock.minute)) × (n.clock.minute ≡ minute) × (n.clock.hour ≡ hour))

abbrev pub TickRings : Model → Type 0
TickRings m = (minute hour : ℕ) × AlarmTime (word_of m.setup 0x35) minute hour × Rings m (tick_model m) minute hour

-- What sets each bit; of TOF, TE and the EVTMG bits what alone may set them: when it does, the claims on single measurements and on events
-- say. "05h Initialize .. sets INIT."; "0Ah HALT .. sets HALT, also when idle."; "LDO_ON sets status bit 10; a write or erase sets bit
-- 7." (Note 8); POR is a fresh model's alone.
abbrev pub Sets : Model → Call → Bit → Type 0
Sets m c TO = TimesOut m c
Sets m c AF = (c ≡ tick) × TickRings m
Sets m c TOF = Settles differences m c
Sets m c TE = Settles temperatures m c
Sets m c LDO = Sent 0x0C c
Sets m c TOF-EVTMG = Settles differences m c
Sets m c TEMP-EVTMG = Settles temperatures m c
Sets m c FLASH = Sent 0x10 c ⊎ Sent 0x13 c
Sets m c HALT = Sent 0x0A c
Sets m c INIT = Sent 0x05 c
Sets m c POR = ⊥
