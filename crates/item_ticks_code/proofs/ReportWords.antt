-- Each report of a tick is one word of the answer. Assumes nothing.
use Prim.Native.Nat.{ℕ, zero, suc, ◌+◌, ◌/◌, ◌%◌, ◌<◌}
use Prim.Native.String.{String}
use mathlib.Core.Bool.{Bool, true, false}
use mathlib.Core.List.{List, [], ◌∷◌, ◌++◌, append-nil, append_assoc}
use mathlib.Core.Path.{◌≡◌, refl, sym, ap, ◌∙◌}
use native.Mathlib.Omega.{arith}
use lib.Dec.{eqb}
use lib.ListN.{length, length-append, drop}
use borrow.Author.Tests.{ne_eqb}
use Rattle.unit.specs.Choice.{either, negate}
use Rattle.unit.proofs.Cases.{by-test, by-ltb}
use Rattle.numeral.specs.Ascii.{ascii}
use Rattle.numeral.specs.Digit.{glyph, digits}
use Rattle.numeral.specs.Print.{decimal, decimal_width}
use Rattle.numeral.proofs.PrintLaws.{length-decimal, width_some}
use Rattle.device.specs.declared.Model.{Model}
use Rattle.device.specs.declared.Answer.{Answer}
use Rattle.device.specs.declared.Answer.TheVariants.{Refused, Accepted, Ticked, Stretched, Good, Failed}
use Rattle.device.specs.declared.Report.{Report}
use Rattle.device.specs.Call.{Call}
use Rattle.device.specs.Reply.{reply}
use Rattle.text.specs.Text.{Text, text_where, is_blank, begun_before, words_after, words, begin_with}
use Rattle.item_answer.specs.Words.{report, reports, reports_at}
use Rattle.item_answer.specs.Answer.{ticked}
use Rattle.item_words_code.specs.OwnReports.{reports_in}
use Rattle.item_ticks_code.specs.OwnHeld.{word_where, report_word, report_words, ticks_differ}
use Rattle.refusal.specs.Number.{number}

-- ---- texts without blanks

unfoldable has_blank : Text → Bool
has_blank [] = false
has_blank (c ∷ cs) = either (is_blank c) (has_blank cs)

blank-append : (a b : Text) → has_blank (a ++ b) ≡ either (has_blank a) (has_blank b)
unfolding has_blank
blank-append [] b = refl
blank-append (c ∷ cs) b = by-test (is_blank c) (λ e. rw e) (λ e. rw e (blank-append cs b))

glyph-plain : (d : ℕ) → is_blank (glyph d) ≡ false
unfolding is_blank glyph
glyph-plain d =
    by-ltb d 10
    (λ h e. rw (e, ne_eqb (48 + d) 32 (λ z. omega arith), ne_eqb (48 + d) 9 (λ z. omega arith)))
    (λ h e. rw (e, ne_eqb (55 + d) 32 (λ z. omega arith), ne_eqb (55 + d) 9 (λ z. omega arith)))

digits-plain : (k v : ℕ) → has_blank (digits 10 k v) ≡ false
unfolding has_blank digits
digits-plain zero v = refl
digits-plain (suc k) v = rw (blank-append (digits 10 k (v / 10)) (glyph (v % 10) ∷ []), digits-plain k (v / 10), glyph-plain (v % 10))

decimal-plain : (v : ℕ) → has_blank (decimal v) ≡ false
unfolding decimal
decimal-plain v = digits-plain (decimal_width v) v

decimal-some : (v : ℕ) → 0 < length (decimal v)
unfolding decimal_width
decimal-some v = rw (length-decimal v) (width_some 19 v)

-- ---- a text before which a word ends: none, or one that starts with a blank

abbrev EndsWord : Text → Type 0
EndsWord t = (b : Text) → words_after b t ≡ begun_before b (words t)

ends-none : EndsWord []
unfolding words words_after begun_before
ends-none b = refl

ends-blank : (t : Text) → EndsWord (32 ∷ t)
unfolding words words_after begun_before is_blank
ends-blank t b = refl

-- A word that has begun goes on to the end of w.
begun-word : (w b t : Text) → has_blank w ≡ false → EndsWord t → words_after b (w ++ t) ≡ begun_before (b ++ w) (words t)
unfolding words_after has_blank
begun-word [] b t = λ plain ends. rw (append-nil b) (ends b)
begun-word (c ∷ cs) b t =
    by-test (is_blank c)
    (λ e. rw e (λ plain ends. let z : ◌≡◌ {A = ℕ} 0 1 = cc in absurd (omega arith)))
    (λ e. rw e (λ plain ends. begun-word cs (b ++ (c ∷ [])) t plain ends ∙ ap (λ (x : Text). begun_before x (words t)) (append_assoc b (c ∷ []) cs)))

begun-some : (w : Text) (ws : List Text) → 0 < length w → begun_before w ws ≡ w ∷ ws
unfolding begun_before
begun-some [] ws h = absurd (omega arith)
begun-some (c ∷ w) ws h = refl

-- The first word.
words-first : (w t : Text) → has_blank w ≡ false → 0 < length w → EndsWord t → words (w ++ t) ≡ w ∷ words t
words-first w t plain some ends = unfold words in begun-word w [] t plain ends ∙ begun-some w (words t) some

words-blank : (t : Text) → words (32 ∷ t) ≡ words t
unfolding words words_after begun_before is_blank
words-blank t = refl

-- ---- one report

ends-report : (happened : Bool) (what : String) (i : ℕ) (t : Text) → EndsWord t → EndsWord (report happened what i ++ t)
unfolding report text_where ascii
ends-report true what i t ends = ends-blank _
ends-report false what i t ends = ends

word-plain : (what : String) (i : ℕ) → has_blank (ascii what ++ ascii "@") ≡ false → has_blank (report_word what i) ≡ false
word-plain what i plain = rw (blank-append (ascii what ++ ascii "@") (decimal i), plain) (decimal-plain i)

report-first : (what : String) (i : ℕ) (t : Text) → has_blank (ascii what ++ ascii "@") ≡ false → EndsWord t
    → words (report_word what i ++ t) ≡ report_word what i ∷ words t
report-first what i t plain ends =
    let some : 0 < length (report_word what i) = rw (length-append (ascii what ++ ascii "@") (decimal i)) (omega (arith, decimal-some i)) in
    words-first (report_word what i) t (word-plain what i plain) some ends

words-report : (happened : Bool) (what : String) (i : ℕ) (t : Text) → has_blank (ascii what ++ ascii "@") ≡ false → EndsWord t
    → words (report happened what i ++ t) ≡ word_where happened (report_word what i) (words t)
unfolding report text_where ascii
words-report true what i t plain ends = words-blank (report_word what i ++ t) ∙ report-first what i t plain ends
words-report false what i t plain ends = refl

-- ---- the reports of a tick, and of some

module _ (a b c d : Bool) (i : ℕ) (t : Text) where
  abbrev fourth : Text
  fourth = report d "started-temperature" i ++ t

  abbrev third : Text
  third = report c "failed-temperature" i ++ fourth

  abbrev second : Text
  second = report b "started-flight" i ++ third

  reports-append : reports a b c d i ++ t ≡ report a "failed-flight" i ++ second
  unfolding reports
  reports-append =
      append_assoc (report a "failed-flight" i ++ report b "started-flight" i ++ report c "failed-temperature" i)
      (report d "started-temperature" i) t
      ∙ (append_assoc (report a "failed-flight" i ++ report b "started-flight" i) (report c "failed-temperature" i) fourth
      ∙ append_assoc (report a "failed-flight" i) (report b "started-flight" i) third)

  module _ (ends : EndsWord t) where
    ends-fourth : EndsWord fourth
    ends-fourth = ends-report d "started-temperature" i t ends

    ends-third : EndsWord third
    ends-third = ends-report c "failed-temperature" i fourth ends-fourth

    ends-second : EndsWord second
    ends-second = ends-report b "started-flight" i third ends-third

    ends-reports : EndsWord (reports a b c d i ++ t)
    ends-reports = rw reports-append (ends-report a "failed-flight" i second ends-second)

    words-four : words (reports a b c d i ++ t)
        ≡ word_where a (report_word "failed-flight" i)
        (word_where b (report_word "started-flight" i)
        (word_where c (report_word "failed-temperature" i) (word_where d (report_word "started-temperature" i) (words t))))
    unfolding has_blank ascii is_blank
    words-four =
        ap words reports-append
        ∙ (words-report a "failed-flight" i second refl ends-second
        ∙ ap (word_where a (report_word "failed-flight" i))
        (words-report b "started-flight" i third refl ends-third
        ∙ ap (word_where b (report_word "started-flight" i))
        (words-report c "failed-temperature" i fourth refl ends-fourth
        ∙ ap (word_where c (report_word "failed-temperature" i)) (words-report d "started-temperature" i t refl ends))))

ends_at : (i : ℕ) (a : Answer) (t : Text) → EndsWord t → EndsWord (reports_at i a ++ t)
unfolding reports_at
ends_at i (Refused r) t ends = ends
ends_at i (Accepted f g) t ends = ends
ends_at i (Ticked f g) t ends = ends-reports f.failed f.started g.failed g.started i t ends
ends_at i (Stretched f g) t ends =
    ends-reports (eqb f.failed.0 i) (eqb f.started.0 i) (eqb g.failed.0 i) (eqb g.started.0 i) i t ends
ends_at i Good t ends = ends
ends_at i Failed t ends = ends

ends-ticked : (n i : ℕ) (m : Model) → EndsWord (ticked n i m).reports
unfolding ticked
ends-ticked zero i m = ends-none
ends-ticked (suc n) i m = ends_at i (reply m Call.tick).answer _ (ends-ticked n (i + 1) (reply m Call.tick).model)

-- The words of a tick's reports, and of those of ticks after it.
pub words-reports : (f t : Report) (i n j : ℕ) (m : Model)
    → words (reports_in f t i ++ (ticked n j m).reports) ≡ report_words f t i (words (ticked n j m).reports)
unfolding report_words
words-reports f t i n j m =
    words-four f.failed f.started t.failed t.started i (ticked n j m).reports (ends-ticked n j m)

-- ---- the whole answer

answer-words : (keyword : Text) (number : ℕ) (t : Text) → has_blank keyword ≡ false → 0 < length keyword → EndsWord t
    → drop 1 (words (keyword ++ ascii " " ++ decimal number ++ t)) ≡ decimal number ∷ words t
unfolding ascii
answer-words keyword number t plain some ends =
    let rest : Text = decimal number ++ t in
    let whole : keyword ++ (32 ∷ []) ++ decimal number ++ t ≡ keyword ++ (32 ∷ rest)
    = append_assoc (keyword ++ (32 ∷ [])) (decimal number) t ∙ append_assoc keyword (32 ∷ []) rest in
    let first : words (keyword ++ (32 ∷ rest)) ≡ keyword ∷ words (32 ∷ rest) = words-first keyword (32 ∷ rest) plain some (ends-blank rest) in
    let second : words (32 ∷ rest) ≡ decimal number ∷ words t
    = words-blank rest ∙ words-first (decimal number) t (decimal-plain number) (decimal-some number) ends in
    ap (λ (x : Text). drop 1 (words x)) whole ∙ (ap (drop 1) first ∙ second)

-- Whether the words of a line of ticks differ from those expected.
module _ (number n i : ℕ) (m : Model) (s : Text) where
  abbrev differ : Bool
  differ = negate (begin_with (words s) (decimal number ∷ words (ticked n i m).reports))

  pub tick-differs : differ ≡ ticks_differ "tick" number n i m s
  unfolding ticks_differ has_blank ascii is_blank
  tick-differs =
      ap (λ (ws : List Text). negate (begin_with (words s) ws)) (sym (answer-words (ascii "tick") number _ refl (omega arith) (ends-ticked n i m)))

  pub at-differs : differ ≡ ticks_differ "at" number n i m s
  unfolding ticks_differ has_blank ascii is_blank
  at-differs =
      ap (λ (ws : List Text). negate (begin_with (words s) ws)) (sym (answer-words (ascii "at") number _ refl (omega arith) (ends-ticked n i m)))
