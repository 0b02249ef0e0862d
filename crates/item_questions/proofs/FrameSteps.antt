-- The turns of the loop over frames. Assumes nothing.
use Rattle.std.proofs.Common.{◌≡◌, ℕ, zero, suc, ◌+◌, ◌<◌, ◌≤◌, min, true, false, List, [], ◌∷◌, ◌++◌, map, length, get_or, take, drop, sym, ap, refl, ◌∙◌, append_assoc, add-one, arith, drop_of_length-le, drop-cons}
use native.Mathlib.Decide.{dec_le}
use lib.ListN.{length-map}
use lib.Seq.{drop-nil, take-append_seam, drop-append_seam}
use Rattle.unit.proofs.Cases.{by-test}
use Rattle.numeral.specs.Place.{Placed, put_each}
use Rattle.device.specs.declared.Model.{Model}
use Rattle.device.specs.Model.{is_sound}
use Rattle.device.specs.Call.{Verdict, accepted, first_of}
use Rattle.setup_frames.specs.Frames.{frames, all_bytes, lengths_of, over, frames_verdict, answer_by, bytes_by, lengths_by, Written}
use Rattle.wording.specs.Text.{PutEach}
use Rattle.wording.specs.Wording.{frame_texts, frame_lines, frames_refused}
use Rattle.wording.proofs.Each.{each-then, each-end}
use Rattle.item_state.specs.Log.{Log, called}
use Rattle.item_questions.specs.Answers.{frames_told, frames_line}
use Rattle.item_questions.specs.Cut.{cut}
use Rattle.refusal.specs.declared.Refusal.{Refusal}
use Rattle.std.specs.Prelude.{Result, Ok, Err}
use Rattle.setup_frames.specs.declared.put.Counts.{Counts}
use Rattle.refusal.specs.Number.{number}

drop-twice : (a b : ℕ) (l : List ℕ) → drop b (drop a l) ≡ drop (a + b) l
drop-twice zero b l = let e : 0 + b ≡ b = omega arith in rw e
drop-twice (suc a) b [] = drop-nil {A = ℕ} b ∙ sym (drop-nil {A = ℕ} (suc a + b))
drop-twice (suc a) b (x ∷ l) = let e : suc a + b ≡ suc (a + b) = omega arith in rw e (drop-twice a b l)

-- A place that is the largest number lies past the end.
further : (a b : ℕ) (l : List ℕ) → length l ≤ 18446744073709551615 → drop (min (a + b) 18446744073709551615) l ≡ drop b (drop a l)
further a b l fits = go (dec_le (a + b) 18446744073709551615)
  where
    go : Dec (a + b ≤ 18446744073709551615) → drop (min (a + b) 18446744073709551615) l ≡ drop b (drop a l)
    go (yes p) = let e : min (a + b) 18446744073709551615 ≡ a + b = omega arith in rw e (sym (drop-twice a b l))
    go (no p) =
        let e : min (a + b) 18446744073709551615 ≡ 18446744073709551615 = omega arith in
        let short : length l ≤ a + b = omega arith in
        let none : drop (a + b) l ≡ [] = drop_of_length-le l short in
        rw (e, drop_of_length-le l fits, drop-twice a b l, none)

-- A frame more.
module _ (bytes ns : List ℕ) (i from : ℕ) where
  pub frames-on : i < length ns → length bytes ≤ 18446744073709551615 → {n from' : ℕ} {behind f l l' : List ℕ} {at r : ℕ} {end : Placed}
      → n ≡ get_or ns i 0 → from' ≡ min (from + n) 18446744073709551615 → behind ≡ drop from bytes → f ≡ take n behind
      → PutEach l at (frame_texts f) r l' → put_each l at (frame_lines (cut (drop from bytes) (drop i ns))) ≡ end
      → put_each l' r (frame_lines (cut (drop from' bytes) (drop (i + 1) ns))) ≡ end
  unfolding frame_lines cut
  frames-on less fits {n} {from'} {behind} {f} {l} {l'} {at} {r} {end} long next rest_of is put e =
      let rest = frame_lines (cut (drop n (drop from bytes)) (drop (suc i) ns)) in
      let whole : put_each l at (frame_texts f ++ rest) ≡ end = rw (is, rest_of, long) (rw (drop-cons ns i 0 less) at e) in
      rw (next, further from n bytes fits, add-one i) (sym (each-then rest put) ∙ whole)

  pub frames-end : length ns ≤ i → {l l' : List ℕ} {at r : ℕ} {ts : List (List ℕ)}
      → put_each l' r (frame_lines (cut (drop from bytes) (drop i ns))) ≡ put_each l at ts → PutEach l at ts r l'
  unfolding frame_lines cut
  frames-end all e = each-end (rw (drop_of_length-le ns all) at e)

-- Frames that were put one behind the other are cut by their lengths.
cut_all : (fs : List (List ℕ)) (rest : List ℕ) → cut (all_bytes fs ++ rest) (map length fs) ≡ fs
unfolding cut all_bytes
cut_all [] rest = refl
cut_all (f ∷ fs) rest =
    rw (append_assoc f (all_bytes fs) rest, take-append_seam f (all_bytes fs ++ rest), drop-append_seam f (all_bytes fs ++ rest), cut_all fs rest)

pub cut-back : (fs : List (List ℕ)) (bytes lengths : List ℕ) → cut (over bytes (all_bytes fs)) (take (length fs) (over lengths (lengths_of fs))) ≡ fs
unfolding over lengths_of
cut-back fs bytes lengths =
    let many : length fs ≡ length (map length fs) = sym (length-map fs length) in
    rw (many, take-append_seam (map length fs) (drop (length (map length fs)) lengths)) (cut_all fs (drop (length (all_bytes fs)) bytes))

abbrev frames_in : Result Counts Refusal → ℕ
frames_in (Ok c) = c.frames
frames_in (Err r) = 0

counts_of : {b n c k : ℕ} → ◌≡◌ {A = Result Counts Refusal} (Ok (record { bytes = b; frames = n })) (Ok (record { bytes = c; frames = k })) → n ≡ k
counts_of e = ap frames_in e

same_refusal : {r s : Refusal} → ◌≡◌ {A = Result Counts Refusal} (Err r) (Err s) → r ≡ s
same_refusal e = cc

no_frames : {b n : ℕ} {r : Refusal} → ◌≡◌ {A = Result Counts Refusal} (Ok (record { bytes = b; frames = n })) (Err r) → ⊥
no_frames e = let z : ◌≡◌ {A = ℕ} 0 1 = cc in absurd (omega arith)

-- Buffers of 33 and 8 places hold every set-up's frames, so that a sound model gets them and another one gets number 0.
module _ (m : Model) {bytes lengths bytes' lengths' : List ℕ} {r : Result Counts Refusal} (long : length bytes ≡ 33) (many : length lengths ≡ 8)
    (wrote : Written m bytes lengths r bytes' lengths') where
  sound-verdict : is_sound m ≡ true → frames_verdict m 33 8 ≡ accepted
  unfolding frames_verdict first_of
  sound-verdict sound = rw sound

  unsound-verdict : is_sound m ≡ false → frames_verdict m 33 8 ≡ Verdict.refused Refusal.NotSound
  unfolding frames_verdict first_of
  unsound-verdict unsound = rw unsound

  fs : List (List ℕ)
  fs = frames m.setup

  whole : is_sound m ≡ true → (r ≡ Ok (record { bytes = (length (all_bytes fs)); frames = (length fs) })) × (cut bytes' (take (length fs) lengths') ≡ fs)
  unfolding answer_by bytes_by lengths_by fs
  whole sound =
      let v = sound-verdict sound in (
        rw (long, many, v) at wrote.answer.same,
        rw (rw (long, many, v) at wrote.in_bytes, rw (long, many, v) at wrote.in_lengths) (cut-back fs bytes lengths),
      )

  none : is_sound m ≡ false → r ≡ Err Refusal.NotSound
  unfolding answer_by
  none unsound = rw (long, many, unsound-verdict unsound) at wrote.answer.same

  pub frames-told : {b n : ℕ} → r ≡ Ok (record { bytes = b; frames = n }) → (l : Log) → frames_told n (cut bytes' (take n lengths')) l ≡ frames_line m l
  unfolding frames_line fs
  frames-told {b} {n} e l = by-test (is_sound m)
      (λ sound. let w = whole sound in let k : n ≡ length (frames m.setup) = counts_of (sym e ∙ w.0) in rw (sound, k, w.1))
      (λ unsound. absurd (no_frames (sym e ∙ none unsound)))

  pub refusal-told : {why : Refusal} → r ≡ Err why → (l : Log) → called 1 (frames_refused (number why)) l ≡ frames_line m l
  unfolding frames_line
  refusal-told {why} e l = by-test (is_sound m)
      (λ sound. absurd (no_frames (sym (whole sound).0 ∙ e)))
      (λ unsound. let k : why ≡ Refusal.NotSound = same_refusal (sym e ∙ none unsound) in rw (unsound, k))
