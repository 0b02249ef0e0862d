-- What a call of the library returns: a number for its answer, the answer's words in a lent buffer, the model in its bytes.
use Rattle.std.specs.Prelude.{ℕ, ◌≡◌, List, [], ◌∷◌, length, get_or, eqb}
use Rattle.std.proofs.lemmas.List.Edits.{sets}
use mir.Val.{bool_byte}
use Rattle.unit.specs.Choice.{pick}
use Rattle.device.specs.declared.Model.{Model}
use Rattle.device.specs.declared.Reply.{Reply}
use Rattle.device.specs.declared.Answer.{Answer}
use Rattle.device.specs.declared.Answer.TheVariants.{Refused, Accepted, Ticked, Stretched, Good, Failed}
use Rattle.layout.specs.Layout.{stored}
use Rattle.refusal.specs.Number.{number}

-- "the refusal's number, or for acceptance a value that is none of them"; a delivery is good or failed
abbrev pub accepted : ℕ
accepted = 0xFFFFFFFF

abbrev pub failed : ℕ
failed = 0xFFFFFFFE

abbrev pub code_in : List ℕ → ℕ
code_in numbers = get_or numbers 0 accepted

unfoldable pub code_of : Answer → ℕ
code_of (Refused r) = number r
code_of (Accepted f t) = accepted
code_of (Ticked f t) = accepted
code_of (Stretched f t) = accepted
code_of Good = accepted
code_of Failed = failed

-- The words of an answer: flight, then temperature. A tick names for each whether one started and whether one failed, a stretch the
-- ticks in which they did. Yes is 1, no is 0.
unfoldable pub words_of : Answer → List ℕ
words_of (Refused r) = []
words_of (Accepted f t) = bool_byte f ∷ bool_byte t ∷ []
words_of (Ticked f t) = bool_byte f.started ∷ bool_byte f.failed ∷ bool_byte t.started ∷ bool_byte t.failed ∷ []
words_of (Stretched f t) = f.started.0 ∷ f.failed.0 ∷ t.started.0 ∷ t.failed.0 ∷ []
words_of Good = []
words_of Failed = []

-- Words go to the first places of the buffer, as many as it has; its further places stay.
abbrev pub filled : {A : Type 0} → List A → List A → List A
filled buffer words = sets buffer 0 words

-- A question's or an analysis's answer `a`, handed over: the code by its number, and its values in the first places of the buffer.
pub record Gives {A V : Type 0} (number : A → List ℕ) (values : A → List V) (a : A) (words : List V) (code : ℕ) (words' : List V) : Type 0 where
  pub coded : code ≡ code_in (number a)
  pub worded : words' ≡ filled words (values a)

-- The bytes of a model, in a buffer of their length and in no other.
unfoldable pub kept : Model → List ℕ → List ℕ
kept m bytes = pick (eqb (length bytes) 233) (stored m) bytes

-- "a refusal changes nothing"
unfoldable pub model_after : Answer → Model → List ℕ → List ℕ
model_after (Refused r) m bytes = bytes
model_after (Accepted f t) m bytes = kept m bytes
model_after (Ticked f t) m bytes = kept m bytes
model_after (Stretched f t) m bytes = kept m bytes
model_after Good m bytes = kept m bytes
model_after Failed m bytes = kept m bytes

-- A call's answer: its code, and the model's bytes and the words as it leaves them.
pub record Settled (r : Reply) (bytes words : List ℕ) (code : ℕ) (bytes' words' : List ℕ) : Type 0 where
  pub number : code ≡ code_of r.answer
  pub model : bytes' ≡ model_after r.answer r.model bytes
  pub answer : words' ≡ filled words (words_of r.answer)
