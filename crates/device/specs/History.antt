-- A list of calls on a model: the model after it, and its calls with their answers; and the two kinds of measurement, by which claims
-- about such lists speak. Quotations are from 01.
use Rattle.std.specs.Prelude.{List, [], ◌∷◌}
use Rattle.device.specs.Base.{Model, Answer}
use Rattle.device.specs.Call.{Call}
use Rattle.device.specs.Reply.{reply}

-- "Both its lists run on one model: each call is handed the model that the call before it returned or left".
unfoldable pub after : Model → List Call → Model
after m [] = m
after m (c ∷ cs) = after (reply m c).model cs

-- A call and its answer.
pub record Entry : Type 0 where
  pub call : Call
  pub answer : Answer

unfoldable pub log : Model → List Call → List Entry
log m [] = []
log m (c ∷ cs) = record { call = c; answer = (reply m c).answer } ∷ log (reply m c).model cs

-- The two kinds of measurement, and a choice by the kind.
pub data Kind : Type 0 where
  differences : Kind
  temperatures : Kind

abbrev pub by_kind : {A : Type 0} → Kind → A → A → A
by_kind differences d t = d
by_kind temperatures d t = t
