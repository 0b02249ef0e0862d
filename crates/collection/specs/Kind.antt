-- What a file is, by the outcome of its replay. What stands in quotation marks is that of docs/ITEMS.md.
use Rattle.std.specs.Prelude.{Bool, true, false, cond, eqb, ltb}
use Rattle.collection.specs.declared.Outcome.{Outcome}
use Rattle.collection.specs.declared.Kinds.{Kinds}

-- "A file may stand under several of these. One that can't be opened, or breaks off, .. stands under `cannot be read` alone", whatever was
-- counted before.
unfoldable pub kinds : Outcome → Kinds
kinds o =
    cond o.whole
    (record {
      differ = ltb 0 o.differ;
      unannounced = ltb 0 o.unannounced;
      bad = ltb 0 o.bad;
      unread = false;
      plain = eqb o.expected 0;
    })
    (record { differ = false; unannounced = false; bad = false; unread = true; plain = false })

-- "a file agrees that stands under none"; "A file without any expectation is told as such, and not as one that agrees"
unfoldable pub agreeing : Kinds → Bool
agreeing k =
    cond k.differ false (cond k.unannounced false (cond k.bad false (cond k.unread false (cond k.plain false true))))
