-- The heading of a file, and the summary that closes a run.
use Rattle.std.specs.Prelude.{ℕ, ◌-◌, cond, List, [], ◌∷◌, ◌++◌, eqb, ltb, take}
use Rattle.numeral.specs.Print.{decimal}
use Rattle.collection.specs.declared.Group.{Group}
use Rattle.collection.specs.declared.Tally.{Tally}
use Rattle.collection.specs.Group.{Members}
use Rattle.collection.specs.Tally.{Collection, tally_of}
use Rattle.numeral.specs.Ascii.{ascii}

-- `== NAME ==`
unfoldable pub heading_texts : List ℕ → List (List ℕ)
heading_texts name = ascii "== " ∷ name ∷ ascii " ==\n" ∷ []

-- `== N files ==`
unfoldable pub head_texts : ℕ → List (List ℕ)
head_texts n = ascii "== " ∷ decimal n ∷ ascii " files ==\n" ∷ []

-- `  and N more`, where not every file of the group is named
unfoldable pub more_texts : Group → List (List ℕ)
more_texts g =
    cond (ltb g.named g.count)
    (ascii "  and " ∷ decimal (g.count - g.named) ∷ ascii " more\n" ∷ [])
    []

-- `WHAT: N`, and a line for each name; nothing of a group without files
unfoldable pub group_texts : List ℕ → Members → List (List ℕ)
group_texts what m =
    cond (eqb m.group.count 0) []
    (what ∷ ascii ": " ∷ decimal m.group.count ∷ ascii "\n" ∷ take m.group.used m.names ∷ more_texts m.group)

-- `expectations differ`
abbrev pub expectations_differ : List ℕ
expectations_differ = ascii "expectations differ"

-- `unannounced refusals`
abbrev pub unannounced_refusals : List ℕ
unannounced_refusals = ascii "unannounced refusals"

-- `bad lines`
abbrev pub bad_lines : List ℕ
bad_lines = ascii "bad lines"

-- `cannot be read`
abbrev pub cannot_be_read : List ℕ
cannot_be_read = ascii "cannot be read"

-- `no expectation`
abbrev pub no_expectation : List ℕ
no_expectation = ascii "no expectation"

unfoldable pub groups_texts : Collection → List (List ℕ)
groups_texts c =
    group_texts expectations_differ c.differ
    ++ (group_texts unannounced_refusals c.unannounced
    ++ (group_texts bad_lines c.bad
    ++ (group_texts cannot_be_read c.unread
    ++ group_texts no_expectation c.plain)))

-- "The run's last line counts all of them": `end N files, N agree, N differ, N unannounced, ` and
unfoldable pub first_counts : Tally → List (List ℕ)
first_counts t =
    ascii "end "
    ∷ decimal t.files ∷ ascii " files, "
    ∷ decimal t.agree ∷ ascii " agree, "
    ∷ decimal t.differ.count ∷ ascii " differ, "
    ∷ decimal t.unannounced.count ∷ ascii " unannounced, "
    ∷ []

-- `N bad lines, N cannot be read, N no expectation`
unfoldable pub last_counts : Tally → List (List ℕ)
last_counts t =
    decimal t.bad.count ∷ ascii " bad lines, "
    ∷ decimal t.unread.count ∷ ascii " cannot be read, "
    ∷ decimal t.plain.count ∷ ascii " no expectation\n"
    ∷ []

unfoldable pub summary_texts : Collection → List (List ℕ)
summary_texts c = head_texts c.files ++ (groups_texts c ++ (first_counts (tally_of c) ++ last_counts (tally_of c)))
