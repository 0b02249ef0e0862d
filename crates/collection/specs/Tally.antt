-- The tally of a run, file by file.
use Rattle.std.specs.Prelude.{ℕ, cond, List, [], ◌∷◌}
use Rattle.collection.specs.declared.Outcome.{Outcome}
use Rattle.collection.specs.declared.Kinds.{Kinds}
use Rattle.collection.specs.declared.Group.{Group}
use Rattle.collection.specs.declared.Tally.{Tally}
use Rattle.collection.specs.Kind.{kinds, agreeing}
use Rattle.collection.specs.Group.{one_more, Members, joined}

abbrev pub no_group : Group
no_group = record { count = 0; named = 0; used = 0 }

-- before the first file
abbrev pub none : Tally
none = record { files = 0; agree = 0; differ = no_group; unannounced = no_group; bad = no_group; unread = no_group; plain = no_group }

-- a tally with the buffers of its groups
pub record Collection : Type 0 where
  pub files : ℕ
  pub agree : ℕ
  pub differ : Members
  pub unannounced : Members
  pub bad : Members
  pub unread : Members
  pub plain : Members

abbrev pub collection : Tally → (differ unannounced bad unread plain : List ℕ) → Collection
collection t differ unannounced bad unread plain = record {
  files = t.files;
  agree = t.agree;
  differ = record { group = t.differ; names = differ };
  unannounced = record { group = t.unannounced; names = unannounced };
  bad = record { group = t.bad; names = bad };
  unread = record { group = t.unread; names = unread };
  plain = record { group = t.plain; names = plain };
}

abbrev pub tally_of : Collection → Tally
tally_of c = record {
  files = c.files;
  agree = c.agree;
  differ = c.differ.group;
  unannounced = c.unannounced.group;
  bad = c.bad.group;
  unread = c.unread.group;
  plain = c.plain.group;
}

unfoldable pub agreed : ℕ → Kinds → ℕ
agreed n k = cond (agreeing k) (one_more n) n

-- Another file, of this outcome and name. It may belong to several groups.
unfoldable pub after : Outcome → List ℕ → Collection → Collection
after o name c = record {
  files = one_more c.files;
  agree = agreed c.agree (kinds o);
  differ = joined (kinds o).differ name c.differ;
  unannounced = joined (kinds o).unannounced name c.unannounced;
  bad = joined (kinds o).bad name c.bad;
  unread = joined (kinds o).unread name c.unread;
  plain = joined (kinds o).plain name c.plain;
}

-- a file of a run: its name, and what its replay came to
pub record File : Type 0 where
  pub name : List ℕ
  pub outcome : Outcome

-- The files of a run, each after the one before it.
unfoldable pub collected : List File → Collection → Collection
collected [] c = c
collected (f ∷ fs) c = collected fs (after f.outcome f.name c)
