-- A group of files, and the lines that name them.
use Rattle.std.specs.Prelude.{ℕ, ◌+◌, min, Bool, cond, List, [], ◌∷◌, eqb}
use Rattle.numeral.specs.Place.{no_room, Placed, put_each}
use Rattle.collection.specs.declared.Group.{Group}
use Rattle.numeral.specs.Ascii.{ascii}

-- one more, or the largest number that fits
abbrev pub one_more : ℕ → ℕ
one_more n = min (n + 1) 18446744073709551615

-- two blanks, the name and a line feed
unfoldable pub name_texts : List ℕ → List (List ℕ)
name_texts name = ascii "  " ∷ name ∷ ascii "\n" ∷ []

-- a group, and the buffer that has the lines of its names
pub record Members : Type 0 where
  pub group : Group
  pub names : List ℕ

-- A file that belongs to the group is counted. "Each of the five has room for 65,536 bytes of names with two blanks and a line feed
-- each": its name is kept where the buffer has room for its line.
abbrev pub counted : Group → Placed → Members
counted g p = record {
  group = record {
    count = one_more g.count;
    named = cond (eqb p.next no_room) g.named (one_more g.named);
    used = cond (eqb p.next no_room) g.used p.next;
  };
  names = p.bytes;
}

unfoldable pub joined : Bool → List ℕ → Members → Members
joined belongs name m = cond belongs (counted m.group (put_each m.names m.group.used (name_texts name))) m
