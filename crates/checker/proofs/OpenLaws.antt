-- What the definitions of `Open` come to. Assumes nothing.
use Prim.Native.Nat.{ℕ}
use mathlib.Core.Path.{◌≡◌, refl, ap}
use mathlib.Core.Bool.{Bool, true, false, cond}
use mathlib.Core.List.{List, [], ◌∷◌, ◌++◌}
use types.Run.{OneOf, miss}
use denote.Enum.Declared.{tag_of}
use Rattle.numeral.specs.Place.{Placed, put_each}
use Rattle.line.specs.contracts.Content.{the_type}
use Rattle.line.specs.declared.Content.{Content}
use Rattle.line.specs.Line.{Bounded}
use Rattle.wording.specs.Text.{PutEach}
use Rattle.wording.proofs.Each.{put_then}
use Rattle.item_checks.specs.Fault.{is_fault, left_of}
use Rattle.item_checks.specs.Open.{is_item}

-- A bad line leaves nothing to be answered, and any other what it holds.
nothing-or : (b : Bool) (content : Content) → Bounded content → Bounded (cond b Content.Nothing content)
nothing-or true content bound = tt
nothing-or false content bound = bound

pub left-bounded : (content : Content) (counts : List ℕ) {r : Content} → r ≡ left_of content counts → Bounded content → Bounded r
unfolding left_of
left-bounded content counts e bound = rw e (nothing-or (is_fault content counts) content bound)

-- Texts of which some were put, and then the others.
pub put_both : {l l' l'' : List ℕ} {at r r' : ℕ} (ts us : List (List ℕ)) → ◌≡◌ {A = Placed} (record { next = r; bytes = l' }) (put_each l at ts)
    → PutEach l' r us r' l'' → PutEach l at (ts ++ us) r' l''
put_both ts us e p = put_then record { next = ap (λ (q : Placed). q.next) e; bytes = ap (λ (q : Placed). q.bytes) e } p

-- Any line but `item`.
pub no_item : (content : Content) → OneOf (0 ∷ 1 ∷ 2 ∷ 3 ∷ 4 ∷ 6 ∷ 7 ∷ 8 ∷ 9 ∷ 10 ∷ 11 ∷ 12 ∷ 13 ∷ 14 ∷ 15 ∷ 16 ∷ 17 ∷ 18 ∷ 19 ∷ 20 ∷ 21 ∷ 22 ∷ 23 ∷ 24 ∷ []) (tag_of the_type content) → is_item content ≡ false
unfolding is_item
no_item Content.Nothing h = refl
no_item Content.TooLong h = refl
no_item Content.UnknownWord h = refl
no_item Content.BadNumber h = refl
no_item Content.WrongCount h = refl
no_item Content.Item h = absurd (miss (0 ∷ 1 ∷ 2 ∷ 3 ∷ 4 ∷ 6 ∷ 7 ∷ 8 ∷ 9 ∷ 10 ∷ 11 ∷ 12 ∷ 13 ∷ 14 ∷ 15 ∷ 16 ∷ 17 ∷ 18 ∷ 19 ∷ 20 ∷ 21 ∷ 22 ∷ 23 ∷ 24 ∷ []) 5 tt h)
no_item (Content.Bus n) h = refl
no_item (Content.BusOut size n) h = refl
no_item (Content.Tick n) h = refl
no_item (Content.Flight up down) h = refl
no_item (Content.Temperature n) h = refl
no_item Content.Int h = refl
no_item Content.Awaited h = refl
no_item Content.Regs h = refl
no_item (Content.Expect a n) h = refl
no_item Content.Show h = refl
no_item (Content.Set a n) h = refl
no_item (Content.At t) h = refl
no_item (Content.Stretch n) h = refl
no_item Content.Frames h = refl
no_item (Content.Probe n) h = refl
no_item Content.Degrees h = refl
no_item (Content.Record n) h = refl
no_item (Content.Listing old first) h = refl
no_item (Content.Quietest n) h = refl
