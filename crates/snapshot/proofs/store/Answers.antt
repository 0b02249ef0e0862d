-- `snapshot::store` meets its contract.
use Prim.Native.Nat.{ℕ}
use mathlib.Core.List.{List, ◌++◌}
use mathlib.Core.Path.{◌≡◌, ap, ◌∙◌, sym}
use lib.ListN.{length, take, drop}
use lib.Seq.{sets}
use native.Mathlib.Omega.{arith}
use borrow.Author.Rules.{rules}
use Rattle.std.proofs.Common.{length-take}
use Rattle.layout.specs.Number.{all_bytes}
use Rattle.layout.specs.Layout.{stored}
use Rattle.layout.proofs.Loops.{laid}
use Rattle.snapshot.proofs.store.Goals as goal

front : (o : List ℕ) → length o ≡ 233 → length (take 25 o) ≡ 25
front o h = omega (arith, length-take 25 o, h)

copied : (o s : List ℕ) {l : List ℕ} → l ≡ s → l ++ drop 25 o ≡ s ++ drop 25 o
copied o s h = ap (λ (l : List ℕ). l ++ drop 25 o) h

pub slice_bounds-copy_from_slice-end-2 : goal.slice_bounds-copy_from_slice-end-2
slice_bounds-copy_from_slice-end-2 c = sym (front _ c.requires)

pub copy_from_slice-requires : goal.copy_from_slice-requires
copy_from_slice-requires c =
    let long : length c.single_of-s.result ≡ 25 = search rules in
    front _ c.requires ∙ sym long

pub returns : goal.returns
unfolding stored
returns c =
    let start = c.args in
    let good = c.well_formed in
    let s = c.single_of-s in
    let d = c.double_of in
    let q = c.quadruple_of in
    let o = c.octuple_of in (
      c.put_octuples.ensures.0
          ∙ ap (λ (l : List ℕ). sets l 193 (all_bytes 8 o.result))
          (c.put_quadruples.ensures.0
          ∙ ap (λ (l : List ℕ). sets l 61 (all_bytes 4 q.result))
          (c.put_doubles.ensures.0
          ∙ ap (λ (l : List ℕ). sets l 25 (all_bytes 2 d.result)) (copied start.bytes.now s.result c.copy_from_slice.ensures.after)))
          ∙ laid start.bytes.now s.result d.result q.result o.result c.requires (search rules) (search rules) (search rules) (search rules)
          ∙ rw (s.ensures, d.ensures, q.ensures.0, o.ensures.0),
      record {
        setup = search (rules, good);
        ups = q.ensures.1;
        downs = q.ensures.2;
        sums = o.ensures.1;
        ports = q.ensures.3;
        doubles = rw (← d.ensures) c.put_doubles.ensures.1;
        quadruples = rw (← q.ensures.0) c.put_quadruples.ensures.1;
        octuples = rw (← o.ensures.0) c.put_octuples.ensures.1;
      },
    )
