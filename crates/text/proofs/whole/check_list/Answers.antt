-- `check_list` meets its contract: what remains gives the same answer, and the table has the lines so far. Assumes nothing.
use mathlib.Core.Path.{◌≡◌, refl, sym, ap, subst, ◌∙◌}
use mathlib.Core.List.{List}
use Prim.Native.Nat.{ℕ, ◌≤◌, ◌<◌}
use native.Mathlib.Omega.{arith}
use borrow.Author.Rules.{rules}
use lib.ListN.{length, length-set}
use Rattle.rules.specs.Sizes.{base, LINES}
use Rattle.std.specs.declared.option.Option.TheVariants.{Some}
use Rattle.text.specs.declared.lines.Frame.{Frame}
use Rattle.text.specs.Shapes.{Reading}
use Rattle.text.specs.Titles.{Titles}
use Rattle.text.specs.Table.{RowsFor}
use Rattle.text.proofs.Titling.{list-start}
use Rattle.text.proofs.Texts.{stopped, list-end, list-size, list-late, list-bad, list_on, sized-at}
use Rattle.text.proofs.Tabling.{Filling, title-room, filling-start, filling-on, tabled-read, tabled-unread}
use Rattle.text.proofs.whole.check_list.Goals.{in_default-via-in-Some+else-f, in_default-via-in-None}
use Rattle.text.proofs.whole.check_list.Goals as goal

-- there is a row for line i
roomy : (s t t₀ : List ℕ) (p i : ℕ) → RowsFor s t₀ → i ≤ LINES → (i ≡ LINES → ⊥) → Filling s t p i → p < length s → length t ≡ length t₀ → i < length t
roomy s t t₀ p i h k n g l e = omega (arith, h i (omega (arith, k, n)) (omega (arith, g.behind, l)), e)

same-opcode : (x : Reading) (f g : Frame) → x ≡ Some f → x ≡ Some g → g.opcode ≡ 0x90 → f.opcode ≡ 0x90
same-opcode x f g e q o = let z : f ≡ g = cc in ap (λ (k : Frame). k.opcode) z ∙ o

pub put_title-requires : goal.put_title-requires
put_title-requires c = title-room c.args.s.now c.args.table.now _ c.requires (subst (Titles c.args.s.now) (sym c.from-titles.ensures) c.has_title.ensures)

pub loop-p-init : goal.loop-p-init
loop-p-init c =
    let t = subst (Titles c.args.s.now) (sym c.from-titles.ensures) c.has_title.ensures in (
      list-start base c.args.s.now _ t,
      t.within,
      omega (arith, t.most),
      refl,
      rw c.put_title.ensures (filling-start c.args.s.now c.args.table.now _ t (title-room _ c.args.table.now _ c.requires t)),
    )

pub returns-in-Some-clause-value : goal.returns-in-Some-clause-value
returns-in-Some-clause-value c =
    let k = c.list_line_at-t in c.sized.ensures ∙ sym (c.loop-p.invariant.0 ∙ list-size base c.args.s.now _ _ k.result k.ensures _ c.in-Some.is c.if-f.true)

pub returns-in_default-clause-value : goal.returns-in_default-clause-value
unfolding base
returns-in_default-clause-value c =
    let k = c.list_line_at-t in
    stopped _ _ c.new.ensures _
    (c.loop-p.invariant.0
    ∙ list-late base c.args.s.now _ _ k.result k.ensures
    (λ f q o.
    elim c.in_default.branch [
      | in_default-via-in-Some+else-f w ↦ w.if-f.false (same-opcode _ _ _ w.in-Some.is q o)
      | in_default-via-in-None w ↦ cc
    ])
    c.if-i-eq-LINES.true)

pub bounds-table-i : goal.bounds-table-i
bounds-table-i c =
    let same : length c.loop-p.table ≡ length c.args.table.now = search rules in
    roomy c.args.s.now c.loop-p.table c.args.table.now _ _ c.requires c.loop-p.invariant.2 c.if-i-eq-LINES.false c.loop-p.invariant.4 c.loop-p-test.true same

pub loop-p-preserved : goal.loop-p-preserved
unfolding base
loop-p-preserved c =
    let k = c.list_line_at-t in
    let same : length c.loop-p.table ≡ length c.args.table.now = search rules in
    let room = roomy c.args.s.now c.loop-p.table c.args.table.now _ _ c.requires c.loop-p.invariant.2 c.if-i-eq-LINES.false c.loop-p.invariant.4 c.loop-p-test.true same in (
      c.loop-p.invariant.0 ∙ list_on base c.args.s.now _ _ k.result k.ensures
          (λ f q o.
          elim c.in_default.branch [
            | in_default-via-in-Some+else-f w ↦ w.if-f.false (same-opcode _ _ _ w.in-Some.is q o)
            | in_default-via-in-None w ↦ cc
          ]) _ c.in-Some-2.is c.if-i-eq-LINES.false,
      k.ensures.within,
      omega (arith, c.loop-p.invariant.2, c.if-i-eq-LINES.false),
      length-set c.loop-p.table c.loop-p.i c.pack.result ∙ c.loop-p.invariant.3,
      filling-on c.args.s.now _ _ _ c.loop-p.invariant.4 k.result k.ensures _ c.in-Some-2.is _ c.pack.ensures room,
    )

pub returns-in-None-clause-value : goal.returns-in-None-clause-value
unfolding base
returns-in-None-clause-value c =
    let k = c.list_line_at-t in
    stopped _ _ c.new-in-None.ensures _ (c.loop-p.invariant.0 ∙ list-bad base c.args.s.now _ _ k.result k.ensures c.in-None.is c.if-i-eq-LINES.false)

pub returns-clause-value : goal.returns-clause-value
returns-clause-value c = stopped _ _ c.new-2.ensures _ (c.loop-p.invariant.0 ∙ list-end base c.args.s.now _ _ c.loop-p-test.false)
