-- What each refusal leaves, and the work. Assumes nothing.
use mathlib.Core.Path.{◌≡◌, refl, sym, ap, subst, ◌∙◌}
use mathlib.Core.Bool.{true, false}
use mathlib.Core.List.{List, [], ◌∷◌, ◌++◌, map}
use Prim.Native.Nat.{ℕ, zero, suc, ◌+◌, ◌*◌, ◌/◌, ◌-◌, ◌≤◌, ◌<◌}
use native.Mathlib.Omega.{arith}
use lib.Dec.{ltb}
use lib.ListN.{length, get_or, take, drop, replicate}
use borrow.Author.Tests.{ltb-false, lt-ltb, le-ltb, eq-eqb, ne_eqb}
use Rattle.rules.specs.Sizes.{Room}
use Rattle.rules.specs.Entries.{refusal_answer, bytes4, over_front, RecordedRunning}
use Rattle.rules.proofs.Tells.{decided, clash}
use Rattle.text.specs.Lines.{unpacked}
use Rattle.text.specs.Table.{readings, Rows}
use Rattle.text.specs.Whole.{listing}
use Rattle.std.specs.declared.option.Option.TheVariants.{Some, None}
use Rattle.text.specs.Shapes.{Reading}
use Rattle.text.specs.Refused.{Checked, good, bad}
use Rattle.text.specs.declared.whole.Listing.{Listing}
use Rattle.machine.specs.Entries.{entry_of, entries, entry_in, entries_of}
use Rattle.machine.specs.Survey.{survey_of, lacking_of}
use Rattle.machine.specs.Work.{filled_from, obey_cells, obey_text, loads_in}
use Rattle.machine.specs.Recorded.{LeavesAll, refusal, lacks_of, enough_left, whole_left, surveyed_left, survey_left, listed_left, list_left}
use Rattle.machine.specs.declared.entries.Entry.{Entry}
use Rattle.machine.specs.declared.survey.Asked.{Asked}
use Rattle.machine.proofs.Placing.{loads-filled}

-- any two results that the promise admits are equal
pub leaves-all-one : {l : RecordedRunning} {r r' : ℕ} {cells cells' out out' left left' : List ℕ} → LeavesAll l r cells out left → LeavesAll l r' cells' out' left'
    → (r ≡ r') × (cells ≡ cells') × (out ≡ out') × (left ≡ left')
leaves-all-one h k = (h.answered ∙ sym k.answered, h.cells_left ∙ sym k.cells_left, h.out-left ∙ sym k.out-left, h.left-left ∙ sym k.left-left)

-- ---- lent memory is long enough

pub record Has (c o m l size loads takes : ℕ) : Type 0 where
  pub cells : size ≤ c / 2
  pub out : loads ≤ o / 7
  pub samples : takes ≤ m / 2
  pub left : 4 ≤ l

pub has : (c o m l size loads takes : ℕ) → lacks_of c o m l size loads takes ≡ false → Has c o m l size loads takes
has c o m l size loads takes h =
    decided (ltb (c / 2) size) (λ a. clash refl (rw a at h))
    (λ a. decided (ltb (o / 7) loads) (λ b. clash refl (rw (a, b) at h))
    (λ b. decided (ltb (m / 2) takes) (λ d. clash refl (rw (a, b, d) at h))
    (λ d. record { cells = ltb-false (c / 2) size a; out = ltb-false (o / 7) loads b; samples = ltb-false (m / 2) takes d; left = ltb-false l 4 (rw (a, b, d) at h) })))

-- ---- one refusal after the other

leaves-as : {l l' : RecordedRunning} {r : ℕ} {cells out left : List ℕ} → l ≡ l' → LeavesAll l' r cells out left → LeavesAll l r cells out left
leaves-as {r = r} {cells = cells} {out = out} {left = left} e h = subst (λ (x : RecordedRunning). LeavesAll x r cells out left) (sym e) h

pub stops : (cells out left : List ℕ) (n i r : ℕ) → r ≡ refusal_answer n i → LeavesAll (refusal n i cells out left) r cells out left
stops cells out left n i r e = record { answered = e; cells_left = refl; out-left = refl; left-left = refl }

module _ (samples cells out left : List ℕ) (size loads takes recorded : ℕ) (es : List Entry) where
  pub enough-lacks : lacks_of (length cells) (length out) (length samples) (length left) size loads takes ≡ true → (r : ℕ) → r ≡ refusal_answer 17 0
      → LeavesAll (enough_left samples size loads takes recorded es cells out left) r cells out left
  unfolding enough_left
  enough-lacks h r e = rw (h, enough_left) (stops cells out left 17 0 r e)

  -- cz: the cells with zeros; fs: the entries with their samples
  pub enough-done : lacks_of (length cells) (length out) (length samples) (length left) size loads takes ≡ false → (cz cells' out' left' : List ℕ) (fs : List Entry) (r : ℕ)
      → loads ≡ loads_in es → cz ≡ replicate (2 * size) 0 ++ drop (2 * size) cells → fs ≡ filled_from samples 0 es → r ≡ 7 * loads_in fs → cells' ≡ obey_cells cz fs
      → out' ≡ obey_text cz fs ++ drop (7 * loads_in fs) out → left' ≡ over_front (bytes4 (recorded - takes)) left
      → LeavesAll (enough_left samples size loads takes recorded es cells out left) r cells' out' left'
  unfolding enough_left
  enough-done h cz cells' out' left' fs r en ez ef er ec eo el =
      let n : loads_in fs ≡ loads = ap loads_in ef ∙ loads-filled es samples 0 ∙ sym en in
      rw (h, enough_left)
      (record {
        answered = er ∙ ap (λ (k : ℕ). 7 * k) n;
        cells_left = rw (ez, ef) at ec;
        out-left = rw (n, ez, ef) at eo;
        left-left = el;
      })

module _ (samples cells out left : List ℕ) (size loads takes column recorded : ℕ) (es : List Entry) where
  pub whole-torn : (column ≡ 0 → ⊥) → (r : ℕ) → r ≡ refusal_answer 24 recorded → LeavesAll (whole_left samples size loads takes column recorded es cells out left) r cells out left
  unfolding whole_left
  whole-torn h r e = rw (ne_eqb column 0 h, whole_left) (stops cells out left 24 recorded r e)

  pub whole-few : column ≡ 0 → recorded < takes → (i r : ℕ) → i ≡ lacking_of 0 recorded es → r ≡ refusal_answer 23 i
      → LeavesAll (whole_left samples size loads takes column recorded es cells out left) r cells out left
  unfolding whole_left
  whole-few h l i r q e = rw (eq-eqb column 0 h, lt-ltb recorded takes l, whole_left) (stops cells out left 23 (lacking_of 0 recorded es) r (e ∙ ap (refusal_answer 23) q))

  pub whole-enough : column ≡ 0 → takes ≤ recorded → (r : ℕ) (cells' out' left' : List ℕ)
      → LeavesAll (enough_left samples size loads takes recorded es cells out left) r cells' out' left'
      → LeavesAll (whole_left samples size loads takes column recorded es cells out left) r cells' out' left'
  unfolding whole_left
  whole-enough h l r cells' out' left' k = rw (eq-eqb column 0 h, le-ltb recorded takes l, whole_left) k

module _ (samples cells out left : List ℕ) (size column recorded : ℕ) (es : List Entry) (r : ℕ) where
  pub survey-high : (n i : ℕ) → bad n i ≡ survey_of size 0 0 0 es → r ≡ refusal_answer n i → LeavesAll (survey_left samples size column recorded es cells out left) r cells out left
  survey-high n i e h = leaves-as (ap (λ (x : Checked Asked). surveyed_left samples size column recorded es x cells out left) (sym e)) (stops cells out left n i r h)

  pub survey-low : (a : Asked) → good a ≡ survey_of size 0 0 0 es → (cells' out' left' : List ℕ)
      → LeavesAll (whole_left samples size a.loads a.takes column recorded es cells out left) r cells' out' left'
      → LeavesAll (survey_left samples size column recorded es cells out left) r cells' out' left'
  survey-low a e cells' out' left' h = leaves-as (ap (λ (x : Checked Asked). surveyed_left samples size column recorded es x cells out left) (sym e)) h

-- ---- the table has the entries of the list

table-rows : (t : List ℕ) (rs : List Reading) (i n : ℕ) → ((j : ℕ) → j < n → Some (unpacked (get_or t (i + j) 0)) ≡ get_or rs j None) → entries_of t i n ≡ take n (map entry_of rs)
unfolding entries_of
table-rows t rs i zero h = refl
table-rows t [] i (suc n) h = let q = h 0 (omega arith) in cc
table-rows t (x ∷ rs) i (suc n) h =
    let e : i + 0 ≡ i = omega arith in
    let q : Some (unpacked (get_or t i 0)) ≡ x = ap (λ (m : ℕ). Some (unpacked (get_or t m 0))) (sym e) ∙ h 0 (omega arith) in
    let r : entry_in t i ≡ entry_of x = ap entry_of q in
    let more = table-rows t rs (i + 1) n (λ j l. let f : i + 1 + j ≡ i + suc j = omega arith in ap (λ (m : ℕ). Some (unpacked (get_or t m 0))) f ∙ h (suc j) (omega arith)) in
    rw (r, more)

table-entries : (s t : List ℕ) (n : ℕ) → Rows s t n → entries_of t 0 n ≡ take n (entries s)
unfolding entries
table-entries s t n h = table-rows t (readings s) 0 n (λ j l. let e : 0 + j ≡ j = omega arith in ap (λ (m : ℕ). Some (unpacked (get_or t m 0))) e ∙ h j l)

module _ (room : Room) (list samples cells out left : List ℕ) (column recorded : ℕ) (r : ℕ) where
  listed-as : (l : Checked Listing) → l ≡ listing room list → list_left room list samples column recorded cells out left ≡ listed_left samples column recorded (entries list) l cells out left
  unfolding list_left
  listed-as l e = ap (λ (x : Checked Listing). listed_left samples column recorded (entries list) x cells out left) (sym e)

  pub list-unread : (m i : ℕ) → bad m i ≡ listing room list → r ≡ refusal_answer m i → LeavesAll (list_left room list samples column recorded cells out left) r cells out left
  list-unread m i q h = leaves-as (listed-as (bad m i) q) (stops cells out left m i r h)

  pub list_read : (l : Listing) (t : List ℕ) → good l ≡ listing room list → Rows list t l.lines → (cells' out' left' : List ℕ)
      → LeavesAll (survey_left samples l.size column recorded (entries_of t 0 l.lines) cells out left) r cells' out' left'
      → LeavesAll (list_left room list samples column recorded cells out left) r cells' out' left'
  list_read l t q rows cells' out' left' h =
      leaves-as (listed-as (good l) q ∙ ap (λ (es : List Entry). survey_left samples l.size column recorded es cells out left) (sym (table-entries list t l.lines rows))) h

-- the list is read into the table, and its addresses are below its size
module _ (room : Room) (list samples cells out left : List ℕ) (column recorded : ℕ) (l : Listing) (t : List ℕ) (read : good l ≡ listing room list) (rows : Rows list t l.lines)
    (a : Asked) (low : good a ≡ survey_of l.size 0 0 0 (entries_of t 0 l.lines)) where
  pub then-whole : (r : ℕ) (cells' out' left' : List ℕ) → LeavesAll (whole_left samples l.size a.loads a.takes column recorded (entries_of t 0 l.lines) cells out left) r cells' out' left'
      → LeavesAll (list_left room list samples column recorded cells out left) r cells' out' left'
  then-whole r cells' out' left' h =
      list_read room list samples cells out left column recorded r l t read rows cells' out' left'
      (survey-low samples cells out left l.size column recorded (entries_of t 0 l.lines) r a low cells' out' left' h)
