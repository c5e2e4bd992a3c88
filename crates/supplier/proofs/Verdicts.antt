-- What the steps say of a script and a list is the rules' verdict. Assumes nothing.
use mathlib.Core.Path.{◌≡◌, refl, sym, ap, subst, ◌∙◌}
use mathlib.Core.Bool.{Bool, true, false, ◌&&◌}
use mathlib.Core.List.{List}
use Prim.Native.Nat.{ℕ, ◌+◌, ◌-◌, ◌≤◌, ◌<◌}
use native.Mathlib.Omega.{arith}
use lib.ListN.{length, get_or, take, drop}
use borrow.Author.Tests.{le-leb, lt-leb}
use Rattle.rules.specs.Sizes.{base}
use Rattle.rules.specs.Slots.{Place, placing}
use Rattle.rules.specs.Frames.{Frame, Line, start, Outcome, accepted, refused_at, before, steps}
use Rattle.rules.specs.Text.{Script, frames, unread, title, read_script, list_text, Listed, listed, unlisted, read_list}
use Rattle.rules.specs.Entries.{outcome, translated, refusal_answer}
use Rattle.rules.specs.Suppliers.{same_lines, shown_steps, is_accepted, agrees_with, agrees, says, judged, verdict, verdict_answer}
use Rattle.rules.proofs.Tells.{is_false, clash}
use Rattle.rules.proofs.Lists.{title-back}
use Rattle.rules.proofs.Fits.{base-wide}
use Rattle.rules.proofs.Demand3.{tail}
use Rattle.rules.proofs.Bytes.{run-written}
use Rattle.rules.proofs.ReadExact.{list-exact}
use Rattle.rules.proofs.Suppliers.{tells-lines, shown-goes}
use Rattle.scopes.proofs.Tables.{and-false}
use Rattle.text.proofs.Bounds.{ListIn, read-list-in}
use Rattle.text.specs.Lines.{unpacked}
use Rattle.text.specs.Table.{Tabled}
use Rattle.text.specs.Whole.{sized, of_script, script_checked, of_listed, listing}
use Rattle.text.specs.declared.whole.Listing.{Listing}
use Rattle.std.specs.declared.result.Result.{Result}
use Rattle.std.specs.declared.result.Result.TheVariants.{Ok, Err}
use Rattle.std.specs.Prelude.{IsTrue, ◌↔◌, Some}
use Rattle.std.proofs.lemmas.List.{get_or-take}
use lib.Seq.{length-take-le}
use Rattle.std.specs.Int.{from_bool}
use Rattle.text.specs.declared.refusal.RefusedAt.{RefusedAt}
use Rattle.text.specs.Refused.{good, bad}
use Rattle.translate.specs.Whole.{shown_at, walked, Lists, EndsShown}
use Rattle.translate.specs.declared.whole.Listed as ended
use Rattle.supplier.specs.Judged.{Read, frames_of, TheList, over_lines, SaysShown, SaysBoth}
use Rattle.supplier.proofs.Shown.{walked-shown}
use Rattle.supplier.proofs.Texts.{seven, same_length, same_bytes, same_lines_lem}

-- ---- over the list's own addresses

module _ (script list rows page : List ℕ) (size : ℕ) (read : Read script) where
  abbrev Says : Bool → Type 0
  Says b = SaysShown script list rows size b

  pub shown-refused : (e : RefusedAt) → EndsShown rows script (Err e) page → Says false
  unfolding agrees_with
  shown-refused e h = record { says = λ l. rw (sym (walked-shown list rows size l script h.0 h.1 read) ∙ h.2.0) }

  module _ (x : ended.Listed) (h : EndsShown rows script (Ok x) page) where
    -- what the steps came to, for the lines of the list
    own-lines : TheList list rows size → Lists (walked (shown_at rows) h.0 script) x page
    own-lines l = h.2

    abbrev own : List Line
    own = h.2.lines

    over : (l : TheList list rows size) → over_lines script l.all ≡ accepted own x.size
    over l = sym (walked-shown list rows size l script h.0 h.1 read) ∙ h.2.is

    exact : (l : TheList list rows size) → list ≡ list_text l.all size
    exact l = list-exact base list l.all size l.reads

    -- a list that there is: what is needed of it to call the comparison
    pub size-line : TheList list rows size → 7 ≤ x.bytes
    size-line l = seven own l.all x.size size x.bytes list page h.2.many h.2.text (exact l)

    differ : (l : TheList list rows size) → (own ≡ l.all → ⊥) → same_lines own l.all ≡ false
    differ l n = is_false _ (λ y. n ((tells-lines own l.all).holds y))

    no-by : ((l : TheList list rows size) → own ≡ l.all → ⊥) → Says false
    unfolding agrees_with
    no-by n = record { says = λ l. let f : same_lines own l.all ≡ false = differ l (n l) in rw (over l, f) }

    pub other_length : (length list ≡ x.bytes → ⊥) → Says false
    other_length ne = no-by (λ l q. ne (same_length own l.all x.size size x.bytes list page h.2.many h.2.text (exact l) q))

    other-bytes : (take (x.bytes - 7) list ≡ take (x.bytes - 7) page → ⊥) → Says false
    other-bytes ne = no-by (λ l q. ne (same_bytes own l.all x.size size x.bytes list page h.2.many h.2.text (exact l) q))

    pub too_small : size < x.size → Says false
    unfolding agrees_with
    too_small lt = record { says = λ l. rw (over l, lt-leb x.size size lt) (sym (and-false (same_lines own l.all))) }

    -- the lines on the page, written with the list's size, read back
    reads-back : (l : TheList list rows size) → read_list base (list_text own size) ≡ listed own size
    unfolding over_lines base
    reads-back l =
        let most : ListIn base 0 (listed l.all size) = subst (ListIn base 0) l.reads (read-list-in base (omega arith) list) in
        let p : Place = (read_script base script).place in
        let i : ℕ = length (title p) in
        let fs : List Frame = frames_of (read_script base script).script in
        let are : (read_script base script).script ≡ frames fs = read.reads ∙ ap frames (sym (ap frames_of read.reads)) in
        let tl = tail (title p) (shown_steps base i start fs (drop i l.all)) own x.size (over l) in
        let k = run-written base base-wide script fs tl.rest x.size are (shown-goes base fs i start (drop i l.all) tl.rest x.size tl.went) in
        subst (λ (y : List Line). read_list base (list_text y size) ≡ listed y size) tl.whole
        (title-back base p k.0.fits size (omega (arith, k.1, k.0.lengths)) most.1 (omega arith))

    yes-by : x.size ≤ size → length list ≡ x.bytes → take (x.bytes - 7) list ≡ take (x.bytes - 7) page → Says true
    unfolding agrees_with
    yes-by le len e = record {
      says = λ l.
          let same = same_lines_lem own l.all x.size size x.bytes list page h.2.many h.2.text (exact l) (reads-back l) l.reads len e in
          rw (over l, (tells-lines own l.all).shows same, le-leb x.size size le);
    }

    -- what the comparison of the bytes tells
    pub by_bytes : x.size ≤ size → length list ≡ x.bytes → (b : Bool) → (IsTrue b ↔ (take (x.bytes - 7) list ≡ take (x.bytes - 7) page)) → Says b
    by_bytes le len true t = yes-by le len (t.0 refl)
    by_bytes le len false t = other-bytes (λ e. clash (t.1 e) refl)

-- ---- the texts

listed-unread : {A P : Type 0} {a : A} {c d : ℕ} → good a ≡ bad c d → P
listed-unread e = cc

accepted-title : (above : List Line) (o : Outcome) → is_accepted (before above o) ≡ is_accepted o
accepted-title above (accepted ls size) = refl
accepted-title above (refused_at n i) = refl

module _ (script list : List ℕ) (read : Read script) where
  -- the verdict for a script that is read
  judged-read : (l : Listed) → read_list base list ≡ l → verdict base script list ≡ judged base (read_script base script).place (frames read.all) l
  unfolding verdict
  judged-read l e = λ u. judged base (read_script base script).place (read.reads u) (e u)

  pub list-unread : (n i r : ℕ) → bad n i ≡ listing base list → r ≡ refusal_answer n i → r ≡ verdict_answer (verdict base script list)
  unfolding listing judged
  list-unread n i r e q = go (read_list base list) refl (sym e)
    where
      go : (l : Listed) → read_list base list ≡ l → of_listed 0 l ≡ bad n i → r ≡ verdict_answer (verdict base script list)
      go (listed ls size) x y = listed-unread y
      go (unlisted m j) x y =
          let a : m ≡ n = cc in
          let b : j ≡ i = cc in
          q ∙ sym (ap verdict_answer (judged-read (unlisted m j) x) ∙ (λ u. refusal_answer (a u) (b u)))

  pub the-list : (table rows : List ℕ) (n : Listing) (r : Result Listing RefusedAt) → good n ≡ listing base list → r ≡ Ok n → Tabled list table r → rows ≡ take n.lines table → TheList list rows n.size
  unfolding listing
  the-list table rows n r e q t s = go (read_list base list) refl e
    where
      go : (l : Listed) → read_list base list ≡ l → good n ≡ of_listed 0 l → TheList list rows n.size
      go (unlisted m j) x y = listed-unread y
      go (listed ls k) x y =
          let z : n ≡ sized k (0 + length ls) = cc in
          let a : n.size ≡ k = ap (λ (i : Listing). i.size) z in
          let b : n.lines ≡ 0 + length ls = ap (λ (i : Listing). i.lines) z in
          let m : length rows ≡ n.lines = ap length s ∙ length-take-le n.lines table (t.fits n q) in
          record {
            all = ls;
            reads = x ∙ ap (listed ls) (sym a);
            many = omega (arith, m, b);
            rows_are = λ j k.
                let i : j < n.lines = omega (arith, m) in
                ap (λ (y : List ℕ). Some (unpacked (get_or y j 0))) s ∙ ap (λ (k : ℕ). Some (unpacked k)) (get_or-take n.lines table j 0 i) ∙ t.rows n q j i;
          }

  agrees-is : (ls : List Line) (size : ℕ) → agrees base (read_script base script).place read.all ls size ≡ (is_accepted (translated base script) && agrees_with ls size (over_lines script ls))
  unfolding agrees translated outcome over_lines
  agrees-is ls size =
      let p : Place = (read_script base script).place in
      let i : ℕ = length (title p) in
      let a : is_accepted (steps base (placing base.segments p) i start read.all) ≡ is_accepted (translated base script)
      = sym (ap (λ (x : Script). is_accepted (outcome base p x)) read.reads ∙ accepted-title (title p) (steps base (placing base.segments p) i start read.all)) in
      λ u. a u && agrees_with ls size (before (title p) (shown_steps base i start (frames_of (sym read.reads u)) (drop i ls)))

  pub answered : (rows : List ℕ) (size r : ℕ) (b : Bool) → TheList list rows size → SaysBoth script list rows size b → r ≡ from_bool b
      → r ≡ verdict_answer (verdict base script list)
  unfolding judged
  answered rows size r b l s q =
      q ∙ sym (ap verdict_answer (judged-read (listed l.all size) l.reads) ∙ ap (λ (x : Bool). verdict_answer (says x)) (agrees-is l.all size ∙ sym (s.says l)) ∙ told b)
    where
      told : (x : Bool) → verdict_answer (says x) ≡ from_bool x
      told true = refl
      told false = refl

pub script-read : (script : List ℕ) (n : ℕ) → script_checked base script ≡ good n → Read script
unfolding script_checked
script-read script n e = go (read_script base script).script refl e
  where
    go : (r : Script) → (read_script base script).script ≡ r → of_script (length (title (read_script base script).place)) r ≡ good n → Read script
    go (frames fs) q e = record { all = fs; reads = q }
    go (unread m i) q e = absurd (let w : ◌≡◌ {A = ℕ} 0 1 = cc in omega arith)

pub script-unread : (script list : List ℕ) (n i r : ℕ) → bad n i ≡ script_checked base script → r ≡ refusal_answer n i → r ≡ verdict_answer (verdict base script list)
unfolding script_checked verdict judged
script-unread script list n i r e q = go (read_script base script).script refl (sym e)
  where
    go : (x : Script) → (read_script base script).script ≡ x → of_script (length (title (read_script base script).place)) x ≡ bad n i → r ≡ verdict_answer (verdict base script list)
    go (frames fs) y z = absurd (let w : ◌≡◌ {A = ℕ} 0 1 = cc in omega arith)
    go (unread m j) y z =
        let a : m ≡ n = cc in
        let b : j ≡ i = cc in
        q ∙ sym (ap (λ (x : Script). verdict_answer (judged base (read_script base script).place x (read_list base list))) y ∙ (λ u. refusal_answer (a u) (b u)))
