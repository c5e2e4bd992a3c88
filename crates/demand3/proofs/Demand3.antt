-- Demand 3 over the code, from the promises of translate, run, read_recording and run_recorded alone. Assumes nothing.
use mathlib.Core.Path.{◌≡◌, refl, sym, ap, subst, ◌∙◌}
use mathlib.Core.Bool.{Bool, true, false}
use mathlib.Core.List.{List, [], ◌++◌}
use Prim.Native.Nat.{ℕ, ◌*◌, ◌≤◌}
use native.Mathlib.Omega.{arith}
use lib.Dec.{leb}
use lib.ListN.{length, take, drop}
use lib.Seq.{take_at}
use borrow.Author.Tests.{le-leb}
use Rattle.rules.specs.Notation.{provided◌then◌else◌}
use Rattle.rules.specs.Sizes.{base}
use Rattle.rules.specs.Frames.{Line, Outcome, accepted}
use Rattle.rules.specs.Meaning.{Ran}
use Rattle.rules.specs.Text.{list_text}
use Rattle.rules.specs.Entries.{translated, list_left, translate_entry, over_front, loads_text, cells_of, odd_byte, bytes_of, ran, Running, run_left, ran_on, run_entry, REFUSAL}
use Rattle.translate.specs.Whole as translate
use Rattle.translate.proofs.Numbers.{Comes, to-list, to-stop, comes}
use Rattle.rules.proofs.Bytes.{Held, held-base}
use Rattle.rules.proofs.SampleCells.{cells-length}
use Rattle.demand3.specs.Promises.{TranslatePromise, RunPromise, Accepts, means, takes, PrintsMeaning, Above, Shows, Demand3Code}
use Rattle.demand3.proofs.Reported.{text-reports, reports-one}
use Rattle.demand3.proofs.Frame.{text-length}
use Rattle.demand3.proofs.Ran.{reads, below, worked, ran_on_lem, loaded}
use Rattle.demand3.proofs.Beside.{prints-by, above-by, beside}

-- ---- what translate left

pub come : (script : List ℕ) → Comes (translated base script)
unfolding base
come script = comes script

-- the list that was accepted
pub record Listing (script list : List ℕ) : Type 0 where
  pub lines : List Line
  pub size : ℕ
  pub ok : translated base script ≡ accepted lines size
  pub is : list ≡ list_text lines size

listing : (script list : List ℕ) (o : Outcome) → translated base script ≡ o → Comes o → (r : ℕ) (list' : List ℕ) → translate.LeavesList (list_left o list) r list' → Accepts r → Listing script (take r list')
unfolding list_left provided◌then◌else◌
listing script list _ e (to-stop n i a b c) r list' h k = absurd (omega (arith, h.answered))
listing script list _ e (to-list {ls = ls} {size = size} a) r list' h k = go (leb (length (list_text ls size)) (length list)) refl
  where
    go : (b : Bool) → leb (length (list_text ls size)) (length list) ≡ b → Listing script (take r list')
    go false q = absurd (let x : r ≡ 17 * REFUSAL = rw (q, provided◌then◌else◌) at h.answered in omega arith)
    go true q =
        let x : r ≡ length (list_text ls size) = rw (q, provided◌then◌else◌) at h.answered in
        let y : list' ≡ over_front (list_text ls size) list = rw (q, provided◌then◌else◌) at h.list_left in
        record {
          lines = ls;
          size = size;
          ok = e;
          is = ap (take r) y ∙ take_at (list_text ls size) (drop (length (list_text ls size)) list) r (sym x);
        }

pub listed_by : (script list : List ℕ) (r : ℕ) (list' : List ℕ) → TranslatePromise script list r list' → Accepts r → Listing script (take r list')
unfolding translate_entry
listed_by script list r list' h k = listing script list (translated base script) refl (come script) r list' h k

-- ---- what run left

-- with room for the answer
pub left-ran : (x : Ran) (n : ℕ) (cells out : List ℕ) → 7 * length x.loaded ≤ length out
    → run_left (ran x n) cells out ≡ record { answer = 7 * length x.loaded; cells = bytes_of x.cells ++ odd_byte cells; out = over_front (loads_text x.loaded) out }
unfolding run_left provided◌then◌else◌
left-ran x n cells out h =
    let l = text-length x.loaded in
    rw (le-leb (length (loads_text x.loaded)) (length out) (omega arith), provided◌then◌else◌)
    (ap (λ (k : ℕ). record { answer = k; cells = bytes_of x.cells ++ odd_byte cells; out = over_front (loads_text x.loaded) out }) l)

module _ (script : List ℕ) (ls : List Line) (size : ℕ) (ok : Held base script ls size) where
  larger : takes script ≡ 0 → (cells out : List ℕ) → 2 * size ≤ length cells → 7 * length (means script []) ≤ length out
      → (a : ℕ) (cells' out' : List ℕ) → RunPromise (list_text ls size) cells out a cells' out' → PrintsMeaning script [] out a out' × Above size cells cells'
  unfolding run_entry ran_on
  larger z cells out h k a cells' out' run =
      let q : takes script ≤ 0 = omega arith in
      let f : size ≤ length (cells_of cells) = omega (arith, cells-length cells) in
      let x : Ran = worked script ls size ok 0 [] q q (cells_of cells) f in
      let m : x.loaded ≡ means script [] = loaded script ls size ok 0 [] q q (cells_of cells) f in
      let e = ap (λ o. run_left o cells out) (ran_on_lem script ls size ok 0 [] q q (cells_of cells) f) ∙ left-ran x _ cells out (rw m k) in (
        prints-by script ls size ok 0 [] q q cells f out a out' (run.answered ∙ ap (λ (l : Running). l.answer) e) (run.out-left ∙ ap (λ (l : Running). l.out) e),
        above-by script ls size ok 0 [] q q cells f cells' (run.cells_left ∙ ap (λ (l : Running). l.cells) e),
      )

  pub shows : Shows script (list_text ls size)
  shows =
      record {
        size = size;
        reported = text-reports ls size;
        only = λ n h. reports-one (list_text ls size) n size h (text-reports ls size);
        inside = record { lines = ls; read = reads script ls size ok; below = below script ls size ok };
        exact = λ z cells out h k a cells' out' run. (larger z cells out (omega arith) k a cells' out' run).0;
        larger = larger;
        beside = beside script ls size ok;
      }

-- ---- demand 3

pub demand3-code : Demand3Code
unfolding Demand3Code
demand3-code script list r list' h k =
    let l = listed_by script list r list' h k in
    subst (Shows script) (sym l.is) (shows script l.lines l.size (held-base script l.lines l.size l.ok))
