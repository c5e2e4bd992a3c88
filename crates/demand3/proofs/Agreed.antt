-- Demand 3 of a list from elsewhere, over the code: from the promises of agrees, run, read_recording and run_recorded alone. Assumes nothing.
use mathlib.Core.Path.{◌≡◌, refl, sym, ap, subst, ◌∙◌}
use mathlib.Core.Bool.{true}
use mathlib.Core.List.{List}
use Prim.Native.Nat.{ℕ}
use native.Mathlib.Omega.{arith}
use Rattle.rules.specs.Sizes.{base}
use Rattle.rules.specs.Slots.{Place}
use Rattle.rules.specs.Frames.{Line}
use Rattle.rules.specs.Text.{Script, frames, unread, read_script, list_text, Listed, listed, unlisted, read_list}
use Rattle.rules.specs.Suppliers.{agrees, says, judged, verdict}
use Rattle.rules.proofs.Bytes.{Held}
use Rattle.rules.proofs.ReadExact.{list-exact}
use Rattle.rules.proofs.Suppliers.{agrees-holds}
use Rattle.supplier.proofs.Answers.{one-is-yes}
use Rattle.demand3.specs.Promises.{Shows, AgreedCode}
use Rattle.demand3.proofs.Demand3.{shows}

-- a list that gets a yes has lines and a size of which demand 3 holds
record Agreed (script list : List ℕ) : Type 0 where
  lines : List Line
  size : ℕ
  is : list ≡ list_text lines size
  holds : Held base script lines size

agreed : (script list : List ℕ) → verdict base script list ≡ says true → Agreed script list
unfolding verdict judged
agreed script list e = go (read_script base script).script (read_list base list) refl refl e
  where
    go : (r : Script) (l : Listed) → (read_script base script).script ≡ r → read_list base list ≡ l → judged base (read_script base script).place r l ≡ says true → Agreed script list
    go (unread n i) l q x y = absurd (let z : ◌≡◌ {A = ℕ} 0 1 = cc in omega arith)
    go (frames fs) (unlisted n i) q x y = absurd (let z : ◌≡◌ {A = ℕ} 0 1 = cc in omega arith)
    go (frames fs) (listed ls size) q x y =
        let p : Place = (read_script base script).place in
        let agree : agrees base p fs ls size ≡ true = cc in
        let text : list ≡ list_text ls size = list-exact base list ls size x in
        record {
          lines = ls;
          size = size;
          is = text;
          holds = record { script-frames = fs; read = q; holds = agrees-holds base p fs ls size agree; back = ap (read_list base) (sym text) ∙ x };
        }

pub agreed-code : AgreedCode
unfolding AgreedCode
agreed-code script list r promised one =
    let w = agreed script list (one-is-yes script list r promised one) in
    subst (Shows script) (sym w.is) (shows script w.lines w.size w.holds)
