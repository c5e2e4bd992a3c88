-- What is left in lent memory, and the entry's answer by its branches. Assumes nothing.
use mathlib.Core.Path.{◌≡◌, sym, ap, ◌∙◌}
use mathlib.Core.Bool.{true, false}
use mathlib.Core.List.{List}
use Prim.Native.Nat.{ℕ}
use Rattle.rules.specs.Recordings.{Reader, is_reader, reader_of, state_of, fed, kept}
use Rattle.rules.specs.Entries.{refusal_answer, PartRead, read_entry}
use Rattle.rules.proofs.Cuts.{entry-sound, entry-refused}
use Rattle.recordings.specs.Reading.{LeavesSamples}

module _ (n : ℕ) (memory part : List ℕ) (r : Reader) (e : r ≡ reader_of n) where
  pub entry-good : is_reader r ≡ true → (f : Reader) → f ≡ fed r part → (a : ℕ) → a ≡ state_of f → (m : List ℕ) → m ≡ kept r part memory → LeavesSamples (read_entry n memory part) a m
  entry-good h f ef a ea m em =
      let g = entry-sound n memory part (ap is_reader (sym e) ∙ h) in
      record {
        answered = ea ∙ ap state_of (ef ∙ ap (λ (t : Reader). fed t part) e) ∙ sym (ap (λ (x : PartRead). x.answer) g);
        samples-left = em ∙ ap (λ (t : Reader). kept t part memory) e ∙ sym (ap (λ (x : PartRead). x.samples) g);
      }

  pub entry-bad : is_reader r ≡ false → (a : ℕ) → a ≡ refusal_answer 29 0 → LeavesSamples (read_entry n memory part) a memory
  entry-bad h a ea =
      let g = entry-refused n memory part (ap is_reader (sym e) ∙ h) in
      record { answered = ea ∙ sym (ap (λ (x : PartRead). x.answer) g); samples-left = sym (ap (λ (x : PartRead). x.samples) g) }

-- any two results that the promise admits are equal
pub leaves-one : {l : PartRead} {a a' : ℕ} {m m' : List ℕ} → LeavesSamples l a m → LeavesSamples l a' m' → (a ≡ a') × (m ≡ m')
leaves-one h k = (h.answered ∙ sym k.answered, h.samples-left ∙ sym k.samples-left)
