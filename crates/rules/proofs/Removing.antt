-- Slots after one address or several were removed: sound again, the removed ones clear, the others as they were. Assumes nothing.
use mathlib.Core.Path.{◌≡◌, refl, subst, ◌∙◌}
use mathlib.Core.Bool.{Bool, true, false}
use mathlib.Core.List.{List, [], ◌∷◌}
use Prim.Native.Nat.{ℕ, ◌*◌, ◌/◌, ◌<◌}
use native.Mathlib.Omega.{arith}
use lib.Dec.{ltb}
use borrow.Author.Tests.{ltb-true, ltb-false}
use Rattle.rules.specs.Notation.{put}
use Rattle.rules.specs.AddressSets.{member}
use Rattle.rules.specs.Slots.{Slots, remove, remove_all}
use Rattle.rules.proofs.Tables.{by_eqb, put_same, put_other}
use Rattle.rules.proofs.Sets.{member-cons}
use Rattle.rules.proofs.Sound.{SlotsSound}
use Rattle.rules.proofs.Tells.{clash, decided, is_false}

module _ (a : ℕ) (s : Slots) where
  abbrev exists : Bool
  exists = ltb (a / 128) s.segments

  pub remove-segments : (remove a s).segments ≡ s.segments
  unfolding remove
  remove-segments = decided exists (λ q. rw (q, remove)) (λ q. rw (q, remove))

  -- H stays, or becomes a segment below L
  pub remove-head : (P : ℕ → Type 0) → P s.head → (a / 128 < s.segments → P (a / 128)) → P (remove a s).head
  unfolding remove
  remove-head P stays moves = decided exists (λ q. rw (q, remove) (moves (ltb-true _ _ q))) (λ q. rw (q, remove) stays)

  pub remove-stays : (b : ℕ) → s.occupied b ≡ false → (remove a s).occupied b ≡ false
  unfolding remove
  remove-stays b e =
      decided exists
      (λ r. rw (r, remove) (by_eqb a b (λ q. subst (λ (c : ℕ). put s.occupied a false c ≡ false) q (put_same s.occupied a false)) (λ ne. put_other s.occupied a false b ne ∙ e)))
      (λ r. rw (r, remove) e)

  pub remove-was : (b : ℕ) → (remove a s).occupied b ≡ true → s.occupied b ≡ true
  remove-was b p = decided (s.occupied b) (λ e. e) (λ e. clash p (remove-stays b e))

  module _ (n : ℕ) (sound : SlotsSound n s) where
    pub remove-clears : a < 128 * n → (remove a s).occupied a ≡ false
    unfolding remove
    remove-clears h =
        decided exists
        (λ q. rw (q, remove) (put_same s.occupied a false))
        (λ q. remove-stays a (is_false _ (λ e. absurd (omega (arith, sound.low a h e, ltb-false (a / 128) s.segments q)))))

    -- H stays below the room
    pub remove-sound : SlotsSound n (remove a s)
    remove-sound = record {
      segments = rw remove-segments sound.segments;
      head = remove-head (λ h. h < n) sound.head (λ q. omega (arith, sound.segments));
      low = λ b l o. rw remove-segments (sound.low b l (remove-was b o));
    }

-- ---- several

pub remove_all-stays : (l : List ℕ) (b : ℕ) (s : Slots) → s.occupied b ≡ false → (remove_all l s).occupied b ≡ false
unfolding remove_all
remove_all-stays [] b s e = e
remove_all-stays (a ∷ l) b s e = remove_all-stays l b (remove a s) (remove-stays a s b e)

pub remove_all-sound : (n : ℕ) (l : List ℕ) (s : Slots) → SlotsSound n s → SlotsSound n (remove_all l s)
unfolding remove_all
remove_all-sound n [] s h = h
remove_all-sound n (a ∷ l) s h = remove_all-sound n l (remove a s) (remove-sound a s n h)

pub remove_all-clears : (n : ℕ) (l : List ℕ) (b : ℕ) (s : Slots) → SlotsSound n s → b < 128 * n → member b l ≡ true → (remove_all l s).occupied b ≡ false
unfolding remove_all member
remove_all-clears n [] b s h w p = clash p refl
remove_all-clears n (a ∷ l) b s h w p =
    member-cons b a l p
    (λ e. remove_all-stays l b (remove a s) (subst (λ (c : ℕ). (remove c s).occupied b ≡ false) e (remove-clears b s n h w)))
    (λ q. remove_all-clears n l b (remove a s) (remove-sound a s n h) w q)

pub remove_all-was : (n : ℕ) (l : List ℕ) (b : ℕ) (s : Slots) → SlotsSound n s → b < 128 * n → (remove_all l s).occupied b ≡ true → (s.occupied b ≡ true) × (member b l ≡ false)
remove_all-was n l b s h w p = (
  decided (s.occupied b) (λ e. e) (λ e. clash p (remove_all-stays l b s e)),
  is_false (member b l) (λ q. clash p (remove_all-clears n l b s h w q)),
)
