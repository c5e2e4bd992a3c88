-- Needs agree with their handles, and keep doing so when handles are given, when one becomes Freed and when a need is made, allocated or
-- freed. Assumes nothing.
use mathlib.Core.Path.{◌≡◌, refl, sym, ap, subst, ◌∙◌}
use mathlib.Core.Bool.{true, false}
use Prim.Native.Nat.{ℕ, ◌≤◌, ◌<◌}
use native.Mathlib.Omega.{arith}
use borrow.Author.Tests.{leb-false}
use Rattle.rules.specs.Notation.{put}
use Rattle.rules.specs.Needs.{Need, defer, at, ignore, freed_need}
use Rattle.rules.specs.Frames.{Handle, Remembered, owns, is_gone, State, lost}
use Rattle.rules.proofs.Tables.{put-cases}
use Rattle.rules.proofs.Tells.{clash, neither}
use Rattle.rules.proofs.Sound.{NeedAgrees, NeedsSound}

pub found : (s : State) (n : ℕ) → lost s n ≡ false → n < s.needed
unfolding lost
found s n q = leb-false s.needed n (neither _ (is_gone (s.needs n).need) q).0

-- ---- other handles, the same addresses

pub need-alike : (handles next : ℕ → Handle) (handed more : ℕ) → handed ≤ more → ((h : ℕ) → h < handed → (next h).address ≡ (handles h).address)
    → (h : ℕ) (d : Need) → NeedAgrees handles handed h d → NeedAgrees next more h d
need-alike handles next handed more up same h (defer id) w = tt
need-alike handles next handed more up same h (at a) w = (omega (arith, w.0), same h w.0 ∙ w.1)
need-alike handles next handed more up same h ignore w = tt
need-alike handles next handed more up same h freed_need w = tt

pub needs-alike : {most : ℕ} {needs : ℕ → Remembered} {needed : ℕ} (handles next : ℕ → Handle) (handed more : ℕ) → handed ≤ more
    → ((h : ℕ) → h < handed → (next h).address ≡ (handles h).address) → NeedsSound most handles handed needs needed → NeedsSound most next more needs needed
needs-alike {needs = needs} handles next handed more up same r = record {
  few = r.few;
  agree = λ n l. need-alike handles next handed more up same (needs n).handle (needs n).need (r.agree n l);
  apart = r.apart;
}

-- a need that has a handle of its own remembers one that was handed out
pub own-known : (handles : ℕ → Handle) (handed h : ℕ) (d : Need) → NeedAgrees handles handed h d → owns d ≡ true → h < handed
own-known handles handed h (defer id) w e = clash e refl
own-known handles handed h (at a) w e = w.0
own-known handles handed h ignore w e = clash e refl
own-known handles handed h freed_need w e = clash e refl

-- ---- the need n becomes x, whose handle is no other need's; there are `count` of them then

module _ {most : ℕ} {handles : ℕ → Handle} {handed : ℕ} {needs : ℕ → Remembered} {needed : ℕ} (r : NeedsSound most handles handed needs needed)
    (n : ℕ) (x : Remembered) (agrees : NeedAgrees handles handed x.handle x.need) (count : ℕ) (few : count ≤ most)
    (from : (j : ℕ) → j < count → (n ≡ j → ⊥) → j < needed)
    (alone : (j : ℕ) → j < needed → owns x.need ≡ true → owns (needs j).need ≡ true → (n ≡ j → ⊥) → x.handle ≡ (needs j).handle → ⊥) where
  abbrev after : ℕ → Remembered
  after = put needs n x

  -- x, or one that was
  which {ℓ} : {X : Type ℓ} (j : ℕ) → j < count → (n ≡ j → after j ≡ x → X) → ((n ≡ j → ⊥) → j < needed → after j ≡ needs j → X) → X
  which j l here there = put-cases needs n x j here (λ ne. there ne (from j l ne))

  owned : (j : ℕ) (y : Remembered) → after j ≡ y → owns (after j).need ≡ true → owns y.need ≡ true
  owned j y q e = sym (ap (λ (z : Remembered). owns z.need) q) ∙ e

  same : (i j : ℕ) (y z : Remembered) → after i ≡ y → after j ≡ z → (after i).handle ≡ (after j).handle → y.handle ≡ z.handle
  same i j y z p q e = sym (ap (λ (u : Remembered). u.handle) p) ∙ e ∙ ap (λ (u : Remembered). u.handle) q

  pub needs-put : NeedsSound most handles handed after count
  needs-put = record {
    few = few;
    agree = λ j l. which j l
        (λ _ q. subst (λ (y : Remembered). NeedAgrees handles handed y.handle y.need) (sym q) agrees)
        (λ _ k q. subst (λ (y : Remembered). NeedAgrees handles handed y.handle y.need) (sym q) (r.agree j k));
    apart = λ i j k l d e q. which i k
        (λ p u. which j l
        (λ p' _. sym p ∙ p')
        (λ ne m v. absurd (alone j m (owned i x u d) (owned j (needs j) v e) ne (same i j x (needs j) u v q))))
        (λ ne m u. which j l
        (λ p v. absurd (alone i m (owned j x v e) (owned i (needs i) u d) ne (sym (same i j (needs i) x u v q))))
        (λ ne' m' v. r.apart i j m m' (owned i (needs i) u d) (owned j (needs j) v e) (same i j (needs i) (needs j) u v q)));
  }
