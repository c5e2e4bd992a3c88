-- The slots that the halves say are occupied: those of one half, all of them after a store, and that they tell the halves. Assumes nothing.
use mathlib.Core.Path.{◌≡◌, refl, sym, ap, ◌∙◌, fun_ext}
use mathlib.Core.Bool.{Bool, true, false, not, ◌&&◌}
use mathlib.Core.List.{List}
use mathlib.Core.Logic.{by_cases}
use mathlib.Core.Option.{none, some}
use Prim.Native.Nat.{ℕ, zero, suc, ◌+◌, ◌-◌, ◌*◌, ◌/◌, ◌%◌, ◌^◌, ◌≤◌, ◌<◌}
use native.Mathlib.Decide.{dec_lt}
use native.Mathlib.Omega.{arith}
use borrow.Author.Tests.{ltb-true, ltb-false}
use lib.Dec.{ltb}
use lib.ListN.{get_or, set, length, replicate}
use lib.Seq.{get_or-set_same, get_or-set_other, ext_get_or}
use Rattle.rules.specs.Notation.{put, past_last}
use Rattle.rules.specs.Tells.{Tells}
use Rattle.rules.proofs.Tables.{by_eqb, put_same, put_other, put-ext}
use Rattle.rules.proofs.Tells.{clash, tells_as, tells-no}
use Rattle.slots.specs.Halves.{bit, occ, clear_from}
use Rattle.slots.proofs.Finds.{seam, at_one, clear-is, clear_of, full_of, past_is, past_of}
use Rattle.slots.proofs.Bits.{bits-ext}
use Rattle.slots.proofs.Counts.{empty-bit}

-- what the bits lo .. hi of half i are, its slots are
in-half : (hs : List ℕ) (i : ℕ) (v : Bool) (lo hi : ℕ) → hi ≤ 64 → ((j : ℕ) → lo ≤ j → j < hi → bit (get_or hs i 0) j ≡ v)
    → (k : ℕ) → 64 * i + lo ≤ k → k < 64 * i + hi → occ hs k ≡ v
in-half hs i v lo hi top f k a b =
    let e : k / 64 ≡ i = omega arith in
    rw e (f (k % 64) (omega arith) (omega arith))

-- a search from slot `from` up, at half i: the half is full, or has the slot
module _ (hs : List ℕ) (i : ℕ) where
  pub up-past : clear_from (bit (get_or hs i 0)) 0 64 ≡ none → (k : ℕ) → 64 * i ≤ k → k < 64 * (i + 1) → occ hs k ≡ true
  up-past e k l h = in-half hs i true 0 64 (omega arith) (full_of (bit (get_or hs i 0)) 0 64 e) k (omega arith) (omega arith)

  pub up-here : (b from n : ℕ) → clear_from (bit (get_or hs i 0)) 0 64 ≡ some b → from ≤ 64 * i → 64 * i + 64 ≤ from + n
      → ((k : ℕ) → from ≤ k → k < 64 * i → occ hs k ≡ true) → clear_from (occ hs) from n ≡ some (64 * i + b)
  up-here b from n e l h all =
      let q = clear_of (bit (get_or hs i 0)) 0 64 b e in
      clear-is (occ hs) from n (64 * i + b) (record {
        low = omega arith;
        high = omega (arith, q.high);
        before = seam (λ (k : ℕ). occ hs k ≡ true) from (64 * i) (64 * i + b) all
            (λ k a c. in-half hs i true 0 b (omega (arith, q.high)) q.before k (omega arith) c);
        here = in-half hs i false b (b + 1) (omega (arith, q.high)) (at_one (λ (j : ℕ). bit (get_or hs i 0) j ≡ false) b (b + 1) (omega arith) q.here) (64 * i + b) (omega arith) (omega arith);
      })

-- a search from slot n down, at half i: the half is empty, or has the slot
module _ (hs : List ℕ) (i b : ℕ) (e : b ≡ past_last (bit (get_or hs i 0)) 64) where
  pub down-past : b ≤ 0 → (k : ℕ) → 64 * i ≤ k → k < 64 * (i + 1) → occ hs k ≡ false
  down-past f k l h =
      let q = past_of (bit (get_or hs i 0)) 64 b e in
      in-half hs i false 0 64 (omega arith) (λ j z t. q.after j (omega arith) t) k (omega arith) (omega arith)

  pub down-here : (n : ℕ) → 64 * i + 64 ≤ n → ((k : ℕ) → 64 * (i + 1) ≤ k → k < n → occ hs k ≡ false) → 0 < b → 64 * i + b ≡ past_last (occ hs) n
  down-here n h all f =
      let q = past_of (bit (get_or hs i 0)) 64 b e in
      sym (past_is (occ hs) n (64 * i + b) (record {
        high = omega (arith, q.high);
        after = seam (λ (k : ℕ). occ hs k ≡ false) (64 * i + b) (64 * (i + 1)) n
            (λ k a c. in-half hs i false b 64 (omega arith) q.after k a (omega arith)) all;
        here = λ j s. in-half hs i true (b - 1) b q.high (λ j a c. q.here j (omega arith)) j (omega arith) (omega (arith, s));
      }))

-- a look at one half after the other: `free` is the answer, before half i and after it, whether each slot from m on is clear
module _ (hs : List ℕ) (m : ℕ) where
  abbrev pub ClearTo : ℕ → Type 0
  ClearTo n = (a : ℕ) → m ≤ a → a < n → occ hs a ≡ false

  pub look-below : (i : ℕ) (free : Bool) → 64 * (i + 1) ≤ m → Tells free (ClearTo (64 * i)) → Tells free (ClearTo (64 * (i + 1)))
  look-below i free l t = tells_as t (λ all a x y. absurd (omega arith)) (λ all a x y. all a x (omega arith))

  pub look-empty : (i : ℕ) (free : Bool) → past_last (bit (get_or hs i 0)) 64 ≤ 0 → Tells free (ClearTo (64 * i)) → Tells free (ClearTo (64 * (i + 1)))
  look-empty i free l t =
      tells_as t
      (λ all a x y. by_cases (dec_lt a (64 * i)) (all a x) (λ n. down-past hs i _ refl l a (omega arith) y))
      (λ all a x y. all a x (omega arith))

  pub look-set : (i : ℕ) → m ≤ 64 * i → 0 < past_last (bit (get_or hs i 0)) 64 → Tells false (ClearTo (64 * (i + 1)))
  look-set i l h =
      let q = past_of (bit (get_or hs i 0)) 64 _ refl in
      let j : ℕ = past_last (bit (get_or hs i 0)) 64 - 1 in
      let d : (64 * i + j) / 64 ≡ i = omega (arith, q.high) in
      let r : (64 * i + j) % 64 ≡ j = omega (arith, q.high) in
      tells-no (λ all. clash (q.here j (omega arith)) (rw (d, r) at (all (64 * i + j) (omega arith) (omega (arith, q.high)))))

  -- `taken` tells whether half i has a slot
  pub look-on : (i : ℕ) (free taken : Bool) → m ≤ 64 * i → taken ≡ ltb 0 (past_last (bit (get_or hs i 0)) 64) → Tells free (ClearTo (64 * i))
      → Tells (free && not taken) (ClearTo (64 * (i + 1)))
  look-on i true true l e t = look-set i l (ltb-true _ _ (sym e))
  look-on i false true l e t = look-set i l (ltb-true _ _ (sym e))
  look-on i true false l e t = look-empty i true (ltb-false _ _ (sym e)) t
  look-on i false false l e t = look-empty i false (ltb-false _ _ (sym e)) t

-- a half w that is half a / 64 but for bit a % 64, put in its place
pub occ-set : (hs : List ℕ) (a w : ℕ) (v : Bool) → a / 64 < length hs → bit w ≡ put (bit (get_or hs (a / 64) 0)) (a % 64) v
    → occ (set hs (a / 64) w) ≡ put (occ hs) a v
occ-set hs a w v h f = put-ext (occ hs) a v (occ (set hs (a / 64) w)) (in-it a refl ∙ put_same _ (a % 64) v) other
  where
    in-it : (j : ℕ) → j / 64 ≡ a / 64 → occ (set hs (a / 64) w) j ≡ put (bit (get_or hs (a / 64) 0)) (a % 64) v (j % 64)
    in-it j e =
        ap (λ (i : ℕ). bit (get_or (set hs (a / 64) w) i 0) (j % 64)) e
        ∙ ap (λ (x : ℕ). bit x (j % 64)) (get_or-set_same hs (a / 64) w 0 h)
        ∙ ap (λ (p : ℕ → Bool). p (j % 64)) f

    other : (j : ℕ) → (a ≡ j → ⊥) → occ (set hs (a / 64) w) j ≡ occ hs j
    other j n =
        by_eqb (j / 64) (a / 64)
        (λ e. in-it j e ∙ put_other _ (a % 64) v (j % 64) (λ q. n (omega arith)) ∙ ap (λ (i : ℕ). bit (get_or hs i 0) (j % 64)) (sym e))
        (λ ne. ap (λ (x : ℕ). bit x (j % 64)) (get_or-set_other hs (a / 64) (j / 64) w 0 ne))

-- no slot is occupied where every half is 0
pub zero-half : (k i : ℕ) → ◌≡◌ {A = ℕ} (get_or (replicate k 0) i 0) 0
zero-half zero i = refl
zero-half (suc k) zero = refl
zero-half (suc k) (suc i) = zero-half k i

pub none-occupied : (k : ℕ) → occ (replicate k 0) ≡ (λ a. false)
none-occupied k = fun_ext (λ a. rw (zero-half k (a / 64)) (empty-bit (a % 64)))

-- halves of 64 bits are told by their slots
pub halves-ext : (hs gs : List ℕ) → length hs ≡ length gs → ((i : ℕ) → get_or hs i 0 < 2 ^ 64) → ((i : ℕ) → get_or gs i 0 < 2 ^ 64)
    → occ hs ≡ occ gs → hs ≡ gs
halves-ext hs gs n p q e =
    ext_get_or 0 hs gs n
    (λ i h. bits-ext (get_or hs i 0) (get_or gs i 0) (p i) (q i)
    (λ j l.
    let d : (64 * i + j) / 64 ≡ i = omega arith in
    let m : (64 * i + j) % 64 ≡ j = omega arith in
    rw (d, m) at (ap (λ (f : ℕ → Bool). f (64 * i + j)) e)))
